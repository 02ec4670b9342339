-- The reserved words, and what a word of a text means.
use Rattle.std.specs.Prelude.{ℕ, ◌+◌, ◌*◌, ◌-◌, Bool, ◌||◌, ◌==◌, nat_lt, List, [], ◌∷◌, length, codes, pos, Option, Some, None, if◌then◌else◌}
use Rattle.std.specs.Char.{is_ascii_alphabetic}
use Rattle.std.specs.List.{list_any}
use Rattle.std.specs.Str.{bytes_eq}
use Rattle.ss_base.specs.Names.{name_limit, in_capitals}
use Rattle.ss_lex.specs.declared.word.Word.{Word}
use Rattle.ss_lex.specs.declared.word.Word.TheVariants as words
use Rattle.ss_lex.specs.declared.token.TokenKind.{TokenKind}
use Rattle.ss_lex.specs.declared.token.TokenKind.TheVariants as kinds
use Rattle.ss_lex.specs.declared.meaning.Fault.TheVariants.{BadNumber, NameTooLong}
use Rattle.ss_lex.specs.declared.meaning.PieceMeaning.{PieceMeaning}
use Rattle.ss_lex.specs.declared.meaning.PieceMeaning.TheVariants as meanings

-- the reserved words and their spellings
unfoldable pub reserved : List (List ℕ × Word)
reserved =
    (codes "A", words.A) ∷
    (codes "ABS.F", words.AbsF) ∷
    (codes "ACCUMULATE", words.Accumulate) ∷
    (codes "ADD", words.Add) ∷
    (codes "AFTER", words.After) ∷
    (codes "ALL", words.All) ∷
    (codes "ALPHA", words.Alpha) ∷
    (codes "ALWAYS", words.Always) ∷
    (codes "AN", words.An) ∷
    (codes "AND", words.And) ∷
    (codes "AS", words.As) ∷
    (codes "AT", words.At) ∷
    (codes "BEFORE", words.Before) ∷
    (codes "BELONG", words.Belong) ∷
    (codes "BREAK", words.Break) ∷
    (codes "BY", words.By) ∷
    (codes "CALL", words.Call) ∷
    (codes "CALLED", words.Called) ∷
    (codes "CANCEL", words.Cancel) ∷
    (codes "CASE", words.Case) ∷
    (codes "CAUSE", words.Schedule) ∷
    (codes "CREATE", words.Create) ∷
    (codes "DATA", words.Data) ∷
    (codes "DAY", words.Unit) ∷
    (codes "DAYS", words.Unit) ∷
    (codes "DEFINE", words.Define) ∷
    (codes "DESTROY", words.Destroy) ∷
    (codes "DIV.F", words.DivF) ∷
    (codes "DO", words.Do) ∷
    (codes "EACH", words.Each) ∷
    (codes "ELSE", words.Else) ∷
    (codes "EMPTY", words.Empty) ∷
    (codes "END", words.End) ∷
    (codes "ENDED", words.Ended) ∷
    (codes "ENTITIES", words.Entities) ∷
    (codes "EQ", words.Eq) ∷
    (codes "EQUAL", words.Equal) ∷
    (codes "EQUALS", words.Equals) ∷
    (codes "EVENT", words.Event) ∷
    (codes "EVERY", words.Every) ∷
    (codes "FIFO", words.Fifo) ∷
    (codes "FILE", words.File) ∷
    (codes "FIND", words.Find) ∷
    (codes "FIRST", words.First) ∷
    (codes "FOLLOWS", words.Follows) ∷
    (codes "FOR", words.For) ∷
    (codes "FOUND", words.Found) ∷
    (codes "FROM", words.From) ∷
    (codes "GE", words.Ge) ∷
    (codes "GIVEN", words.Given) ∷
    (codes "GIVING", words.Giving) ∷
    (codes "GREATER", words.Greater) ∷
    (codes "GT", words.Gt) ∷
    (codes "HAS", words.Has) ∷
    (codes "HIGH", words.High) ∷
    (codes "IF", words.If) ∷
    (codes "IN", words.In) ∷
    (codes "INCLUDE", words.Include) ∷
    (codes "INTEGER", words.Integer) ∷
    (codes "IS", words.Is) ∷
    (codes "LAST", words.Last) ∷
    (codes "LE", words.Le) ∷
    (codes "LESS", words.Less) ∷
    (codes "LET", words.Let) ∷
    (codes "LIFO", words.Lifo) ∷
    (codes "LIKE", words.Like) ∷
    (codes "LINE", words.Line) ∷
    (codes "LINES", words.Line) ∷
    (codes "LOOP", words.Loop) ∷
    (codes "LOW", words.Low) ∷
    (codes "LT", words.Lt) ∷
    (codes "MAIN", words.Main) ∷
    (codes "MAX.F", words.MaxF) ∷
    (codes "MAXIMUM", words.Maximum) ∷
    (codes "MAY", words.May) ∷
    (codes "MEAN", words.Mean) ∷
    (codes "MIN.F", words.MinF) ∷
    (codes "MINIMUM", words.Minimum) ∷
    (codes "MOD.F", words.ModF) ∷
    (codes "MODE", words.Mode) ∷
    (codes "NE", words.Ne) ∷
    (codes "NONE", words.None) ∷
    (codes "NORMALLY", words.Normally) ∷
    (codes "NOT", words.Not) ∷
    (codes "NOTICE", words.Notice) ∷
    (codes "NOTICES", words.Notices) ∷
    (codes "NOW", words.Now) ∷
    (codes "NUMBER", words.Number) ∷
    (codes "OF", words.Of) ∷
    (codes "OR", words.Or) ∷
    (codes "ORDER", words.Order) ∷
    (codes "OTHERWISE", words.Else) ∷
    (codes "OUTPUT", words.Output) ∷
    (codes "OWNS", words.Owns) ∷
    (codes "PERMANENT", words.Permanent) ∷
    (codes "PREAMBLE", words.Preamble) ∷
    (codes "PRINT", words.Print) ∷
    (codes "PRIORITY", words.Priority) ∷
    (codes "RANKED", words.Ranked) ∷
    (codes "READ", words.Read) ∷
    (codes "REAL", words.Real) ∷
    (codes "REGARDLESS", words.Always) ∷
    (codes "REMOVE", words.Remove) ∷
    (codes "REPEAT", words.Loop) ∷
    (codes "RESET", words.Reset) ∷
    (codes "RETURN", words.Return) ∷
    (codes "REVERSE", words.Reverse) ∷
    (codes "ROUTINE", words.Routine) ∷
    (codes "SAVING", words.Saving) ∷
    (codes "SCHEDULE", words.Schedule) ∷
    (codes "SET", words.Set) ∷
    (codes "SETS", words.Set) ∷
    (codes "SIMULATION", words.Simulation) ∷
    (codes "SKIP", words.Skip) ∷
    (codes "START", words.Start) ∷
    (codes "STOP", words.Stop) ∷
    (codes "SUBTRACT", words.Subtract) ∷
    (codes "SUM", words.Sum) ∷
    (codes "SYSTEM", words.System) ∷
    (codes "TALLY", words.Tally) ∷
    (codes "TEMPORARY", words.Temporary) ∷
    (codes "THAN", words.Than) ∷
    (codes "THE", words.The) ∷
    (codes "THEN", words.Then) ∷
    (codes "THIS", words.This) ∷
    (codes "THUS", words.Thus) ∷
    (codes "TIES", words.Ties) ∷
    (codes "TIME.A", words.TimeA) ∷
    (codes "TIME.V", words.TimeV) ∷
    (codes "TO", words.To) ∷
    (codes "TOTALS", words.Totals) ∷
    (codes "UNIT", words.Unit) ∷
    (codes "UNITS", words.Unit) ∷
    (codes "UNLESS", words.Unless) ∷
    (codes "UNTIL", words.Until) ∷
    (codes "VARIABLE", words.Variable) ∷
    (codes "VARIABLES", words.Variable) ∷
    (codes "WHEN", words.When) ∷
    (codes "WHILE", words.While) ∷
    (codes "WITH", words.With) ∷
    (codes "YIELDING", words.Yielding) ∷
    []

-- the word with this spelling, in a table
abbrev pub word_in_table : List (List ℕ × Word) → List ℕ → Option Word
word_in_table [] spelling = None
word_in_table (row ∷ rows) spelling = if bytes_eq row.0 spelling then Some row.1 else word_in_table rows spelling

-- a reserved word, or a name, by its spelling in capitals
abbrev pub word_or_name : Option Word → List ℕ → TokenKind
word_or_name None spelling = kinds.Name spelling
word_or_name (Some word) spelling = kinds.Word word

-- what a word with a letter means
abbrev pub name_meaning : List ℕ → PieceMeaning
name_meaning w =
    if nat_lt name_limit (length w) then meanings.Fault NameTooLong
    else meanings.Token (word_or_name (word_in_table reserved (in_capitals w)) (in_capitals w)) (length w)

-- the number that digits after a number spell
abbrev pub number_from : ℕ → List ℕ → ℕ
number_from n [] = n
number_from n (b ∷ bs) = number_from (n * 10 + (b - 48)) bs

abbrev pub is_period : ℕ → Bool
is_period b = b == 46

-- the largest number of a text
abbrev pub largest_number : ℕ
largest_number = 9223372036854775807

-- what a word without a letter means
abbrev pub number_meaning : List ℕ → PieceMeaning
number_meaning w =
    if list_any is_period w || nat_lt largest_number (number_from 0 w) then meanings.Fault BadNumber
    else meanings.Token (kinds.Number (pos (number_from 0 w))) (length w)

-- a byte of a word in front of those after it, which have no period at their end
abbrev pub with_byte_before : ℕ → List ℕ → List ℕ
with_byte_before b [] = if is_period b then [] else b ∷ []
with_byte_before b (c ∷ cs) = b ∷ c ∷ cs

-- a word without the periods at its end
abbrev pub without_end_periods : List ℕ → List ℕ
without_end_periods [] = []
without_end_periods (b ∷ bs) = with_byte_before b (without_end_periods bs)

-- what a word means that has no period at its end
abbrev pub word_meaning : List ℕ → PieceMeaning
word_meaning [] = meanings.Nothing
word_meaning (b ∷ bs) =
    if list_any is_ascii_alphabetic (b ∷ bs) then name_meaning (b ∷ bs) else number_meaning (b ∷ bs)
