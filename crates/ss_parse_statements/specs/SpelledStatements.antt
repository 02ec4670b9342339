-- Which tokens spell a statement.
use Rattle.std.specs.Prelude.{ℕ, ◌<◌, pos, length}
use Rattle.ss_base.specs.declared.line.Line.{Line}
use Rattle.ss_lex.specs.declared.token.TokenKind.TheVariants as kinds
use Rattle.ss_lex.specs.declared.token.Symbol.TheVariants.{Equals}
use Rattle.ss_lex.specs.declared.word.Word.{Word}
use Rattle.ss_lex.specs.declared.word.Word.TheVariants as words
use Rattle.ss_tree.specs.Tree.{StatementTree, let_statement, add_statement, subtract_statement, call_statement, return_statement, stop_statement, read_statement, start_simulation, if_statement, loop_statement, find_statement, find_if_statement, create_statement, create_every, destroy_statement, file_statement, remove_end, remove_statement, schedule_new, schedule_statement, cancel_statement, reset_statement, print_statement, skip_statement, StatementRow, no_statement, and_statement}
use Rattle.ss_parse_expressions.specs.declared.classes.WordClass.TheVariants as classes
use Rattle.ss_parse_expressions.specs.Shapes.{Shape, ◌▷◌, nothing, never, either_shape, optional, provided, Token_is, Word_is, Symbol_is, Name_is, Word_for, noise, each_in_turn, separated_list, at, nested_shape}
use Rattle.ss_parse_expressions.specs.Words.{One_of, the, perhaps_listed}
use Rattle.ss_parse_expressions.specs.SpelledExpressions.{Sum_is, Target_is, Reference_is}
use Rattle.ss_parse_expressions.specs.SpelledConditions.{Condition_is, loop_head_word, Head_rest, Loop_head_rest, Is_for_head}
use Rattle.ss_parse_statements.specs.SpelledParts.{Trigger, Picture_is, CalledName, end_of, Position_is, Given_and_when}
use Rattle.ss_parse_expressions.specs.WordTables.{outcome_of}

-- ---- parts of statements

-- the word, with a comma before it or not
abbrev pub noisy : Word → Shape
noisy w = noise ▷ Word_is w

abbrev pub Find_words : Shape
Find_words = noisy words.Find ▷ the ▷ Word_is words.First ▷ Word_is words.Case

-- ---- statements

-- the line of its first word
abbrev pub line_of_first_word : StatementTree → Line
line_of_first_word (let_statement line target value) = line
line_of_first_word (add_statement line amount target) = line
line_of_first_word (subtract_statement line amount target) = line
line_of_first_word (call_statement line routine given yielding) = line
line_of_first_word (return_statement line) = line
line_of_first_word (stop_statement line) = line
line_of_first_word (read_statement line targets) = line
line_of_first_word (start_simulation line) = line
line_of_first_word (if_statement line condition then otherwise) = line
line_of_first_word (loop_statement line head body) = line
line_of_first_word (find_statement line head) = line
line_of_first_word (find_if_statement line head outcome then otherwise) = line
line_of_first_word (create_statement line class called) = line
line_of_first_word (create_every line classes) = line
line_of_first_word (destroy_statement line class called) = line
line_of_first_word (file_statement line x position set) = line
line_of_first_word (remove_end line end target set) = line
line_of_first_word (remove_statement line x set) = line
line_of_first_word (schedule_new line class called given when) = line
line_of_first_word (schedule_statement line class called given when) = line
line_of_first_word (cancel_statement line class called) = line
line_of_first_word (reset_statement line targets) = line
line_of_first_word (print_statement line items pictures) = line
line_of_first_word (skip_statement line count) = line

-- the word that it begins with
abbrev pub opening_word : StatementTree → Word
opening_word (let_statement line target value) = words.Let
opening_word (add_statement line amount target) = words.Add
opening_word (subtract_statement line amount target) = words.Subtract
opening_word (call_statement line routine given yielding) = words.Call
opening_word (return_statement line) = words.Return
opening_word (stop_statement line) = words.Stop
opening_word (read_statement line targets) = words.Read
opening_word (start_simulation line) = words.Start
opening_word (if_statement line condition then otherwise) = words.If
opening_word (loop_statement line head body) = loop_head_word head
opening_word (find_statement line head) = words.For
opening_word (find_if_statement line head outcome then otherwise) = words.For
opening_word (create_statement line class called) = words.Create
opening_word (create_every line classes) = words.Create
opening_word (destroy_statement line class called) = words.Destroy
opening_word (file_statement line x position set) = words.File
opening_word (remove_end line end target set) = words.Remove
opening_word (remove_statement line x set) = words.Remove
opening_word (schedule_new line class called given when) = words.Schedule
opening_word (schedule_statement line class called given when) = words.Schedule
opening_word (cancel_statement line class called) = words.Cancel
opening_word (reset_statement line targets) = words.Reset
opening_word (print_statement line items pictures) = words.Print
opening_word (skip_statement line count) = words.Skip

-- begins with neither WHILE nor UNTIL
abbrev pub May_be_governed : StatementTree → Type 0
May_be_governed (loop_statement line head body) = Is_for_head head
May_be_governed _ = Unit {0}

-- a statement from its first word on, with this shape after that word
abbrev pub Begun : StatementTree → Shape → Shape
Begun s P = at (line_of_first_word s) (Word_is (opening_word s) ▷ P)

-- what follows a condition: two branches and ALWAYS
abbrev pub Branching : Shape → Shape → Shape
Branching P Q = (P ▷ Q) ▷ noisy words.Always

abbrev mutual
  -- What follows the first word of a statement, where so many levels of nesting may still be opened.
  pub Statement_rest : StatementTree → ℕ → Shape
  Statement_rest (let_statement line target value) levels = Target_is levels target ▷ Symbol_is Equals ▷ Sum_is levels value
  Statement_rest (add_statement line amount target) levels = Sum_is levels amount ▷ Word_is words.To ▷ Target_is levels target
  Statement_rest (subtract_statement line amount target) levels = Sum_is levels amount ▷ Word_is words.From ▷ Target_is levels target
  Statement_rest (call_statement line routine given yielding) levels =
      Name_is routine ▷ perhaps_listed (One_of classes.Given) (Sum_is levels) given ▷ perhaps_listed (Word_is words.Yielding) (Target_is levels) yielding
  Statement_rest (return_statement line) levels = nothing
  Statement_rest (stop_statement line) levels = nothing
  Statement_rest (read_statement line targets) levels = separated_list (Target_is levels) targets
  Statement_rest (start_simulation line) levels = Word_is words.Simulation
  Statement_rest (if_statement line condition then otherwise) levels = nested_shape (λ l. Condition_is l condition ▷ Branching (Statements_are then l) (Else_part otherwise l)) levels
  Statement_rest (loop_statement line head body) levels = nested_shape (λ l. Loop_head_rest l head ▷ either_shape (noisy words.Do ▷ Statements_are body l ▷ noisy words.Loop) (Governed body l)) levels
  Statement_rest (find_statement line head) levels = nested_shape (λ l. Head_rest l head ▷ Find_words) levels
  -- the loop is closed before the IF
  Statement_rest (find_if_statement line head outcome then otherwise) levels =
      nested_shape (λ l. Head_rest l head ▷ Find_words ▷ noisy words.If ▷ Word_for outcome_of outcome ▷ Branching (Statements_are then l) (Else_part otherwise l)) levels
  Statement_rest (create_statement line class called) levels = optional (One_of classes.Indefinite) ▷ Name_is class ▷ CalledName (Target_is levels) called
  Statement_rest (create_every line classes) levels = Word_is words.Every ▷ separated_list Name_is classes
  Statement_rest (destroy_statement line class called) levels = the ▷ Name_is class ▷ CalledName (Sum_is levels) called
  Statement_rest (file_statement line x position set) levels = the ▷ Sum_is levels x ▷ Position_is levels position ▷ Word_is words.In ▷ the ▷ Reference_is levels set
  Statement_rest (remove_end line end target set) levels = the ▷ Word_for end_of end ▷ Target_is levels target ▷ Word_is words.From ▷ the ▷ Reference_is levels set
  Statement_rest (remove_statement line x set) levels = the ▷ Sum_is levels x ▷ Word_is words.From ▷ the ▷ Reference_is levels set
  Statement_rest (schedule_new line class called given when) levels = One_of classes.Indefinite ▷ Name_is class ▷ CalledName (Target_is levels) called ▷ Given_and_when levels given when
  Statement_rest (schedule_statement line class called given when) levels = Word_is words.The ▷ Name_is class ▷ CalledName (Sum_is levels) called ▷ Given_and_when levels given when
  Statement_rest (cancel_statement line class called) levels = the ▷ Name_is class ▷ CalledName (Sum_is levels) called
  Statement_rest (reset_statement line targets) levels = the ▷ Word_is words.Totals ▷ Word_is words.Of ▷ separated_list (Target_is levels) targets
  Statement_rest (print_statement line items pictures) levels =
      provided (0 < length pictures) (Token_is (kinds.Number (pos (length pictures))) ▷ Word_is words.Line
      ▷ perhaps_listed (Word_is words.With) (Sum_is levels) items ▷ Trigger ▷ each_in_turn Picture_is pictures)
  Statement_rest (skip_statement line count) levels = Sum_is levels count ▷ optional (Word_is words.Output) ▷ Word_is words.Line

  -- statements, each with a comma before it or not
  pub Statements_are : StatementRow → ℕ → Shape
  Statements_are no_statement levels = nothing
  Statements_are (and_statement s ss) levels = (noise ▷ Begun s (Statement_rest s levels)) ▷ Statements_are ss levels

  -- ELSE and its statements; it may be left out where there are none
  pub Else_part : StatementRow → ℕ → Shape
  Else_part no_statement levels = optional (noisy words.Else)
  Else_part (and_statement s ss) levels = noisy words.Else ▷ (noise ▷ Begun s (Statement_rest s levels)) ▷ Statements_are ss levels

  -- the one statement that a loop governs without DO
  pub Governed : StatementRow → ℕ → Shape
  Governed (and_statement s no_statement) levels = provided (May_be_governed s) (noise ▷ Begun s (Statement_rest s levels))
  Governed _ levels = never

-- the tokens from its first word on
abbrev pub Statement_from : StatementTree → ℕ → Shape
Statement_from s levels = Begun s (Statement_rest s levels)

-- the statements where a condition holds, and those where it doesn't
abbrev pub Branches : StatementRow → StatementRow → ℕ → Shape
Branches then otherwise levels = Branching (Statements_are then levels) (Else_part otherwise levels)

-- a statement, with a comma before it or not
abbrev pub Statement_is : ℕ → StatementTree → Shape
Statement_is levels s = noise ▷ Statement_from s levels
