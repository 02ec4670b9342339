-- Why a text is refused: the number, the name and the line that a refusal is reported by.
use Rattle.std.specs.Prelude.{ℕ, List, codes}
use Rattle.ss_lex.specs.declared.error.LexError.{LexError}
use Rattle.ss_lex.specs.declared.error.LexError.TheVariants as lexical
use Rattle.ss_parse.specs.declared.error.ParseError.{ParseError}
use Rattle.ss_parse.specs.declared.error.ParseError.TheVariants as parsing
use Rattle.ss_tables_rules.specs.declared.error.TableError.{TableError}
use Rattle.ss_tables_rules.specs.declared.error.TableError.TheVariants as declaring
use Rattle.ss_check_rules.specs.declared.error.CheckError.{CheckError}
use Rattle.ss_check_rules.specs.declared.error.CheckError.TheVariants as using
use Rattle.ss_code.specs.declared.error.CodeError.{CodeError}
use Rattle.ss_code.specs.declared.error.CodeError.TheVariants as generating
use Rattle.ss_engine.specs.declared.refusal.Refusal.{Refusal}
use Rattle.ss_engine.specs.declared.refusal.Refusal.TheVariants.{Lexed, Parsed, Declared, Used, CodeTooLong, Memory}

-- a number, a name and a line
abbrev pub Reported : Type 0
Reported = ℕ × List ℕ × ℕ

-- the tokens
abbrev pub words_of_lexer : LexError → Reported
words_of_lexer (lexical.TooLong line) = (31, codes "TooLong", line.0)
words_of_lexer (lexical.NotAscii line) = (32, codes "NotAscii", line.0)
words_of_lexer (lexical.BadNumber line) = (33, codes "BadNumber", line.0)
words_of_lexer (lexical.OpenText line) = (34, codes "OpenText", line.0)
words_of_lexer (lexical.AlphaTooLong line) = (35, codes "AlphaTooLong", line.0)
words_of_lexer (lexical.PictureCut line) = (36, codes "PictureCut", line.0)
words_of_lexer (lexical.NameTooLong line) = (37, codes "NameTooLong", line.0)
words_of_lexer lexical.Memory = (0, codes "Memory", 0)

-- which program they spell
abbrev pub words_of_parser : ParseError → Reported
words_of_parser (parsing.Syntax line) = (41, codes "Syntax", line.0)
words_of_parser (parsing.TooDeep line) = (42, codes "TooDeep", line.0)
words_of_parser parsing.Memory = (0, codes "Memory", 0)

-- what is declared
abbrev pub words_of_tables : TableError → Reported
words_of_tables (declaring.Twice line) = (51, codes "Twice", line.0)
words_of_tables (declaring.RealMode line) = (52, codes "RealMode", line.0)
words_of_tables (declaring.UnknownClass line) = (53, codes "UnknownClass", line.0)
words_of_tables (declaring.UnknownSet line) = (54, codes "UnknownSet", line.0)
words_of_tables (declaring.NoOwner line) = (55, codes "NoOwner", line.0)
words_of_tables (declaring.NoMember line) = (56, codes "NoMember", line.0)
words_of_tables (declaring.RankKey line) = (57, codes "RankKey", line.0)
words_of_tables (declaring.TallyTwice line) = (58, codes "TallyTwice", line.0)
words_of_tables (declaring.TooMany line) = (59, codes "TooMany", line.0)
words_of_tables (declaring.TieKey line) = (60, codes "TieKey", line.0)
words_of_tables declaring.Memory = (0, codes "Memory", 0)

-- what is done with names
abbrev pub words_of_checker : CheckError → Reported
words_of_checker (using.NoMain line) = (71, codes "NoMain", line.0)
words_of_checker (using.NoEventRoutine line) = (72, codes "NoEventRoutine", line.0)
words_of_checker (using.Mode line) = (73, codes "Mode", line.0)
words_of_checker (using.Arguments line) = (74, codes "Arguments", line.0)
words_of_checker (using.Subscript line) = (75, codes "Subscript", line.0)
words_of_checker (using.NotAssignable line) = (76, codes "NotAssignable", line.0)
words_of_checker (using.Fields line) = (77, codes "Fields", line.0)
words_of_checker (using.StartPlace line) = (78, codes "StartPlace", line.0)
words_of_checker (using.Unknown line) = (79, codes "Unknown", line.0)
words_of_checker using.Memory = (0, codes "Memory", 0)

-- a refusal, by its cause
abbrev pub words_of_refusal : Refusal → Reported
words_of_refusal (Lexed e) = words_of_lexer e
words_of_refusal (Parsed e) = words_of_parser e
words_of_refusal (Declared e) = words_of_tables e
words_of_refusal (Used e) = words_of_checker e
words_of_refusal CodeTooLong = (81, codes "CodeTooLong", 0)
words_of_refusal Memory = (0, codes "Memory", 0)

-- the number of a refusal, which is 0 for memory
abbrev pub refusal_number : Refusal → ℕ
refusal_number r = (words_of_refusal r).0

-- its name
abbrev pub refusal_name : Refusal → List ℕ
refusal_name r = (words_of_refusal r).1

-- its line, which is 0 where it has none
abbrev pub refusal_line : Refusal → ℕ
refusal_line r = (words_of_refusal r).2

-- ---- what is refused at each step; memory is refused alike at all of them

abbrev pub lexed : LexError → Refusal
lexed lexical.Memory = Memory
lexed e = Lexed e

abbrev pub parsed : ParseError → Refusal
parsed parsing.Memory = Memory
parsed e = Parsed e

abbrev pub table_refusal : TableError → Refusal
table_refusal declaring.Memory = Memory
table_refusal e = Declared e

abbrev pub used : CheckError → Refusal
used using.Memory = Memory
used e = Used e

abbrev pub coded : CodeError → Refusal
coded generating.CodeTooLong = CodeTooLong
coded generating.Memory = Memory
