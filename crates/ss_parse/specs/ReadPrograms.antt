-- Reading programs from left to right.
use Rattle.std.specs.Prelude.{ℕ, suc, Bool, true, false, List, [], ◌∷◌, Result, Ok, Err}
use Rattle.ss_base.specs.declared.line.Line.{Line}
use Rattle.ss_lex.specs.declared.word.Word.{Word}
use Rattle.ss_lex.specs.declared.word.Word.TheVariants as words
use Rattle.ss_lex.specs.declared.token.Token.{Token}
use Rattle.ss_parse_expressions.specs.declared.failure.ParseFault.{ParseFault}
use Rattle.ss_parse_expressions.specs.declared.failure.ParseFault.TheVariants.{Syntax}
use Rattle.ss_tree.specs.declared.preamble.ModeWord.{ModeWord}
use Rattle.ss_tree.specs.Tree.{PreambleTree, DefinitionTree, SectionKindTree, main, routine, event, SectionTree, ProgramTree, StatementTree}
use Rattle.ss_parse_expressions.specs.declared.classes.WordClass.TheVariants as classes
use Rattle.ss_parse_expressions.specs.ReadWords.{done, fail, skip_class, begins_among, names}
use Rattle.ss_parse_expressions.specs.Reading.{Reader, ◌>>=◌, word, begins, expect, in_table, taken, name_in_token, flag, seq, after_dropped, closed, apply, lined, maybe_list, rows}
use Rattle.ss_parse_expressions.specs.WordTables.{mode_of_word}
use Rattle.ss_parse.specs.ReadPreambles.{whole_preamble}
use Rattle.ss_parse_statements.specs.ReadSimple.{after_the}
use Rattle.ss_parse_statements.specs.ReadStatements.{by_word, statements_in}

-- ---- sections

abbrev pub section_words : Word → Bool
section_words words.Main = true
section_words words.Routine = true
section_words words.Event = true
section_words _ = false

abbrev pub begins_section : List Token → Bool
begins_section = begins_among section_words

abbrev pub given_names : Reader (List (List ℕ))
given_names = maybe_list (begins (word words.Given)) (after_dropped (expect (word words.Given)) names)

abbrev pub yielding_names : Reader (List (List ℕ))
yielding_names = maybe_list (begins (word words.Yielding)) (after_dropped (expect (word words.Yielding)) names)

unfoldable pub saving : Reader Bool
saving = flag (begins (word words.Saving)) (after_dropped (expect (word words.Saving)) (after_the (after_dropped (expect (word words.Event)) (expect (word words.Notice)))))

unfoldable pub routine_kind : Reader SectionKindTree
routine_kind = apply (λ p. routine p.0 p.1.0 p.1.1) (λ ts. seq (taken name_in_token) (seq given_names yielding_names) (skip_class classes.Towards ts))

unfoldable pub event_kind : Reader SectionKindTree
event_kind = apply (λ p. event p.0 p.1.0 p.1.1) (seq (taken name_in_token) (seq given_names saving))

-- the header of a section, after its first word
abbrev pub kind_after : Word → Reader SectionKindTree
kind_after words.Main = done main
kind_after words.Routine = routine_kind
kind_after words.Event = event_kind
kind_after _ = fail

-- names and their mode, after DEFINE
unfoldable pub variables : Reader (List (List ℕ) × ModeWord)
variables = seq names (after_dropped (expect (word words.As)) (λ ts. closed (taken (in_table mode_of_word)) (expect (word words.Variable)) (skip_class classes.Article ts)))

abbrev pub definition_tree : Line → List (List ℕ) × ModeWord → DefinitionTree
definition_tree line p = record { line = line; names = p.0; mode = p.1 }

unfoldable pub definition_at : Line → Reader DefinitionTree
definition_at line = apply (definition_tree line) (after_dropped (expect (word words.Define)) variables)

abbrev pub definition : Reader DefinitionTree
definition = lined definition_at

abbrev pub definitions : Reader (List DefinitionTree)
definitions = rows (begins (word words.Define)) definition

abbrev pub body_in : ℕ → Reader (List DefinitionTree × List StatementTree)
body_in room = seq definitions (closed (statements_in room) (expect (word words.End)))

abbrev pub section_tree : Line → SectionKindTree × (List DefinitionTree × List StatementTree) → SectionTree
section_tree line p = record { line = line; kind = p.0; definitions = p.1.0; body = p.1.1 }

unfoldable pub section_at : ℕ → Line → Word → Reader SectionTree
section_at room line w = apply (section_tree line) (seq (kind_after w) (body_in room))

abbrev pub section_in : ℕ → Reader SectionTree
section_in room = by_word (section_at room)

-- ---- programs

abbrev pub program_tree : List PreambleTree × List SectionTree → ProgramTree
program_tree p = record { preamble = p.0; sections = p.1 }

unfoldable pub program_in : ℕ → Reader ProgramTree
program_in room = apply program_tree (seq whole_preamble (rows begins_section (section_in room)))

-- only where no tokens are left
abbrev pub none_left : {A : Type 0} → A × List Token → Result A ParseFault
none_left (x, []) = Ok x
none_left (x, t ∷ ts) = Err Syntax

-- the program that the tokens spell, of so many levels at most
unfoldable pub program_of : ℕ → List Token → Result ProgramTree ParseFault
program_of levels ts = program_in (suc levels) ts >>= none_left
