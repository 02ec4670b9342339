-- Which tokens spell a program.
use Rattle.std.specs.Prelude.{ℕ, List, []}
use Rattle.ss_lex.specs.declared.token.Token.{Token}
use Rattle.ss_lex.specs.declared.word.Word.{Word}
use Rattle.ss_lex.specs.declared.word.Word.TheVariants as words
use Rattle.ss_tree.specs.Tree.{DefinitionTree, SectionKindTree, main, routine, event, SectionTree, ProgramTree}
use Rattle.ss_parse_expressions.specs.Shapes.{Shape, ◌▷◌, nothing, optional, Word_is, Name_is, each_in_turn, flagged, at}
use Rattle.ss_parse_expressions.specs.declared.classes.WordClass.TheVariants as alike
use Rattle.ss_parse_expressions.specs.Words.{One_of, the, perhaps_listed}
use Rattle.ss_parse_statements.specs.SpelledStatements.{Statement_is}
use Rattle.ss_parse.specs.SpelledPreambles.{Variables_are, Whole_preamble}

-- ---- programs

-- the word that a section begins with
abbrev pub section_word : SectionKindTree → Word
section_word main = words.Main
section_word (routine name given yielding) = words.Routine
section_word (event name given saving) = words.Event

abbrev pub Saving_words : Shape
Saving_words = Word_is words.Saving ▷ the ▷ Word_is words.Event ▷ Word_is words.Notice

-- the header of a section after its first word
abbrev pub Kind_rest : SectionKindTree → Shape
Kind_rest main = nothing
Kind_rest (routine name given yielding) =
    optional (One_of alike.Towards) ▷ Name_is name ▷ perhaps_listed (Word_is words.Given) Name_is given ▷ perhaps_listed (Word_is words.Yielding) Name_is yielding
Kind_rest (event name given saving) = Name_is name ▷ perhaps_listed (Word_is words.Given) Name_is given ▷ flagged Saving_words saving

abbrev pub Definition_is : DefinitionTree → Shape
Definition_is d = at d.line (Word_is words.Define ▷ Variables_are (d.names, d.mode))

abbrev pub Section_is : ℕ → SectionTree → Shape
Section_is levels s = at s.line (Word_is (section_word s.kind) ▷ Kind_rest s.kind ▷ each_in_turn Definition_is s.definitions ▷ each_in_turn (Statement_is levels) s.body ▷ Word_is words.End)

abbrev pub Program_is : ℕ → ProgramTree → Shape
Program_is levels p = Whole_preamble p.preamble ▷ each_in_turn (Section_is levels) p.sections

-- The tokens spell the program, whose nesting is so many levels at most.
abbrev pub Is_spelling : List Token → ℕ → ProgramTree → Type 0
Is_spelling ts levels p = Program_is levels p ts []
