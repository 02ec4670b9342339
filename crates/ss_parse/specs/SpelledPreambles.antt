-- Which tokens spell a preamble.
use Rattle.std.specs.Prelude.{◌≡◌, ℕ, List, [], ◌∷◌, Option, Some, None}
use Rattle.ss_base.specs.declared.line.Line.{Line}
use Rattle.ss_lex.specs.declared.word.Word.{Word}
use Rattle.ss_lex.specs.declared.word.Word.TheVariants as words
use Rattle.ss_tree.specs.declared.preamble.ModeWord.{ModeWord}
use Rattle.ss_base.specs.declared.layout.ClassKind.{ClassKind}
use Rattle.ss_base.specs.declared.layout.ClassKind.TheVariants as classes
use Rattle.ss_tree.specs.declared.preamble.NamedKey.{NamedKey}
use Rattle.ss_base.specs.declared.words.Weighting.{Weighting}
use Rattle.ss_base.specs.declared.words.Weighting.TheVariants as weightings
use Rattle.ss_tree.specs.declared.preamble.NamedStatistic.{NamedStatistic}
use Rattle.ss_tree.specs.Tree.{ClauseTree, has, owns, belongs_to, OrderTree, fifo, lifo, ranked, PreambleTree, permanent_entities, temporary_entities, event_notices, every, normally, system_owns, define_variables, define_sets, priority_order, break_ties, statistics}
use Rattle.ss_parse_expressions.specs.declared.classes.WordClass.TheVariants as alike
use Rattle.ss_parse_expressions.specs.Shapes.{Shape, ◌▷◌, nothing, optional, provided, Word_is, Name_is, Word_for, first_and_each, separated_list, at}
use Rattle.ss_parse_expressions.specs.Words.{One_of, the, Item_is, perhaps_listed}
use Rattle.ss_parse_statements.specs.SpelledStatements.{noisy}
use Rattle.ss_parse_expressions.specs.WordTables.{mode_of_word, rank_of, statistic_of}

-- ---- parts

abbrev pub Key_is : NamedKey → Shape
Key_is key = Word_for rank_of key.high ▷ Name_is key.name

-- keys, the further ones after THEN BY
abbrev pub Keys_are : List NamedKey → Shape
Keys_are = first_and_each Key_is (λ key. noisy words.Then ▷ Word_is words.By ▷ Key_is key)

abbrev pub Statistic_is : NamedStatistic → Shape
Statistic_is s = Name_is s.name ▷ Word_is words.As ▷ the ▷ Word_for statistic_of s.kind

abbrev pub Clause_is : ClauseTree → Shape
Clause_is (has names) = Word_is words.Has ▷ separated_list Item_is names
Clause_is (owns names) = Word_is words.Owns ▷ separated_list Item_is names
Clause_is (belongs_to names) = Word_is words.May ▷ Word_is words.Belong ▷ Word_is words.To ▷ separated_list Item_is names

abbrev pub Clauses_are : List ClauseTree → Shape
Clauses_are [] = nothing
Clauses_are (c ∷ cs) = separated_list Clause_is (c ∷ cs)

-- how a set is ordered: FIFO where the text doesn't say
abbrev pub Order_is : OrderTree → Shape
Order_is fifo = optional (Word_is words.Fifo) ▷ Word_is words.Set
Order_is lifo = Word_is words.Lifo ▷ Word_is words.Set
Order_is (ranked keys) = Word_is words.Set ▷ Word_is words.Ranked ▷ Word_is words.By ▷ Keys_are keys

-- an article, which may be left out
abbrev pub article : Shape
article = optional (One_of alike.Article)

-- names and their mode, after DEFINE
abbrev pub Variables_are : List (List ℕ) × ModeWord → Shape
Variables_are p = separated_list Name_is p.0 ▷ Word_is words.As ▷ article ▷ Word_for mode_of_word p.1 ▷ Word_is words.Variable

-- ---- statements of a preamble

-- the line of its first word
abbrev pub preamble_line : PreambleTree → Line
preamble_line (permanent_entities line) = line
preamble_line (temporary_entities line) = line
preamble_line (event_notices line included) = line
preamble_line (every line kind class clauses) = line
preamble_line (normally line mode) = line
preamble_line (system_owns line sets) = line
preamble_line (define_variables line names mode) = line
preamble_line (define_sets line names order) = line
preamble_line (priority_order line classes) = line
preamble_line (break_ties line class keys) = line
preamble_line (statistics line weighting found subject) = line

abbrev pub weighting_word : Weighting → Word
weighting_word weightings.Tally = words.Tally
weighting_word weightings.Accumulate = words.Accumulate

-- the word that it begins with
abbrev pub preamble_first : PreambleTree → Word
preamble_first (permanent_entities line) = words.Permanent
preamble_first (temporary_entities line) = words.Temporary
preamble_first (event_notices line included) = words.Event
preamble_first (every line kind class clauses) = words.Every
preamble_first (normally line mode) = words.Normally
preamble_first (system_owns line sets) = words.The
preamble_first (define_variables line names mode) = words.Define
preamble_first (define_sets line names order) = words.Define
preamble_first (priority_order line classes) = words.Priority
preamble_first (break_ties line class keys) = words.Break
preamble_first (statistics line weighting found subject) = weighting_word weighting

-- What follows the first word. EVERY is allowed only in a group, and declares a class of the group's kind.
abbrev pub Preamble_rest : Option ClassKind → PreambleTree → Shape
Preamble_rest group (permanent_entities line) = Word_is words.Entities
Preamble_rest group (temporary_entities line) = Word_is words.Entities
Preamble_rest group (event_notices line included) = Word_is words.Notices ▷ perhaps_listed (Word_is words.Include) Name_is included
Preamble_rest group (every line kind class clauses) = provided (group ≡ Some kind) (Name_is class ▷ Clauses_are clauses)
Preamble_rest group (normally line mode) = noisy words.Mode ▷ Word_is words.Is ▷ Word_for mode_of_word mode
Preamble_rest group (system_owns line sets) = Word_is words.System ▷ Word_is words.Owns ▷ separated_list Item_is sets
Preamble_rest group (define_variables line names mode) = Variables_are (names, mode)
Preamble_rest group (define_sets line names order) = separated_list Name_is names ▷ Word_is words.As ▷ article ▷ Order_is order
Preamble_rest group (priority_order line classes) = Word_is words.Order ▷ Word_is words.Is ▷ separated_list Name_is classes
Preamble_rest group (break_ties line class keys) = Name_is class ▷ Word_is words.Ties ▷ Word_is words.By ▷ Keys_are keys
Preamble_rest group (statistics line weighting found subject) = separated_list Statistic_is found ▷ Word_is words.Of ▷ Name_is subject

-- a statement in a group of this kind, or before the first group
abbrev pub Preamble_from : Option ClassKind → PreambleTree → Shape
Preamble_from group s = at (preamble_line s) (Word_is (preamble_first s) ▷ Preamble_rest group s)

-- the kind of the group that the next statement is in
abbrev pub group_after : Option ClassKind → PreambleTree → Option ClassKind
group_after group (permanent_entities line) = Some classes.Permanent
group_after group (temporary_entities line) = Some classes.Temporary
group_after group (event_notices line included) = Some classes.Notice
group_after group _ = group

abbrev pub Preambles_are : Option ClassKind → List PreambleTree → Shape
Preambles_are group [] = nothing
Preambles_are group (s ∷ ss) = Preamble_from group s ▷ Preambles_are (group_after group s) ss

-- a preamble, which may be left out where it would be empty
abbrev pub Whole_preamble : List PreambleTree → Shape
Whole_preamble [] = optional (Word_is words.Preamble ▷ Word_is words.End)
Whole_preamble (s ∷ ss) = Word_is words.Preamble ▷ Preambles_are None (s ∷ ss) ▷ Word_is words.End
