-- What each word means, in the place where it is looked for.
use Rattle.std.specs.Prelude.{Bool, true, false, Option, Some, None}
use Rattle.ss_lex.specs.declared.word.Word.{Word}
use Rattle.ss_lex.specs.declared.word.Word.TheVariants as words
use Rattle.ss_base.specs.declared.words.Relation.{Relation}
use Rattle.ss_base.specs.declared.words.Relation.TheVariants as relations
use Rattle.ss_base.specs.declared.words.Operator.TheVariants.{Quotient, Remainder, Least, Greatest}
use Rattle.ss_base.specs.declared.words.UnaryOperator.TheVariants.{Absolute}
use Rattle.ss_tree.specs.declared.expression.Function.{Function}
use Rattle.ss_tree.specs.declared.expression.Function.TheVariants as functions
use Rattle.ss_base.specs.declared.words.PhraseKind.{PhraseKind}
use Rattle.ss_base.specs.declared.words.PhraseKind.TheVariants as phrases
use Rattle.ss_base.specs.declared.words.GuardKind.{GuardKind}
use Rattle.ss_base.specs.declared.words.GuardKind.TheVariants as guards
use Rattle.ss_tree.specs.declared.statement.FindOutcome.{FindOutcome}
use Rattle.ss_tree.specs.declared.statement.FindOutcome.TheVariants as outcomes
use Rattle.ss_tree.specs.declared.preamble.ModeWord.{ModeWord}
use Rattle.ss_tree.specs.declared.preamble.ModeWord.TheVariants as modes
use Rattle.ss_tree.specs.declared.preamble.StatisticKind.{StatisticKind}
use Rattle.ss_tree.specs.declared.preamble.StatisticKind.TheVariants as statistics_kinds

-- a relation that is one word
abbrev pub relation_of : Word → Option Relation
relation_of words.Eq = Some relations.Equal
relation_of words.Equals = Some relations.Equal
relation_of words.Ne = Some relations.NotEqual
relation_of words.Lt = Some relations.Less
relation_of words.Gt = Some relations.Greater
relation_of words.Le = Some relations.LessOrEqual
relation_of words.Ge = Some relations.GreaterOrEqual
relation_of _ = None

abbrev pub function_of : Word → Option Function
function_of words.DivF = Some (functions.Two Quotient)
function_of words.ModF = Some (functions.Two Remainder)
function_of words.AbsF = Some (functions.One Absolute)
function_of words.MinF = Some (functions.Two Least)
function_of words.MaxF = Some (functions.Two Greatest)
function_of _ = None

abbrev pub phrase_of : Word → Option PhraseKind
phrase_of words.With = Some phrases.With
phrase_of words.When = Some phrases.With
phrase_of words.Unless = Some phrases.Unless
phrase_of words.While = Some phrases.While
phrase_of words.Until = Some phrases.Until
phrase_of _ = None

abbrev pub guard_of : Word → Option GuardKind
guard_of words.While = Some guards.While
guard_of words.Until = Some guards.Until
guard_of _ = None

abbrev pub outcome_of : Word → Option FindOutcome
outcome_of words.Found = Some outcomes.Found
outcome_of words.None = Some outcomes.None
outcome_of _ = None

abbrev pub mode_of_word : Word → Option ModeWord
mode_of_word words.Integer = Some modes.Integer
mode_of_word words.Alpha = Some modes.Alpha
mode_of_word words.Real = Some modes.Real
mode_of_word _ = None

-- whether the highest value comes first
abbrev pub rank_of : Word → Option Bool
rank_of words.High = Some true
rank_of words.Low = Some false
rank_of _ = None

abbrev pub statistic_of : Word → Option StatisticKind
statistic_of words.Number = Some statistics_kinds.Number
statistic_of words.Sum = Some statistics_kinds.Sum
statistic_of words.Maximum = Some statistics_kinds.Maximum
statistic_of words.Minimum = Some statistics_kinds.Minimum
statistic_of words.Mean = Some statistics_kinds.Mean
statistic_of _ = None
