-- Which tokens spell the parts of statements.
use Rattle.std.specs.Prelude.{ℕ, List, Option, Some, None}
use Rattle.ss_lex.specs.declared.token.TokenKind.TheVariants as kinds
use Rattle.ss_lex.specs.declared.word.Word.{Word}
use Rattle.ss_lex.specs.declared.word.Word.TheVariants as words
use Rattle.ss_base.specs.declared.words.End.{End}
use Rattle.ss_base.specs.declared.words.End.TheVariants as ends
use Rattle.ss_tree.specs.Tree.{ExpressionTree, PositionTree, by_discipline, at_first, at_last, before, after, WhenTree, at_time, in_units, now}
use Rattle.ss_parse_expressions.specs.declared.classes.WordClass.TheVariants as classes
use Rattle.ss_parse_expressions.specs.Shapes.{Shape, ◌▷◌, nothing, either_shape, Token_is, Word_is, perhaps}
use Rattle.ss_parse_expressions.specs.Words.{One_of, perhaps_listed}
use Rattle.ss_parse_expressions.specs.SpelledExpressions.{Sum_is}

-- the words of a PRINT before its pictures
abbrev pub Trigger : Shape
Trigger = either_shape (Word_is words.Thus) (either_shape (Word_is words.As ▷ Word_is words.Follows) (Word_is words.Like ▷ Word_is words.This))

abbrev pub Picture_is : List ℕ → Shape
Picture_is bytes = Token_is (kinds.Picture bytes)

-- CALLED and what follows it, if CALLED is there
abbrev pub CalledName : {X : Type 0} → (X → Shape) → Option X → Shape
CalledName S = perhaps (λ x. Word_is words.Called ▷ S x)

abbrev pub end_of : Word → Option End
end_of words.First = Some ends.First
end_of words.Last = Some ends.Last
end_of _ = None

-- where a member is filed
abbrev pub Position_is : ℕ → PositionTree → Shape
Position_is levels by_discipline = nothing
Position_is levels at_first = Word_is words.First
Position_is levels at_last = Word_is words.Last
Position_is levels (before e) = Word_is words.Before ▷ Sum_is levels e
Position_is levels (after e) = Word_is words.After ▷ Sum_is levels e

-- when a notice is due
abbrev pub When_is : ℕ → WhenTree → Shape
When_is levels (at_time e) = Word_is words.At ▷ Sum_is levels e
When_is levels (in_units e) = Word_is words.In ▷ Sum_is levels e ▷ Word_is words.Unit
When_is levels now = Word_is words.Now

-- what is given, and when
abbrev pub Given_and_when : ℕ → List ExpressionTree → WhenTree → Shape
Given_and_when levels given when = perhaps_listed (One_of classes.Given) (Sum_is levels) given ▷ When_is levels when
