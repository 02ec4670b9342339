-- Which tokens spell a condition and the head of a loop.
use Rattle.std.specs.Prelude.{◌≡◌, ℕ, List, [], ◌∷◌}
use Rattle.ss_lex.specs.declared.token.Symbol.TheVariants.{Equals}
use Rattle.ss_lex.specs.declared.word.Word.{Word}
use Rattle.ss_lex.specs.declared.word.Word.TheVariants as words
use Rattle.ss_base.specs.declared.words.Relation.{Relation}
use Rattle.ss_base.specs.declared.words.Relation.TheVariants as relations
use Rattle.ss_base.specs.declared.words.GuardKind.{GuardKind}
use Rattle.ss_base.specs.declared.words.GuardKind.TheVariants as guards
use Rattle.ss_tree.specs.Tree.{TestTree, compare, empty, member, data_ended, ConditionTree, PhraseTree, GuardTree, StartTree, from_end, from_member, after_member, HeadTree, over_range, over_members, over_class, LoopHeadTree, for_head, guarded}
use Rattle.ss_parse_expressions.specs.Shapes.{Shape, ◌▷◌, nothing, never, either_shape, optional, provided, Word_is, Symbol_is, Name_is, Word_for, noise, each_in_turn, first_and_each, perhaps, flagged}
use Rattle.ss_parse_expressions.specs.declared.classes.WordClass.TheVariants as classes
use Rattle.ss_parse_expressions.specs.Words.{One_of, the}
use Rattle.ss_parse_expressions.specs.SpelledExpressions.{Sum_is, Reference_is}
use Rattle.ss_parse_expressions.specs.WordTables.{relation_of, phrase_of, guard_of}

-- ---- relations

-- a relation in words, with IS before it or not
abbrev pub In_words : Relation → Shape
In_words relations.Equal = Word_is words.Equal ▷ Word_is words.To
In_words relations.NotEqual = Word_is words.Not ▷ Word_is words.Equal ▷ Word_is words.To
In_words relations.Less = Word_is words.Less ▷ Word_is words.Than
In_words relations.Greater = Word_is words.Greater ▷ Word_is words.Than
In_words relations.LessOrEqual = Word_is words.Not ▷ Word_is words.Greater ▷ Word_is words.Than
In_words relations.GreaterOrEqual = Word_is words.Not ▷ Word_is words.Less ▷ Word_is words.Than

abbrev pub Relation_is : Relation → Shape
Relation_is r = either_shape (provided (r ≡ relations.Equal) (Symbol_is Equals)) (either_shape (Word_for relation_of r) (optional (Word_is words.Is) ▷ In_words r))

-- ---- conditions

abbrev pub Test_is : ℕ → TestTree → Shape
Test_is levels (compare left r right) = Sum_is levels left ▷ Relation_is r ▷ Sum_is levels right
Test_is levels (empty set negated) = Reference_is levels set ▷ Word_is words.Is ▷ flagged (Word_is words.Not) negated ▷ Word_is words.Empty
Test_is levels (member x set negated) =
    Sum_is levels x ▷ Word_is words.Is ▷ flagged (Word_is words.Not) negated ▷ Word_is words.In ▷ the ▷ Reference_is levels set
Test_is levels (data_ended negated) = Word_is words.Data ▷ Word_is words.Is ▷ flagged (Word_is words.Not) negated ▷ Word_is words.Ended

-- one at least, with the word between
abbrev pub joined_by_word : {X : Type 0} → Word → (X → Shape) → List X → Shape
joined_by_word w S = first_and_each S (λ y. Word_is w ▷ S y)

abbrev pub Condition_is : ℕ → ConditionTree → Shape
Condition_is levels = joined_by_word words.Or (joined_by_word words.And (Test_is levels))

-- ---- heads of loops

abbrev pub Phrase_is : ℕ → PhraseTree → Shape
Phrase_is levels p = noise ▷ Word_for phrase_of p.kind ▷ Condition_is levels p.condition

abbrev pub Guard_is : ℕ → GuardTree → Shape
Guard_is levels g = Word_for guard_of g.kind ▷ Condition_is levels g.condition

abbrev pub Start_is : ℕ → StartTree → Shape
Start_is levels from_end = nothing
Start_is levels (from_member e) = Word_is words.From ▷ Sum_is levels e
Start_is levels (after_member e) = Word_is words.After ▷ Sum_is levels e

-- the word that the head of a loop begins with
abbrev pub guard_word : GuardKind → Word
guard_word guards.While = words.While
guard_word guards.Until = words.Until

abbrev pub loop_head_word : LoopHeadTree → Word
loop_head_word (guarded (g ∷ gs)) = guard_word g.kind
loop_head_word _ = words.For

-- the head of a FOR after its first word
abbrev pub Head_rest : ℕ → HeadTree → Shape
Head_rest levels (over_range variable from to step phrases) =
    Name_is variable ▷ Symbol_is Equals ▷ Sum_is levels from ▷ Word_is words.To ▷ Sum_is levels to
    ▷ perhaps (λ e. Word_is words.By ▷ Sum_is levels e) step ▷ each_in_turn (Phrase_is levels) phrases
Head_rest levels (over_members variable set start reverse phrases) =
    One_of classes.Each ▷ Name_is variable ▷ Word_is words.In ▷ the ▷ Reference_is levels set
    ▷ Start_is levels start ▷ flagged (Word_is words.In ▷ Word_is words.Reverse ▷ Word_is words.Order) reverse ▷ each_in_turn (Phrase_is levels) phrases
Head_rest levels (over_class class variable phrases) =
    One_of classes.Each ▷ Name_is class ▷ perhaps (λ v. Word_is words.Called ▷ Name_is v) variable ▷ each_in_turn (Phrase_is levels) phrases

-- the head of a loop after its first word
abbrev pub Loop_head_rest : ℕ → LoopHeadTree → Shape
Loop_head_rest levels (for_head head) = Head_rest levels head
-- WHILE and UNTIL, of which the first has no comma before it
Loop_head_rest levels (guarded []) = never
Loop_head_rest levels (guarded (g ∷ gs)) = Condition_is levels g.condition ▷ each_in_turn (λ h. noise ▷ Guard_is levels h) gs

-- begins with FOR
abbrev pub Is_for_head : LoopHeadTree → Type 0
Is_for_head (guarded gs) = ⊥
Is_for_head _ = Unit {0}
