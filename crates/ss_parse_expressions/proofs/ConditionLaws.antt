-- Conditions: what is read is spelled, and what is spelled is read.
use Rattle.std.proofs.Common.{◌≡◌, ℕ, zero, suc, ◌<◌, ◌≤◌, Bool, true, false, cond, ◌||◌, List, [], ◌∷◌, length, Option, Some, None, refl, sym, ap, subst, ◌∙◌, arith, inl, inr, ◌⊎◌}
use Rattle.std.proofs.lemmas.Bool.{or_from}
use Rattle.ss_parse_expressions.proofs.Common.{begins, begins_by, begins_sign, begins_sum, choose_reader, closed, Designator, Equals, if_present, in_table, opening, Plain_name, reference_in, Reference_is, seq, skip, Spelled, star, Subscript, sum_in, Sum_is, sum_place, taken, the, Token, TokenKind, Word, word}
use Rattle.ss_lex.specs.declared.word.Word.TheVariants as words
use Rattle.ss_lex.specs.declared.token.TokenKind.TheVariants as kinds
use Rattle.ss_base.specs.declared.words.Relation.{Relation}
use Rattle.ss_base.specs.declared.words.Relation.TheVariants as relations
use Rattle.ss_tree.specs.declared.expression.Designator.TheVariants as designators
use Rattle.ss_tree.specs.Tree.{ExpressionTree, named, ExpressionRow, no_expression, and_expression, NamedTree, TestTree, compare, empty, member, data_ended, ConditionTree}
use Rattle.ss_parse_expressions.specs.declared.conditions.Verb.{Verb}
use Rattle.ss_parse_expressions.specs.declared.conditions.Verb.TheVariants as verbs
use Rattle.ss_parse_expressions.specs.declared.conditions.TestWord.{TestWord}
use Rattle.ss_parse_expressions.specs.declared.conditions.TestWord.TheVariants as test_words
use Rattle.ss_parse_expressions.specs.Shapes.{Shape, ◌▷◌, nothing, never, provided, Token_is, Word_is, Name_is, Word_for, flagged, nested_shape}
use Rattle.ss_parse_expressions.specs.SpelledConditions.{In_words, Relation_is, Test_is, joined_by_word}
use Rattle.ss_parse_expressions.specs.WordTables.{relation_of}
use Rattle.ss_parse_expressions.specs.ReadConditions.{relation_symbol, test_word_of, verb_end, worded_verb, verb, reference_of, empty_of, data_test, test_end, sum_test, test_in, conjunction_in, condition_in}
use Rattle.ss_parse_expressions.proofs.Tools.{or_false}
use Rattle.ss_parse_expressions.proofs.Marks.{token_less, starts_otherwise, In_table, begins_table}
use Rattle.ss_parse_expressions.proofs.ReaderLaws.{Reads, Item, continues_never, Made, item_of, item_marked, item_skipped, expect_reads, taken_reads, seq_reads, bind_reads, made_reads, marked_reads, closed_reads, reshaped_reads, fewer_reads, optional_reads, too_deep_reads, done_reads, either_reads}
use Rattle.ss_parse_expressions.proofs.Rows.{first_and_reads, first_less, Loop, loop_of}
use Rattle.ss_parse_expressions.proofs.WordLaws.{optionally, word_in_reads, present_reads, fail_reads}
use Rattle.ss_parse_expressions.proofs.Beginnings.{in_begins, continues_sum}
use Rattle.ss_parse_expressions.proofs.Sums.{in_less, sum_in_reads}
use Rattle.ss_parse_expressions.specs.ReadPlaces.{plain_of}
use Rattle.ss_parse_expressions.proofs.PlaceLaws.{plain_from, reference_in_reads, continues_place}

-- ---- words

abbrev word_of : TestWord → Word
word_of test_words.Empty = words.Empty
word_of test_words.In = words.In
word_of test_words.Equal = words.Equal
word_of test_words.Less = words.Less
word_of test_words.Greater = words.Greater

only_test_word : (w : Word) (t : TestWord) → test_word_of w ≡ Some t → w ≡ word_of t
only_test_word w t e = grind arith

-- none of them is a relation
no_relation : (t : TestWord) → relation_of (word_of t) ≡ None
no_relation t = grind arith

test_word_is : (t : TestWord) (ts rest : List Token) → Word_for test_word_of t ts rest → Word_is (word_of t) ts rest
test_word_is t ts rest (w, means, at) = subst (λ w. Word_is w ts rest) (only_test_word w t means) at

-- what begins with such a word doesn't begin with another one
test_word_first : (w : Word) → test_word_of w ≡ None → (t : TestWord) (ts rest : List Token) → Word_for test_word_of t ts rest → begins (word w) ts ≡ false
test_word_first w other t ts rest (v, means, at) = starts_otherwise (word w) (begins_by (in_table test_word_of)) (λ span line ts. rw other refl) ts (begins_table (in_table test_word_of) ts rest t (kinds.Word v, means, at))

-- ---- the verb of a test, after its first expression

abbrev Verb_is : Verb → Shape
Verb_is (verbs.Compares r) = Relation_is r
Verb_is (verbs.IsEmpty negated) = Word_is words.Is ▷ flagged (Word_is words.Not) negated ▷ Word_is words.Empty
Verb_is (verbs.IsIn negated) = Word_is words.Is ▷ flagged (Word_is words.Not) negated ▷ Word_is words.In

abbrev Verb_words : Bool × (Bool × TestWord) → Shape
Verb_words p = flagged (Word_is words.Is) p.0 ▷ flagged (Word_is words.Not) p.1.0 ▷ Word_for test_word_of p.1.1

verb_words_reads : (k : ℕ) → Reads k (seq (if_present (word words.Is)) (seq (if_present (word words.Not)) (taken (in_table test_word_of)))) (seq (if_present (word words.Is)) (seq (if_present (word words.Not)) (taken (in_table test_word_of)))) Verb_words continues_never
verb_words_reads k = seq_reads (present_reads k (word words.Is)) (seq_reads (present_reads k (word words.Not)) (word_in_reads k test_word_of) (λ t ts rest s stop. test_word_first words.Not refl t ts rest s)) no_is
  where
    no_is : (p : Bool × TestWord) (ts rest : List Token) → (flagged (Word_is words.Not) p.0 ▷ Word_for test_word_of p.1) ts rest → continues_never rest ≡ false → begins (word words.Is) ts ≡ false
    no_is (true, t) ts rest (a, (span, line, e), s) stop = ap (begins (word words.Is)) e
    no_is (false, t) ts rest (a, e, s) stop = ap (begins (word words.Is)) e ∙ test_word_first words.Is refl t a rest s

abbrev Verb_end : TestWord → Bool → Bool → Verb → Shape
Verb_end test_words.Empty true negated v = provided (verbs.IsEmpty negated ≡ v) nothing
Verb_end test_words.Empty false negated v = never
Verb_end test_words.In true negated v = provided (verbs.IsIn negated ≡ v) nothing
Verb_end test_words.In false negated v = never
Verb_end test_words.Equal i negated v = Made (λ (u : Unit {0}). verbs.Compares (cond negated relations.NotEqual relations.Equal)) (λ (u : Unit {0}). Word_is words.To) v
Verb_end test_words.Less i negated v = Made (λ (u : Unit {0}). verbs.Compares (cond negated relations.GreaterOrEqual relations.Less)) (λ (u : Unit {0}). Word_is words.Than) v
Verb_end test_words.Greater i negated v = Made (λ (u : Unit {0}). verbs.Compares (cond negated relations.LessOrEqual relations.Greater)) (λ (u : Unit {0}). Word_is words.Than) v

verb_end_reads : (k : ℕ) (t : TestWord) (i negated : Bool) → Reads k (verb_end t i negated) (verb_end t i negated) (Verb_end t i negated) continues_never
verb_end_reads k test_words.Empty true negated = done_reads k (verbs.IsEmpty negated)
verb_end_reads k test_words.Empty false negated = fail_reads k
verb_end_reads k test_words.In true negated = done_reads k (verbs.IsIn negated)
verb_end_reads k test_words.In false negated = fail_reads k
verb_end_reads k test_words.Equal i negated = made_reads (expect_reads k (word words.To)) (λ (u : Unit {0}). verbs.Compares (cond negated relations.NotEqual relations.Equal))
verb_end_reads k test_words.Less i negated = made_reads (expect_reads k (word words.Than)) (λ (u : Unit {0}). verbs.Compares (cond negated relations.GreaterOrEqual relations.Less))
verb_end_reads k test_words.Greater i negated = made_reads (expect_reads k (word words.Than)) (λ (u : Unit {0}). verbs.Compares (cond negated relations.LessOrEqual relations.Greater))

abbrev Worded : Verb → Shape
Worded v ts rest = (p : Bool × (Bool × TestWord)) × (Verb_words p ▷ Verb_end p.1.1 p.0 p.1.0 v) ts rest

worded_reads : (k : ℕ) → Reads k worded_verb worded_verb Worded continues_never
unfolding worded_verb
worded_reads k = bind_reads (verb_words_reads k) (λ p. verb_end_reads k p.1.1 p.0 p.1.0) (λ p v ts rest s stop. refl)

-- verbs in words begin with no sign of a sum, and no relation that is one token
worded_first : (v : Verb) (ts rest : List Token) → Worded v ts rest → (begins_by relation_symbol ts ≡ false) × (continues_sum ts ≡ false)
worded_first v ts rest ((true, (negated, t)), (m, (a, (span, line, e), s), end)) = (ap (begins_by relation_symbol) e, ap continues_sum e)
worded_first v ts rest ((false, (true, t)), (m, (a, e, (b, (span, line, f), s)), end)) = (ap (begins_by relation_symbol) (e ∙ f), ap continues_sum (e ∙ f))
worded_first v ts rest ((false, (false, t)), (m, (a, e, (b, f, at)), end)) =
    let word = test_word_is t b m at in
    let no : relation_of (word_of t) ≡ None = no_relation t in
    (ap (begins_by relation_symbol) (e ∙ f ∙ word.2) ∙ rw no refl, ap continues_sum (e ∙ f ∙ word.2))

worded_to : (v : Verb) (ts rest : List Token) → Worded v ts rest → Verb_is v ts rest
worded_to v ts rest ((i, (negated, t)), (m, (a, s, (b, neg, at)), end)) = go t i negated a b m s neg (test_word_is t b m at) end
  where
    go : (t : TestWord) (i negated : Bool) (a b m : List Token) → flagged (Word_is words.Is) i ts a → flagged (Word_is words.Not) negated a b → Word_is (word_of t) b m → Verb_end t i negated v m rest → Verb_is v ts rest
    go test_words.Empty true negated a b m s neg at end = subst (λ v. Verb_is v ts rest) end.0 (a, s, (b, neg, subst (λ r. Word_is words.Empty b r) end.1 at))
    go test_words.Empty false negated a b m s neg at end = absurd end
    go test_words.In true negated a b m s neg at end = subst (λ v. Verb_is v ts rest) end.0 (a, s, (b, neg, subst (λ r. Word_is words.In b r) end.1 at))
    go test_words.In false negated a b m s neg at end = absurd end
    go test_words.Equal i true a b m s neg at (u, makes, end) = subst (λ v. Verb_is v ts rest) makes (inr (inr (a, optionally i (Word_is words.Is) ts a s, (b, neg, (m, at, end)))))
    go test_words.Equal i false a b m s neg at (u, makes, end) = subst (λ v. Verb_is v ts rest) makes (inr (inr (a, optionally i (Word_is words.Is) ts a s, (m, subst (λ r. Word_is words.Equal r m) (sym neg) at, end))))
    go test_words.Less i true a b m s neg at (u, makes, end) = subst (λ v. Verb_is v ts rest) makes (inr (inr (a, optionally i (Word_is words.Is) ts a s, (b, neg, (m, at, end)))))
    go test_words.Less i false a b m s neg at (u, makes, end) = subst (λ v. Verb_is v ts rest) makes (inr (inr (a, optionally i (Word_is words.Is) ts a s, (m, subst (λ r. Word_is words.Less r m) (sym neg) at, end))))
    go test_words.Greater i true a b m s neg at (u, makes, end) = subst (λ v. Verb_is v ts rest) makes (inr (inr (a, optionally i (Word_is words.Is) ts a s, (b, neg, (m, at, end)))))
    go test_words.Greater i false a b m s neg at (u, makes, end) = subst (λ v. Verb_is v ts rest) makes (inr (inr (a, optionally i (Word_is words.Is) ts a s, (m, subst (λ r. Word_is words.Greater r m) (sym neg) at, end))))

words_from : (i : Bool) (r : Relation) (ts a rest : List Token) → flagged (Word_is words.Is) i ts a → In_words r a rest → Worded (verbs.Compares r) ts rest
words_from i relations.Equal ts a rest s (m, at, end) = ((i, (false, test_words.Equal)), (m, (a, s, (a, refl, (words.Equal, refl, at))), (tt, refl, end)))
words_from i relations.NotEqual ts a rest s (b, neg, (m, at, end)) = ((i, (true, test_words.Equal)), (m, (a, s, (b, neg, (words.Equal, refl, at))), (tt, refl, end)))
words_from i relations.Less ts a rest s (m, at, end) = ((i, (false, test_words.Less)), (m, (a, s, (a, refl, (words.Less, refl, at))), (tt, refl, end)))
words_from i relations.Greater ts a rest s (m, at, end) = ((i, (false, test_words.Greater)), (m, (a, s, (a, refl, (words.Greater, refl, at))), (tt, refl, end)))
words_from i relations.LessOrEqual ts a rest s (b, neg, (m, at, end)) = ((i, (true, test_words.Greater)), (m, (a, s, (b, neg, (words.Greater, refl, at))), (tt, refl, end)))
words_from i relations.GreaterOrEqual ts a rest s (b, neg, (m, at, end)) = ((i, (true, test_words.Less)), (m, (a, s, (b, neg, (words.Less, refl, at))), (tt, refl, end)))

-- a relation that is one token
abbrev Verb_symbol : Verb → Shape
Verb_symbol = Made verbs.Compares (In_table relation_symbol)

symbol_to : (v : Verb) (ts rest : List Token) → Verb_symbol v ts rest → Verb_is v ts rest
symbol_to v ts rest (r, makes, (kinds.Symbol Equals, e, at)) = let same : r ≡ relations.Equal = cc in subst (λ v. Verb_is v ts rest) makes (inl (same, at))
symbol_to v ts rest (r, makes, (kinds.Word w, e, at)) = subst (λ v. Verb_is v ts rest) makes (inr (inl (w, e, at)))
symbol_to v ts rest (r, makes, (_, e, at)) = absurd cc

verb_from : (v : Verb) (ts rest : List Token) → Verb_is v ts rest → Verb_symbol v ts rest ⊎ Worded v ts rest
verb_from (verbs.Compares r) ts rest (inl (same, at)) = inl (r, refl, (kinds.Symbol Equals, ap Some (sym same), at))
verb_from (verbs.Compares r) ts rest (inr (inl (w, e, at))) = inl (r, refl, (kinds.Word w, e, at))
verb_from (verbs.Compares r) ts rest (inr (inr (a, inl e, s))) = inr (words_from false r ts a rest e s)
verb_from (verbs.Compares r) ts rest (inr (inr (a, inr w, s))) = inr (words_from true r ts a rest w s)
verb_from (verbs.IsEmpty negated) ts rest (a, s, (b, neg, at)) = inr ((true, (negated, test_words.Empty)), (rest, (a, s, (b, neg, (words.Empty, refl, at))), (refl, refl)))
verb_from (verbs.IsIn negated) ts rest (a, s, (b, neg, at)) = inr ((true, (negated, test_words.In)), (rest, (a, s, (b, neg, (words.In, refl, at))), (refl, refl)))

pub verb_reads : (k : ℕ) → Reads k verb verb Verb_is continues_never
unfolding verb
verb_reads k =
    reshaped_reads (either_reads (item_of (begins_by relation_symbol) (made_reads (taken_reads k relation_symbol) verbs.Compares) (λ ts v rest s. begins_table relation_symbol ts rest s.0 s.2) (λ ts v rest s. omega (arith, token_less s.2.0 ts rest s.2.2)))
    (worded_reads k) continues_never (λ ts stop. (refl, refl)) (λ v ts rest s stop. (worded_first v ts rest s).0)) Verb_is
    (λ v ts rest s. elim s [ inl p ↦ symbol_to v ts rest p | inr p ↦ worded_to v ts rest p ]) verb_from

symbol_stops : (k : TokenKind) (r : Relation) (ts rest : List Token) → relation_symbol k ≡ Some r → Token_is k ts rest → continues_sum ts ≡ false
symbol_stops (kinds.Symbol Equals) r ts rest e at = ap continues_sum at.2
symbol_stops (kinds.Word w) r ts rest e at = ap continues_sum at.2
symbol_stops _ r ts rest e at = absurd cc

verb_stops : (v : Verb) (ts rest : List Token) → Verb_is v ts rest → continues_never rest ≡ false → continues_sum ts ≡ false
verb_stops v ts rest s stop =
    elim (verb_from v ts rest s) [
      | inl p ↦ symbol_stops p.2.0 p.0 ts rest p.2.1 p.2.2
      | inr p ↦ (worded_first v ts rest p).1
    ]

-- ---- sets as expressions

reference_to : (n : ℕ) (e : ExpressionTree) (set : NamedTree) (ts rest : List Token) → reference_of e ≡ Some set → Sum_is n e ts rest → Reference_is n set ts rest
reference_to n (named (designators.Name v) no_expression) set ts rest e s =
    let same : record { designator = designators.Name v; subscripts = no_expression } ≡ set = cc in
    subst (λ set. Reference_is n set ts rest) same (rest, s, refl)
reference_to zero (named (designators.Name v) (and_expression x no_expression)) set ts rest e (a, at, (b, opened, (c, inner, closed))) = absurd inner
reference_to (suc n) (named (designators.Name v) (and_expression x no_expression)) set ts rest e (a, at, (b, opened, (c, inner, closed))) =
    let same : record { designator = designators.Name v; subscripts = and_expression x no_expression } ≡ set = cc in
    subst (λ set. Reference_is (suc n) set ts rest) same (a, at, (b, opened, (c, subst (λ r. Spelled x sum_place n b r) inner.2 inner.1, closed)))
reference_to n _ set ts rest e s = absurd cc

-- the expression that names the set
abbrev as_named : NamedTree → ExpressionTree
as_named set = named set.designator set.subscripts

reference_from : (n : ℕ) (d : Designator) (row : ExpressionRow) (ts a rest : List Token) → Plain_name d ts a → Subscript row n a rest → Sum_is n (named d row) ts rest × (reference_of (named d row) ≡ Some (record { designator = d; subscripts = row }))
reference_from n (designators.Name v) no_expression ts a rest at e = (subst (λ r. Name_is v ts r) e at, refl)
reference_from zero (designators.Name v) (and_expression x no_expression) ts a rest at (b, opened, (c, inner, closed)) = absurd inner
reference_from (suc n) (designators.Name v) (and_expression x no_expression) ts a rest at (b, opened, (c, inner, closed)) = ((a, at, (b, opened, (c, (c, inner, refl), closed))), refl)
reference_from n (designators.Name v) (and_expression x (and_expression y ys)) ts a rest at s = absurd s
reference_from n _ row ts a rest at s = absurd at

-- ---- tests

no_the : (n : ℕ) (set : NamedTree) (ts rest : List Token) → Reference_is n set ts rest → begins (word words.The) ts ≡ false
no_the n set ts rest (a, at, s) = starts_otherwise (word words.The) (begins_by plain_of) (λ span line ts. refl) ts (begins_table plain_of ts a set.designator (plain_from set.designator ts a at))

pub stops_place : (ts : List Token) → continues_sum ts ≡ false → continues_place ts ≡ false
stops_place ts stop =
    let a = or_false (begins_sign ts) (begins star ts || begins opening ts) stop in
    or_from (begins opening ts) (continues_never ts) (or_false (begins star ts) (begins opening ts) a.1).1 refl

sum_no_data : (ts : List Token) → begins_sum ts ≡ true → begins (word words.Data) ts ≡ false
sum_no_data = starts_otherwise (word words.Data) begins_sum (λ span line ts. refl)

module _ (n m : ℕ) (le : n ≤ m) where
  sum_reads : Reads (suc n) (sum_in (suc n)) (sum_in (suc m)) (λ e. Sum_is n e) continues_sum
  sum_reads = sum_in_reads (suc n) (suc m) (omega arith)

  pub the_set_reads : Reads (suc n) (λ ts. reference_in (suc n) (skip (word words.The) ts)) (λ ts. reference_in (suc m) (skip (word words.The) ts)) (λ set. the ▷ Reference_is n set) continues_place
  the_set_reads = optional_reads (reference_in_reads (suc n) (suc m) (omega arith)) (word words.The) (λ set ts rest s. no_the n set ts rest s)

  abbrev Empty_end : Option NamedTree → Bool → TestTree → Shape
  Empty_end (Some set) negated x = provided (empty set negated ≡ x) nothing
  Empty_end None negated x = never

  empty_reads : (o : Option NamedTree) (negated : Bool) → Reads (suc n) (empty_of o negated) (empty_of o negated) (Empty_end o negated) continues_sum
  empty_reads (Some set) negated = fewer_reads (done_reads (suc n) (empty set negated)) continues_sum (λ ts stop. refl)
  empty_reads None negated = fewer_reads (fail_reads (suc n)) continues_sum (λ ts stop. refl)

  abbrev Test_end : ExpressionTree → Verb → TestTree → Shape
  Test_end left (verbs.Compares r) x = Made (compare left r) (λ e. Sum_is n e) x
  Test_end left (verbs.IsIn negated) x = Made (λ set. member left set negated) (λ set. the ▷ Reference_is n set) x
  Test_end left (verbs.IsEmpty negated) x = Empty_end (reference_of left) negated x

  test_end_reads : (left : ExpressionTree) (v : Verb) → Reads (suc n) (test_end (suc n) left v) (test_end (suc m) left v) (Test_end left v) continues_sum
  unfolding test_end
  test_end_reads left (verbs.Compares r) = made_reads sum_reads (compare left r)
  test_end_reads left (verbs.IsIn negated) = fewer_reads (made_reads the_set_reads (λ set. member left set negated)) continues_sum stops_place
  test_end_reads left (verbs.IsEmpty negated) = empty_reads (reference_of left) negated

  abbrev Sum_test : TestTree → Shape
  Sum_test x ts rest = (p : ExpressionTree × Verb) × ((Sum_is n p.0 ▷ Verb_is p.1) ▷ Test_end p.0 p.1 x) ts rest

  sum_test_reads : Reads (suc n) (sum_test (suc n)) (sum_test (suc m)) Sum_test continues_sum
  unfolding sum_test
  sum_test_reads = bind_reads (seq_reads sum_reads (verb_reads (suc n)) verb_stops) (λ p. test_end_reads p.0 p.1) (λ p x ts rest s stop. refl)

  abbrev Data_test : TestTree → Shape
  Data_test x = Word_is words.Data ▷ Word_is words.Is ▷ Made data_ended (λ negated. flagged (Word_is words.Not) negated ▷ Word_is words.Ended) x

  data_item : Item (suc n) (begins (word words.Data)) data_test data_test Data_test continues_never
  unfolding data_test
  data_item = item_marked (word words.Data) (marked_reads (word words.Is) (made_reads (closed_reads (present_reads (suc n) (word words.Not)) (expect_reads (suc n) (word words.Ended)) (λ ts rest s stop. ap (begins (word words.Not)) s.2)) data_ended))

  data_to : (x : TestTree) (ts rest : List Token) → Data_test x ts rest → Test_is n x ts rest
  data_to x ts rest (a, d, (b, i, (negated, makes, s))) = subst (λ x. Test_is n x ts rest) makes (a, d, (b, i, s))

  sum_test_to : (x : TestTree) (ts rest : List Token) → Sum_test x ts rest → Test_is n x ts rest
  sum_test_to x ts rest ((e, verbs.Compares r), (b, (a, s, v), (right, makes, t))) = subst (λ x. Test_is n x ts rest) makes (a, s, (b, v, t))
  sum_test_to x ts rest ((e, verbs.IsIn negated), (b, (a, s, (c, i, (d, neg, at))), (set, makes, t))) = subst (λ x. Test_is n x ts rest) makes (a, s, (c, i, (d, neg, (b, at, t))))
  sum_test_to x ts rest ((e, verbs.IsEmpty negated), (b, (a, s, v), t)) = go (reference_of e) refl t
    where
      go : (o : Option NamedTree) → reference_of e ≡ o → Empty_end o negated x b rest → Test_is n x ts rest
      go (Some set) names t = subst (λ x. Test_is n x ts rest) t.0 (a, reference_to n e set ts a names s, subst (λ r. Verb_is (verbs.IsEmpty negated) a r) t.1 v)
      go None names t = absurd t

  test_from : (x : TestTree) (ts rest : List Token) → Test_is n x ts rest → Data_test x ts rest ⊎ ((begins (word words.Data) ts ≡ false) × Sum_test x ts rest)
  test_from (compare left r right) ts rest (a, s, (b, v, t)) = inr (sum_no_data ts (in_begins (suc n) ts left a s), ((left, verbs.Compares r), (b, (a, s, v), (right, refl, t))))
  test_from (empty set negated) ts rest (a, s, v) =
      let found = reference_from n set.designator set.subscripts ts s.0 a s.1 s.2 in
      let names : reference_of (as_named set) ≡ Some set = found.1 in
      inr (sum_no_data ts (in_begins (suc n) ts (as_named set) a found.0), ((as_named set, verbs.IsEmpty negated), (rest, (a, found.0, v), subst (λ o. Empty_end o negated (empty set negated) rest rest) (sym names) (refl, refl))))
  test_from (member x set negated) ts rest (a, s, (b, i, (c, neg, (d, at, t)))) = inr (sum_no_data ts (in_begins (suc n) ts x a s), ((x, verbs.IsIn negated), (d, (a, s, (b, i, (c, neg, at))), (set, refl, t))))
  test_from (data_ended negated) ts rest (a, d, (b, i, s)) = inl (a, d, (b, i, (negated, refl, s)))

  test_reads : Reads (suc n) (choose_reader (begins (word words.Data)) data_test (sum_test (suc n))) (choose_reader (begins (word words.Data)) data_test (sum_test (suc m))) (λ x. Test_is n x) continues_sum
  test_reads =
      reshaped_reads (either_reads data_item sum_test_reads continues_sum (λ ts stop. (refl, stop)) (λ x ts rest s stop. sum_no_data ts (in_begins (suc n) ts s.0.0 s.1.1.0 s.1.1.1))) (λ x. Test_is n x)
      (λ x ts rest s. elim s [ inl p ↦ data_to x ts rest p | inr p ↦ sum_test_to x ts rest p ])
      (λ x ts rest s. elim (test_from x ts rest s) [ inl p ↦ inl p | inr p ↦ inr p.1 ])

  pub test_less : (ts : List Token) (x : TestTree) (rest : List Token) → Test_is n x ts rest → length rest < length ts
  test_less ts x rest s =
      elim (test_from x ts rest s) [
        | inl p ↦ data_item.less ts x rest p
        | inr p ↦ go p.1
      ]
    where
      go : Sum_test x ts rest → length rest < length ts
      go ((e, v), (b, (a, s, t), end)) = omega (arith, in_less (suc n) ts e a s, (verb_reads 0).shorter a v b t, (test_end_reads e v).shorter b x rest end)

-- ---- at each level

abbrev pub In_test : ℕ → TestTree → Shape
In_test room x = nested_shape (λ l. Test_is l x) room

pub in_test_less : (n : ℕ) (ts : List Token) (x : TestTree) (rest : List Token) → In_test n x ts rest → length rest < length ts
in_test_less zero ts x rest s = absurd s
in_test_less (suc n) ts x rest s = test_less n n (omega arith) ts x rest s

pub test_in_reads : (n m : ℕ) → n ≤ m → Reads n (test_in n) (test_in m) (In_test n) continues_sum
unfolding test_in
test_in_reads zero m le = too_deep_reads
test_in_reads (suc n) zero le = absurd (omega arith)
test_in_reads (suc n) (suc m) le = test_reads n m (omega arith)

-- ---- conditions

abbrev pub In_conjunction : ℕ → List TestTree → Shape
In_conjunction room = joined_by_word words.And (In_test room)

abbrev pub In_condition : ℕ → ConditionTree → Shape
In_condition room = joined_by_word words.Or (In_conjunction room)

abbrev continues_conjunction : List Token → Bool
continues_conjunction ts = begins (word words.And) ts || (continues_sum ts || continues_sum ts)

abbrev pub continues_condition : List Token → Bool
continues_condition ts = begins (word words.Or) ts || (continues_conjunction ts || continues_conjunction ts)

module _ (n m : ℕ) (le : n ≤ m) where
  test_item : Item n (begins (word words.And)) (λ r. test_in n (skip (word words.And) r)) (λ r. test_in m (skip (word words.And) r)) (λ x. Word_is words.And ▷ In_test n x) continues_sum
  test_item = item_skipped (word words.And) (test_in_reads n m le)

  and_stops : (ts : List Token) (x : TestTree) (rest : List Token) → (Word_is words.And ▷ In_test n x) ts rest → (continues_sum ts ≡ false) × (continues_sum ts ≡ false)
  and_stops ts x rest s = (ap continues_sum s.1.2, ap continues_sum s.1.2)

  conjunction_reads : Reads n (conjunction_in n) (conjunction_in m) (In_conjunction n) continues_conjunction
  conjunction_reads = first_and_reads (test_in_reads n m le) test_item and_stops (in_test_less n)

  conjunction_less : (ts : List Token) (xs : List TestTree) (rest : List Token) → In_conjunction n xs ts rest → length rest < length ts
  conjunction_less ts xs rest s = first_less (test_in_reads n m le) test_item and_stops (in_test_less n) ts xs rest s

  conjunction_item : Item n (begins (word words.Or)) (λ r. conjunction_in n (skip (word words.Or) r)) (λ r. conjunction_in m (skip (word words.Or) r)) (λ xs. Word_is words.Or ▷ In_conjunction n xs) continues_conjunction
  conjunction_item = item_skipped (word words.Or) conjunction_reads

  or_stops : (ts : List Token) (xs : List TestTree) (rest : List Token) → (Word_is words.Or ▷ In_conjunction n xs) ts rest → (continues_conjunction ts ≡ false) × (continues_conjunction ts ≡ false)
  or_stops ts xs rest s = (ap continues_conjunction s.1.2, ap continues_conjunction s.1.2)

  pub condition_in_reads : Reads n (condition_in n) (condition_in m) (In_condition n) continues_condition
  condition_in_reads = first_and_reads conjunction_reads conjunction_item or_stops conjunction_less

  pub condition_less : (ts : List Token) (c : ConditionTree) (rest : List Token) → In_condition n c ts rest → length rest < length ts
  condition_less ts c rest s = first_less conjunction_reads conjunction_item or_stops conjunction_less ts c rest s

pub conjunction_loop : (n : ℕ) → Loop (begins (word words.And)) (λ r. test_in n (skip (word words.And) r))
conjunction_loop n = loop_of (test_item n n (omega arith)) refl

pub condition_loop : (n : ℕ) → Loop (begins (word words.Or)) (λ r. conjunction_in n (skip (word words.Or) r))
condition_loop n = loop_of (conjunction_item n n (omega arith)) refl

-- what a condition begins with
abbrev pub begins_condition : List Token → Bool
begins_condition ts = begins_sum ts || begins (word words.Data) ts

test_begins : (n : ℕ) (x : TestTree) (ts rest : List Token) → In_test n x ts rest → begins_condition ts ≡ true
test_begins zero x ts rest s = absurd s
test_begins (suc n) x ts rest s =
    elim (test_from n n (omega arith) x ts rest s) [
      | inl p ↦ ap begins_condition p.1.2
      | inr p ↦ let there : begins_sum ts ≡ true = in_begins (suc n) ts p.1.0.0 p.1.1.1.0 p.1.1.1.1 in rw there refl
    ]

pub condition_begins : (n : ℕ) (c : ConditionTree) (ts rest : List Token) → In_condition n c ts rest → begins_condition ts ≡ true
condition_begins n [] ts rest s = absurd s
condition_begins n ([] ∷ cs) ts rest (a, s, more) = absurd s
condition_begins n ((x ∷ xs) ∷ cs) ts rest (a, (b, s, others), more) = test_begins n x ts b s
