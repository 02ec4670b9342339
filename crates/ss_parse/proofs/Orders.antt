-- Keys, and the orders of sets: what is read is spelled, and what is spelled is read. Before them, what continues a statement of a preamble.
use Rattle.std.proofs.Common.{◌≡◌, ℕ, ◌<◌, Bool, true, false, ◌||◌, List, length, drop, Ok, refl, sym, ap, subst, ◌∙◌, arith, inl, inr}
use Rattle.ss_parse.proofs.Common.{apply_reads, begins, begins_among, begins_by, begins_class, begins_more, begins_noisy, comma, continues_never, done_reads, either_reads, expect_reads, fewer_reads, first_and_reads, following_reads, HasFailedReading, in_table, Item, item_of, Loop, loop_of, Made, marked_reads, name_in_token, NamedKey, noisy, or_false, ParseFailure, Reads, reshaped_reads, seq_reads, taken, Token, Word, word}
use Rattle.ss_lex.specs.declared.word.Word.TheVariants as words
use Rattle.ss_lex.specs.declared.token.TokenKind.TheVariants as kinds
use Rattle.ss_tree.specs.Tree.{OrderTree, fifo, lifo, ranked}
use Rattle.ss_parse_expressions.specs.declared.failure.ParseFailure.TheVariants as failures
use Rattle.ss_parse_expressions.specs.declared.classes.WordClass.TheVariants as alike
use Rattle.ss_parse_expressions.specs.Shapes.{Shape, ◌▷◌, nothing, either_shape, provided, Word_is, Name_is, Word_for}
use Rattle.ss_parse_expressions.proofs.Marks.{token_less, no_skip}
use Rattle.ss_parse_expressions.proofs.WordLaws.{word_in_reads, noisy_mark_reads, noisy_begins, noisy_less, name_reads, name_less, item_made, no_word}
use Rattle.ss_parse.specs.SpelledPreambles.{Key_is, Keys_are, Order_is}
use Rattle.ss_parse_expressions.specs.WordTables.{mode_of_word, rank_of}
use Rattle.ss_parse.specs.ReadPreambles.{key_tree, key, then_rank, then_key, keys, ranking, order}

-- ---- what continues a statement of a preamble

abbrev pub preamble_more : Word → Bool
preamble_more words.And = true
preamble_more words.Has = true
preamble_more words.Owns = true
preamble_more words.May = true
preamble_more words.Include = true
preamble_more words.Ranked = true
preamble_more words.Then = true
preamble_more _ = false

abbrev pub continues_preamble : List Token → Bool
continues_preamble ts = begins comma ts || begins_among preamble_more ts

pub no_comma : (ts : List Token) → continues_preamble ts ≡ false → begins comma ts ≡ false
no_comma ts stop = (or_false (begins comma ts) (begins_among preamble_more ts) stop).0

pub over : (w : Word) → preamble_more w ≡ true → (ts : List Token) → continues_preamble ts ≡ false → begins (word w) ts ≡ false
over w held ts stop = no_word preamble_more w held ts (or_false (begins comma ts) (begins_among preamble_more ts) stop).1

pub over_list : (starts : List Token → Bool) (ts : List Token) → continues_preamble ts ≡ false → (begins_more starts ts || (continues_never ts || continues_never ts)) ≡ false
over_list starts ts stop = rw (no_comma ts stop, over words.And refl ts stop) refl

over_keys : (ts : List Token) → continues_preamble ts ≡ false → (begins_noisy (word words.Then) ts || (continues_never ts || continues_never ts)) ≡ false
over_keys ts stop =
    let none : begins_noisy (word words.Then) ts ≡ false = ap (begins (word words.Then)) (no_skip comma ts (no_comma ts stop)) ∙ over words.Then refl ts stop in
    rw none refl

module _ (k : ℕ) where
  -- ---- keys

  key_reads : Reads k key key Key_is continues_never
  unfolding key
  key_reads = apply_reads (seq_reads (word_in_reads k rank_of) (name_reads k) (λ n ts rest s stop. refl)) key_tree Key_is (λ p ts rest s. s) (λ x ts rest s. ((x.high, x.name), refl, s))

  key_less : (ts : List Token) (x : NamedKey) (rest : List Token) → Key_is x ts rest → length rest < length ts
  key_less ts x rest (a, (w, means, at), s) = omega (arith, token_less (kinds.Word w) ts a at, name_less a x.name rest s)

  then_rank_reads : Reads k then_rank then_rank (λ high. noisy words.Then ▷ Word_is words.By ▷ Word_for rank_of high) continues_never
  then_rank_reads = following_reads (noisy_mark_reads k (word words.Then) refl) (marked_reads (word words.By) (word_in_reads k rank_of)) (λ x ts rest s stop. refl)

  abbrev Then_key : NamedKey → Shape
  Then_key x = noisy words.Then ▷ Word_is words.By ▷ Key_is x

  then_reads : Reads k then_key then_key Then_key continues_never
  unfolding then_key
  then_reads = apply_reads (seq_reads then_rank_reads (name_reads k) (λ n ts rest s stop. refl)) key_tree Then_key to from
    where
      to : (p : Bool × List ℕ) (ts rest : List Token) → ((noisy words.Then ▷ Word_is words.By ▷ Word_for rank_of p.0) ▷ Name_is p.1) ts rest → Then_key (key_tree p) ts rest
      to p ts rest (c, (a, t, (b, by, r)), n) = (a, t, (b, by, (c, r, n)))

      from : (x : NamedKey) (ts rest : List Token) → Then_key x ts rest → (p : Bool × List ℕ) × (key_tree p ≡ x) × ((noisy words.Then ▷ Word_is words.By ▷ Word_for rank_of p.0) ▷ Name_is p.1) ts rest
      from x ts rest (a, t, (b, by, (c, r, n))) = ((x.high, x.name), refl, (c, (a, t, (b, by, r)), n))

  then_item : Item k (begins_noisy (word words.Then)) then_key then_key Then_key continues_never
  then_item = item_of (begins_noisy (word words.Then)) then_reads (λ ts x rest s. noisy_begins (word words.Then) refl ts s.0 s.1) (λ ts x rest s. omega (arith, noisy_less (word words.Then) ts s.0 s.1, token_less (kinds.Word words.By) s.0 s.2.0 s.2.1, key_less s.2.0 x rest s.2.2))

  pub keys_reads : Reads k keys keys Keys_are continues_preamble
  keys_reads = fewer_reads (first_and_reads key_reads then_item (λ ts x rest s. (refl, refl)) key_less) continues_preamble over_keys

  -- ---- how a set is ordered

  abbrev Ranked_parts : List NamedKey → Shape
  Ranked_parts ks = Word_is words.Ranked ▷ Word_is words.By ▷ Keys_are ks

  abbrev Ranking_is : OrderTree → Shape
  Ranking_is x = either_shape (Made ranked Ranked_parts x) (provided (fifo ≡ x) nothing)

  ranking_reads : Reads k ranking ranking Ranking_is continues_preamble
  ranking_reads = either_reads (item_made (word words.Ranked) (marked_reads (word words.By) keys_reads) ranked) (done_reads k fifo) continues_preamble (λ ts stop. (stop, refl)) (λ x ts rest s stop. ap (begins (word words.Ranked)) s.1 ∙ over words.Ranked refl rest stop)

  abbrev Set_parts : OrderTree → Shape
  Set_parts x = Word_is words.Set ▷ Ranking_is x

  abbrev Lifo_parts : OrderTree → Shape
  Lifo_parts x = either_shape (Made (λ (u : Unit {0}). lifo) (λ (u : Unit {0}). Word_is words.Lifo ▷ Word_is words.Set) x) (Set_parts x)

  abbrev Fifo_parts : OrderTree → Shape
  Fifo_parts x = either_shape (Made (λ (u : Unit {0}). fifo) (λ (u : Unit {0}). Word_is words.Fifo ▷ Word_is words.Set) x) (Lifo_parts x)

  pub order_reads : Reads k order order Order_is continues_preamble
  unfolding order
  order_reads =
      reshaped_reads (either_reads (item_made (word words.Fifo) (expect_reads k (word words.Set)) (λ u. fifo))
      (either_reads (item_made (word words.Lifo) (expect_reads k (word words.Set)) (λ u. lifo)) (marked_reads (word words.Set) ranking_reads) continues_preamble (λ ts stop. (refl, stop)) (λ x ts rest s stop. ap (begins (word words.Lifo)) s.1.2))
      continues_preamble (λ ts stop. (refl, stop)) late) Order_is to from
    where
      late : (x : OrderTree) (ts rest : List Token) → Lifo_parts x ts rest → continues_preamble rest ≡ false → begins (word words.Fifo) ts ≡ false
      late x ts rest (inl (u, is, (a, (span, line, e), s))) stop = ap (begins (word words.Fifo)) e
      late x ts rest (inr (a, (span, line, e), s)) stop = ap (begins (word words.Fifo)) e

      to : (x : OrderTree) (ts rest : List Token) → Fifo_parts x ts rest → Order_is x ts rest
      to x ts rest (inl (u, is, (a, f, s))) = subst (λ x. Order_is x ts rest) is (a, inr f, s)
      to x ts rest (inr (inl (u, is, s))) = subst (λ x. Order_is x ts rest) is s
      to x ts rest (inr (inr (a, s, inl (ks, is, t)))) = subst (λ x. Order_is x ts rest) is (a, s, t)
      to x ts rest (inr (inr (a, s, inr (is, e)))) = subst (λ x. Order_is x ts rest) is (ts, inl refl, subst (λ (r : List Token). Word_is words.Set ts r) e s)

      from : (x : OrderTree) (ts rest : List Token) → Order_is x ts rest → Fifo_parts x ts rest
      from fifo ts rest (a, inr f, s) = inl (tt, refl, (a, f, s))
      from fifo ts rest (a, inl e, s) = inr (inr (rest, subst (λ (r : List Token). Word_is words.Set r rest) (sym e) s, inr (refl, refl)))
      from lifo ts rest s = inr (inl (tt, refl, s))
      from (ranked ks) ts rest (a, s, t) = inr (inr (a, s, inl (ks, refl, t)))

  pub order_no_mode : (x : OrderTree) (ts rest : List Token) → Order_is x ts rest → (begins_by (in_table mode_of_word) ts ≡ false) × (begins_class alike.Article ts ≡ false)
  order_no_mode fifo ts rest (a, inl e, (span, line, f)) = (ap (begins_by (in_table mode_of_word)) (e ∙ f), ap (begins_class alike.Article) (e ∙ f))
  order_no_mode fifo ts rest (a, inr (span, line, f), s) = (ap (begins_by (in_table mode_of_word)) f, ap (begins_class alike.Article) f)
  order_no_mode _ ts rest s = (ap (begins_by (in_table mode_of_word)) s.1.2, ap (begins_class alike.Article) s.1.2)

-- ---- the loop over keys

pub keys_loop : Loop (begins_noisy (word words.Then)) then_key
keys_loop = loop_of (then_item 0) refl

-- a key after THEN BY, part by part
pub then_key_read : (ts a b : List Token) (high : Bool) (n : List ℕ) → then_rank ts ≡ Ok (high, a) → taken name_in_token a ≡ Ok (n, drop 1 a) → b ≡ drop 1 a → then_key ts ≡ Ok (record { high = high; name = n }, b)
unfolding then_key
then_key_read ts a b high n e f g = rw (e, f, g) refl

pub then_key_no_rank : (ts : List Token) (e : ParseFailure) → HasFailedReading e (then_rank ts) → HasFailedReading e (then_key ts)
unfolding then_key
then_key_no_rank ts failures.Memory f = tt
then_key_no_rank ts (failures.Refused d left) f = rw f refl

pub then_key_no_name : (ts a : List Token) (high : Bool) (e : ParseFailure) → then_rank ts ≡ Ok (high, a) → HasFailedReading e (taken name_in_token a) → HasFailedReading e (then_key ts)
unfolding then_key
then_key_no_name ts a high failures.Memory r f = tt
then_key_no_name ts a high (failures.Refused d left) r f = rw (r, f) refl
