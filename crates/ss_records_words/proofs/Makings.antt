-- The blocks of the permanent entities of a class, which lie together.
use Rattle.std.proofs.Common.{◌≡◌, ℕ, suc, ◌+◌, ◌≤◌, List, length, slice_get, Some, sym, ap, subst, ◌∙◌, arith}
use Rattle.std.proofs.lemmas.Option.{same_Some}
use denote.RawPtr.{Ptr}
use Rattle.ss_records_words.proofs.Common.{block_words, BlockPlace, by_same, Cells, Class, Layout, words_at}
use Rattle.ss_records_words.specs.Laid.{IsLaid, IsBorn, AreLaidTo}
use Rattle.ss_records_blocks.proofs.Placings.{AreApart}

-- a new block that stays as it was
born_same : (l : Layout) (ds es : Cells) (end p : Ptr) (c n : ℕ) → words_at es p ≡ words_at ds p → IsBorn l ds end p c n → IsBorn l es end p c n
born_same l ds es end p c n e b = record {
  size = rw e b.size;
  its_class = rw e b.its_class;
  its_number = rw e b.its_number;
  values = λ k x y. rw e (b.values k x y);
  links = λ k x y. rw e (b.links k x y);
  owned = λ k x y. rw e (b.owned k x y);
}

pub laid_more : (l : Layout) (cs ds es : Cells) (end : Ptr) (ps : List BlockPlace) (c n : ℕ) (p : BlockPlace) → slice_get ps n ≡ Some p → AreApart ps → length (words_at ds p.at) ≡ block_words l (Class c) → AreLaidTo l cs ds end ps c n → IsLaid l ds es end p.at c (n + 1) → AreLaidTo l cs es end ps c (n + 1)
laid_more l cs ds es end ps c n p g apart size b laid = record {
  laid = λ i q h k. by_same i n
      (λ t z. let same : q ≡ p = cc_place i q h z in subst (λ (r : BlockPlace). IsBorn l es end r.at c (suc i)) (sym same) (subst (λ j. IsBorn l es end p.at c j) (next i z) born))
      (λ t z. born_same l ds es end q.at c (suc i) (laid.written.others q.at (λ y. z (sym (apart n i p q g h y)))) (b.laid i q h (omega (arith, k, z))));
  rest = λ i q h k. laid.written.others q.at (λ y. past n i k (apart n i p q g h y)) ∙ b.rest i q h (omega (arith, k));
  others = λ q h. laid.written.others q (λ z. h n p g z) ∙ b.others q h;
  count = laid.written.count ∙ b.count;
} where
  past : (x y : ℕ) → x + 1 ≤ y → x ≡ y → ⊥
  past x y h e = omega (arith, h, e)

  next : (i : ℕ) → i ≡ n → n + 1 ≡ suc i
  next i z = omega (arith, z)

  cc_place : (i : ℕ) (q : BlockPlace) → slice_get ps i ≡ Some q → i ≡ n → q ≡ p
  cc_place i q h z = same_Some q p (sym h ∙ ap (slice_get ps) z ∙ g)

  born : IsBorn l es end p.at c (n + 1)
  born = record { size = laid.written.size ∙ size; its_class = laid.its_class; its_number = laid.its_number; values = laid.values; links = laid.links; owned = laid.owned }
