-- A word that is a number, a link or a count is there, and stays one.
use Rattle.std.proofs.Common.{◌≡◌, ℕ, ◌+◌, ◌<◌, length, sym, subst, ap, ◌∙◌, arith}
use denote.RawPtr.{Ptr}
use Rattle.ss_records_blocks.specs.Cells.{Word, link, Cells, IsNumber, IsLink, IsCounter, MayBeNumber, MayBeLink, MayBeCounter, words_at, word_of, word_at, put_word}
use Rattle.ss_records_blocks.proofs.Numbers.{number_inside, link_inside, counter_inside, is_number, is_link, is_counter}
use Rattle.ss_records_blocks.proofs.Same.{by_same}
use Rattle.ss_records_blocks.proofs.Puts.{by_ptr, put_other, word_here, words_written}

pub number_may : (w : Word) → IsNumber w → MayBeNumber w
number_may w h = subst MayBeNumber (sym (is_number w h).1) tt

link_may : (w : Word) → IsLink w → MayBeLink w
link_may w h = subst MayBeLink (sym (is_link w h).1) tt

counter_may : (w : Word) → IsCounter w → MayBeCounter w
counter_may w h = subst MayBeCounter (sym (is_counter w h).1) tt

pub may_number : (cs : Cells) (p : Ptr) (k : ℕ) → IsNumber (word_at cs p k) → (k < length (words_at cs p)) × MayBeNumber (word_at cs p k)
may_number cs p k h = (number_inside (words_at cs p) k h, number_may (word_at cs p k) h)

-- also once the word before it was written
pub may_next : (cs : Cells) (p : Ptr) (k : ℕ) (w : Word) → IsNumber (word_at cs p (k + 1)) → (k + 1 < length (words_at (put_word cs p k w) p)) × MayBeNumber (word_at (put_word cs p k w) p (k + 1))
may_next cs p k w h = may_number (put_word cs p k w) p (k + 1) (subst IsNumber (sym (put_other cs p k w p (k + 1) (λ _ e. absurd (omega (arith, e))))) h)

pub may_link : (cs : Cells) (p : Ptr) (k : ℕ) → IsLink (word_at cs p k) → (k < length (words_at cs p)) × MayBeLink (word_at cs p k)
may_link cs p k h = (link_inside (words_at cs p) k h, link_may (word_at cs p k) h)

pub may_count : (cs : Cells) (p : Ptr) (k : ℕ) → IsCounter (word_at cs p k) → (k < length (words_at cs p)) × MayBeCounter (word_at cs p k)
may_count cs p k h = (counter_inside (words_at cs p) k h, counter_may (word_at cs p k) h)

not_both : (w : Word) → IsLink w → IsCounter w → ⊥
not_both w h k = subst IsCounter (is_link w h).1 k

module _ (cs : Cells) (p : Ptr) (k : ℕ) (to : Ptr) (h : IsLink (word_at cs p k)) where
  abbrev ds : Cells
  ds = put_word cs p k (link to)

  here : word_at ds p k ≡ link to
  here = ap (λ us. word_of us k) (words_written cs p k (link to)) ∙ word_here (words_at cs p) k (link to) (link_inside (words_at cs p) k h)

  by_place : {P : Type 0} (q : Ptr) (j : ℕ) → (p ≡ q → k ≡ j → P) → (word_at ds q j ≡ word_at cs q j → P) → P
  by_place q j same other = by_ptr p q
      (λ e i. by_same k j (λ f m. same i m) (λ f n. other (put_other cs p k (link to) q j (λ _ m. n m))))
      (λ e n. other (put_other cs p k (link to) q j (λ m _. n m)))

  pub still_link : (q : Ptr) (j : ℕ) → IsLink (word_at cs q j) → IsLink (word_at ds q j)
  still_link q j w = by_place {P = IsLink (word_at ds q j)} q j
      (λ i m. subst (λ r. IsLink (word_at ds r j)) i (subst (λ n. IsLink (word_at ds p n)) m (subst IsLink (sym here) tt)))
      (λ e. subst IsLink (sym e) w)

  pub still_counter : (q : Ptr) (j : ℕ) → IsCounter (word_at cs q j) → IsCounter (word_at ds q j)
  still_counter q j w = by_place {P = IsCounter (word_at ds q j)} q j
      (λ i m. absurd (not_both (word_at cs q j) (subst (λ r. IsLink (word_at cs r j)) i (subst (λ n. IsLink (word_at cs p n)) m h)) w))
      (λ e. subst IsCounter (sym e) w)
