-- Filling the words of a block.
use Rattle.std.proofs.Common.{◌≡◌, ℕ, zero, suc, ◌+◌, ◌-◌, ◌*◌, ◌<◌, ◌≤◌, length, refl, sym, ap, subst, ◌∙◌, arith}
use denote.RawPtr.{Ptr}
use Rattle.ss_records_blocks.specs.Cells.{Word, blank, number, counter, link, Cells, MayBeNumber, words_at, word_of, word_at, with_word, put_word}
use Rattle.ss_records_blocks.specs.Writes.{IsFilled, head_word, owned_word, owned_from}
use Rattle.ss_records_blocks.proofs.Same.{by_same}
use Rattle.ss_records_blocks.proofs.Puts.{word_other, word_here, words_written, written_put, written_twice, length_put}

pub filled_none : (cs : Cells) (p : Ptr) (from : ℕ) (f : ℕ → Word) → IsFilled cs cs p from from f
filled_none cs p from f = record {
  written = record { others = λ q n. refl; size = refl; count = refl };
  inside = λ k a b. absurd (omega (arith, a, b));
  below = λ k a. refl;
  above = λ k a. refl;
}

word_put : (cs : Cells) (p : Ptr) (k : ℕ) (w : Word) (j : ℕ) → word_at (put_word cs p k w) p j ≡ word_of (with_word (words_at cs p) k w) j
word_put cs p k w j = ap (λ us. word_of us j) (words_written cs p k w)

-- one more word
pub filled_put : (cs ds : Cells) (p : Ptr) (from k next : ℕ) (f : ℕ → Word) (w : Word) → IsFilled cs ds p from k f → from ≤ k → k < length (words_at cs p) → w ≡ f k → next ≡ k + 1 → IsFilled cs (put_word ds p k w) p from next f
filled_put cs ds p from k next f w h low room e n = record {
  written = written_twice cs ds (put_word ds p k w) p h.written (written_put ds p k w);
  inside = λ j a b. by_same k j
      (λ z q. word_put ds p k w j ∙ subst (λ i. word_of (with_word (words_at ds p) k w) i ≡ f i) q (word_here (words_at ds p) k w (subst (λ m. k < m) (sym h.written.size) room) ∙ e))
      (λ z q. word_put ds p k w j ∙ word_other (words_at ds p) k w j q ∙ h.inside j a (omega (arith, b, n, q)));
  below = λ j a. word_put ds p k w j ∙ word_other (words_at ds p) k w j (λ q. absurd (omega (arith, q, a, low))) ∙ h.below j a;
  above = λ j a. word_put ds p k w j ∙ word_other (words_at ds p) k w j (λ q. absurd (omega (arith, q, a, n))) ∙ h.above j (omega (arith, a, n));
}

-- the three words of an owned set
pub owned_first : (end : Ptr) (i : ℕ) → owned_word end (3 * i) ≡ link end
owned_first end zero = refl
owned_first end (suc i) = let q : 3 * suc i ≡ suc (suc (suc (3 * i))) = omega arith in rw q (owned_first end i)

pub owned_last : (end : Ptr) (i : ℕ) → owned_word end (3 * i + 1) ≡ link end
owned_last end zero = refl
owned_last end (suc i) = let q : 3 * suc i + 1 ≡ suc (suc (suc (3 * i + 1))) = omega arith in rw q (owned_last end i)

pub owned_count : (end : Ptr) (i : ℕ) → owned_word end (3 * i + 2) ≡ counter 0
owned_count end zero = refl
owned_count end (suc i) = let q : 3 * suc i + 2 ≡ suc (suc (suc (3 * i + 2))) = omega arith in rw q (owned_count end i)

-- what an owned set has in its three words
pub owned_here : (end : Ptr) (from i : ℕ) → (link end ≡ owned_from end from (from + 3 * i)) × (link end ≡ owned_from end from (from + 3 * i + 1)) × (counter 0 ≡ owned_from end from (from + 3 * i + 2))
owned_here end from i =
    let at0 : from + 3 * i - from ≡ 3 * i = omega arith in let at : (j : ℕ) → from + 3 * i + j - from ≡ 3 * i + j = λ j. omega arith in
    (sym (ap (owned_word end) at0 ∙ owned_first end i), sym (ap (owned_word end) (at 1) ∙ owned_last end i), sym (ap (owned_word end) (at 2) ∙ owned_count end i))

-- the three words of a set
module _ (cs ds : Cells) (p : Ptr) (from i : ℕ) (f : ℕ → Word) (h : IsFilled cs ds p from (from + 3 * i) f) (room : from + 3 * i + 2 < length (words_at cs p)) (u : Word) (e : u ≡ f (from + 3 * i)) where
  abbrev es : Cells
  es = put_word ds p (from + 3 * i) u

  pub one_more : IsFilled cs es p from (from + 3 * i + 1) f
  one_more = filled_put cs ds p from (from + 3 * i) (from + 3 * i + 1) f u h (omega arith) (omega (arith, room)) e refl

  module _ (v : Word) (d : v ≡ f (from + 3 * i + 1)) where
    pub two_more : IsFilled cs (put_word es p (from + 3 * i + 1) v) p from (from + 3 * i + 2) f
    two_more = filled_put cs es p from (from + 3 * i + 1) (from + 3 * i + 2) f v one_more (omega arith) (omega (arith, room)) d (omega arith)

    pub three_more : (w : Word) → w ≡ f (from + 3 * i + 2) → IsFilled cs (put_word (put_word es p (from + 3 * i + 1) v) p (from + 3 * i + 2) w) p from (from + 3 * (i + 1)) f
    three_more w b = filled_put cs (put_word es p (from + 3 * i + 1) v) p from (from + 3 * i + 2) (from + 3 * (i + 1)) f w two_more (omega arith) room b (omega arith)

-- a word that is still blank may be written
pub may_be : (P : Word → Type 0) → P blank → {cs ds : Cells} {p : Ptr} {from k : ℕ} {f : ℕ → Word} → IsFilled cs ds p from k f → k < length (words_at cs p) → word_at cs p k ≡ blank → (k < length (words_at ds p)) × P (word_at ds p k)
may_be P b {k = k} h room e = (omega (arith, h.written.size, room), subst P (sym (h.above k (omega arith) ∙ e)) b)

pub head_room1 : (cs : Cells) (p : Ptr) (w : Word) → 2 ≤ length (words_at cs p) → ((k : ℕ) → word_at cs p k ≡ blank) → (1 < length (words_at (put_word cs p 0 w) p)) × MayBeNumber (word_at (put_word cs p 0 w) p 1)
head_room1 cs p w room b = (omega (arith, room, length_put cs p 0 w p), subst MayBeNumber (sym (word_put cs p 0 w 1 ∙ word_other (words_at cs p) 0 w 1 (λ e. absurd (omega (arith, e))) ∙ b 1)) tt)

pub head_filled : (cs : Cells) (p : Ptr) (c n : ℕ) → 2 ≤ length (words_at cs p) → IsFilled cs (put_word (put_word cs p 0 (number c)) p 1 (number n)) p 0 2 (head_word c n)
head_filled cs p c n room =
    filled_put cs (put_word cs p 0 (number c)) p 0 1 2 (head_word c n) (number n) (filled_put cs cs p 0 0 1 (head_word c n) (number c) (filled_none cs p 0 (head_word c n)) (omega arith) (omega (arith, room)) refl (omega arith)) (omega arith) (omega (arith, room)) refl (omega arith)

-- one word first, and then those after it
module _ (cs : Cells) (p : Ptr) (from to : ℕ) (w : Word) where
  pub first_room : to ≤ length (words_at cs p) → to ≤ length (words_at (put_word cs p from w) p)
  first_room room = omega (arith, room, length_put cs p from w p)

  pub first_blank : ((k : ℕ) → from ≤ k → k < to → word_at cs p k ≡ blank) → (k : ℕ) → from + 1 ≤ k → k < to → word_at (put_word cs p from w) p k ≡ blank
  first_blank b k x y = word_put cs p from w k ∙ word_other (words_at cs p) from w k (λ e. absurd (omega (arith, e, x))) ∙ b k (omega (arith, x)) y

  pub filled_first : (ds : Cells) (f : ℕ → Word) → w ≡ f from → from < to → to ≤ length (words_at cs p) → IsFilled (put_word cs p from w) ds p (from + 1) to f → IsFilled cs ds p from to f
  filled_first ds f e low room h =
      let one = filled_put cs cs p from from (from + 1) f w (filled_none cs p from f) (omega arith) (omega (arith, low, room)) e refl in
      record {
        written = written_twice cs (put_word cs p from w) ds p one.written h.written;
        inside = λ j a b. by_same from j
            (λ z q. h.below j (omega (arith, q)) ∙ one.inside j a (omega (arith, q)))
            (λ z q. h.inside j (below_next from j a q) b);
        below = λ j a. h.below j (omega (arith, a)) ∙ one.below j a;
        above = λ j a. h.above j a ∙ one.above j (omega (arith, a, low));
      } where
        below_next : (m n : ℕ) → m ≤ n → (m ≡ n → ⊥) → m + 1 ≤ n
        below_next m n a q = omega (arith, a, q)
