-- What a word is once another was written.
use Rattle.std.proofs.Common.{◌≡◌, ℕ, zero, suc, ◌<◌, true, false, cond, ◌==◌, List, [], ◌∷◌, length, refl, sym, ap, subst, ◌∙◌, arith}
use denote.RawPtr.{Ptr}
use Rattle.ss_records_blocks.specs.Cells.{Word, blank, Cells, same_ptr, words_at, word_of, with_word, word_at, put_word, without_block, blanks}
use Rattle.ss_records_blocks.specs.Writes.{IsWrittenAt}
use Rattle.ss_records_blocks.proofs.Numbers.{same_ptr_eq, same_ptr_refl, length-with_word}
use Rattle.ss_records_blocks.proofs.Same.{by_same, false_is_not_true}
use Rattle.ss_records_blocks.proofs.Count.{blocks_put}

pub by_ptr : {P : Type 0} (p q : Ptr) → (same_ptr p q ≡ true → p ≡ q → P) → (same_ptr p q ≡ false → (p ≡ q → ⊥) → P) → P
by_ptr {P} p q here there = (elim (same_ptr p q) as (λ b. same_ptr p q ≡ b → P) [ true ↦ λ e. here e (same_ptr_eq p q e) | false ↦ λ e. there e (λ i. false_is_not_true (sym e ∙ subst (λ r. same_ptr p r ≡ true) i (same_ptr_refl p))) ]) refl

pub ptr_differs : (p q : Ptr) → (p ≡ q → ⊥) → same_ptr p q ≡ false
ptr_differs p q h = by_ptr p q (λ e i. absurd (h i)) (λ e n. e)

pub words_put : (cs : Cells) (p : Ptr) (k : ℕ) (w : Word) (q : Ptr) → words_at (put_word cs p k w) q ≡ cond (same_ptr p q) (with_word (words_at cs q) k w) (words_at cs q)
words_put [] p k w q = let none : List Word = [] in elim (same_ptr p q) as (λ t. none ≡ cond t none none) [ true ↦ refl | false ↦ refl ]
words_put (c ∷ cs) p k w q = by_ptr c.0 p
    (λ e i. rw e (subst (λ r. cond (same_ptr c.0 q) (with_word c.1 k w) (words_at cs q) ≡ cond (same_ptr r q) (with_word (cond (same_ptr c.0 q) c.1 (words_at cs q)) k w) (cond (same_ptr c.0 q) c.1 (words_at cs q))) i
    (elim (same_ptr c.0 q) as (λ t. cond t (with_word c.1 k w) (words_at cs q) ≡ cond t (with_word (cond t c.1 (words_at cs q)) k w) (cond t c.1 (words_at cs q))) [ true ↦ refl | false ↦ refl ])))
    (λ e n. rw e (by_ptr c.0 q
    (λ e' i'. rw (e', ptr_differs p q (λ j. n (i' ∙ sym j))) refl)
    (λ e' n'. rw e' (words_put cs p k w q))))

pub length_put : (cs : Cells) (p : Ptr) (k : ℕ) (w : Word) (q : Ptr) → length (words_at (put_word cs p k w) q) ≡ length (words_at cs q)
length_put cs p k w q = rw (words_put cs p k w q) ((elim (same_ptr p q) as (λ t. length (cond t (with_word (words_at cs q) k w) (words_at cs q)) ≡ length (words_at cs q)) [ true ↦ length-with_word (words_at cs q) k w | false ↦ refl ]))

pub word_here : (ws : List Word) (k : ℕ) (x : Word) → k < length ws → word_of (with_word ws k x) k ≡ x
word_here [] k x h = absurd (omega (arith, h))
word_here (w ∷ ws) zero x h = refl
word_here (w ∷ ws) (suc k) x h = word_here ws k x (omega (arith, h))

pub word_other : (ws : List Word) (k : ℕ) (x : Word) (j : ℕ) → (k ≡ j → ⊥) → word_of (with_word ws k x) j ≡ word_of ws j
word_other [] k x j n = refl
word_other (w ∷ ws) zero x zero n = absurd (n refl)
word_other (w ∷ ws) zero x (suc j) n = refl
word_other (w ∷ ws) (suc k) x zero n = refl
word_other (w ∷ ws) (suc k) x (suc j) n = word_other ws k x j (λ e. n (ap suc e))

pub word_with : (ws : List Word) (k : ℕ) (w : Word) (j : ℕ) → k < length ws → word_of (with_word ws k w) j ≡ cond (k == j) w (word_of ws j)
word_with ws k w j h = by_same k j
    (λ e i. rw e (subst (λ m. word_of (with_word ws k w) m ≡ w) i (word_here ws k w h)))
    (λ e n. rw e (word_other ws k w j n))

pub put_other : (cs : Cells) (p : Ptr) (k : ℕ) (x : Word) (q : Ptr) (j : ℕ) → (p ≡ q → k ≡ j → ⊥) → word_at (put_word cs p k x) q j ≡ word_at cs q j
put_other cs p k x q j n = rw (words_put cs p k x q) (by_ptr p q (λ e i. rw e (word_other (words_at cs q) k x j (n i))) (λ e m. rw e refl))

-- a write at p leaves the other blocks
pub written_put : (cs : Cells) (p : Ptr) (k : ℕ) (w : Word) → IsWrittenAt cs (put_word cs p k w) p
written_put cs p k w = record { others = λ q n. rw (words_put cs p k w q, ptr_differs p q n) refl; size = length_put cs p k w p; count = blocks_put cs p k w }

pub written_twice : (cs ds es : Cells) (p : Ptr) → IsWrittenAt cs ds p → IsWrittenAt ds es p → IsWrittenAt cs es p
written_twice cs ds es p a b = record { others = λ q n. b.others q n ∙ a.others q n; size = b.size ∙ a.size; count = b.count ∙ a.count }

pub words_written : (cs : Cells) (p : Ptr) (k : ℕ) (w : Word) → words_at (put_word cs p k w) p ≡ with_word (words_at cs p) k w
words_written cs p k w = rw (words_put cs p k w p, same_ptr_refl p) refl

pub words_without : (cs : Cells) (p q : Ptr) → (p ≡ q → ⊥) → words_at (without_block cs p) q ≡ words_at cs q
words_without [] p q n = refl
words_without (c ∷ cs) p q n = by_ptr c.0 p
    (λ e i. rw (e, ptr_differs c.0 q (λ j. n (sym i ∙ j))) refl)
    (λ e m. rw e (elim (same_ptr c.0 q) as (λ t. cond t c.1 (words_at (without_block cs p) q) ≡ cond t c.1 (words_at cs q)) [ true ↦ refl | false ↦ words_without cs p q n ]))

pub words_new : (cs : Cells) (p : Ptr) (ws : List Word) → words_at ((p, ws) ∷ cs) p ≡ ws
words_new cs p ws = rw (same_ptr_refl p) refl

pub words_old : (cs : Cells) (p q : Ptr) (ws : List Word) → (p ≡ q → ⊥) → words_at ((p, ws) ∷ cs) q ≡ words_at cs q
words_old cs p q ws n = rw (ptr_differs p q n) refl

-- blank words
pub word_blank : (n k : ℕ) → word_of (blanks n) k ≡ blank
word_blank zero k = refl
word_blank (suc n) zero = refl
word_blank (suc n) (suc k) = word_blank n k

pub length-blanks : (n : ℕ) → length (blanks n) ≡ n
length-blanks zero = refl
length-blanks (suc n) = ap suc (length-blanks n)
