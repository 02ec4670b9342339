-- Pure facts about the blocks.
use Rattle.std.proofs.Common.{◌≡◌, ℕ, zero, suc, ◌<◌, true, false, ◌&&◌, ◌==◌, cond, List, [], ◌∷◌, length, refl, ap, subst, arith}
use Rattle.std.proofs.lemmas.Bool.{and_parts}
use denote.RawPtr.{Ptr, block_ptr, null_ptr}
use Rattle.ss_records_blocks.proofs.Same.{same, equal}
use Rattle.ss_records_blocks.specs.Cells.{Word, blank, number, counter, link, Cells, same_ptr, words_at, word_of, with_word, put_word, word_at, IsNumber, IsCounter, IsLink}

pub same_ptr_refl : (p : Ptr) → same_ptr p p ≡ true
same_ptr_refl (block_ptr b o) = λ i. same b i && same o i
same_ptr_refl null_ptr = refl

pub same_ptr_eq : (p q : Ptr) → same_ptr p q ≡ true → p ≡ q
same_ptr_eq (block_ptr b o) (block_ptr c p) e = let t = and_parts (b == c) (o == p) e in λ i. block_ptr (equal b c t.0 i) (equal o p t.1 i)
same_ptr_eq (block_ptr b o) null_ptr e = cc
same_ptr_eq null_ptr (block_ptr c p) e = cc
same_ptr_eq null_ptr null_ptr e = refl

pub length-with_word : (ws : List Word) (k : ℕ) (x : Word) → length (with_word ws k x) ≡ length ws
length-with_word [] k x = refl
length-with_word (w ∷ ws) zero x = refl
length-with_word (w ∷ ws) (suc k) x = ap suc (length-with_word ws k x)

pub with_word_same : (ws : List Word) (k : ℕ) → with_word ws k (word_of ws k) ≡ ws
with_word_same [] k = refl
with_word_same (w ∷ ws) zero = refl
with_word_same (w ∷ ws) (suc k) = ap (λ us. w ∷ us) (with_word_same ws k)

pub put_same : (cs : Cells) (p : Ptr) (k : ℕ) → put_word cs p k (word_at cs p k) ≡ cs
put_same [] p k = refl
put_same (c ∷ cs) p k = elim (same_ptr c.0 p) as (λ y. cond y ((c.0, with_word c.1 k (word_of (cond y c.1 (words_at cs p)) k)) ∷ cs) (c ∷ put_word cs p k (word_of (cond y c.1 (words_at cs p)) k)) ≡ c ∷ cs) [
  | true ↦ ap (λ us. (c.0, us) ∷ cs) (with_word_same c.1 k)
  | false ↦ ap (λ ds. c ∷ ds) (put_same cs p k)
]

-- a word that can be read is in the block
word_inside : (P : Word → Type 0) → (P blank → ⊥) → (ws : List Word) (k : ℕ) → P (word_of ws k) → k < length ws
word_inside P none [] k h = absurd (none h)
word_inside P none (w ∷ ws) zero h = omega arith
word_inside P none (w ∷ ws) (suc k) h = omega (arith, word_inside P none ws k h)

pub number_inside : (ws : List Word) (k : ℕ) → IsNumber (word_of ws k) → k < length ws
number_inside = word_inside IsNumber (λ h. h)

pub link_inside : (ws : List Word) (k : ℕ) → IsLink (word_of ws k) → k < length ws
link_inside = word_inside IsLink (λ h. h)

pub counter_inside : (ws : List Word) (k : ℕ) → IsCounter (word_of ws k) → k < length ws
counter_inside = word_inside IsCounter (λ h. h)

pub is_number : (w : Word) → IsNumber w → (n : ℕ) × (w ≡ number n)
is_number blank h = absurd h
is_number (number n) h = (n, refl)
is_number (counter n) h = absurd h
is_number (link q) h = absurd h

pub is_counter : (w : Word) → IsCounter w → (n : ℕ) × (w ≡ counter n)
is_counter blank h = absurd h
is_counter (number n) h = absurd h
is_counter (counter n) h = (n, refl)
is_counter (link q) h = absurd h

pub is_link : (w : Word) → IsLink w → (q : Ptr) × (w ≡ link q)
is_link blank h = absurd h
is_link (number n) h = absurd h
is_link (counter n) h = absurd h
is_link (link q) h = (q, refl)

-- a word that is read is put back as it was
pub put_seen : (cs : Cells) (p : Ptr) (k : ℕ) (w : Word) → word_at cs p k ≡ w → put_word cs p k w ≡ cs
put_seen cs p k w e = subst (λ (x : Word). put_word cs p k x ≡ cs) e (put_same cs p k)
