-- What a record is once words of its block were written.
use Rattle.std.proofs.Common.{◌≡◌, ℕ, zero, suc, ◌+◌, ◌*◌, ◌≤◌, ◌<◌, Bool, true, false, cond, List, [], ◌∷◌, length, slice_get, slice_index_or, slice_set, Some, refl, sym, ap, subst, ◌∙◌, arith}
use Rattle.ss_records_entities.proofs.Common.{cast_signed, class_in_words, is_notice, kind_of, Layout, length-with_word, links_start, Mode, modes_of, number, plain, pos, Record, record_of, record_with_value, Value, value_of_words, values_end, values_from, with_time, with_word, Word, word_here, word_of, word_other, ℤ}
use mir.Syntax.{w64}

-- values that read the same words are the same
pub values_same : (ms : List Mode) (ws us : List Word) (k : ℕ) → ((j : ℕ) → k ≤ j → j < k + 2 * length ms → word_of us j ≡ word_of ws j) → values_from ms us k ≡ values_from ms ws k
values_same [] ws us k h = refl
values_same (m ∷ ms) ws us k h =
    let a : word_of us k ≡ word_of ws k = h k (omega arith) (omega arith) in
    let b : word_of us (k + 1) ≡ word_of ws (k + 1) = h (k + 1) (omega arith) (omega arith) in
    λ i. value_of_words m (plain (a i)) (plain (b i)) ∷ values_same ms ws us (k + 2) (λ j x y. h j (omega (arith, x)) (omega (arith, y))) i

abbrev time_of : Bool → List Word → ℕ → ℤ
time_of b ws n = cond b (cast_signed w64 (plain (word_of ws n))) (pos 0)

time_same : (b : Bool) (ws us : List Word) (n : ℕ) → ((k : ℕ) → k < n + cond b 1 0 → word_of us k ≡ word_of ws k) → time_of b us n ≡ time_of b ws n
time_same true ws us n h = ap (λ w. cast_signed w64 (plain w)) (h n (omega arith))
time_same false ws us n h = refl

-- a record by its class and its words
abbrev pub read_as : Layout → ℕ → List Word → Record
read_as l c ws = record { class = c; values = values_from (modes_of l c) ws 2; time = time_of (is_notice (kind_of l c)) ws (values_end l c) }

pub read_same : (l : Layout) (c : ℕ) (ws us : List Word) → ((k : ℕ) → k < links_start l c → word_of us k ≡ word_of ws k) → read_as l c us ≡ read_as l c ws
read_same l c ws us h =
    let values = values_same (modes_of l c) ws us 2 (λ j a b. h j (omega (arith, b))) in
    let time = time_same (is_notice (kind_of l c)) ws us (values_end l c) h in
    λ i. record { class = c; values = values i; time = time i }

pub record_same : (l : Layout) (ws us : List Word) → ((k : ℕ) → k < links_start l (class_in_words ws) → word_of us k ≡ word_of ws k) → record_of l us ≡ record_of l ws
record_same l ws us h = ap (λ c. read_as l c us) (ap plain (h 0 (omega arith))) ∙ read_same l (class_in_words ws) ws us h

-- where the words of the attribute f, and no others, have changed
pub values_changed : (ms : List Mode) (ws us : List Word) (k f : ℕ) (m : Mode) (v : Value) → slice_get ms f ≡ Some m → value_of_words m (plain (word_of us (k + 2 * f))) (plain (word_of us (k + 2 * f + 1))) ≡ v
    → ((j : ℕ) → (j ≡ k + 2 * f → ⊥) → (j ≡ k + 2 * f + 1 → ⊥) → word_of us j ≡ word_of ws j) → values_from ms us k ≡ slice_set (values_from ms ws k) f v
values_changed [] ws us k f m v g e o = cc
values_changed (n ∷ ms) ws us k zero m v g e o =
    let q : k ≡ k + 2 * 0 = omega arith in
    let same : n ≡ m = cc in
    let here : value_of_words n (plain (word_of us k)) (plain (word_of us (k + 1))) ≡ v = (λ i. value_of_words (same i) (plain (word_of us (q i))) (plain (word_of us (q i + 1)))) ∙ e in
    λ i. here i ∷ values_same ms ws us (k + 2) (λ j a b. o j (λ z. absurd (omega (arith, a, z))) (λ z. absurd (omega (arith, a, z)))) i
values_changed (n ∷ ms) ws us k (suc f) m v g e o =
    let q : k + 2 + 2 * f ≡ k + 2 * suc f = omega arith in
    let a : word_of us k ≡ word_of ws k = o k (λ z. absurd (omega (arith, z))) (λ z. absurd (omega (arith, z))) in
    let b : word_of us (k + 1) ≡ word_of ws (k + 1) = o (k + 1) (λ z. absurd (omega (arith, z))) (λ z. absurd (omega (arith, z))) in
    let d : value_of_words m (plain (word_of us (k + 2 + 2 * f))) (plain (word_of us (k + 2 + 2 * f + 1))) ≡ v = (λ i. value_of_words m (plain (word_of us (q i))) (plain (word_of us (q i + 1)))) ∙ e in
    λ i. value_of_words n (plain (a i)) (plain (b i)) ∷ values_changed ms ws us (k + 2) f m v g d (λ j x y. o j (λ z. x (z ∙ sym q)) (λ z. y (z ∙ ap (λ n. n + 1) (sym q)))) i

-- the words with numbers as the words k and k + 1
abbrev pub with_two : List Word → ℕ → ℕ → ℕ → List Word
with_two ws k a b = with_word (with_word ws k (number a)) (k + 1) (number b)

pub two_first : (ws : List Word) (k a b : ℕ) → k + 1 < length ws → word_of (with_two ws k a b) k ≡ number a
two_first ws k a b h = word_other (with_word ws k (number a)) (k + 1) (number b) k (λ z. absurd (omega (arith, z))) ∙ word_here ws k (number a) (omega (arith, h))

pub two_second : (ws : List Word) (k a b : ℕ) → k + 1 < length ws → word_of (with_two ws k a b) (k + 1) ≡ number b
two_second ws k a b h = word_here (with_word ws k (number a)) (k + 1) (number b) (subst (λ n. k + 1 < n) (sym (length-with_word ws k (number a))) h)

pub two_other : (ws : List Word) (k a b j : ℕ) → (j ≡ k → ⊥) → (j ≡ k + 1 → ⊥) → word_of (with_two ws k a b) j ≡ word_of ws j
two_other ws k a b j x y = word_other (with_word ws k (number a)) (k + 1) (number b) j (λ z. y (sym z)) ∙ word_other ws k (number a) j (λ z. x (sym z))

-- one value is written
pub record_value : (l : Layout) (c : ℕ) (ws : List Word) (f k a b : ℕ) (m : Mode) (v : Value) → k ≡ 2 + 2 * f → slice_get (modes_of l c) f ≡ Some m → value_of_words m a b ≡ v → k + 1 < length ws → f < length (modes_of l c)
    → read_as l c (with_two ws k a b) ≡ record_with_value (read_as l c ws) f v
record_value l c ws f k a b m v s g e h inside =
    let us : List Word = with_two ws k a b in
    let x : word_of us k ≡ number a = two_first ws k a b h in
    let y : word_of us (k + 1) ≡ number b = two_second ws k a b h in
    let here : value_of_words m (plain (word_of us (2 + 2 * f))) (plain (word_of us (2 + 2 * f + 1))) ≡ v = (λ i. value_of_words m (plain (word_of us (sym s i))) (plain (word_of us (sym s i + 1)))) ∙ (λ i. value_of_words m (plain (x i)) (plain (y i))) ∙ e in
    let values = values_changed (modes_of l c) ws us 2 f m v g here (λ j p q. two_other ws k a b j (λ z. p (z ∙ s)) (λ z. q (z ∙ ap (λ n. n + 1) s))) in
    let other : word_of us (values_end l c) ≡ word_of ws (values_end l c) = two_other ws k a b (values_end l c) (λ z. absurd (omega (arith, z, s, inside))) (λ z. absurd (omega (arith, z, s, inside))) in
    λ i. record { class = c; values = values i; time = cond (is_notice (kind_of l c)) (cast_signed w64 (plain (other i))) (pos 0) }

-- the time is written
pub record_time : (l : Layout) (c : ℕ) (ws : List Word) (w : ℕ) (t : ℤ) → is_notice (kind_of l c) ≡ true → cast_signed w64 w ≡ t → values_end l c < length ws
    → read_as l c (with_word ws (values_end l c) (number w)) ≡ with_time (read_as l c ws) t
record_time l c ws w t n e h =
    let values = values_same (modes_of l c) ws (with_word ws (values_end l c) (number w)) 2 (λ j a b. word_other ws (values_end l c) (number w) j (λ z. absurd (omega (arith, z, b)))) in
    let time : time_of (is_notice (kind_of l c)) (with_word ws (values_end l c) (number w)) (values_end l c) ≡ t = rw n (ap (λ u. cast_signed w64 (plain u)) (word_here ws (values_end l c) (number w) h) ∙ e) in
    λ i. record { class = c; values = values i; time = time i }

-- the value of the attribute f
pub value_read : (ms : List Mode) (ws : List Word) (k f : ℕ) (m : Mode) (v : Value) → slice_get ms f ≡ Some m → slice_index_or (values_from ms ws k) f v ≡ value_of_words m (plain (word_of ws (k + 2 * f))) (plain (word_of ws (k + 2 * f + 1)))
value_read [] ws k f m v g = cc
value_read (n ∷ ms) ws k zero m v g = let same : n ≡ m = cc in let q : k ≡ k + 2 * 0 = omega arith in λ i. value_of_words (same i) (plain (word_of ws (q i))) (plain (word_of ws (q i + 1)))
value_read (n ∷ ms) ws k (suc f) m v g =
    let q : k + 2 + 2 * f ≡ k + 2 * suc f = omega arith in
    value_read ms ws (k + 2) f m v g ∙ (λ i. value_of_words m (plain (word_of ws (q i))) (plain (word_of ws (q i + 1))))
