-- The bytes that a read over memory gives.
use Rattle.std.proofs.Common.{◌≡◌, ℕ, ◌+◌, ◌≤◌, ◌<◌, min, List, [], ◌∷◌, ◌++◌, length, take, drop, refl, sym, ◌∙◌, ap, arith, length-append, length-drop}
use Rattle.std.proofs.lemmas.List.{take-append-drop, length-take-le, drop-drop}
use Rattle.std.proofs.Math.Seq.{take-append_seam}

-- the part of the rest that is copied into a buffer, and what is left after it, are the whole rest
pub given : (xs items rest copied tail : List ℕ) (at count : ℕ) → xs ≡ drop at items → rest ≡ drop at items → copied ≡ take count rest → count ≤ length rest → xs ≡ take count (copied ++ tail) ++ drop (at + count) items
given xs items rest copied tail at count is whole same within =
    let long : length copied ≡ count = ap length same ∙ length-take-le count rest within in
    let front : take count (copied ++ tail) ≡ take count (drop at items) =
    ap (λ n. take n (copied ++ tail)) (sym long) ∙ take-append_seam copied tail ∙ same ∙ ap (take count) whole in
    is ∙ sym (take-append-drop count (drop at items)) ∙ ap (λ ys. ys ++ drop count (drop at items)) (sym front)
    ∙ ap (λ ys. take count (copied ++ tail) ++ ys) (drop-drop count at items)

length-nil : (xs : List ℕ) → length xs ≡ 0 → xs ≡ []
length-nil [] h = refl
length-nil (x ∷ xs) h = absurd (omega arith)

-- where no byte was given into some room, none was left
pub none_left : (items rest copied buf : List ℕ) (at count could : ℕ) → rest ≡ drop at items → copied ≡ take count rest → could ≡ min (length rest) (length buf) → count ≤ could → (count ≡ 0 → could ≡ 0) → count ≡ 0 → 0 < length (copied ++ drop count buf) → drop (at + count) items ≡ []
none_left items rest copied buf at count could whole same both within none e some =
    let none_could : could ≡ 0 = none e in
    let long : length copied ≡ count = ap length same ∙ length-take-le count rest (omega (arith, both, within)) in
    let room : 0 < length buf = omega (arith, length-append copied (drop count buf), length-drop count buf, long, e, some) in
    let empty : length rest ≡ 0 = omega (arith, both, none_could, room) in
    let same_place : at + count ≡ at = omega arith in
    ap (λ n. drop n items) same_place ∙ sym whole ∙ length-nil rest empty
