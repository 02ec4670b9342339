-- Spellings and the zeros that fill their room.
use Rattle.std.proofs.Common.{◌≡◌, ℕ, suc, ◌+◌, ◌-◌, List, ◌∷◌, ◌++◌, length, take, drop, replicate, refl, sym, ap, ◌∙◌, arith}
use Rattle.std.proofs.lemmas.List.{take_at, drop-replicate}
use Rattle.ss_base.specs.Spellings.{padded_spelling, IsSpellingRoom}

-- the room that these bytes and zeros fill
pub taken : (bytes room : List ℕ) → room ≡ padded_spelling bytes → take (length bytes) room ≡ bytes
taken bytes room e = ap (take (length bytes)) e ∙ take_at bytes (replicate (34 - length bytes) 0) (length bytes) refl

pub is_room : (bytes room : List ℕ) → room ≡ padded_spelling bytes → IsSpellingRoom room (length bytes)
is_room bytes room e =
    let kept = taken bytes room e in
    record { counted = ap length kept; zeros = ap padded_spelling kept ∙ sym e }

-- bytes copied over zeros have zeros after them
pub fills_room : (bytes copied : List ℕ) → copied ≡ bytes → copied ++ drop (length bytes) (replicate 34 0) ≡ padded_spelling bytes
fills_room bytes copied same = rw (same, drop-replicate {X = ℕ} (length bytes) 34 0) refl

-- a letter, a period and bytes have zeros after them
pub derived_fills_room : (letter : ℕ) (bytes copied : List ℕ) (n : ℕ) → n ≡ length bytes → copied ≡ bytes → letter ∷ 46 ∷ (copied ++ drop n (replicate 32 0)) ≡ padded_spelling (letter ∷ 46 ∷ bytes)
derived_fills_room letter bytes copied n is same =
    let k : 32 - n ≡ 34 - suc (suc (length bytes)) = omega arith in
    let zeros : drop n (replicate 32 0) ≡ replicate (34 - suc (suc (length bytes))) 0 = drop-replicate {X = ℕ} n 32 0 ∙ ap (λ m. replicate m 0) k in
    λ i. letter ∷ 46 ∷ (same i ++ zeros i)

pub derived_is_room : (letter : ℕ) (bytes room : List ℕ) (n : ℕ) → n ≡ length bytes + 2 → room ≡ padded_spelling (letter ∷ 46 ∷ bytes) → IsSpellingRoom room n
derived_is_room letter bytes room n is e =
    let k : suc (suc (length bytes)) ≡ n = omega arith in
    rw (← k) (is_room (letter ∷ 46 ∷ bytes) room e)
