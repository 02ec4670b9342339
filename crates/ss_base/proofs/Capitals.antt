-- Bytes in capitals, in their room.
use Rattle.std.proofs.Common.{◌≡◌, ℕ, suc, ◌+◌, ◌-◌, ◌<◌, ◌≤◌, List, [], ◌∷◌, ◌++◌, length, get_or, set, take, replicate, refl, sym, ap, ◌∙◌, arith}
use Rattle.std.specs.Char.{to_ascii_uppercase}
use Rattle.std.proofs.lemmas.Bool.Decides.{nat_tests}
use Rattle.std.proofs.lemmas.List.{set_at, length-map, length-take-le, map_more}
use Rattle.ss_base.specs.Names.{in_capitals, IsName}

upper_twice : (b : ℕ) → to_ascii_uppercase (to_ascii_uppercase b) ≡ to_ascii_uppercase b
upper_twice b = grind (arith, nat_tests)

capitals_twice : (bytes : List ℕ) → in_capitals (in_capitals bytes) ≡ in_capitals bytes
capitals_twice [] = refl
capitals_twice (b ∷ bs) = λ i. upper_twice b i ∷ capitals_twice bs i

-- a byte more is written
pub room_more : (bytes room : List ℕ) (i : ℕ) → i < length bytes → length bytes ≤ 34 → room ≡ in_capitals (take i bytes) ++ replicate (34 - i) 0 → set room i (to_ascii_uppercase (get_or bytes i 0)) ≡ in_capitals (take (i + 1) bytes) ++ replicate (34 - (i + 1)) 0
room_more bytes room i lt short e =
    let k : 34 - i ≡ suc (34 - (i + 1)) = omega arith in
    let n : length (in_capitals (take i bytes)) ≡ i = length-map (take i bytes) to_ascii_uppercase ∙ length-take-le i bytes (omega arith) in
    let split : room ≡ in_capitals (take i bytes) ++ 0 ∷ replicate (34 - (i + 1)) 0 = e ∙ ap (λ m. in_capitals (take i bytes) ++ replicate m 0) k in
    ap (λ r. set r i (to_ascii_uppercase (get_or bytes i 0))) split
    ∙ set_at (in_capitals (take i bytes)) 0 (replicate (34 - (i + 1)) 0) (to_ascii_uppercase (get_or bytes i 0)) i n
    ∙ (sym (append_assoc' (in_capitals (take i bytes)) (to_ascii_uppercase (get_or bytes i 0)) (replicate (34 - (i + 1)) 0))
    ∙ ap (λ l. l ++ replicate (34 - (i + 1)) 0) (sym (map_more to_ascii_uppercase bytes i 0 lt)))
  where
    append_assoc' : (xs : List ℕ) (y : ℕ) (zs : List ℕ) → (xs ++ y ∷ []) ++ zs ≡ xs ++ y ∷ zs
    append_assoc' [] y zs = refl
    append_assoc' (x ∷ xs) y zs = ap (λ l. x ∷ l) (append_assoc' xs y zs)

-- bytes in capitals are a name, and that of the bytes
pub capitals_are_name : (bytes : List ℕ) → 0 < length bytes → length bytes ≤ 32 → IsName (in_capitals bytes)
capitals_are_name bytes some short =
    let n : length (in_capitals bytes) ≡ length bytes = length-map bytes to_ascii_uppercase in
    record { some = omega (arith, n); short = omega (arith, n); capitals = capitals_twice bytes }
