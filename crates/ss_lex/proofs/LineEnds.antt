-- Lines and their ends.
use Rattle.std.proofs.Common.{◌≡◌, ℕ, zero, suc, ◌+◌, ◌-◌, ◌<◌, false, ◌==◌, List, [], ◌∷◌, length, get_or, take, drop, refl, sym, ap, ◌∙◌, arith, inl, inr}
use Rattle.ss_lex.proofs.Common.{cases_Bool, is_in_line, lines_of, nat_tests, picture_of, prefix_len, with_byte_first}

-- ---- the carriage return at the end

pub with_return : (line : List ℕ) (last : ℕ) → 0 < length line → last ≡ length line - 1 → get_or line last 0 ≡ 13 → take last line ≡ picture_of line
with_return [] last some e r = absurd (omega arith)
with_return (b ∷ []) last some e r = let z : last ≡ 0 = omega arith in let r' : b ≡ 13 = ap (λ k. get_or (b ∷ []) k 0) (sym z) ∙ r in rw (z, r') refl
with_return (b ∷ c ∷ bs) zero some e r = absurd (omega arith)
with_return (b ∷ c ∷ bs) (suc last) some e r = ap (λ l. b ∷ l) (with_return (c ∷ bs) last (omega arith) (omega arith) r)

pub without_return : (line : List ℕ) (last : ℕ) → last ≡ length line - 1 → (get_or line last 0 ≡ 13 → ⊥) → line ≡ picture_of line
without_return [] last e r = refl
without_return (b ∷ []) last e r =
    let z : last ≡ 0 = omega arith in
    let r' : (get_or (b ∷ []) 0 0 ≡ 13 → ⊥) = rw z at r in
    let test : (b == 13) ≡ false = grind (arith, nat_tests, r') in
    rw test refl
without_return (b ∷ c ∷ bs) zero e r = absurd (omega arith)
without_return (b ∷ c ∷ bs) (suc last) e r = ap (λ l. b ∷ l) (without_return (c ∷ bs) last (omega arith) r)

-- ---- the first line

pub first_is : (text : List ℕ) (n : ℕ) → 0 < length text → n ≡ prefix_len is_in_line text → lines_of text ≡ take n text ∷ lines_of (drop 1 (drop n text))
first_is text n some e = go text some ∙ ap (λ k. take k text ∷ lines_of (drop 1 (drop k text))) (sym e)
  where
    go : (text : List ℕ) → 0 < length text → lines_of text ≡ take (prefix_len is_in_line text) text ∷ lines_of (drop 1 (drop (prefix_len is_in_line text) text))
    go [] some = absurd (omega arith)
    go (b ∷ []) some =
        elim (cases_Bool (b == 10)) [
          | inl p ↦ rw p refl
          | inr p ↦ rw p refl
        ]
    go (b ∷ c ∷ bs) some =
        let ih = go (c ∷ bs) (omega arith) in
        let k : 1 + prefix_len is_in_line (c ∷ bs) ≡ suc (prefix_len is_in_line (c ∷ bs)) = omega arith in
        elim (cases_Bool (b == 10)) [
          | inl p ↦ rw p refl
          | inr p ↦ rw (p, k) (ap (with_byte_first b) ih)
        ]
