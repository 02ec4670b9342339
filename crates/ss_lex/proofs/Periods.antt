-- The periods at the end of a word.
use Rattle.std.proofs.Common.{◌≡◌, ℕ, zero, suc, ◌-◌, ◌<◌, ◌≤◌, false, ◌==◌, List, [], ◌∷◌, ◌++◌, length, get_or, take, refl, sym, ap, ◌∙◌, arith}
use Rattle.ss_lex.proofs.Common.{nat_tests, with_byte_before, without_end_periods}
use Rattle.std.proofs.Math.Seq.{take-suc}

after_period : (w : List ℕ) → without_end_periods (w ++ 46 ∷ []) ≡ without_end_periods w
after_period [] = refl
after_period (b ∷ bs) = ap (with_byte_before b) (after_period bs)

in_front_more : (b c : ℕ) (bs : List ℕ) → with_byte_before b (bs ++ c ∷ []) ≡ b ∷ (bs ++ c ∷ [])
in_front_more b c [] = refl
in_front_more b c (d ∷ bs) = refl

after_other : (w : List ℕ) (c : ℕ) → (c == 46) ≡ false → without_end_periods (w ++ c ∷ []) ≡ w ++ c ∷ []
after_other [] c e = rw e refl
after_other (b ∷ bs) c e = ap (with_byte_before b) (after_other bs c e) ∙ in_front_more b c bs

-- a period is dropped
pub one_less : (w : List ℕ) (n : ℕ) → 0 < n → n ≤ length w → get_or w (n - 1) 0 ≡ 46 → without_end_periods (take (n - 1) w) ≡ without_end_periods (take n w)
one_less w zero some le e = absurd (omega arith)
one_less w (suc n) some le e =
    let k : suc n - 1 ≡ n = omega arith in
    let e' : get_or w n 0 ≡ 46 = rw k at e in
    rw (k, take-suc w n 0, e') (sym (after_period (take n w)))

-- the last byte is no period
pub none_dropped : (w : List ℕ) (n : ℕ) → 0 < n → n ≤ length w → (get_or w (n - 1) 0 ≡ 46 → ⊥) → without_end_periods (take n w) ≡ take n w
none_dropped w zero some le e = absurd (omega arith)
none_dropped w (suc n) some le e =
    let k : suc n - 1 ≡ n = omega arith in
    let other : (get_or w n 0 == 46) ≡ false = grind (arith, nat_tests, rw k at e) in
    rw (take-suc w n 0) (after_other (take n w) (get_or w n 0) other)
