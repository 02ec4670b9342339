-- A mean may be divided first and then scaled: the result is equal, and its parts are small.
use Rattle.std.proofs.Common.{◌≡◌, ℕ, zero, suc, ◌+◌, ◌*◌, ◌/◌, ◌%◌, ◌^◌, ◌<◌, ◌≤◌, ℤ, pos, negsuc, refl, sym, ap, ◌∙◌, arith, lit<}
use Rattle.std.specs.Prelude.{unsigned_abs}
use Rattle.std.proofs.Math.Nat.{mul_assoc, mul_right_comm, mul_left_comm, mul-add, add-mul, mul-add-div_right, div-le_self, pow-le-pow_right}
use Rattle.std.proofs.lemmas.Nat.{div-add-mod'}
use Rattle.ss_picture.specs.Numerals.{nearest, with_sign, mean_units}

-- twice a size, scaled, is so many whole times twice the number, and twice the rest, scaled
scaled_parts : (whole number rest scale : ℕ) → 2 * (whole * number + rest) * scale ≡ whole * scale * (2 * number) + 2 * rest * scale
scaled_parts whole number rest scale =
    let apart : 2 * (whole * number + rest) * scale ≡ 2 * (whole * number) * scale + 2 * rest * scale =
    ap (λ (n : ℕ). n * scale) (mul-add 2 (whole * number) rest) ∙ add-mul (2 * (whole * number)) (2 * rest) scale
    in
    let turned : 2 * (whole * number) * scale ≡ whole * scale * (2 * number) =
    mul_assoc 2 (whole * number) scale ∙ ap (λ (n : ℕ). 2 * n) (mul_right_comm whole number scale) ∙ sym (mul_left_comm (whole * scale) 2 number)
    in
    apart ∙ ap (λ (n : ℕ). n + 2 * rest * scale) turned

pub divided_parts : (size number scale : ℕ) → 0 < number
    → size / number * scale + (2 * (size % number) * scale + number) / (2 * number) ≡ (2 * size * scale + number) / (2 * number)
divided_parts size number scale some =
    let whole : ℕ = size / number in
    let rest : ℕ = size % number in
    let parts : 2 * size * scale + number ≡ whole * scale * (2 * number) + (2 * rest * scale + number) =
    ap (λ (n : ℕ). 2 * n * scale + number) (sym (div-add-mod' size number)) ∙ (let e = scaled_parts whole number rest scale in omega arith)
    in
    let twice : 0 < 2 * number = omega arith in
    sym (ap (λ (n : ℕ). n / (2 * number)) parts ∙ mul-add-div_right twice (whole * scale) (2 * rest * scale + number))

-- ---- bounds

pub part_small : (n number : ℕ) → n / number ≤ n
part_small n number = div-le_self n number

pub power_some : (decimals : ℕ) → 0 < 10 ^ decimals
power_some decimals = let above = pow-le-pow_right {n = 10} (lit< tt) {i = 0} {j = decimals} (omega arith) in omega arith

-- ---- means

signed_size : (sum : ℤ) (units : ℕ) → unsigned_abs (with_sign sum units) ≡ units
signed_size (pos s) units = refl
signed_size (negsuc s) zero = refl
signed_size (negsuc s) (suc units) = refl

-- a mean has the sign of its sum
sign_again : (sum : ℤ) (units : ℕ) → with_sign sum (unsigned_abs (with_sign sum units)) ≡ with_sign sum units
sign_again sum units = ap (with_sign sum) (signed_size sum units)

pub with_its_sign : (decimals : ℕ) (sum number : ℤ) → with_sign sum (unsigned_abs (mean_units decimals sum number)) ≡ mean_units decimals sum number
with_its_sign decimals (pos s) (pos zero) = refl
with_its_sign decimals (negsuc s) (pos zero) = refl
with_its_sign decimals sum (pos (suc others)) = sign_again sum (nearest decimals (unsigned_abs sum) (suc others))
with_its_sign decimals (pos s) (negsuc n) = refl
with_its_sign decimals (negsuc s) (negsuc n) = refl
