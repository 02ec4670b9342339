-- A value of 64 bits times a time has bounds that grow with the time.
use Rattle.std.proofs.Common.{ℕ, suc, ◌*◌, ◌^◌, ◌≤◌, ℤ, pos, negsuc, neg_ℤ, ◌*ℤ◌, ◌≤ℤ◌, FitsSigned, w64, arith}
use Rattle.std.proofs.Math.Nat.{mul-le-mul_left}
use Rattle.std.proofs.lemmas.Int.{ints}

-- the bound for natural numbers
scaled : (v t : ℕ) → v ≤ 2 ^ 63 → v * t ≤ 2 ^ 63 * t
scaled v t h = grind (arith, mul-le-mul_left t h)

pub product_low : (value time : ℤ) → FitsSigned w64 value → pos 0 ≤ℤ time → neg_ℤ (pos (2 ^ 63) *ℤ time) ≤ℤ (value *ℤ time)
product_low (pos v) (pos t) f h = omega (arith, ints)
product_low (negsuc v) (pos t) f h =
    let le : suc v ≤ 2 ^ 63 = omega (arith, ints, f.sfits) in omega (arith, ints, scaled (suc v) t le)
product_low v (negsuc t) f h = absurd (omega (arith, ints))

pub product_high : (value time : ℤ) → FitsSigned w64 value → pos 0 ≤ℤ time → (value *ℤ time) ≤ℤ (pos (2 ^ 63) *ℤ time)
product_high (pos v) (pos t) f h =
    let le : v ≤ 2 ^ 63 = omega (arith, ints, f.sfits) in omega (arith, ints, scaled v t le)
product_high (negsuc v) (pos t) f h = omega (arith, ints)
product_high v (negsuc t) f h = absurd (omega (arith, ints))
