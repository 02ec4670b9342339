use Rattle.std.proofs.Common.{◌≡◌, ◌^◌, ℤ, ◌*ℤ◌, FitsSigned, to_z, of_z, w64, lit<, arith}
use Rattle.std.specs.Int.{w128}
use Rattle.std.proofs.lemmas.Int.{ints, to_z-of_z, fits_signed_mul}
use Rattle.ss_stats.proofs.Products.{product_low, product_high}
use Rattle.ss_stats.proofs.totals.weighed.Goals as goal

-- the product that the code makes is that of the numbers
product_is : (value time v t : ℤ) → FitsSigned w64 value → FitsSigned w64 time → v ≡ value → t ≡ time → to_z w128 (of_z w128 (v *ℤ t)) ≡ value *ℤ time
product_is value time v t f g p q =
    let h : FitsSigned w128 (value *ℤ time) = fits_signed_mul w128 value time (2 ^ 63) (2 ^ 63) (omega (arith, ints)) (omega (arith, ints)) (lit< tt) in rw (p, q) (to_z-of_z w128 _ h)

pub returns-clause-low : goal.returns-clause-low
returns-clause-low c =
    let v = to_z w128 (of_z w128 c.from.result) in let t = to_z w128 (of_z w128 c.from-2.result) in rw (product_is c.args.value c.args.time v t c.ranges.value c.ranges.time (omega (arith, ints)) (omega (arith, ints))) (product_low _ _ c.ranges.value c.requires)

pub returns-clause-high : goal.returns-clause-high
returns-clause-high c =
    let v = to_z w128 (of_z w128 c.from.result) in let t = to_z w128 (of_z w128 c.from-2.result) in rw (product_is c.args.value c.args.time v t c.ranges.value c.ranges.time (omega (arith, ints)) (omega (arith, ints))) (product_high _ _ c.ranges.value c.requires)
