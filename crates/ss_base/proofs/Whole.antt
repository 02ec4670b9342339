-- Whole numbers that fit 64 bits.
use Rattle.std.proofs.Common.{◌≡◌, ℕ, ◌^◌, ◌≤◌, ◌<◌, Bool, true, false, refl, ◌∙◌, ap, arith, w64, of_z, to_z}
use Rattle.std.proofs.lemmas.Bool.{le-leb, leb-true, lt-ltb, ltb-true, and_from, and_parts}
use Rattle.std.proofs.lemmas.Int.{to_z-of_z}
use Rattle.std.specs.Prelude.{cond, ℤ, pos, negsuc, FitsSigned, Ok, Err, Option, Some, None, SomeIff, ok_or, int_rem, int_div}
use Rattle.std.specs.Int.{CanDivide}
use Rattle.std.specs.Ordering.{int_eq}
use Rattle.std.proofs.lemmas.Bool.Decides.{Decides-int_eq}
use lib.Signed.{mag_rem}
use Rattle.ss_base.specs.declared.fault.FaultKind.TheVariants.{Overflow, ZeroDivisor}
use Rattle.ss_base.specs.Arithmetic.{fits_64_bits, in_64_bits, quotient_of, remainder_of}

-- the test for 64 bits gives what the machine's numbers give
pub fits-from : (z : ℤ) → FitsSigned w64 z → fits_64_bits z ≡ true
fits-from (pos n) h = lt-ltb n (2 ^ 63) h.sfits
fits-from (negsuc n) h = let k : n ≤ 9223372036854775807 = omega (arith, h.sfits) in and_from _ _ (le-leb n 9223372036854775807 k) refl

pub fits-true : (z : ℤ) → fits_64_bits z ≡ true → FitsSigned w64 z
fits-true (pos n) h = record { sfits = ltb-true n (2 ^ 63) h }
fits-true (negsuc n) h = let k = leb-true n 9223372036854775807 (and_parts _ _ h).0 in record { sfits = omega arith }

-- what a checked operation returns, as a number of 64 bits or the fault
pub checked_in : (r : Option ℤ) (z : ℤ) → SomeIff r (FitsSigned w64 z) z → ok_or r Overflow ≡ in_64_bits z
unfolding in_64_bits
checked_in None z h = by_test (fits_64_bits z) refl where
  by_test : (t : Bool) → fits_64_bits z ≡ t → Err Overflow ≡ cond (fits_64_bits z) (Ok z) (Err Overflow)
  by_test true e = absurd (h (fits-true z e))
  by_test false e = rw e refl
checked_in (Some x) z h = rw (fits-from z h.0, h.1) refl

-- a divisor, as the machine's numbers say whether it is 0
pub zero_is : (y : ℤ) → FitsSigned w64 y → of_z w64 y ≡ 0 → y ≡ pos 0
zero_is (pos n) f h = ap pos h
zero_is (negsuc n) f h = let k : n < 2 ^ 63 = f.sfits in absurd (omega arith)

pub int_eq-other : (y z : ℤ) → (y ≡ z → ⊥) → int_eq y z ≡ false
int_eq-other y z h = by_test (int_eq y z) refl where
  by_test : (t : Bool) → int_eq y z ≡ t → int_eq y z ≡ false
  by_test true e = absurd (h ((Decides-int_eq y z).0 e))
  by_test false e = e

pub int_eq-zero : (y : ℤ) → (of_z w64 y ≡ 0 → ⊥) → int_eq y (pos 0) ≡ false
int_eq-zero y h = int_eq-other y (pos 0) (λ e. h (ap (of_z w64) e))

-- what a checked quotient returns
pub quotient-zero : (x y : ℤ) → FitsSigned w64 y → of_z w64 y ≡ 0 → Err ZeroDivisor ≡ quotient_of x y
unfolding quotient_of
quotient-zero x y f h = rw (zero_is y f h) refl

pub quotient-checked : (r : Option ℤ) (x y : ℤ) → (of_z w64 y ≡ 0 → ⊥) → SomeIff r (CanDivide w64 x y) (int_div x y) → ok_or r Overflow ≡ quotient_of x y
unfolding quotient_of
quotient-checked r x y other h =
    rw (int_eq-zero y other) (checked_in r (int_div x y) (fits_alone r h)) where
      fits_alone : (o : Option ℤ) → SomeIff o (CanDivide w64 x y) (int_div x y) → SomeIff o (FitsSigned w64 (int_div x y)) (int_div x y)
      fits_alone None k = λ fits. k (nonzero (of_z w64 y) other, fits) where
        nonzero : (n : ℕ) → (n ≡ 0 → ⊥) → 0 < n
        nonzero n e = omega arith
      fits_alone (Some q) k = (k.0.1, k.1)

-- the remainder always fits
pub remainder-zero : (x y : ℤ) → FitsSigned w64 y → of_z w64 y ≡ 0 → Err ZeroDivisor ≡ remainder_of x y
unfolding remainder_of
remainder-zero x y f h = rw (zero_is y f h) refl

pub remainder-fits : (x y r : ℤ) → FitsSigned w64 x → FitsSigned w64 y → (of_z w64 y ≡ 0 → ⊥) → r ≡ int_rem (to_z w64 (of_z w64 x)) (to_z w64 (of_z w64 y)) → Ok (to_z w64 (of_z w64 r)) ≡ remainder_of x y
unfolding remainder_of in_64_bits
remainder-fits x y r f g other is =
    let fits : FitsSigned w64 (int_rem x y) = record { sfits = omega (arith, mag_rem x y, f.sfits) } in
    let e : r ≡ int_rem x y = is ∙ rw (to_z-of_z w64 x f, to_z-of_z w64 y g) refl in
    rw (e, to_z-of_z w64 (int_rem x y) fits, int_eq-zero y other, fits-from (int_rem x y) fits) refl
