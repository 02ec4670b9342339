-- The arithmetic of the language: that of the whole numbers, limited to 64 bits with sign.
use Rattle.std.specs.Prelude.{◌^◌, Bool, ◌&&◌, if◌then◌else◌, ℤ, pos, ◌+ℤ◌, ◌-ℤ◌, ◌*ℤ◌, neg_ℤ, int_le, int_lt, int_div, int_rem, Result, Ok, Err}
use Rattle.std.specs.Ordering.{int_eq}
use Rattle.ss_base.specs.declared.fault.FaultKind.{FaultKind}
use Rattle.ss_base.specs.declared.fault.FaultKind.TheVariants.{Overflow, ZeroDivisor}

-- whether a whole number fits 64 bits: it is at least -2^63 and below 2^63
abbrev pub fits_64_bits : ℤ → Bool
fits_64_bits z = int_le (neg_ℤ (pos (2 ^ 63))) z && int_lt z (pos (2 ^ 63))

-- a whole number that fits 64 bits, and otherwise the fault OVERFLOW
unfoldable pub in_64_bits : ℤ → Result ℤ FaultKind
in_64_bits z = if fits_64_bits z then Ok z else Err Overflow

-- the sum of two numbers
unfoldable pub plus_of : ℤ → ℤ → Result ℤ FaultKind
plus_of x y = in_64_bits (x +ℤ y)

-- their difference
unfoldable pub minus_of : ℤ → ℤ → Result ℤ FaultKind
minus_of x y = in_64_bits (x -ℤ y)

-- their product
unfoldable pub times_of : ℤ → ℤ → Result ℤ FaultKind
times_of x y = in_64_bits (x *ℤ y)

-- their quotient, cut towards zero; a divisor of 0 is the fault ZERO DIVISOR
unfoldable pub quotient_of : ℤ → ℤ → Result ℤ FaultKind
quotient_of x y = if int_eq y (pos 0) then Err ZeroDivisor else in_64_bits (int_div x y)

-- what that quotient leaves over, which has the sign of x; a divisor of 0 is the fault ZERO DIVISOR
unfoldable pub remainder_of : ℤ → ℤ → Result ℤ FaultKind
remainder_of x y = if int_eq y (pos 0) then Err ZeroDivisor else in_64_bits (int_rem x y)
