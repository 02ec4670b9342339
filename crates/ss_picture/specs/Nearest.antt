-- That a mean is rounded to the nearest number with its decimals, and a half away from zero, and to no other.
use Rattle.std.specs.Prelude.{◌≡◌, ℕ, ◌+◌, ◌*◌, ◌^◌, ◌<◌, ◌≤◌}
use Rattle.ss_picture.specs.Numerals.{nearest}

-- so many units of the last decimal are the nearest to a size divided by a number: they are at most half a unit above it,
-- and less than half a unit below it (all of it times twice the number)
pub record IsNearest (decimals size number units : ℕ) : Type 0 where
  pub above : 2 * units * number ≤ 2 * size * 10 ^ decimals + number
  pub below : 2 * size * 10 ^ decimals < 2 * units * number + number

-- what a size is rounded to is the nearest
abbrev pub RoundsToNearest : Type 0
RoundsToNearest =
    (decimals size number : ℕ) → 0 < number → IsNearest decimals size number (nearest decimals size number)

-- and nothing else is
abbrev pub OnlyNearest : Type 0
OnlyNearest =
    (decimals size number units : ℕ) → 0 < number → IsNearest decimals size number units → units ≡ nearest decimals size number
