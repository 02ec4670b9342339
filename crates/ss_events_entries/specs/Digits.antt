-- The length of a number in base 2.
use Rattle.std.specs.Prelude.{ℕ, length}
use Rattle.std.specs.Int.Digits.{digits_of}

-- how many binary digits a number has (0 has none)
abbrev pub binary_digits : ℕ → ℕ
binary_digits n = length (digits_of 2 n)
