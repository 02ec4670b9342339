-- A number that is counted up to a cap.
use Rattle.std.specs.Prelude.{ℕ, ◌≡◌, ◌<◌, true, List, ◌∷◌, take, drop, length, min, Option, Some, None}
use Rattle.std.specs.List.{list_all}
use Rattle.ss_input.specs.Words.{is_digit, is_separator, digits_from}

-- a cap outside 64 bits with either sign
abbrev pub cap : ℕ
cap = 9223372036854775809

abbrev pub capped : Option ℕ → Option ℕ
capped None = None
capped (Some n) = Some (min n cap)

-- bytes begin with so many digits, at least one and fewer than 18, which are this number, and then a separator
pub record HasLeadingNumber (value count : ℕ) (bytes : List ℕ) : Type 0 where
  pub some : 0 < count
  pub few : count < 18
  pub long : count < length bytes
  pub digits : list_all is_digit (take count bytes) ≡ true
  pub value_is : value ≡ digits_from 0 (take count bytes)
  pub byte : ℕ
  pub rest : List ℕ
  pub after : drop count bytes ≡ byte ∷ rest
  pub stops : is_separator byte ≡ true
  pub small : value < 1000000000000000000
