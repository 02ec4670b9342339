-- How a whole number is written, and how a mean is that was rounded to some decimals.
use Rattle.std.specs.Prelude.{ℕ, zero, suc, ◌+◌, ◌*◌, ◌/◌, ◌%◌, ◌^◌, ℤ, pos, negsuc, neg_ℤ, unsigned_abs, List, [], ◌∷◌, ◌++◌, nat_lt, if◌then◌else◌}

-- the digit of a number below ten
abbrev pub digit : ℕ → ℕ
digit n = 48 + n

-- the decimal digits of a number, but no more than so many: those of its tenth, and after them its last
abbrev pub digits_up_to : ℕ → ℕ → List ℕ
digits_up_to zero n = []
digits_up_to (suc most) n =
    if nat_lt n 10 then digit n ∷ [] else digits_up_to most (n / 10) ++ digit (n % 10) ∷ []

-- the decimal digits of a number, all of them where it is below 10 ^ 64
unfoldable pub numeral : ℕ → List ℕ
numeral n = digits_up_to 64 n

-- the byte before a number below zero
abbrev pub minus : ℕ
minus = 45

-- how a whole number is written: its digits, after a minus where it is below zero
abbrev pub whole_text : ℤ → List ℕ
whole_text (pos n) = numeral n
whole_text (negsuc n) = minus ∷ numeral (suc n)

-- ---- decimals

-- the byte before the decimals of a number
abbrev pub period : ℕ
period = 46

-- the last digits of a number, just so many of them: zeros come first where it has fewer
abbrev pub last_digits : ℕ → ℕ → List ℕ
last_digits zero n = []
last_digits (suc more) n = last_digits more (n / 10) ++ digit (n % 10) ∷ []

-- a period and so many digits of a number; nothing for no digits
abbrev pub fraction_text : ℕ → ℕ → List ℕ
fraction_text zero n = []
fraction_text (suc more) n = period ∷ last_digits (suc more) n

-- how a number with decimals is written, given in units of its last decimal: 10 ^ decimals of them are one
abbrev pub decimal_text : ℕ → ℕ → List ℕ
decimal_text decimals units = numeral (units / 10 ^ decimals) ++ fraction_text decimals (units % 10 ^ decimals)

-- the sign of a number: a minus where it is below zero
abbrev pub sign_of : ℤ → List ℕ
sign_of (pos _) = []
sign_of (negsuc _) = minus ∷ []

-- how a number with decimals is written that may be below zero: its sign comes first
abbrev pub signed_text : ℕ → ℤ → List ℕ
signed_text decimals units = sign_of units ++ decimal_text decimals (unsigned_abs units)

-- ---- means

-- a size divided by a number above 0, in units of the last decimal: the whole number nearest to it, and of two that are
-- as near the greater
abbrev pub nearest : ℕ → ℕ → ℕ → ℕ
nearest decimals size number = (2 * size * 10 ^ decimals + number) / (2 * number)

-- so many units with the sign of a sum
abbrev pub with_sign : ℤ → ℕ → ℤ
with_sign (pos _) units = pos units
with_sign (negsuc _) units = neg_ℤ (pos units)

-- a sum divided by a number and rounded to decimals, halves away from zero, in units of the last decimal; zero where the
-- number is 0 (one below 0 is no number of values)
abbrev pub mean_units : ℕ → ℤ → ℤ → ℤ
mean_units decimals sum (pos (suc others)) = with_sign sum (nearest decimals (unsigned_abs sum) (suc others))
mean_units decimals sum _ = pos 0

-- how the mean of a sum and a number is written with so many decimals
abbrev pub mean_text : ℕ → ℤ → ℤ → List ℕ
mean_text decimals sum number = signed_text decimals (mean_units decimals sum number)
