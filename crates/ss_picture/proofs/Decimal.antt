-- Our decimal text is the standard library's.
use Rattle.std.proofs.Common.{◌≡◌, ℕ, suc, ◌^◌, ◌<◌, ℤ, pos, negsuc, ◌∷◌, ap, arith, lit<}
use Rattle.std.specs.Fmt.{decimal, signed_decimal}
use Rattle.std.proofs.lemmas.Fmt.{AppendsLastDigit, decimal_from_appends_wide, length-decimal-le_wide}
use Rattle.std.proofs.lemmas.Bool.Decides.{nat_tests}
use lib.Signed.{mag}
use Rattle.ss_picture.specs.Numerals.{digits_up_to, numeral, whole_text}

appends_last_digit : AppendsLastDigit digits_up_to
appends_last_digit = record {
  one = λ k n small. grind (arith, nat_tests);
  more = λ k n large. grind (arith, nat_tests);
}

-- the digits of a number of 128 bits are what `{}` prints of it
pub numeral_is_decimal : (n : ℕ) → n < 2 ^ 128 → numeral n ≡ decimal n
unfolding numeral
numeral_is_decimal n small =
    let below : n < 10 ^ 64 = omega arith in
    let short = length-decimal-le_wide 64 n (lit< tt) below below in
    decimal_from_appends_wide digits_up_to appends_last_digit 64 n below short

-- a whole number of 64 bits is written as `{}` prints it
pub whole_text_is_signed_decimal : (z : ℤ) → mag z < 2 ^ 63 → whole_text z ≡ signed_decimal z
whole_text_is_signed_decimal (pos n) small = numeral_is_decimal n (omega arith)
whole_text_is_signed_decimal (negsuc n) small = ap (λ digits. 45 ∷ digits) (numeral_is_decimal (suc n) (omega arith))
