-- The number that digits spell.
use Rattle.std.proofs.Common.{◌≡◌, ℕ, ◌+◌, ◌*◌, ◌-◌, ◌<◌, ◌≤◌, true, List, [], ◌∷◌, length, get_or, drop, drop-cons, add-one, nat_lt, refl, arith}
use Rattle.ss_lex.proofs.Common.{largest_number, nat_tests, number_from}

grows : (n : ℕ) (digits : List ℕ) → n ≤ number_from n digits
grows n [] = omega arith
grows n (b ∷ bs) = omega (arith, grows (n * 10 + (b - 48)) bs)

pub number_more : (digits : List ℕ) (n i : ℕ) → i < length digits → number_from n (drop i digits) ≡ number_from (n * 10 + (get_or digits i 0 - 48)) (drop (i + 1) digits)
number_more digits n i lt = rw (add-one, drop-cons digits i 0) refl

pub too_large : (digits : List ℕ) (n i : ℕ) → i < length digits → number_from n (drop i digits) ≡ number_from 0 digits → 922337203685477580 < n → nat_lt largest_number (number_from 0 digits) ≡ true
too_large digits n i lt value_is large =
    let grown = grows (n * 10 + (get_or digits i 0 - 48)) (drop (i + 1) digits) in
    let step = number_more digits n i lt in
    let past : largest_number < number_from 0 digits = omega (arith, grown, step, value_is) in
    grind (arith, nat_tests)
