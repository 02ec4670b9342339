-- Worked examples of histories and their statistics.
use Rattle.std.specs.Prelude.{◌≡◌, ◌^◌, ◌-◌, [], ◌∷◌, ℤ, pos, negsuc, Ok, Err}
use Rattle.std.proofs.Common.{refl}
use Rattle.ss_base.specs.declared.fault.FaultKind.TheVariants.{Overflow}
use Rattle.ss_base.specs.Arithmetic.{in_64_bits}
use Rattle.ss_stats.specs.History.{History, Tally, Accumulate, number_noted, sum_of, mean_of, maximum_of, minimum_of, with_noted_value, restarted}

-- a variable that is given 4, -2 and 7
abbrev pub three_values : History
three_values = Tally (pos 4 ∷ negsuc 1 ∷ pos 7 ∷ [])

pub three_values-number : number_noted three_values (pos 0) ≡ pos 3
three_values-number = refl

pub three_values-sum : sum_of three_values (pos 0) ≡ Ok (pos 9)
unfolding in_64_bits
three_values-sum = refl

-- the sum and the number, which are 9 and 3
abbrev pub nine_of_three : ℤ × ℤ
nine_of_three = (pos 9, pos 3)

pub three_values-mean : mean_of three_values (pos 0) ≡ nine_of_three
three_values-mean = refl

pub three_values-maximum : maximum_of three_values ≡ pos 7
three_values-maximum = refl

pub three_values-minimum : minimum_of three_values ≡ negsuc 1
three_values-minimum = refl

-- a reset leaves none of them
pub none-number : number_noted (restarted three_values (pos 0) (pos 7)) (pos 0) ≡ pos 0
none-number = refl

abbrev pub nothing_of_none : ℤ × ℤ
nothing_of_none = (pos 0, pos 0)

pub none-mean : mean_of (restarted three_values (pos 0) (pos 7)) (pos 0) ≡ nothing_of_none
none-mean = refl

pub none-maximum : maximum_of (restarted three_values (pos 0) (pos 7)) ≡ pos 0
none-maximum = refl

-- a variable that is 0 at first, at once 2, and 4 from moment 5 on
abbrev pub two_changes : History
two_changes =
    with_noted_value (with_noted_value (Accumulate (record { moment = pos 0; value = pos 0 }) []) (pos 0) (pos 2)) (pos 5) (pos 4)

pub two_changes-number : number_noted two_changes (pos 10) ≡ pos 10
two_changes-number = refl

-- 5 units of time with 2, and 5 with 4
pub two_changes-sum : sum_of two_changes (pos 10) ≡ Ok (pos 30)
unfolding in_64_bits
two_changes-sum = refl

abbrev pub thirty_of_ten : ℤ × ℤ
thirty_of_ten = (pos 30, pos 10)

pub two_changes-mean : mean_of two_changes (pos 10) ≡ thirty_of_ten
two_changes-mean = refl

pub two_changes-maximum : maximum_of two_changes ≡ pos 4
two_changes-maximum = refl

-- the starting value is the least
pub two_changes-minimum : minimum_of two_changes ≡ pos 0
two_changes-minimum = refl

-- a reset at moment 7 leaves the present value alone
pub reset_between-number : number_noted (restarted two_changes (pos 7) (pos 4)) (pos 10) ≡ pos 3
reset_between-number = refl

pub reset_between-sum : sum_of (restarted two_changes (pos 7) (pos 4)) (pos 10) ≡ Ok (pos 12)
unfolding in_64_bits
reset_between-sum = refl

pub reset_between-minimum : minimum_of (restarted two_changes (pos 7) (pos 4)) ≡ pos 4
reset_between-minimum = refl

-- the greatest number of 64 bits, and 1: a sum that does not fit
abbrev pub too_large : History
too_large = Tally (pos (2 ^ 63 - 1) ∷ pos 1 ∷ [])

pub too_large-sum : sum_of too_large (pos 0) ≡ Err Overflow
unfolding in_64_bits
too_large-sum = refl

-- the mean has it
abbrev pub two_to_63_of_two : ℤ × ℤ
two_to_63_of_two = (pos 9223372036854775808, pos 2)

pub too_large-mean : mean_of too_large (pos 0) ≡ two_to_63_of_two
too_large-mean = refl

-- with -5 after them it fits again
pub large_again-sum : sum_of (with_noted_value too_large (pos 0) (negsuc 4)) (pos 0) ≡ Ok (pos 9223372036854775803)
unfolding in_64_bits
large_again-sum = refl
