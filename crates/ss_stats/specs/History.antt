-- The history of a variable, and the statistics that are taken of it.
use Rattle.std.specs.Prelude.{Bool, false, if◌then◌else◌, ℕ, List, [], ◌∷◌, ◌++◌, length, map, ℤ, pos, ◌+ℤ◌, ◌-ℤ◌, ◌*ℤ◌, int_le, ⊤, Result, Ok, Err}
use Rattle.std.specs.Int.{int_max, int_min}
use Rattle.std.specs.List.{fold}
use Rattle.ss_base.specs.declared.fault.FaultKind.{FaultKind}
use Rattle.ss_base.specs.declared.fault.FaultKind.TheVariants.{Overflow}
use Rattle.ss_base.specs.Arithmetic.{in_64_bits}

-- a moment, and the value that a variable was given at it
pub record Change : Type 0 where
  pub moment : ℤ
  pub value : ℤ

-- what a variable was given since its start or its last reset
pub data History : Type 0 where
  -- for TALLY each value noted, the oldest first
  Tally : List ℤ → History
  -- for ACCUMULATE the start and each later change, the oldest first
  Accumulate : Change → List Change → History

-- the last of the changes, or the start where there was none
abbrev pub last_of : Change → List Change → Change
last_of start [] = start
last_of start (next ∷ later) = last_of next later

-- the last moment that a history has, or 0 where it has none
abbrev pub last_moment : History → ℤ
last_moment (Tally values) = pos 0
last_moment (Accumulate start changes) = (last_of start changes).moment

-- ---- the statistics

-- NUMBER: how many values were noted, or the time since the start
abbrev pub number_noted : History → ℤ → ℤ
number_noted (Tally values) now = pos (length values)
number_noted (Accumulate start changes) now = now -ℤ start.moment

-- each value times the time for which the variable had it, the last one until now
abbrev pub weighed_sum : Change → List Change → ℤ → ℤ
weighed_sum current [] now = current.value *ℤ (now -ℤ current.moment)
weighed_sum current (next ∷ later) now =
    current.value *ℤ (next.moment -ℤ current.moment) +ℤ weighed_sum next later now

-- the sum of the values, each once or each times its time, however large it is
abbrev pub exact_sum_of : History → ℤ → ℤ
exact_sum_of (Tally values) now = fold ◌+ℤ◌ (pos 0) values
exact_sum_of (Accumulate start changes) now = weighed_sum start changes now

-- MEAN: the exact sum, and the NUMBER by which it is divided where it is printed
abbrev pub mean_of : History → ℤ → ℤ × ℤ
mean_of history now = (exact_sum_of history now, number_noted history now)

-- SUM: the exact sum, or an overflow
abbrev pub sum_of : History → ℤ → Result ℤ FaultKind
sum_of history now = in_64_bits (exact_sum_of history now)

-- the values that count for the extremes; that of the start is one of them
abbrev pub values_of : History → List ℤ
values_of (Tally values) = values
values_of (Accumulate start changes) = start.value ∷ map (λ c. c.value) changes

-- the greatest and the least of some values, 0 of none
abbrev pub greatest_of : List ℤ → ℤ
greatest_of [] = pos 0
greatest_of (first ∷ later) = fold int_max first later

abbrev pub least_of : List ℤ → ℤ
least_of [] = pos 0
least_of (first ∷ later) = fold int_min first later

-- MAXIMUM and MINIMUM
abbrev pub maximum_of : History → ℤ
maximum_of history = greatest_of (values_of history)

abbrev pub minimum_of : History → ℤ
minimum_of history = least_of (values_of history)

-- ---- what becomes of a history

-- the most values of a tally: 2^62 - 1
abbrev pub tally_limit : ℕ
tally_limit = 4611686018427387903

-- a tally that holds the most values takes no more
abbrev pub is_full : History → Bool
is_full (Tally values) = int_le (pos tally_limit) (pos (length values))
is_full (Accumulate start changes) = false

-- what the variable's next value is answered by: an overflow where the history is full
abbrev pub note_outcome : History → Result ⊤ FaultKind
note_outcome history = if is_full history then Err Overflow else Ok tt

-- the history with one value more, given now
abbrev pub with_noted_value : History → ℤ → ℤ → History
with_noted_value (Tally values) now value = Tally (values ++ (value ∷ []))
with_noted_value (Accumulate start changes) now value =
    Accumulate start (changes ++ (record { moment = now; value = value } ∷ []))

-- the history afresh, from now and with the present value
abbrev pub restarted : History → ℤ → ℤ → History
restarted (Tally values) now value = Tally []
restarted (Accumulate start changes) now value = Accumulate (record { moment = now; value = value }) []
