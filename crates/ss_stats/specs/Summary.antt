-- What running totals keep of a history: its summary.
use Rattle.std.specs.Prelude.{◌≡◌, ◌^◌, length, ℤ, pos, neg_ℤ, ◌-ℤ◌, ◌*ℤ◌, ◌≤ℤ◌}
use Rattle.ss_stats.specs.declared.totals.Weighing.{Weighing}
use Rattle.ss_stats.specs.declared.totals.Weighing.TheVariants.{Once, ByTime}
use Rattle.ss_stats.specs.History.{History, Tally, Accumulate, tally_limit, last_of, last_moment, exact_sum_of, maximum_of, minimum_of}

-- what is kept of a history, all of it as of its last moment
pub record Summary : Type 0 where
  pub weighing : Weighing
  pub last_moment : ℤ
  pub sum : ℤ
  pub maximum : ℤ
  pub minimum : ℤ

-- how the values of a history count, and what that takes to go on
abbrev pub weighing_of : History → Weighing
weighing_of (Tally values) = Once (pos (length values))
weighing_of (Accumulate start changes) = ByTime start.moment (last_of start changes).moment (last_of start changes).value

-- the summary of a history
abbrev pub summary_of : History → Summary
summary_of history = record {
  weighing = weighing_of history;
  last_moment = last_moment history;
  sum = exact_sum_of history (last_moment history);
  maximum = maximum_of history;
  minimum = minimum_of history;
}

-- the totals are those of this history
abbrev pub IsSummaryOf : Summary → History → Type 0
IsSummaryOf totals history = totals ≡ summary_of history

-- ---- what is true of every `Totals`

-- the last moment that was given, 0 for a tally
abbrev pub last_given : Weighing → ℤ
last_given (Once number) = pos 0
last_given (ByTime start since value) = since

-- how often a value of 64 bits went into the sum
abbrev pub times_added : Weighing → ℤ
times_added (Once number) = number
times_added (ByTime start since value) = since -ℤ start

-- how often until now
abbrev pub times_until : Weighing → ℤ → ℤ
times_until (Once number) now = number
times_until (ByTime start since value) now = now -ℤ start

-- a tally holds no more values than its limit; moments are from 0 on, the start first
abbrev pub IsWeighing : Weighing → Type 0
IsWeighing (Once number) = (pos 0 ≤ℤ number) × (number ≤ℤ pos tally_limit)
IsWeighing (ByTime start since value) = (pos 0 ≤ℤ start) × (start ≤ℤ since)

-- why the sum stays within 128 bits: a value is from -2^63 to 2^63, and is added less than 2^63 times, so that the
-- sum is from -2^126 to 2^126; what is added until now keeps the same bound, since now is less than 2^63 too
pub record IsInRange (weighing : Weighing) (sum : ℤ) : Type 0 where
  pub weighed : IsWeighing weighing
  pub low : neg_ℤ (pos (2 ^ 63) *ℤ times_added weighing) ≤ℤ sum
  pub high : sum ≤ℤ (pos (2 ^ 63) *ℤ times_added weighing)
