-- How readers and writers count their failures.
use Rattle.std.specs.Prelude.{ℕ, ◌+◌, ◌-◌, ◌^◌, ◌≤◌, ◌==◌, min, if◌then◌else◌, Result, Ok, Err}

-- the greatest count, at which it stays
abbrev pub last_count : ℕ
last_count = 2 ^ 64 - 1

-- a count with so many failures more
abbrev pub raised : ℕ → ℕ → ℕ
raised count more = min (count + more) last_count

-- how many calls returned an error, after one more call
abbrev pub errors_after : {A E : Type 0} → Result A E → ℕ → ℕ
errors_after (Ok _) count = count
errors_after (Err _) count = raised count 1

-- the count after a write: one more where it returned an error or took no byte
abbrev pub count_after_write : {E : Type 0} → Result ℕ E → ℕ → ℕ
count_after_write (Ok taken) count = if taken == 0 then raised count 1 else count
count_after_write (Err _) count = raised count 1

-- how many writes in a row took no byte, after one more write
abbrev pub idle_after : {E : Type 0} → Result ℕ E → ℕ → ℕ
idle_after (Ok taken) idle = if taken == 0 then raised idle 1 else 0
idle_after (Err _) idle = 0

-- a count has risen by at least so many, or is at the last count
abbrev pub HasRisenBy : ℕ → ℕ → ℕ → Type 0
HasRisenBy more old new = raised old more ≤ new

-- a count has risen, or is at the last count
abbrev pub HasRisen : ℕ → ℕ → Type 0
HasRisen old new = HasRisenBy 1 old new
