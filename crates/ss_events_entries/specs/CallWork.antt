-- What a call has counted so far.
use Rattle.std.specs.Prelude.{◌≡◌, ℕ, ◌+◌, ◌-◌, ◌%◌, ◌^◌, ◌<◌, ◌≤◌}
use Rattle.ss_events_entries.specs.CountedList.{Work}

-- the comparisons and the moves of a call so far, and the work of all calls before it
pub record CallWork : Type 0 where
  pub comparisons : ℕ
  pub moves : ℕ
  pub before : Work

-- by how much a number of 64 bits has risen
abbrev pub rise : ℕ → ℕ → ℕ
rise from to = (to + (2 ^ 64 - from)) % 2 ^ 64

-- at most one comparison more was counted, and no move
pub record HasComparedOnce (old new : CallWork) : Type 0 where
  pub comparisons : new.comparisons ≤ old.comparisons + 1
  pub moves : new.moves ≡ old.moves
  pub before : new.before ≡ old.before

-- from so many to so many moves more were counted, and no comparison
pub record HasMoved (least most : ℕ) (old new : CallWork) : Type 0 where
  pub comparisons : new.comparisons ≡ old.comparisons
  pub some : old.moves + least ≤ new.moves
  pub moves : new.moves ≤ old.moves + most
  pub before : new.before ≡ old.before

-- four numbers of 64 bits: the comparisons and the moves of all calls, and those before the last call began
pub record AreCounters (c m d n : ℕ) : Type 0 where
  pub comparisons : c < 2 ^ 64
  pub moves : m < 2 ^ 64
  pub comparisons_before : d < 2 ^ 64
  pub moves_before : n < 2 ^ 64
