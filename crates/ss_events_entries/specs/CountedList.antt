-- What a contract sees of an event list.
use Rattle.std.specs.Prelude.{ℕ, ◌+◌, ◌%◌, ◌^◌}
use Rattle.ss_world.specs.PendingList.{PendingList}

-- how many comparisons of two keys and how many moves of an entry into a place were made
pub record Work : Type 0 where
  pub comparisons : ℕ
  pub moves : ℕ

-- none
abbrev pub no_work : Work
no_work = record { comparisons = 0; moves = 0 }

-- the work, once so many more were made: numbers of 64 bits, each of which is 0 again after the greatest
abbrev pub with_work : Work → ℕ → ℕ → Work
with_work w comparisons moves = record { comparisons = (w.comparisons + comparisons) % 2 ^ 64; moves = (w.moves + moves) % 2 ^ 64 }

-- the event list, with the comparisons and the moves of the last call that could change it, and the work of all calls so far
pub record CountedList : Type 0 where
  pub list : PendingList
  pub comparisons : ℕ
  pub moves : ℕ
  pub total : Work
