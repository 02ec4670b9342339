-- Which notice comes next.
use Rattle.std.specs.Prelude.{◌≡◌, ℤ, Option, Some, None}
use Rattle.ss_world.specs.PendingList.{least_event, after_next}
use Rattle.ss_machine_world.specs.Seen.{Seen}

-- no notice is pending, and nothing changes; or this one comes next, and once it was taken out the time is its time
abbrev pub IsNextNotice : (old new : Seen) → Option ℤ → Type 0
IsNextNotice old new None = (least_event old.pending ≡ None) × (new ≡ old)
IsNextNotice old new (Some n) = (least_event old.pending ≡ Some (new.time, n)) × (new ≡ record old { time = new.time; pending = after_next old.pending })
