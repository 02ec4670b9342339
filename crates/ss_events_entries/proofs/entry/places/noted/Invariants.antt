use Rattle.std.proofs.Common.{ℕ, ◌<◌}
use Rattle.ss_events_entries.specs.Slots.{slot_at, IsTaken, IsGuess}
use Rattle.ss_events_entries.proofs.entry.places.noted.Given as goal

-- it leads to each slot so far
abbrev pub invariant-loop-slot : goal.invariant-loop-slot
invariant-loop-slot l = (s : ℕ) → s < l.slot → IsTaken l.count (slot_at l.slots s) → IsGuess l.directory (slot_at l.slots s).notice s
