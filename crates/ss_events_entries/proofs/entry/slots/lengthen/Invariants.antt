use Rattle.std.proofs.Common.{ℕ, ◌+◌, ◌-◌, ◌≡◌, get_or}
use Rattle.ss_events_entries.specs.Slots.{no_entry}
use Rattle.ss_events_entries.proofs.entry.slots.lengthen.Given as goal

-- no slot is read otherwise
abbrev pub invariant-loop-entries : goal.invariant-loop-entries
invariant-loop-entries l = (s : ℕ) → get_or l.entries.items s no_entry ≡ get_or l.initial.entries.items s no_entry

abbrev pub decreases-loop-entries : goal.decreases-loop-entries
decreases-loop-entries l = l.slot + 1 - l.entries.len
