use Rattle.std.proofs.Common.{◌-◌, length}
use Rattle.ss_events.proofs.Sifts.{Sinking}
use Rattle.ss_events.proofs.sift.lower.Given as goal

abbrev pub invariant-loop-child : goal.invariant-loop-child
invariant-loop-child l = Sinking l.initial.heap l.heap l.initial.at l.at

abbrev pub decreases-loop-child : goal.decreases-loop-child
decreases-loop-child l = length l.heap.entries - l.at
