use Rattle.ss_events.proofs.Sifts.{Outranking}
use Rattle.ss_events.proofs.sift.raise_past.Given as goal

abbrev pub invariant-loop-at : goal.invariant-loop-at
invariant-loop-at l = Outranking l.initial.heap l.heap l.initial.at l.at l.parent

abbrev pub decreases-loop-at : goal.decreases-loop-at
decreases-loop-at l = l.at
