use Rattle.std.proofs.Common.{◌≡◌, drop}
use Rattle.ss_events_entries.proofs.Common.{slice_cmp, tie_order}
use Rattle.ss_events_entries.proofs.entry.order.ties_order.Given as goal

-- the ties so far are alike
abbrev pub invariant-loop-i : goal.invariant-loop-i
invariant-loop-i l = slice_cmp tie_order (drop l.i l.a) (drop l.i l.b) ≡ slice_cmp tie_order l.a l.b
