use Rattle.std.proofs.Common.{◌≡◌, length}
use Rattle.ss_code.proofs.Deeper.{Halfway}
use Rattle.ss_code.proofs.generating.deepen_all.Given as goal

abbrev pub invariant-loop-i : goal.invariant-loop-i
invariant-loop-i l = record {
  done : Halfway l.depth l.i l.initial.entries.items l.entries.items;
  long : length l.entries.items ≡ length l.initial.entries.items;
}
