use Rattle.std.proofs.Common.{◌<◌, ◌^◌, drop}
use Rattle.ss_machine.proofs.Common.{AllByRecursion, CanShow, IsPrintable}
use Rattle.ss_machine.proofs.Items.{AreSoFar}
use Rattle.ss_machine.proofs.showing.show.Given as goal

abbrev pub invariant-loop-kind : goal.invariant-loop-kind
invariant-loop-kind l = record {
  low : l.at < 2 ^ 64;
  can : CanShow l.state.world l.state.rows l.at (drop l.kind-index l.kinds);
  shown : AreSoFar l.state.world l.state.rows l.from l.at l.kinds (drop l.kind-index l.kinds) l.items.items;
  printable : AllByRecursion IsPrintable l.items.items;
}
