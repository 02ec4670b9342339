use Rattle.std.proofs.Common.{◌≡◌}
use Rattle.ss_records_blocks.proofs.Placings.{Backed}
use Rattle.ss_records_blocks.proofs.placing.give_places_back.Given as goal

abbrev pub invariant-loop-i : goal.invariant-loop-i
invariant-loop-i l = record {
  backed : Backed l.initial.blocks.cells l.blocks.cells l.places l.i;
  touches : (l.blocks.touches ≡ l.initial.blocks.touches) × (l.blocks.total ≡ l.initial.blocks.total);
}
