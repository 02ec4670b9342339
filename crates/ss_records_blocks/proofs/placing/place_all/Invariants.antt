use Rattle.std.proofs.Common.{◌≡◌, length}
use Rattle.ss_records_blocks.specs.Writes.{ArePlaced}
use Rattle.ss_records_blocks.proofs.placing.place_all.Given as goal

abbrev pub invariant-loop-n : goal.invariant-loop-n
invariant-loop-n l = record {
  placed : ArePlaced l.initial.blocks.cells l.blocks.cells l.words l.places.items;
  count : length l.places.items ≡ l._n;
  touches : (l.blocks.touches ≡ l.initial.blocks.touches) × (l.blocks.total ≡ l.initial.blocks.total);
}
