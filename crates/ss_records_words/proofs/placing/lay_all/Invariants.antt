use Rattle.std.proofs.Common.{◌≡◌, ◌+◌, ◌*◌, ◌≤◌}
use Rattle.ss_records_words.proofs.Common.{AreLaidTo, Class, set_places}
use Rattle.ss_records_words.proofs.placing.lay_all.Given as goal

abbrev pub invariant-loop-i : goal.invariant-loop-i
invariant-loop-i l = record {
  laid : AreLaidTo l.layout l.initial.blocks.cells l.blocks.cells l.end.at l.places l.class l.i;
  touches : (l.blocks.touches ≤ l.i * 8388608) × (l.blocks.total ≡ l.initial.blocks.total + l.blocks.touches) × (l.blocks.touches ≡ l.i * (3 * set_places l.layout (Class l.class)));
}
