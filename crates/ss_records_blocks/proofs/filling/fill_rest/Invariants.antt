use Rattle.std.proofs.Common.{◌≡◌}
use Rattle.ss_records_blocks.specs.Writes.{IsFilled, zeros}
use Rattle.ss_records_blocks.proofs.filling.fill_rest.Given as goal

abbrev pub invariant-loop-k : goal.invariant-loop-k
invariant-loop-k l = record { filled : IsFilled l.initial.blocks.cells l.blocks.cells l.place.at l.from l.k zeros; touches : (l.blocks.touches ≡ l.initial.blocks.touches) × (l.blocks.total ≡ l.initial.blocks.total) }
