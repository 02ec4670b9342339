use Rattle.std.proofs.Common.{◌≡◌, ◌+◌, ◌*◌}
use Rattle.ss_records_blocks.specs.Writes.{IsFilled, owned_from}
use Rattle.ss_records_blocks.proofs.filling.fill_owned.Given as goal

abbrev pub invariant-loop-i : goal.invariant-loop-i
invariant-loop-i l = record { filled : IsFilled l.fn.blocks.cells l.blocks.cells l.place.at l.from (l.from + 3 * l.i) (owned_from l.end.at l.from); touches : (l.blocks.touches ≡ l.fn.blocks.touches) × (l.blocks.total ≡ l.fn.blocks.total + 3 * l.i) }
