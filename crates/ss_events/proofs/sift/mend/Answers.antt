use Rattle.std.proofs.Common.{arith}
use Rattle.std.proofs.lemmas.List.Sorted.{length_permutation}
use Rattle.ss_events.proofs.Sifts.{height_few, mended_down, cost_up, cost_down}
use Rattle.ss_events.proofs.sift.mend.Goals as goal

pub lower-requires-clause-small : goal.lower-requires-clause-small
lower-requires-clause-small c = omega (arith, length_permutation c.args.heap.now.entries c.raise.new.heap.entries c.raise.ensures.raises.risen.permutation)

pub lower-requires-clause-comparisons : goal.lower-requires-clause-comparisons
lower-requires-clause-comparisons c = omega (arith, c.raise.ensures.cost.comparisons, height_few c.args.at (omega arith))

pub lower-requires-clause-moves : goal.lower-requires-clause-moves
lower-requires-clause-moves c = omega (arith, c.raise.ensures.cost.moves, height_few c.args.at (omega arith))

pub returns-then-raise-at-clause-mends : goal.returns-then-raise-at-clause-mends
returns-then-raise-at-clause-mends c = mended_down c.args.heap.now.entries c.raise.new.heap.entries c.lower.new.heap.entries c.args.at c.raise.result c.if-raise-at.true c.raise.ensures.raises c.lower.ensures.lowers

pub returns-then-raise-at-clause-cost : goal.returns-then-raise-at-clause-cost
returns-then-raise-at-clause-cost c =
    cost_down c.args.heap.now c.raise.new.heap c.lower.new.heap c.args.at (length_permutation c.args.heap.now.entries c.raise.new.heap.entries c.raise.ensures.raises.risen.permutation)
    c.raise.ensures.cost c.lower.ensures.cost

pub returns-else-raise-at-clause-cost : goal.returns-else-raise-at-clause-cost
returns-else-raise-at-clause-cost c = cost_up c.args.heap.now c.raise.new.heap c.args.at c.requires.within c.raise.ensures.cost
