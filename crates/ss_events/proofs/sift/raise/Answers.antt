use Rattle.std.proofs.Common.{refl, arith}
use Rattle.ss_events.specs.Sifting.{height}
use Rattle.ss_events.proofs.Sifts.{compared_last}
use Rattle.ss_events.proofs.sift.raise.Goals as goal

pub returns-then-not-is_before-clause-cost : goal.returns-then-not-is_before-clause-cost
returns-then-not-is_before-clause-cost c =
    compared_last c.args.heap.now c.args.heap.now c.is_before.new.self c.args.at (height c.args.at) (omega arith)
    record { comparisons = omega arith; moves = omega arith; grows = omega arith; followers = refl; before = refl } c.is_before.ensures.counted
