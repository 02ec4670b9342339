use Rattle.std.proofs.Common.{map, take}
use Rattle.ss_code_generator.proofs.Common.{CanTakeMode, InputTarget, reads_code, view_target}
use Rattle.ss_code_pieces.proofs.Steps.{next_taken}
use Rattle.ss_code_generator.proofs.Listed.{listed_more, reads_more}
use Rattle.ss_code_generator.proofs.generator.Generator.reads.Goals as goal

pub loop-target-preserved : goal.loop-target-preserved
loop-target-preserved c =
    let l = c.loop-target in
    let x = c.target-item.result in
    rw (next_taken view_target c.args.targets.now l.target-index x c.loop-target-test.true c.target-item.is)
    (listed_more (λ (y : InputTarget) s. CanTakeMode s y.place y.mode) _ reads_code reads_more (map view_target (take l.target-index c.args.targets.now)) (view_target x) l.invariant c.in_ok-read.ensures)
