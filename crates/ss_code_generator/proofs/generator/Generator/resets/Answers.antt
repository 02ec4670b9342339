use Rattle.std.proofs.Common.{map, take}
use Rattle.ss_code_generator.proofs.Common.{IsTypedRestart, Restart, restarts_code, view_restart}
use Rattle.ss_code_pieces.proofs.Steps.{next_taken}
use Rattle.ss_code_generator.proofs.Listed.{listed_more, restarts_more}
use Rattle.ss_code_generator.proofs.generator.Generator.resets.Goals as goal

pub loop-restart-preserved : goal.loop-restart-preserved
loop-restart-preserved c =
    let l = c.loop-restart in
    let x = c.restart-item.result in
    rw (next_taken view_restart c.args.restarts.now l.restart-index x c.loop-restart-test.true c.restart-item.is)
    (listed_more (λ (y : Restart) s. IsTypedRestart s y.statistic y.of) _ restarts_code restarts_more (map view_restart (take l.restart-index c.args.restarts.now)) (view_restart x) l.invariant c.in_ok-reset.ensures)
