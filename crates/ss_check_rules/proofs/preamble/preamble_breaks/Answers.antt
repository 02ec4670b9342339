use Rattle.ss_check_rules.proofs.Common.{check_error_order, earlier, in_preamble, view_preamble, viewed_after}
use Rattle.ss_check_rules.proofs.preamble.preamble_breaks.Goals as goal

pub loop-statement-preserved : goal.loop-statement-preserved
loop-statement-preserved c =
    viewed_after view_preamble (earlier check_error_order) (in_preamble c.args.names.now) c.args.found c.loop-statement.found _ c.args.preamble.now c.loop-statement.statement-index c.statement-item.result
    c.loop-statement-test.true c.statement-item.is c.loop-statement.invariant c.statement_breaks-found.ensures
