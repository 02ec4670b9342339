use Rattle.ss_tables_rules.proofs.Common.{earlier, misranked_in, table_error_order, view_preamble, viewed_after}
use Rattle.ss_tables_rules.proofs.keys.misranked.Goals as goal

pub loop-statement-preserved : goal.loop-statement-preserved
loop-statement-preserved c =
    viewed_after view_preamble (earlier table_error_order) (misranked_in c.args.names.now) c.args.found c.loop-statement.found _ c.args.preamble.now c.loop-statement.statement-index c.statement-item.result
    c.loop-statement-test.true c.statement-item.is c.loop-statement.invariant c.statement_breaks-found.ensures
