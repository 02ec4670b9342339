use Rattle.std.proofs.Common.{ap, ◌∙◌}
use Rattle.ss_tables_rules.proofs.Common.{earlier, earlier_of, found_after, table_error_order}
use Rattle.ss_names_scopes.specs.Locals.{local_of}
use Rattle.ss_tables_rules.specs.Rules.{lacks_mode, unmoded_use}
use Rattle.ss_tables_rules.specs.declared.error.TableError.TheVariants as e
use Rattle.ss_tables_rules.proofs.Finding.{earlier_if}
use Rattle.ss_tables_rules.proofs.modes.uses_break.Goals as goal

pub loop-one-preserved : goal.loop-one-preserved
loop-one-preserved c =
    let t = c.args.names.now in
    let u = c.one-item.result in
    found_after (earlier table_error_order) (unmoded_use t c.args.locals.now) c.args.found c.loop-one.found _ c.args.uses.now c.loop-one.one-index u
    c.loop-one-test.true c.one-item.is c.loop-one.invariant
    (c.earlier_of-found.ensures ∙ ap (earlier_of table_error_order c.loop-one.found) c.use_breaks.ensures
    ∙ earlier_if c.loop-one.found (lacks_mode c.args.locals.now (local_of t u.what)) (e.RealMode u.line))
