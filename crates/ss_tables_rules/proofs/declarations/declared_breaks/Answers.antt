use Rattle.std.proofs.Common.{ap, ◌∙◌}
use Rattle.ss_tables_rules.proofs.Common.{declaration_breaches, earlier, earlier_of, earlier_of_list, found_after, table_error_order}
use Rattle.ss_tables_rules.specs.Rules.{broken_by}
use Rattle.ss_tables_rules.proofs.declarations.declared_breaks.Goals as goal

pub loop-declaration-preserved : goal.loop-declaration-preserved
loop-declaration-preserved c =
    let x = c.declaration-item.result in
    found_after (earlier table_error_order) (declaration_breaches c.args.names.now) c.args.found c.loop-declaration.found _ c.args.declarations.now c.loop-declaration.declaration-index x
    c.loop-declaration-test.true c.declaration-item.is c.loop-declaration.invariant
    (c.earlier_of-found.ensures ∙ ap (earlier_of table_error_order c.loop-declaration.found) c.broken_in.ensures
    ∙ earlier_of_list table_error_order c.loop-declaration.found (broken_by c.args.names.now x))
