use Rattle.std.proofs.Common.{List, sym, ap, ◌∙◌}
use Rattle.ss_tables_rules.proofs.Common.{again, Declaration, earlier, earlier_of, fold, once_added, repeats_after, table_error_order}
use Rattle.std.proofs.lemmas.List.{at_drop_all}
use Rattle.ss_tables_rules.proofs.Repeats.{repeat_more}
use Rattle.ss_tables_rules.proofs.once.repeated.Goals as goal

pub loop-declaration-init : goal.loop-declaration-init
loop-declaration-init c = λ i. fold (earlier table_error_order) c.args.found (repeats_after c.args.names.now (c.new-said.ensures i) c.args.declarations.now)

pub loop-declaration-preserved : goal.loop-declaration-preserved
loop-declaration-preserved c =
    let x = c.declaration-item.result in
    let said = c.loop-declaration.said in
    repeat_more c.args.names.now said _ c.loop-declaration.found _ _ c.args.declarations.now c.loop-declaration.declaration-index x
    c.loop-declaration-test.true c.declaration-item.is
    (c.earlier_of-found.ensures ∙ ap (earlier_of table_error_order c.loop-declaration.found) (c.again.ensures ∙ ap (again said x.line x.what) c.once_of-once.ensures))
    (c.in_ok-note.ensures ∙ ap (once_added said) c.once_of-once.ensures)
    c.loop-declaration.invariant

pub returns : goal.returns
returns c =
    sym (at_drop_all (λ (l : List Declaration). fold (earlier table_error_order) c.loop-declaration.found (repeats_after c.args.names.now c.loop-declaration.said l)) c.args.declarations.now c.loop-declaration.declaration-index c.loop-declaration-test.false)
    ∙ c.loop-declaration.invariant
