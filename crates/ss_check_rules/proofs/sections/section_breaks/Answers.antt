use Rattle.std.proofs.Common.{ap, ◌∙◌}
use Rattle.ss_check_rules.proofs.Common.{check_error_order, earlier, earlier_of, earlier_of_list, found_after, view_scope}
use Rattle.ss_check_rules.specs.Refusal.{breaks, use_breaks}
use Rattle.ss_check_rules.proofs.sections.section_breaks.Goals as goal

pub loop-one-preserved : goal.loop-one-preserved
loop-one-preserved c =
    let s = view_scope c.args.scope.now in
    let u = c.one-item.result in
    found_after (earlier check_error_order) (breaks s c.args.in_main) c.args.found c.loop-one.found _ c.args.uses.now c.loop-one.one-index u
    c.loop-one-test.true c.one-item.is c.loop-one.invariant
    (c.earlier_of-found.ensures ∙ ap (earlier_of check_error_order c.loop-one.found) c.used_breaks.ensures
    ∙ earlier_of_list check_error_order c.loop-one.found (use_breaks s c.args.in_main u))
