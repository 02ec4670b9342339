use Rattle.std.proofs.Common.{is_some, ap, ◌∙◌}
use Rattle.ss_check_rules.proofs.Common.{check_error_order, earlier, earlier_of, earlier_of_list, eventless, found_after, unless, value_for}
use Rattle.ss_check_rules.specs.declared.error.CheckError.TheVariants as e
use Rattle.ss_check_rules.proofs.preamble.notices_break.Goals as goal

pub loop-class-preserved : goal.loop-class-preserved
loop-class-preserved c =
    let t = c.args.names.now in
    let class = c.class-item.result in
    found_after (earlier check_error_order) (eventless t c.args.line) c.args.found c.loop-class.found _ c.args.classes.now c.loop-class.class-index class
    c.loop-class-test.true c.class-item.is c.loop-class.invariant
    (c.earlier_of-found.ensures ∙ ap (earlier_of check_error_order c.loop-class.found) c.eventless.ensures
    ∙ earlier_of_list check_error_order c.loop-class.found (unless (is_some (value_for t.events class)) (e.NoEventRoutine c.args.line)))
