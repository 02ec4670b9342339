use Rattle.std.proofs.Common.{is_some, sym, ap, ◌∙◌}
use Rattle.ss_check_rules.proofs.Common.{check_error_order, earlier, earlier_of, earlier_of_list, fold, unless, value_for}
use Rattle.ss_base.specs.declared.layout.ClassKind.{ClassKind}
use Rattle.ss_check_rules.specs.Refusal.{eventless_of}
use Rattle.ss_check_rules.specs.declared.error.CheckError.TheVariants as e
use Rattle.ss_check_rules.proofs.preamble.class_breaks.Goals as goal

pub returns-in-Notice : goal.returns-in-Notice
returns-in-Notice c =
    let t = c.args.names.now in
    let class = c.args.class.now in
    c.earlier_of.ensures ∙ ap (earlier_of check_error_order c.args.found) c.eventless.ensures
    ∙ earlier_of_list check_error_order c.args.found (unless (is_some (value_for t.events class)) (e.NoEventRoutine c.args.line))
    ∙ sym (ap (λ (k : ClassKind). fold (earlier check_error_order) c.args.found (eventless_of t c.args.line k class)) c.in-Notice.is)
