use Rattle.std.proofs.Common.{sym, ap, subst, ◌∙◌}
use Rattle.ss_parse_expressions.proofs.Common.{HasFailedReading, target_in, view_named}
use Rattle.ss_parse_expressions.proofs.PlaceLaws.{targets_loop}
use Rattle.ss_parse_expressions.proofs.Rows.{failed, grows, breaks, is_done, next_fails, next_read}
use Rattle.ss_parse_expressions.proofs.places.targets.Goals as goal

pub more-preserved : goal.more-preserved
more-preserved c = grows view_named (targets_loop c.args.room) _ _ c.in_ok-longer.ensures.0 _ _ _ c.in_ok-longer.ensures.2 (sym c.begins_more_targets.ensures ∙ c.more-test.true) (ap (target_in c.args.room) (sym c.skip_separator.ensures) ∙ next_read _ _ _ _ c.target-in-more.ensures c.in_ok-longer.ensures.1) c.more.invariant

pub more-smaller : goal.more-smaller
more-smaller c = ((targets_loop c.args.room)).shrinks _ _ _ (sym c.begins_more_targets.ensures ∙ c.more-test.true) (ap (target_in c.args.room) (sym c.skip_separator.ensures) ∙ next_read _ _ _ _ c.target-in-more.ensures c.in_ok-longer.ensures.1)

pub returns : goal.returns
returns c = is_done view_named (targets_loop c.args.room) _ _ _ (sym c.begins_more_targets.ensures ∙ c.more-test.false) c.more.invariant

pub returns-in_err-longer : goal.returns-in_err-longer
returns-in_err-longer c =
    failed _ c.from_residual-in_err-longer.result c.in_err-longer.field-0.0 _ c.from_residual-in_err-longer.ensures.1
    (breaks view_named (targets_loop c.args.room) _ _ _ _ (sym c.begins_more_targets.ensures ∙ c.more-test.true) (subst (λ r. HasFailedReading c.in_err-longer.field-0.0 (target_in c.args.room r)) c.skip_separator.ensures (next_fails _ c.more.all _ _ c.in_err-longer.field-0.0 c.target-in-more.ensures c.in_err-longer.ensures)) c.more.invariant)
