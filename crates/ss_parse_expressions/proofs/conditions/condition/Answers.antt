use Rattle.std.proofs.Common.{sym, ap, subst, ◌∙◌}
use Rattle.ss_parse_expressions.proofs.Common.{conjunction_in, HasFailedReading, view_conjunction_tree}
use Rattle.ss_parse_expressions.proofs.ConditionLaws.{condition_loop}
use Rattle.ss_parse_expressions.proofs.Rows.{failed, grows, breaks, is_done, next_fails, next_read}
use Rattle.ss_parse_expressions.proofs.conditions.condition.Goals as goal

pub more-preserved : goal.more-preserved
more-preserved c = grows view_conjunction_tree (condition_loop c.args.room) _ _ c.in_ok-longer.ensures.0 _ _ _ c.in_ok-longer.ensures.2 (sym c.begins_word.ensures ∙ c.more-test.true) (ap (conjunction_in c.args.room) (sym c.skip_word.ensures) ∙ next_read _ _ _ _ c.conjunction-in-more.ensures c.in_ok-longer.ensures.1) c.more.invariant

pub more-smaller : goal.more-smaller
more-smaller c = ((condition_loop c.args.room)).shrinks _ _ _ (sym c.begins_word.ensures ∙ c.more-test.true) (ap (conjunction_in c.args.room) (sym c.skip_word.ensures) ∙ next_read _ _ _ _ c.conjunction-in-more.ensures c.in_ok-longer.ensures.1)

pub returns : goal.returns
returns c = is_done view_conjunction_tree (condition_loop c.args.room) _ _ _ (sym c.begins_word.ensures ∙ c.more-test.false) c.more.invariant

pub returns-in_err-longer : goal.returns-in_err-longer
returns-in_err-longer c =
    failed _ c.from_residual-in_err-longer.result c.in_err-longer.field-0.0 _ c.from_residual-in_err-longer.ensures.1
    (breaks view_conjunction_tree (condition_loop c.args.room) _ _ _ _ (sym c.begins_word.ensures ∙ c.more-test.true) (subst (λ r. HasFailedReading c.in_err-longer.field-0.0 (conjunction_in c.args.room r)) c.skip_word.ensures (next_fails _ c.more.all _ _ c.in_err-longer.field-0.0 c.conjunction-in-more.ensures c.in_err-longer.ensures)) c.more.invariant)
