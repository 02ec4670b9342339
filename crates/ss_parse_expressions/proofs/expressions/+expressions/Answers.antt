use Rattle.std.proofs.Common.{sym, ap, subst, ◌∙◌, Ok}
use Rattle.ss_parse_expressions.proofs.Common.{ExpressionTree, factor_with, HasFailedReading, sum_in, view_expression_tree, view_named_made, view_term}
use Rattle.ss_parse_expressions.proofs.Rows.{failed, grows, breaks, is_done, next_fails, next_read}
use Rattle.ss_parse_expressions.proofs.Sums.{further_factors_loop, further_terms_loop, sums_loop}
use Rattle.ss_parse_expressions.proofs.expressions.+expressions.Goals as goal

pub further_factors-more-preserved : goal.further_factors-more-preserved
further_factors-more-preserved t c = grows view_expression_tree (further_factors_loop c.args.room) _ _ c.in_ok-longer.ensures.0 _ _ _ c.in_ok-longer.ensures.2 (sym c.begins_symbol.ensures ∙ c.more-test.true) (ap (factor_with (sum_in c.args.room)) (sym c.skip_symbol.ensures) ∙ next_read _ _ _ _ c.factor.ensures c.in_ok-longer.ensures.1) c.more.invariant

pub further_factors-more-smaller : goal.further_factors-more-smaller
further_factors-more-smaller t c = (further_factors_loop c.args.room).shrinks _ _ _ (sym c.begins_symbol.ensures ∙ c.more-test.true) (ap (factor_with (sum_in c.args.room)) (sym c.skip_symbol.ensures) ∙ next_read _ _ _ _ c.factor.ensures c.in_ok-longer.ensures.1)

pub further_factors-returns : goal.further_factors-returns
further_factors-returns t c = is_done view_expression_tree (further_factors_loop c.args.room) _ _ _ (sym c.begins_symbol.ensures ∙ c.more-test.false) c.more.invariant

pub further_factors-returns-in_err-longer : goal.further_factors-returns-in_err-longer
further_factors-returns-in_err-longer t c =
    failed _ c.from_residual.result c.in_err-longer.field-0.0 _ c.from_residual.ensures.1
    (breaks view_expression_tree (further_factors_loop c.args.room) _ _ _ _ (sym c.begins_symbol.ensures ∙ c.more-test.true) (subst (λ r. HasFailedReading c.in_err-longer.field-0.0 (factor_with (sum_in c.args.room) r)) c.skip_symbol.ensures (next_fails _ c.more.all _ _ c.in_err-longer.field-0.0 c.factor.ensures c.in_err-longer.ensures)) c.more.invariant)

pub further_terms-more-preserved : goal.further_terms-more-preserved
further_terms-more-preserved t c = grows view_term (further_terms_loop c.args.room) _ _ c.in_ok-longer.ensures.0 _ _ _ c.in_ok-longer.ensures.2 (sym c.begins_sign.ensures ∙ c.more-test.true) (next_read _ _ _ _ c.signed_term.ensures c.in_ok-longer.ensures.1) c.more.invariant

pub further_terms-more-smaller : goal.further_terms-more-smaller
further_terms-more-smaller t c = (further_terms_loop c.args.room).shrinks _ _ _ (sym c.begins_sign.ensures ∙ c.more-test.true) (next_read _ _ _ _ c.signed_term.ensures c.in_ok-longer.ensures.1)

pub further_terms-returns : goal.further_terms-returns
further_terms-returns t c = is_done view_term (further_terms_loop c.args.room) _ _ _ (sym c.begins_sign.ensures ∙ c.more-test.false) c.more.invariant

pub further_terms-returns-in_err-longer : goal.further_terms-returns-in_err-longer
further_terms-returns-in_err-longer t c =
    failed _ c.from_residual.result c.in_err-longer.field-0.0 _ c.from_residual.ensures.1
    (breaks view_term (further_terms_loop c.args.room) _ _ _ _ (sym c.begins_sign.ensures ∙ c.more-test.true) (next_fails _ c.more.all _ _ c.in_err-longer.field-0.0 c.signed_term.ensures c.in_err-longer.ensures) c.more.invariant)

pub sums-more-preserved : goal.sums-more-preserved
sums-more-preserved t c = grows view_expression_tree (sums_loop c.args.room) _ _ c.in_ok-longer.ensures.0 _ _ _ c.in_ok-longer.ensures.2 (sym c.begins_more_sums.ensures ∙ c.more-test.true) (ap (sum_in c.args.room) (sym c.skip_separator.ensures) ∙ next_read _ _ _ _ c.sum-in-more.ensures c.in_ok-longer.ensures.1) c.more.invariant

pub sums-more-smaller : goal.sums-more-smaller
sums-more-smaller t c = (sums_loop c.args.room).shrinks _ _ _ (sym c.begins_more_sums.ensures ∙ c.more-test.true) (ap (sum_in c.args.room) (sym c.skip_separator.ensures) ∙ next_read _ _ _ _ c.sum-in-more.ensures c.in_ok-longer.ensures.1)

pub sums-returns : goal.sums-returns
sums-returns t c = is_done view_expression_tree (sums_loop c.args.room) _ _ _ (sym c.begins_more_sums.ensures ∙ c.more-test.false) c.more.invariant

pub sums-returns-in_err-longer : goal.sums-returns-in_err-longer
sums-returns-in_err-longer t c =
    failed _ c.from_residual-in_err-longer.result c.in_err-longer.field-0.0 _ c.from_residual-in_err-longer.ensures.1
    (breaks view_expression_tree (sums_loop c.args.room) _ _ _ _ (sym c.begins_more_sums.ensures ∙ c.more-test.true) (subst (λ r. HasFailedReading c.in_err-longer.field-0.0 (sum_in c.args.room r)) c.skip_separator.ensures (next_fails _ c.more.all _ _ c.in_err-longer.field-0.0 c.sum-in-more.ensures c.in_err-longer.ensures)) c.more.invariant)

pub named-returns : goal.named-returns
named-returns t c = rw c.in_ok-subscripts.ensures (ap (λ (e : ExpressionTree). Ok (e, c.in_ok-subscripts.rest.now)) (sym (view_named_made _)))
