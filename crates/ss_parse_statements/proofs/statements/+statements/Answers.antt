use Rattle.std.proofs.Common.{sym, ap, subst, ◌∙◌}
use Rattle.ss_parse_statements.proofs.Common.{HasFailedReading, view_statement_tree}
use Rattle.std.proofs.lemmas.Result.{err_from_is_err_and}
use Rattle.ss_parse_expressions.proofs.Rows.{grows, breaks, is_done, next_fails, next_read}
use Rattle.ss_parse_statements.specs.ReadStatements.{statement_in}
use Rattle.ss_parse_statements.proofs.Levels.{statements_loop}
use Rattle.ss_parse_statements.proofs.statements.+statements.Goals as goal

pub statements-more-preserved : goal.statements-more-preserved
statements-more-preserved t c = grows view_statement_tree (statements_loop c.args.room) _ _ c.in_ok-longer.ensures.0 _ _ _ c.in_ok-longer.ensures.2 (sym c.begins_statement.ensures ∙ c.more-test.true) (ap (statement_in c.args.room) (sym c.skip_symbol.ensures) ∙ next_read _ _ _ _ c.statement-next.ensures c.in_ok-longer.ensures.1) c.more.invariant

pub statements-more-smaller : goal.statements-more-smaller
statements-more-smaller t c = (statements_loop c.args.room).shrinks _ _ _ (sym c.begins_statement.ensures ∙ c.more-test.true) (ap (statement_in c.args.room) (sym c.skip_symbol.ensures) ∙ next_read _ _ _ _ c.statement-next.ensures c.in_ok-longer.ensures.1)

pub statements-returns : goal.statements-returns
statements-returns t c = is_done view_statement_tree (statements_loop c.args.room) _ _ _ (sym c.begins_statement.ensures ∙ c.more-test.false) c.more.invariant

pub statements-returns-in_err-longer : goal.statements-returns-in_err-longer
statements-returns-in_err-longer t c =
    let p = err_from_is_err_and c.from_residual.result c.from_residual.ensures.1 in
    rw (p.1, p.2) (breaks view_statement_tree (statements_loop c.args.room) _ _ _ _ (sym c.begins_statement.ensures ∙ c.more-test.true) (subst (λ r. HasFailedReading c.in_err-longer.field-0.0 (statement_in c.args.room r)) c.skip_symbol.ensures (next_fails _ c.more.all _ _ c.in_err-longer.field-0.0 c.statement-next.ensures c.in_err-longer.ensures)) c.more.invariant)
