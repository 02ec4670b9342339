use Rattle.std.proofs.Common.{sym, ap, subst, ◌∙◌}
use Rattle.ss_parse_expressions.proofs.Common.{HasFailedReading, name_in_token, past_article, taken}
use Rattle.ss_parse_expressions.proofs.WordLaws.{listed_loop}
use Rattle.ss_parse_expressions.proofs.Rows.{failed, first_taken, grows_plain, breaks_plain, is_done_plain}
use Rattle.ss_parse_expressions.proofs.names.listed.Goals as goal

pub more-preserved : goal.more-preserved
more-preserved c = grows_plain (listed_loop c.args.articles) _ _ c.in_ok-next.next _ _ _ c.in_ok-push.ensures.items (sym c.begins_more_listed.ensures ∙ c.more-test.true) (first_taken _ _ c.past_article-from-in-more.result.now _ (sym (ap (taken name_in_token) (c.past_article-from-in-more.ensures ∙ ap (past_article c.args.articles) c.skip_separator.ensures)) ∙ c.in_ok-next.ensures) c.after_first-rest-in-more.ensures) c.more.invariant

pub more-smaller : goal.more-smaller
more-smaller c = (listed_loop c.args.articles).shrinks _ _ _ (sym c.begins_more_listed.ensures ∙ c.more-test.true) (first_taken _ _ c.past_article-from-in-more.result.now _ (sym (ap (taken name_in_token) (c.past_article-from-in-more.ensures ∙ ap (past_article c.args.articles) c.skip_separator.ensures)) ∙ c.in_ok-next.ensures) c.after_first-rest-in-more.ensures)

pub returns : goal.returns
returns c = is_done_plain (listed_loop c.args.articles) _ _ _ (sym c.begins_more_listed.ensures ∙ c.more-test.false) c.more.invariant

pub returns-in_err-next : goal.returns-in_err-next
returns-in_err-next c =
    failed _ c.from_residual-in_err-next.result c.in_err-next.field-0.0 _ c.from_residual-in_err-next.ensures.1
    (breaks_plain (listed_loop c.args.articles) _ _ _ _ (sym c.begins_more_listed.ensures ∙ c.more-test.true) (subst (λ r. HasFailedReading c.in_err-next.field-0.0 (taken name_in_token r)) (c.past_article-from-in-more.ensures ∙ ap (past_article c.args.articles) c.skip_separator.ensures) c.in_err-next.ensures) c.more.invariant)
