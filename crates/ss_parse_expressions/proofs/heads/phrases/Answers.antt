use Rattle.std.proofs.Common.{sym, ap, subst, ◌∙◌}
use Rattle.ss_parse_expressions.proofs.Common.{HasFailedReading, phrase_in, view_phrase_tree}
use Rattle.ss_parse_expressions.proofs.HeadLaws.{phrases_loop}
use Rattle.ss_parse_expressions.proofs.Rows.{failed, grows, breaks, is_done, next_fails, next_read}
use Rattle.ss_parse_expressions.proofs.heads.phrases.Goals as goal

pub more-preserved : goal.more-preserved
more-preserved c = grows view_phrase_tree (phrases_loop c.args.room) _ _ c.in_ok-longer.ensures.0 _ _ _ c.in_ok-longer.ensures.2 (sym c.begins_phrase.ensures ∙ c.more-test.true) (ap (phrase_in c.args.room) (sym c.skip_symbol.ensures) ∙ next_read _ _ _ _ c.phrase.ensures c.in_ok-longer.ensures.1) c.more.invariant

pub more-smaller : goal.more-smaller
more-smaller c = ((phrases_loop c.args.room)).shrinks _ _ _ (sym c.begins_phrase.ensures ∙ c.more-test.true) (ap (phrase_in c.args.room) (sym c.skip_symbol.ensures) ∙ next_read _ _ _ _ c.phrase.ensures c.in_ok-longer.ensures.1)

pub returns : goal.returns
returns c = is_done view_phrase_tree (phrases_loop c.args.room) _ _ _ (sym c.begins_phrase.ensures ∙ c.more-test.false) c.more.invariant

pub returns-in_err-longer : goal.returns-in_err-longer
returns-in_err-longer c =
    failed _ c.from_residual.result c.in_err-longer.field-0.0 _ c.from_residual.ensures.1
    (breaks view_phrase_tree (phrases_loop c.args.room) _ _ _ _ (sym c.begins_phrase.ensures ∙ c.more-test.true) (subst (λ r. HasFailedReading c.in_err-longer.field-0.0 (phrase_in c.args.room r)) c.skip_symbol.ensures (next_fails _ c.more.all _ _ c.in_err-longer.field-0.0 c.phrase.ensures c.in_err-longer.ensures)) c.more.invariant)
