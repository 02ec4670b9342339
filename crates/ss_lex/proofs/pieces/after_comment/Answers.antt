use Rattle.std.proofs.Common.{sym, ◌∙◌}
use Rattle.ss_lex.proofs.Cutting.{comment_ends, comment_goes_on, comment_stops}
use Rattle.ss_lex.proofs.pieces.after_comment.Goals as goal

pub returns-then-opens_comment : goal.returns-then-opens_comment
returns-then-opens_comment c = c.tail.ensures ∙ (sym (comment_ends _ _ _ c.in-Some.ensures (sym c.opens_comment.ensures ∙ c.if-opens_comment.true)) ∙ c.body.invariant)

pub body-preserved : goal.body-preserved
body-preserved c = sym (comment_goes_on _ _ _ c.in-Some.ensures (sym c.opens_comment.ensures ∙ c.if-opens_comment.false)) ∙ c.body.invariant

pub returns : goal.returns
returns c = comment_stops _ c.in_default.ensures ∙ c.body.invariant
