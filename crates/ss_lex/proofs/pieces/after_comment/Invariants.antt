use Rattle.std.proofs.Common.{◌≡◌, length}
use Rattle.ss_lex.specs.Reading.{comment_at}
use Rattle.ss_lex.proofs.pieces.after_comment.Given as goal

abbrev pub invariant-body : goal.invariant-body
invariant-body l = (comment_at l.rest).1 ≡ (comment_at l.bytes).1

abbrev pub decreases-body : goal.decreases-body
decreases-body l = length l.rest
