use Rattle.std.proofs.Common.{arith, refl, false-eqb}
use Rattle.ss_lex.proofs.LineEnds.{with_return, without_return}
use Rattle.ss_lex.proofs.collected.without_end_return.Goals as goal

pub returns-then-line-last-eq13 : goal.returns-then-line-last-eq13
returns-then-line-last-eq13 c = with_return c.args.line.now _ (omega (arith, false-eqb _ 0 c.if-is_empty.ensures)) refl c.if-line-last-eq13.true

pub returns-else-line-last-eq13 : goal.returns-else-line-last-eq13
returns-else-line-last-eq13 c = without_return c.args.line.now _ refl c.if-line-last-eq13.false
