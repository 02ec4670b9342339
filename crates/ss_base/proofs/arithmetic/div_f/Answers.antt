use Rattle.std.proofs.Common.{◌∙◌, w64}
use Rattle.std.proofs.lemmas.Int.{to_z-of_z}
use Rattle.ss_base.proofs.Whole.{quotient-zero, quotient-checked}
use Rattle.ss_base.proofs.arithmetic.div_f.Goals as goal

pub returns-then-y-eq0 : goal.returns-then-y-eq0
returns-then-y-eq0 c = quotient-zero _ _ c.ranges.y c.if-y-eq0.true

pub returns : goal.returns
returns c =
    rw (← to_z-of_z w64 _ c.ranges.x, ← to_z-of_z w64 _ c.ranges.y)
    (c.ok_or.ensures.value ∙ quotient-checked _ _ _ (rw (to_z-of_z w64 _ c.ranges.y) c.if-y-eq0.false) c.checked_div.ensures)
