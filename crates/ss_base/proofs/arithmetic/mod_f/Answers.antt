use Rattle.ss_base.proofs.Whole.{remainder-zero, remainder-fits}
use Rattle.ss_base.proofs.arithmetic.mod_f.Goals as goal

pub returns-then-y-eq0 : goal.returns-then-y-eq0
returns-then-y-eq0 c = remainder-zero _ _ c.ranges.y c.if-y-eq0.true

pub returns : goal.returns
returns c = remainder-fits _ _ _ c.ranges.x c.ranges.y c.if-y-eq0.false c.wrapping_rem.ensures
