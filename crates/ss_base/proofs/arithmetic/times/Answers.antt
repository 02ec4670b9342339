use Rattle.std.proofs.Common.{◌∙◌, w64}
use Rattle.std.proofs.lemmas.Int.{to_z-of_z}
use Rattle.ss_base.specs.Arithmetic.{times_of}
use Rattle.ss_base.proofs.Whole.{checked_in}
use Rattle.ss_base.proofs.arithmetic.times.Goals as goal

pub returns : goal.returns
unfolding times_of
returns c = rw (← to_z-of_z w64 _ c.ranges.x, ← to_z-of_z w64 _ c.ranges.y) (c.ok_or.ensures.value ∙ checked_in _ _ c.checked_mul.ensures)
