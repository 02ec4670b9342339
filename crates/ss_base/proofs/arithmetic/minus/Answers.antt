use Rattle.std.proofs.Common.{◌∙◌, w64}
use Rattle.std.proofs.lemmas.Int.{to_z-of_z}
use Rattle.ss_base.specs.Arithmetic.{minus_of}
use Rattle.ss_base.proofs.Whole.{checked_in}
use Rattle.ss_base.proofs.arithmetic.minus.Goals as goal

pub returns : goal.returns
unfolding minus_of
returns c = rw (← to_z-of_z w64 _ c.ranges.x, ← to_z-of_z w64 _ c.ranges.y) (c.ok_or.ensures.value ∙ checked_in _ _ c.checked_sub.ensures)
