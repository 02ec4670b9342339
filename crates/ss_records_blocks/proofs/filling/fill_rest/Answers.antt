use Rattle.std.proofs.Common.{◌+◌, refl, arith, ◌∙◌}
use Rattle.ss_records_blocks.proofs.Fills.{filled_put}
use Rattle.ss_records_blocks.proofs.filling.fill_rest.Goals as goal

pub loop-k-preserved : goal.loop-k-preserved
loop-k-preserved c = record {
  filled = rw c.set_number.ensures.cells (filled_put c.args.blocks.now.cells c.loop-k.blocks.cells c.args.place.at c.args.from c.loop-k.k (c.loop-k.k + 1) _ _ c.loop-k.invariant.filled c.loop-k.auto.k (omega (arith, c.loop-k-test.true, c.requires.room)) refl refl);
  touches = (c.set_number.ensures.touches.0 ∙ c.loop-k.invariant.touches.0, c.set_number.ensures.touches.1 ∙ c.loop-k.invariant.touches.1);
}
