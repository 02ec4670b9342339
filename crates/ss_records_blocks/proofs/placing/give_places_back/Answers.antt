use Rattle.std.proofs.Common.{sym, subst, ◌∙◌, ◌<◌}
use Rattle.ss_records_blocks.proofs.Placings.{place_at, backed_more}
use Rattle.ss_records_blocks.proofs.placing.give_places_back.Goals as goal

pub loop-i-preserved : goal.loop-i-preserved
loop-i-preserved c =
    let g = place_at c.args.places.now c.loop-i.i _ c.loop-i-test.true in
    record {
      backed = rw c.give_back.ensures.cells (backed_more c.args.blocks.now.cells c.loop-i.blocks.cells c.args.places.now c.loop-i.i _ g c.requires.apart (subst (λ n. 0 < n) (sym (c.requires.size c.loop-i.i _ g)) c.requires.words) c.loop-i.invariant.backed);
      touches = (c.give_back.ensures.touches.0 ∙ c.loop-i.invariant.touches.0, c.give_back.ensures.touches.1 ∙ c.loop-i.invariant.touches.1);
    }
