use Rattle.std.proofs.Common.{◌≡◌, [], ◌∷◌, length, slice_get, Some, ap, subst, ◌∙◌, arith, length-append}
use Rattle.ss_records_blocks.proofs.Puts.{length-blanks}
use Rattle.ss_records_blocks.proofs.Placings.{placed_more}
use Rattle.ss_records_blocks.proofs.placing.place_all.Goals as goal

pub give_places_back-requires-clause-size : goal.give_places_back-requires-clause-size
give_places_back-requires-clause-size c = λ i p g.
    let same = c.deref.ensures.value ∙ c.in-Err.ensures.placed.1 in
    rw c.in-Err.ensures.placed.0 (ap length (c.loop-n.invariant.placed.blank i p (subst (λ ps. slice_get ps i ≡ Some p) same g)) ∙ length-blanks c.args.words)

pub loop-n-preserved : goal.loop-n-preserved
loop-n-preserved c =
    let n = c.in-Ok.ensures.placed in let h = c.loop-n.invariant in
    record {
      placed = rw (n.2, n.3) (placed_more c.args.blocks.now.cells c.loop-n.blocks.cells c.args.words c.loop-n.places.items n.0 h.placed n.1 c.requires.size.0);
      count = omega (arith, ap length n.3, length-append c.loop-n.places.items (n.0 ∷ []), h.count);
      touches = (c.place_next.ensures.touches.0 ∙ h.touches.0, c.place_next.ensures.touches.1 ∙ h.touches.1);
    }
