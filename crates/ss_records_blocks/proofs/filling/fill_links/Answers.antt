use Rattle.std.proofs.Common.{◌+◌, ◌*◌, ◌<◌, length, refl, arith, ◌∙◌}
use Rattle.ss_records_blocks.specs.Cells.{MayBeLink, words_at}
use Rattle.ss_records_blocks.proofs.Fills.{may_be, one_more, two_more, three_more}
use Rattle.ss_records_blocks.proofs.filling.fill_links.Goals as goal

pub set_link-requires-in-loop-i : goal.set_link-requires-in-loop-i
set_link-requires-in-loop-i c =
    let room : c.args.from + 3 * c.loop-i.i + 2 < length (words_at c.args.blocks.now.cells c.args.place.at) = omega (arith, c.loop-i-test.true, c.requires.room) in
    rw c.set_link.ensures.cells (may_be MayBeLink tt (one_more _ _ _ c.args.from c.loop-i.i _ c.loop-i.invariant.filled room _ refl) (omega (arith, room)) (c.requires.blank (c.args.from + 3 * c.loop-i.i + 1) (omega arith) (omega (arith, c.loop-i-test.true))))

pub set_link-requires-in-loop-i-2 : goal.set_link-requires-in-loop-i-2
set_link-requires-in-loop-i-2 c =
    let room : c.args.from + 3 * c.loop-i.i + 2 < length (words_at c.args.blocks.now.cells c.args.place.at) = omega (arith, c.loop-i-test.true, c.requires.room) in
    rw (c.set_link-in-loop-i.ensures.cells, c.set_link.ensures.cells) (may_be MayBeLink tt (two_more _ _ _ c.args.from c.loop-i.i _ c.loop-i.invariant.filled room _ refl _ refl) room (c.requires.blank (c.args.from + 3 * c.loop-i.i + 2) (omega arith) (omega (arith, c.loop-i-test.true))))

pub loop-i-preserved : goal.loop-i-preserved
loop-i-preserved c = record {
  filled = rw (c.set_link-in-loop-i-2.ensures.cells, c.set_link-in-loop-i.ensures.cells, c.set_link.ensures.cells) (three_more _ _ _ c.args.from c.loop-i.i _ c.loop-i.invariant.filled (omega (arith, c.loop-i-test.true, c.requires.room)) _ refl _ refl _ refl);
  touches = (
    c.set_link-in-loop-i-2.ensures.touches.0 ∙ c.set_link-in-loop-i.ensures.touches.0 ∙ c.set_link.ensures.touches.0 ∙ c.loop-i.invariant.touches.0,
    omega (arith, c.set_link-in-loop-i-2.ensures.touches.1, c.set_link-in-loop-i.ensures.touches.1, c.set_link.ensures.touches.1, c.loop-i.invariant.touches.1),
  );
}
