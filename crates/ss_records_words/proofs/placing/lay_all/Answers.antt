use Rattle.std.proofs.Common.{length, ap, ◌∙◌, arith}
use Rattle.ss_records_words.proofs.Common.{word_of}
use Rattle.ss_records_blocks.proofs.Puts.{word_blank, length-blanks}
use Rattle.ss_records_blocks.proofs.Placings.{place_at}
use Rattle.ss_records_words.proofs.Makings.{laid_more}
use Rattle.ss_records_words.proofs.placing.lay_all.Goals as goal

pub lay-requires-clause-room : goal.lay-requires-clause-room
lay-requires-clause-room c =
    let g = place_at c.args.places.now c.loop-i.i _ c.loop-i-test.true in
    ap length (c.loop-i.invariant.laid.rest c.loop-i.i _ g (omega arith) ∙ c.requires.blank c.loop-i.i _ g) ∙ length-blanks _

pub lay-requires-clause-blank : goal.lay-requires-clause-blank
lay-requires-clause-blank c =
    λ k.
    let g = place_at c.args.places.now c.loop-i.i _ c.loop-i-test.true in
    ap (λ us. word_of us k) (c.loop-i.invariant.laid.rest c.loop-i.i _ g (omega arith) ∙ c.requires.blank c.loop-i.i _ g) ∙ word_blank _ k

pub loop-i-preserved : goal.loop-i-preserved
loop-i-preserved c =
    let g = place_at c.args.places.now c.loop-i.i _ c.loop-i-test.true in let h = c.loop-i.invariant in
    let size = ap length (h.laid.rest c.loop-i.i _ g (omega arith) ∙ c.requires.blank c.loop-i.i _ g) ∙ length-blanks _ in
    record {
      laid = laid_more c.args.layout.now c.args.blocks.now.cells c.loop-i.blocks.cells c.lay.new.blocks.cells c.args.end.at c.args.places.now c.args.class c.loop-i.i _ g c.requires.apart size h.laid c.lay.ensures.laid;
      touches = (omega (arith, h.touches.0, c.lay.ensures.few), omega (arith, h.touches.1, c.lay.ensures.touches), omega (arith, h.touches.2, c.lay.ensures.links));
    }
