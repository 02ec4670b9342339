use Rattle.ss_records_blocks.specs.Cells.{blanks}
use Rattle.ss_records_blocks.proofs.Puts.{words_new, length-blanks}
use Rattle.ss_records_blocks.proofs.placing.place_next.Goals as goal

pub give_back-requires : goal.give_back-requires
give_back-requires c = record {
  size = (
    rw (c.in_ok-place.ensures.placed.1, words_new c.args.blocks.now.cells c.in_ok-place.place.at (blanks c.args.words)) (length-blanks c.args.words),
    c.requires.size.0,
  );
}
