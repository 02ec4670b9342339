use Rattle.ss_records_blocks.proofs.WordKinds.{may_number, may_next}
use Rattle.ss_records_words.proofs.attributes.set_text.Goals as goal

pub set_number-requires : goal.set_number-requires
set_number-requires c = may_number c.args.blocks.now.cells c.args.place.at c.args.k c.requires.first

pub set_number-requires-2 : goal.set_number-requires-2
set_number-requires-2 c = rw c.set_number.ensures.cells (may_next c.args.blocks.now.cells c.args.place.at c.args.k _ c.requires.second)
