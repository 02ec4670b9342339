use Rattle.ss_records_blocks.proofs.Fills.{head_room1, head_filled}
use Rattle.ss_records_blocks.proofs.filling.lay_head.Goals as goal

pub set_number-requires-2 : goal.set_number-requires-2
set_number-requires-2 c = rw c.set_number.ensures.cells (head_room1 c.args.blocks.now.cells c.args.place.at _ c.requires.room c.requires.blank)

pub returns-clause-filled : goal.returns-clause-filled
returns-clause-filled c = rw (c.set_number-2.ensures.cells, c.set_number.ensures.cells) (head_filled c.args.blocks.now.cells c.args.place.at c.args.class c.args.number c.requires.room)
