use Rattle.std.proofs.Common.{◌+◌, refl, subst}
use Rattle.ss_records_blocks.specs.Writes.{IsFilled, zeros}
use Rattle.ss_records_blocks.proofs.Fills.{filled_first, first_room, first_blank}
use Rattle.ss_records_blocks.proofs.filling.fill_second.Goals as goal

pub fill_third-requires-clause-room : goal.fill_third-requires-clause-room
fill_third-requires-clause-room c = rw c.set_number.ensures.cells (first_room c.args.blocks.now.cells c.args.place.at c.args.from c.args.to _ c.requires.room)

pub fill_third-requires-clause-blank : goal.fill_third-requires-clause-blank
fill_third-requires-clause-blank c = rw c.set_number.ensures.cells (first_blank c.args.blocks.now.cells c.args.place.at c.args.from c.args.to _ c.requires.blank)

pub returns-then-from-to-clause-filled : goal.returns-then-from-to-clause-filled
returns-then-from-to-clause-filled c =
    filled_first c.args.blocks.now.cells c.args.place.at c.args.from c.args.to _ c.fill_third.new.blocks.cells zeros refl c.if-from-to.true c.requires.room
    (subst (λ bs. IsFilled bs c.fill_third.new.blocks.cells c.args.place.at (c.args.from + 1) c.args.to zeros) c.set_number.ensures.cells c.fill_third.ensures.filled)
