use Rattle.ss_records_blocks.proofs.WordKinds.{may_link, still_link, still_counter}
use Rattle.ss_records_blocks.proofs.store.Blocks.relink.Goals as goal

pub set_link-requires : goal.set_link-requires
set_link-requires c = may_link c.args.self.now.cells c.args.place.at c.args.k c.requires.word

pub returns-clause-links : goal.returns-clause-links
returns-clause-links c = rw c.set_link.ensures.cells (still_link c.args.self.now.cells c.args.place.at c.args.k c.args.to.at c.requires.word)

pub returns-clause-counters : goal.returns-clause-counters
returns-clause-counters c = rw c.set_link.ensures.cells (still_counter c.args.self.now.cells c.args.place.at c.args.k c.args.to.at c.requires.word)
