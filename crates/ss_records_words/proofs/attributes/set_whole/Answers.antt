use Rattle.std.proofs.Common.{◌≡◌, ◌∙◌, rules, w64, to_z, of_z}
use Rattle.ss_records_blocks.proofs.WordKinds.{may_number}
use Rattle.ss_records_words.proofs.ValueWords.{whole_put}
use Rattle.ss_records_words.proofs.attributes.set_whole.Goals as goal

pub set_number-requires : goal.set_number-requires
set_number-requires c = may_number c.args.blocks.now.cells c.args.place.at c.args.k c.requires.first

pub returns-clause-written : goal.returns-clause-written
returns-clause-written c =
    let cs = c.args.blocks.now.cells in let ds = c.set_number.new.self.cells in
    let same : to_z w64 (of_z w64 c.args.number) ≡ c.args.number = search rules in
    whole_put cs ds c.args.place.at c.args.k c.whole_word.result c.args.number (c.whole_word.ensures ∙ same) c.requires.second c.set_number.ensures.cells
