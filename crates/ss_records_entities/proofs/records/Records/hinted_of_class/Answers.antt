use Rattle.ss_records_entities.proofs.Common.{places, to_z-of_z}
use Rattle.ss_records_entities.proofs.Keeps.{class_number, class_right}
use Rattle.ss_records_entities.proofs.Remembered.{found_numbered}
use Rattle.ss_records_entities.proofs.records.Records.hinted_of_class.Goals as goal

pub number-requires : goal.number-requires
number-requires c = let r = c.args.self.now in class_number r.layout r.blocks.cells r.system.at (places r) r.notes.lists c.requires.kept _ c.in-Some.place c.in-Some.ensures

pub returns-then-number-class : goal.returns-then-number-class
returns-then-number-class c =
    let r = c.args.self.now in let fits = c.ranges.r in let h = simp to_z-of_z at c.in-Some.ensures in
    let k = class_right r.layout r.blocks.cells r.system.at (places r) r.notes.lists c.requires.kept c.args.r c.in-Some.place c.args.class c.number.result h c.number.ensures c.if-number-class.true in
    found_numbered r c.requires.kept c.args.class c.args.r c.in-Some.place h k.0
