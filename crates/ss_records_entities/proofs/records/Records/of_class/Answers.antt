use Rattle.std.proofs.Common.{sym}
use Rattle.ss_records_entities.proofs.Common.{places, to_z-of_z}
use Rattle.ss_records_entities.proofs.Keeps.{class_number, class_right, class_wrong, class_none}
use Rattle.ss_records_entities.proofs.records.Records.of_class.Goals as goal

pub number-requires : goal.number-requires
number-requires c = let r = c.args.self.now in class_number r.layout r.blocks.cells r.system.at (places r) r.notes.lists c.requires.kept _ c.in-Ok.place (sym c.in-Ok.ensures)

pub returns-then-number-class : goal.returns-then-number-class
returns-then-number-class c =
    let r = c.args.self.now in let fits = c.ranges.r in let h = simp to_z-of_z at c.in-Ok.ensures in
    let k = class_right r.layout r.blocks.cells r.system.at (places r) r.notes.lists c.requires.kept c.args.r c.in-Ok.place c.args.class c.number.result (sym h) c.number.ensures c.if-number-class.true in
    record { found = (sym h, k.0, k.1) }

pub returns-else-number-class : goal.returns-else-number-class
returns-else-number-class c =
    let r = c.args.self.now in let fits = c.ranges.r in let h = simp to_z-of_z at c.in-Ok.ensures in
    record { found = class_wrong r.layout r.blocks.cells r.system.at (places r) r.notes.lists c.requires.kept c.args.r c.in-Ok.place c.args.class c.number.result (sym h) c.number.ensures c.if-number-class.false }

pub returns-in-Err : goal.returns-in-Err
returns-in-Err c =
    let r = c.args.self.now in let fits = c.ranges.r in let h = simp to_z-of_z at c.in-Err.ensures in
    record { found = class_none r.layout r.blocks.cells r.system.at (places r) r.notes.lists c.requires.kept c.args.r c.args.class c.in-Err.fault (sym h) }
