use Rattle.std.proofs.Common.{sym}
use Rattle.ss_records_entities.proofs.Common.{places, to_z-of_z}
use Rattle.ss_records_entities.proofs.Keeps.{there, class_number, notice_right, notice_wrong, notice_none}
use Rattle.ss_records_entities.proofs.records.Records.find_notice.Goals as goal

pub number-requires : goal.number-requires
number-requires c = let r = c.args.self.now in class_number r.layout r.blocks.cells r.system.at (places r) r.notes.lists c.requires.kept _ c.in-Ok.place (sym c.in-Ok.ensures)

pub returns-then-is_notice : goal.returns-then-is_notice
returns-then-is_notice c =
    let r = c.args.self.now in let fits = c.ranges.r in let h = simp to_z-of_z at c.in-Ok.ensures in
    let t = there r.directory.places c.args.r c.in-Ok.place (sym h) in
    record { found = record { index = t.0; is = t.1; entry = t.2; notice = notice_right r.layout r.blocks.cells r.system.at (places r) r.notes.lists c.requires.kept c.args.r c.in-Ok.place c.number.result (sym h) c.number.ensures (sym c.if-is_notice.ensures) } }

pub returns-else-is_notice : goal.returns-else-is_notice
returns-else-is_notice c =
    let r = c.args.self.now in let fits = c.ranges.r in let h = simp to_z-of_z at c.in-Ok.ensures in
    record { found = notice_wrong r.layout r.blocks.cells r.system.at (places r) r.notes.lists c.requires.kept c.args.r c.in-Ok.place c.number.result (sym h) c.number.ensures (sym c.if-is_notice.ensures) }

pub returns-in-Err : goal.returns-in-Err
returns-in-Err c =
    let r = c.args.self.now in let fits = c.ranges.r in let h = simp to_z-of_z at c.in-Err.ensures in
    record { found = notice_none r.layout r.blocks.cells r.system.at (places r) r.notes.lists c.requires.kept c.args.r c.in-Err.fault (sym h) }
