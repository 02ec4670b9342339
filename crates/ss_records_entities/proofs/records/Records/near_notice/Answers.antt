use Rattle.std.proofs.Common.{sym}
use Rattle.ss_records_entities.proofs.Common.{places, to_z-of_z}
use Rattle.ss_records_entities.proofs.Keeps.{there, class_number, notice_right}
use Rattle.ss_records_entities.proofs.records.Records.near_notice.Goals as goal

pub number-requires : goal.number-requires
number-requires c = let r = c.args.self.now in class_number r.layout r.blocks.cells r.system.at (places r) r.notes.lists c.requires.kept _ c.in-Some.place c.in-Some.ensures

pub returns-then-is_notice : goal.returns-then-is_notice
returns-then-is_notice c =
    let r = c.args.self.now in let fits = c.ranges.r in let h = simp to_z-of_z at c.in-Some.ensures in
    let t = there r.directory.places c.args.r c.in-Some.place h in
    record { index = t.0; is = t.1; entry = t.2; notice = notice_right r.layout r.blocks.cells r.system.at (places r) r.notes.lists c.requires.kept c.args.r c.in-Some.place c.number.result h c.number.ensures (sym c.if-is_notice.ensures) }
