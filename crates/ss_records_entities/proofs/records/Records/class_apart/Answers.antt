use Rattle.std.proofs.Common.{sym, ap, ◌∙◌}
use Rattle.ss_records_entities.proofs.Common.{places, to_z-of_z}
use Rattle.ss_records_entities.proofs.Keeps.{class_number, read_place, numbered_is}
use Rattle.ss_records_entities.proofs.Classed.{class_there}
use Rattle.ss_records_entities.proofs.records.Records.class_apart.Goals as goal

pub number-requires : goal.number-requires
number-requires c = let r = c.args.self.now in class_number r.layout r.blocks.cells r.system.at (places r) r.notes.lists c.requires.kept _ c.in-Ok.place (sym c.in-Ok.ensures)

pub returns-in-Ok-clause-found : goal.returns-in-Ok-clause-found
returns-in-Ok-clause-found c =
    let fits = c.ranges.r in let h = simp to_z-of_z at c.in-Ok.ensures in
    class_there c.args.self.now c.requires.kept c.args.r c.in-Ok.place _ (sym h) c.number.ensures

pub returns-in-Err-clause-none : goal.returns-in-Err-clause-none
returns-in-Err-clause-none c = λ _.
    let r = c.args.self.now in let fits = c.ranges.r in let h = simp to_z-of_z at c.in-Err.ensures in
    (c.in-Err.field-0, numbered_is r.layout r.blocks.cells (places r) r.notes.lists c.args.r ∙ ap (read_place r.layout r.blocks.cells) (sym h))
