use Rattle.ss_records_entities.proofs.Common.{places, to_z-of_z}
use Rattle.ss_records_entities.proofs.Keeps.{class_number}
use Rattle.ss_records_entities.proofs.Classed.{class_there}
use Rattle.ss_records_entities.proofs.records.Records.class_of.Goals as goal

pub number-requires : goal.number-requires
number-requires c = let r = c.args.self.now in class_number r.layout r.blocks.cells r.system.at (places r) r.notes.lists c.requires.kept _ c.in-Some.place c.in-Some.ensures

pub returns-in-Some-clause-found : goal.returns-in-Some-clause-found
returns-in-Some-clause-found c =
    let fits = c.ranges.r in let h = simp to_z-of_z at c.in-Some.ensures in
    class_there c.args.self.now c.requires.kept c.args.r c.in-Some.place _ h c.number.ensures

pub returns-in-None : goal.returns-in-None
returns-in-None c =
    let fits = c.ranges.r in
    record { found = simp to_z-of_z at c.class_apart.ensures.found; none = simp to_z-of_z at c.class_apart.ensures.none }
