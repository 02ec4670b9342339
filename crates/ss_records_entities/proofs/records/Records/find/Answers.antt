use Rattle.std.proofs.Common.{subst}
use Rattle.ss_records_entities.proofs.Common.{IsPermanent, to_z-of_z}
use Rattle.ss_records_entities.proofs.Indexing.{find_indexed}
use Rattle.ss_records_entities.proofs.records.Records.find.Goals as goal

pub returns-in-Some : goal.returns-in-Some
returns-in-Some c =
    let fits = c.ranges.r in let h = simp to_z-of_z at c.in-Some.ensures in
    record { found = h }

pub returns-in-Permanent : goal.returns-in-Permanent
returns-in-Permanent c =
    let fits = c.ranges.r in let h = simp to_z-of_z at c.indexed.ensures in
    record { found = find_indexed c.args.self.now c.requires.kept c.args.class c.args.r (subst IsPermanent c.in-Permanent.ensures tt) c.indexed.result h }

pub returns-in-Some-search : goal.returns-in-Some-search
returns-in-Some-search c =
    let fits = c.ranges.r in let h = simp to_z-of_z at c.in-Some-search.ensures in
    record { found = h }
