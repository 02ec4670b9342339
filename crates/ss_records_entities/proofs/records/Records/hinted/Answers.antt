use Rattle.ss_records_entities.proofs.Common.{IfSome_then, to_z-of_z}
use Rattle.ss_records_entities.proofs.Remembered.{numbered_at}
use Rattle.ss_records_entities.proofs.records.Records.hinted.Goals as goal

pub returns-in-Near : goal.returns-in-Near
returns-in-Near c =
    let fits = c.ranges.r in let is = simp to_z-of_z at c.cast_unsigned-i.ensures in
    IfSome_then c.near.result c.near.ensures (λ p there. numbered_at c.args.self.now.directory.places c.requires.kept.issued c.args.r fits c.cast_unsigned-i.result is p there)

pub returns-in-Last : goal.returns-in-Last
returns-in-Last c =
    let fits = c.ranges.r in let is = simp to_z-of_z at c.cast_unsigned-i.ensures in
    IfSome_then c.remembered.result c.remembered.ensures (λ p there. numbered_at c.args.self.now.directory.places c.requires.kept.issued c.args.r fits c.cast_unsigned-i.result is p there)

pub returns-in-Next : goal.returns-in-Next
returns-in-Next c =
    let fits = c.ranges.r in let is = simp to_z-of_z at c.cast_unsigned-i.ensures in
    IfSome_then c.expected.result c.expected.ensures (λ p there. numbered_at c.args.self.now.directory.places c.requires.kept.issued c.args.r fits c.cast_unsigned-i.result is p there)
