use Rattle.std.proofs.Common.{ap, ◌∙◌}
use Rattle.ss_records_entities.proofs.Common.{member_in, SetLayout, to_z-of_z}
use Rattle.ss_records_entities.proofs.Owning.{has_number, joins_found, kind_is}
use Rattle.ss_records_entities.proofs.records.Records.expected_joiner.Goals as goal

pub number-requires : goal.number-requires
number-requires c = has_number c.args.self.now c.requires.kept c.member_class.result _ c.in-Some.place c.in-Some.ensures

pub returns-in-Some : goal.returns-in-Some
returns-in-Some c =
    let r = c.args.self.now in let fits = c.ranges.x in let f = simp to_z-of_z at c.in-Some.ensures in
    let k = kind_is r.layout c.args.s (λ (t : SetLayout). t.member) c.member_class.result c.requires.set c.member_class.ensures.is in
    joins_found r c.requires.kept c.member_class.result c.args.x c.in-Some.place f c.number.result c.number.ensures c.args.s (ap member_in k.1 ∙ k.2)
