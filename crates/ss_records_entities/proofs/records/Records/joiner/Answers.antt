use Rattle.std.proofs.Common.{ap, ◌∙◌}
use Rattle.ss_records_entities.proofs.Common.{member_in, SetLayout, state, to_z-of_z}
use Rattle.ss_records_entities.proofs.Owning.{has_number, joins_found, not_joiner, kind_is}
use Rattle.ss_records_entities.proofs.records.Records.joiner.Goals as goal

pub number-requires : goal.number-requires
number-requires c = has_number c.args.self.now c.requires.kept c.member_class.result _ c.in-Ok.place c.in-Ok.ensures.found

pub returns-in-Ok : goal.returns-in-Ok
returns-in-Ok c =
    let r = c.args.self.now in let fits = c.ranges.x in let f = simp to_z-of_z at c.in-Ok.ensures.found in
    let k = kind_is r.layout c.args.s (λ (t : SetLayout). t.member) c.member_class.result c.requires.set c.member_class.ensures.is in
    record { found = joins_found r c.requires.kept c.member_class.result c.args.x c.in-Ok.place f c.number.result c.number.ensures c.args.s (ap member_in k.1 ∙ k.2) }

pub returns-in-Err : goal.returns-in-Err
returns-in-Err c =
    let r = c.args.self.now in let fits = c.ranges.x in let f = simp to_z-of_z at c.in-Err.ensures.found in
    let k = kind_is r.layout c.args.s (λ (t : SetLayout). t.member) c.member_class.result c.requires.set c.member_class.ensures.is in
    record { found = not_joiner (state r) c.args.s c.member_class.result c.args.x c.in-Err.fault (ap member_in k.1 ∙ k.2) f }
