use Rattle.std.proofs.Common.{rules, ◌≡◌, ℤ, w64, to_z, of_z, sym, ap, ◌∙◌, Ok}
use Rattle.ss_records_entities.proofs.Common.{Integer, to_z-of_z, Whole}
use Rattle.ss_records_entities.proofs.Assigns.{found_first, found_value}
use Rattle.ss_records_entities.proofs.Still.{few_fields}
use Rattle.ss_records_entities.proofs.records.Records.whole.Goals as goal

pub value_start-k-requires : goal.value_start-k-requires
value_start-k-requires c = let r = c.args.self.now in few_fields r.layout c.args.class c.args.field Integer c.requires.kept.small c.requires.mode

pub whole-requires : goal.whole-requires
whole-requires c =
    let r = c.args.self.now in let f = c.in-Ok.ensures.found in
    found_first r c.requires.kept c.args.class _ c.in-Ok.place f c.args.field c.value_start-k.result c.value_start-k.ensures.at Integer c.requires.mode

pub returns-in-Ok : goal.returns-in-Ok
returns-in-Ok c =
    let r = c.args.self.now in let fits = c.ranges.r in let f = simp to_z-of_z at c.in-Ok.ensures.found in
    let v = found_value r c.requires.kept c.args.class c.args.r c.in-Ok.place f c.args.field c.value_start-k.result c.value_start-k.ensures.at Integer c.requires.mode in
    let w : to_z w64 (of_z w64 c.whole.result) ≡ c.whole.result = search rules in
    v ∙ ap Ok (sym c.whole.ensures) ∙ ap (λ (z : ℤ). Ok (Whole z)) (sym w)
