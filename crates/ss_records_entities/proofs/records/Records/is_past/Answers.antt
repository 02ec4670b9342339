use Rattle.std.proofs.Common.{rules, ◌≡◌, ℤ, w64, to_z, of_z, not, false, ap, ◌∙◌}
use Rattle.ss_records_entities.proofs.Common.{int_cmp, Integer, match_ordering, to_z-of_z}
use Rattle.ss_records_entities.proofs.Still.{few_fields}
use Rattle.ss_records_entities.proofs.Passing.{is_number, test_is}
use Rattle.ss_records_entities.proofs.records.Records.is_past.Goals as goal

pub value_start-k-requires : goal.value_start-k-requires
value_start-k-requires c = few_fields c.args.self.now.layout _ c.args.field _ c.requires.kept.small c.requires.mode

pub whole-requires : goal.whole-requires
whole-requires c = is_number c.args.self.now c.requires.kept c.args.s c.args.member c.requires.joins c.args.field c.value_start-k.result c.value_start-k.ensures.at Integer c.requires.mode

pub returns : goal.returns
returns c =
    let fo = c.ranges.own in let h = simp to_z-of_z at c.is_after.ensures in
    let w : to_z w64 (of_z w64 c.whole.result) ≡ c.whole.result = search rules in
    h ∙ ap (λ (z : ℤ). match_ordering (int_cmp z c.args.own) c.args.high false (not c.args.high)) w
    ∙ test_is c.args.self.now c.requires.kept c.args.s c.args.member c.requires.joins c.args.field c.value_start-k.result c.value_start-k.ensures.at c.requires.mode c.whole.result c.args.own c.args.high c.whole.ensures
