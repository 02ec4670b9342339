use Rattle.std.proofs.Common.{rules, ◌≡◌, ℤ, w64, to_z, of_z, Ok, pos, refl, sym, ap, subst, ◌∙◌}
use Rattle.ss_records_entities.proofs.Common.{Integer, member_class, Records, state, to_z-of_z, value_in, Whole}
use Rattle.ss_records_entities.proofs.Passing.{is_number, its_value}
use Rattle.ss_records_entities.proofs.Skims.{joiner_at, mode_still}
use Rattle.ss_records_entities.proofs.Still.{unmoved, kept_still, joins_still, few_fields}
use Rattle.ss_records_entities.proofs.records.Records.whole_member.Goals as goal

pub read_beside-requires : goal.read_beside-requires
read_beside-requires c = record { kept = c.requires.kept; set = c.requires.set; touches = c.requires.touches }

pub value_start-k-requires : goal.value_start-k-requires
value_start-k-requires c = let r = c.args.self.now in few_fields r.layout _ c.args.field Integer c.requires.kept.small c.requires.mode

pub whole-value-requires : goal.whole-value-requires
whole-value-requires c =
    let r = c.args.self.now in let q = c.read_beside.new.self in let f = c.in-Ok.ensures in let h = unmoved r q f.same f.cells in
    is_number q (kept_still r q h c.requires.kept) c.args.s c.in-Ok.found.member (joins_still r q h c.args.s c.in-Ok.found.member f.found.0) c.args.field c.value_start-k.result c.value_start-k.ensures.at Integer
    (mode_still r q h c.args.s _ c.args.field refl c.requires.mode)

pub returns-in-Ok : goal.returns-in-Ok
returns-in-Ok c =
    let r = c.args.self.now in let q = c.read_beside.new.self in let f = c.in-Ok.ensures in let h = unmoved r q f.same f.cells in
    record {
      found =
          let fits = c.ranges.x in let e = simp to_z-of_z at f.found in let m = c.in-Ok.found.member in
          let n : to_z w64 (of_z w64 c.in-Ok.found.next) ≡ c.in-Ok.found.next = search rules in let w : to_z w64 (of_z w64 c.whole-value.result) ≡ c.whole-value.result = search rules in
          let its = its_value q (kept_still r q h c.requires.kept) c.args.s m (joins_still r q h c.args.s m e.0) c.args.field c.value_start-k.result c.value_start-k.ensures.at Integer (mode_still r q h c.args.s _ c.args.field refl c.requires.mode) in
          let is = its ∙ ap Ok (sym c.whole-value.ensures) ∙ ap (λ (z : ℤ). Ok (Whole z)) (sym w) in (
            subst (λ (y : ℤ). value_in (state r) (member_class r.layout c.args.s) c.args.field y ≡ Ok (Whole (to_z w64 (of_z w64 c.whole-value.result)))) (joiner_at (state r) c.args.s c.args.x m.number e.1)
                (subst (λ (z : Records). value_in (state z) (member_class z.layout c.args.s) c.args.field (pos m.number) ≡ Ok (Whole (to_z w64 (of_z w64 c.whole-value.result)))) h is),
            e.2 ∙ ap (λ (z : ℤ). Ok z) (sym n),
          );
      kept = kept_still r q h c.requires.kept;
      same = ap state h;
      touches = f.touches;
    }

pub returns-in-Err : goal.returns-in-Err
returns-in-Err c =
    let r = c.args.self.now in let q = c.read_beside.new.self in let f = c.in-Err.ensures in let h = unmoved r q f.same f.cells in
    record {
      found = let fits = c.ranges.x in let e = simp to_z-of_z at f.found in e;
      kept = kept_still r q h c.requires.kept;
      same = ap state h;
      touches = f.touches;
    }
