use Rattle.std.proofs.Common.{rules, ◌≡◌, ◌<◌, ℤ, w64, to_z, of_z, Ok, Some, pos, length, slice_get, sym, ap, subst, ◌∙◌, arith}
use Rattle.ss_records_entities.proofs.Common.{member_class, member_in, modes_of, Records, SetLayout, state, to_z-of_z, value_in}
use Rattle.ss_records_entities.proofs.Owning.{kind_is}
use Rattle.ss_records_entities.proofs.Passing.{is_number, second_is_number, its_value}
use Rattle.ss_records_entities.proofs.Skims.{joiner_at}
use Rattle.ss_records_entities.proofs.Still.{unmoved, kept_still, set_still, joins_still, few_fields}
use Rattle.ss_records_entities.proofs.records.Records.member.Goals as goal

pub read_beside-requires : goal.read_beside-requires
read_beside-requires c = record { kept = c.requires.kept; set = c.requires.set; touches = c.requires.touches }

pub member_class-class-requires : goal.member_class-class-requires
member_class-class-requires c = let r = c.args.self.now in let q = c.read_beside.new.self in let f = c.in-Ok.ensures in set_still r q (unmoved r q f.same f.cells) c.args.s c.requires.set

pub mode-mode-requires : goal.mode-mode-requires
mode-mode-requires c =
    let r = c.args.self.now in let q = c.read_beside.new.self in let f = c.in-Ok.ensures in let h = unmoved r q f.same f.cells in
    let k = kind_is q.layout c.args.s (λ (t : SetLayout). t.member) c.member_class-class.result (set_still r q h c.args.s c.requires.set) c.member_class-class.ensures.is in
    let field = subst (λ (z : Records). c.args.field < length (modes_of z.layout (member_class z.layout c.args.s))) (sym h) c.requires.field in
    record { class = c.member_class-class.ensures.class; field = subst (λ b. c.args.field < length (modes_of q.layout b)) (ap member_in k.1 ∙ k.2) field }

pub value_start-k-requires : goal.value_start-k-requires
value_start-k-requires c =
    let r = c.args.self.now in let q = c.read_beside.new.self in let f = c.in-Ok.ensures in
    few_fields q.layout c.member_class-class.result c.args.field _ (kept_still r q (unmoved r q f.same f.cells) c.requires.kept).small c.mode-mode.ensures

pub value-value-requires : goal.value-value-requires
value-value-requires c =
    let r = c.args.self.now in let q = c.read_beside.new.self in let f = c.in-Ok.ensures in let h = unmoved r q f.same f.cells in let K = kept_still r q h c.requires.kept in let m = c.in-Ok.found.member in
    let k = kind_is q.layout c.args.s (λ (t : SetLayout). t.member) c.member_class-class.result (set_still r q h c.args.s c.requires.set) c.member_class-class.ensures.is in
    let mode = subst (λ b. slice_get (modes_of q.layout b) c.args.field ≡ Some c.mode-mode.result) (sym (ap member_in k.1 ∙ k.2)) c.mode-mode.ensures in let j = joins_still r q h c.args.s m f.found.0 in
    record {
      first = is_number q K c.args.s m j c.args.field c.value_start-k.result c.value_start-k.ensures.at c.mode-mode.result mode;
      second = second_is_number q K c.args.s m j c.args.field c.value_start-k.result c.value_start-k.ensures.at c.mode-mode.result mode;
      room = omega (arith, c.value_start-k.ensures.bound);
    }

pub returns-in-Ok : goal.returns-in-Ok
returns-in-Ok c =
    let r = c.args.self.now in let q = c.read_beside.new.self in let f = c.in-Ok.ensures in let h = unmoved r q f.same f.cells in let K = kept_still r q h c.requires.kept in
    record {
      found =
          let fits = c.ranges.x in let e = simp to_z-of_z at f.found in let m = c.in-Ok.found.member in let n : to_z w64 (of_z w64 c.in-Ok.found.next) ≡ c.in-Ok.found.next = search rules in
          let k = kind_is q.layout c.args.s (λ (t : SetLayout). t.member) c.member_class-class.result (set_still r q h c.args.s c.requires.set) c.member_class-class.ensures.is in
          let mode = subst (λ b. slice_get (modes_of q.layout b) c.args.field ≡ Some c.mode-mode.result) (sym (ap member_in k.1 ∙ k.2)) c.mode-mode.ensures in
          let is = its_value q K c.args.s m (joins_still r q h c.args.s m e.0) c.args.field c.value_start-k.result c.value_start-k.ensures.at c.mode-mode.result mode ∙ ap Ok (sym c.value-value.ensures) in (
            subst (λ (y : ℤ). value_in (state r) (member_class r.layout c.args.s) c.args.field y ≡ Ok c.value-value.result) (joiner_at (state r) c.args.s c.args.x m.number e.1)
                (subst (λ (z : Records). value_in (state z) (member_class z.layout c.args.s) c.args.field (pos m.number) ≡ Ok c.value-value.result) h is),
            e.2 ∙ ap (λ (z : ℤ). Ok z) (sym n),
          );
      kept = K;
      same = ap state h;
      touches = f.touches;
    }

pub returns-in-Err : goal.returns-in-Err
returns-in-Err c =
    let r = c.args.self.now in let q = c.read_beside.new.self in let f = c.in-Err.ensures in let h = unmoved r q f.same f.cells in
    record {
      found = let fits = c.ranges.x in let e = simp to_z-of_z at f.found in e;
      kept = kept_still r q h c.requires.kept;
      same = ap state h;
      touches = f.touches;
    }
