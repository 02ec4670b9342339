use Rattle.std.proofs.Common.{rules, ◌≡◌, ◌<◌, ℤ, Some, Ok, Err, length, ap, sym, ◌∙◌, subst, to_z, of_z, w64}
use Rattle.ss_machine_notices.proofs.Common.{attribute_noted, HasChangedIf, HasSetField, Integer, IsReadBack, modes_of, slice_get, Whole}
use Rattle.ss_base.specs.declared.layout.Layout.{Layout}
use Rattle.ss_machine_notices.proofs.Giving.{suits_class, suits_mode, set_not, set_noted}
use Rattle.ss_machine_notices.proofs.scheduling.give_number.Goals as goal

pub set_number-requires : goal.set_number-requires
set_number-requires c = record {
  class = suits_class c.args.what.class c.args.field c.args.what.notice (Whole c.args.number) c.args.what.noted c.args.world.now c.requires;
  mode = suits_mode c.args.what.class c.args.field c.args.what.notice (Whole c.args.number) c.args.what.noted c.args.world.now c.requires ∙ ap Some (sym c.requires.right);
}

pub note_if-requires : goal.note_if-requires
note_if-requires c =
    let layout = c.in-Ok.ensures.set.1 in
    record {
      class = subst (λ (l : Layout). c.args.what.class < length l.classes) (sym layout) (suits_class c.args.what.class c.args.field c.args.what.notice (Whole c.args.number) c.args.what.noted c.args.world.now c.requires);
      mode =
          subst (λ (l : Layout). slice_get (modes_of l c.args.what.class) c.args.field ≡ Some Integer) (sym layout)
          (suits_mode c.args.what.class c.args.field c.args.what.notice (Whole c.args.number) c.args.what.noted c.args.world.now c.requires ∙ ap Some (sym c.requires.right));
    }

pub returns-in-Err : goal.returns-in-Err
returns-in-Err c = λ g.
    let class = c.args.what.class in let field = c.args.field in let n = c.args.what.notice in let x = c.args.number in let e = c.args.world.now in
    let same_n : to_z w64 (of_z w64 n) ≡ n = search rules in
    let same_x : to_z w64 (of_z w64 x) ≡ x = search rules in
    let is = subst (λ (m : ℤ). HasSetField class field m (Whole x) e c.set_number.new.world (Err c.in-Err.kind)) same_n (subst (λ (z : ℤ). HasSetField class field (to_z w64 (of_z w64 n)) (Whole z) e c.set_number.new.world (Err c.in-Err.kind)) same_x c.in-Err.ensures.set) in
    set_not class field n (Whole x) c.args.what.noted e g c.set_number.new.world c.in-Err.kind is

pub returns-in-Ok : goal.returns-in-Ok
returns-in-Ok c = λ g.
    let class = c.args.what.class in let field = c.args.field in let n = c.args.what.notice in let x = c.args.number in let e = c.args.world.now in
    let mid = c.set_number.new.world in let notes = c.args.what.noted in
    let same_n : to_z w64 (of_z w64 n) ≡ n = search rules in
    let same_x : to_z w64 (of_z w64 x) ≡ x = search rules in
    let is = subst (λ (m : ℤ). HasSetField class field m (Whole x) e mid (Ok tt)) same_n (subst (λ (z : ℤ). HasSetField class field (to_z w64 (of_z w64 n)) (Whole z) e mid (Ok tt)) same_x c.in-Ok.ensures.set) in
    let reads = subst (λ (m : ℤ). IsReadBack class field m (Whole x) mid (Ok tt)) same_n (subst (λ (z : ℤ). IsReadBack class field (to_z w64 (of_z w64 n)) (Whole z) mid (Ok tt)) same_x c.in-Ok.ensures.read) in
    let did = subst (λ (m : ℤ). HasChangedIf notes (attribute_noted class field m) mid c.note_if.new.world c.note_if.result) same_n c.note_if.ensures in
    set_noted class field n (Whole x) notes e g mid c.note_if.new.world c.note_if.result is reads did
