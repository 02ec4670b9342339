use Rattle.std.proofs.Common.{rules, ◌≡◌, ℤ, Bool, Ok, refl, sym, subst, to_z, of_z, w64}
use Rattle.ss_machine_notices.proofs.Common.{attribute_noted, HasChanged, HasChangedIf}
use Rattle.ss_machine_notices.proofs.scheduling.note_if.Goals as goal

pub returns-then-noted : goal.returns-then-noted
returns-then-noted c =
    let class = c.args.class in let field = c.args.field in let n = c.args.notice in let e = c.args.world.now in
    let new = c.note_attribute.new.self in let r = c.note_attribute.result in
    let same : to_z w64 (of_z w64 n) ≡ n = search rules in
    subst (λ (b : Bool). HasChangedIf b (attribute_noted class field n) e new r) (sym c.if-noted.true)
    (subst (λ (z : ℤ). HasChanged (attribute_noted class field z) e new r) same c.note_attribute.ensures)

pub returns-else-noted : goal.returns-else-noted
returns-else-noted c =
    let e = c.args.world.now in
    subst (λ (b : Bool). HasChangedIf b (attribute_noted c.args.class c.args.field c.args.notice) e e (Ok tt)) (sym c.if-noted.false) (refl, refl)
