use Rattle.std.proofs.Common.{rules, ◌≡◌, ℤ, Bool, Ok, refl, sym, subst, to_z, of_z, w64}
use Rattle.ss_machine_instructions.proofs.Common.{count_noted, HasChanged, HasChangedIf}
use Rattle.ss_machine_instructions.proofs.sets.note_if.Goals as goal

pub returns-then-noted : goal.returns-then-noted
returns-then-noted c =
    let set = c.args.set in let m = c.args.owner in let e = c.args.world.now in
    let new = c.note_count.new.self in let r = c.note_count.result in
    let same : to_z w64 (of_z w64 m) ≡ m = search rules in
    subst (λ (b : Bool). HasChangedIf b (count_noted set m) e new r) (sym c.if-noted.true)
    (subst (λ (z : ℤ). HasChanged (count_noted set z) e new r) same c.note_count.ensures)

pub returns-else-noted : goal.returns-else-noted
returns-else-noted c =
    let e = c.args.world.now in
    subst (λ (b : Bool). HasChangedIf b (count_noted c.args.set c.args.owner) e e (Ok tt)) (sym c.if-noted.false) (refl, refl)
