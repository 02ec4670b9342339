use Rattle.std.proofs.Common.{rules, ◌≡◌, ℤ, Err, refl, sym, subst, to_z, of_z, w64}
use Rattle.std.specs.Prelude.{Result as OkOr}
use Rattle.ss_machine_instructions.proofs.Common.{count_noted, FaultKind, HasChangedIf, IsCounted}
use Rattle.ss_machine_instructions.proofs.sets.counted.Goals as goal

pub returns-in-Err : goal.returns-in-Err
returns-in-Err c =
    let e = c.args.world.now in
    subst (λ (q : OkOr (Unit {0}) FaultKind). IsCounted c.args.set c.args.owner q c.args.noted e e (Err c.in-Err.kind)) (sym c.in-Err.is) refl

pub returns-in-Ok : goal.returns-in-Ok
returns-in-Ok c =
    let set = c.args.set in let m = c.args.owner in let e = c.args.world.now in
    let new = c.note_if.new.world in let r = c.note_if.result in
    let same : to_z w64 (of_z w64 m) ≡ m = search rules in
    subst (λ (q : OkOr (Unit {0}) FaultKind). IsCounted set m q c.args.noted e new r) (sym c.in-Ok.is)
    (subst (λ (z : ℤ). HasChangedIf c.args.noted (count_noted set z) e new r) same c.note_if.ensures)
