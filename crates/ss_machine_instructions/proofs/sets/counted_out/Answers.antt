use Rattle.std.proofs.Common.{rules, ◌≡◌, ℤ, Err, refl, sym, subst, to_z, of_z, w64}
use Rattle.std.specs.Prelude.{Result as OkOr}
use Rattle.ss_machine_instructions.proofs.Common.{count_noted, FaultKind, HasChangedIf, IsCountedOut, number_if}
use Rattle.ss_machine_instructions.proofs.sets.counted_out.Goals as goal

pub returns-in-Err : goal.returns-in-Err
returns-in-Err c =
    let e = c.args.world.now in
    subst (λ (q : OkOr ℤ FaultKind). IsCountedOut c.args.set c.args.owner q c.args.noted e e (Err c.in-Err.kind)) (sym c.in-Err.is) refl

pub returns-in-Ok : goal.returns-in-Ok
returns-in-Ok c =
    let set = c.args.set in let m = c.args.owner in let x = c.in-Ok.member in let e = c.args.world.now in
    let new = c.note_if.new.world in let q = c.note_if.result in let r = c.number_if.result in
    let same_m : to_z w64 (of_z w64 m) ≡ m = search rules in
    let same_x : to_z w64 (of_z w64 x) ≡ x = search rules in
    let is : r ≡ number_if x q = subst (λ (z : ℤ). r ≡ number_if z q) same_x c.number_if.ensures in
    subst (λ (t : OkOr ℤ FaultKind). IsCountedOut set m t c.args.noted e new r) (sym c.in-Ok.is)
    (q, subst (λ (z : ℤ). HasChangedIf c.args.noted (count_noted set z) e new q) same_m c.note_if.ensures, is)
