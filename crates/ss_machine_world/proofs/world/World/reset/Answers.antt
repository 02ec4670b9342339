use Rattle.std.proofs.Common.{rules, ◌≡◌, Err, sym, subst, to_z, of_z, w64}
use Rattle.ss_machine_world.proofs.Common.{HasChanged, HasChangedWhere, IsHeldBySubject, IsRight, renewed_known, reset, Seen}
use Rattle.ss_machine_world.proofs.Figured.{reset_not, reset_then}
use Rattle.ss_machine_world.proofs.world.World.reset.Goals as goal

pub returns-in-Err : goal.returns-in-Err
returns-in-Err c = λ o refers.
    let e = c.args.self.now in let j = c.args.statistic in let x = c.args.entity in let held = c.args.held in let k = c.in-Err.kind in
    let same_x : to_z w64 (of_z w64 x) ≡ x = search rules in
    let same_h : to_z w64 (of_z w64 held) ≡ held = search rules in
    subst (λ (new : Seen). HasChangedWhere (λ s. IsRight (reset j o s) × IsHeldBySubject j held s) (reset j o) e new (Err k)) (sym c.in-Err.ensures.same)
    (reset_not j o x held e refers c.requires.subject k (λ t is. simp (same_x, same_h) at c.in-Err.ensures.value t is))

pub returns-in-Ok : goal.returns-in-Ok
returns-in-Ok c = λ o refers.
    let e = c.args.self.now in let j = c.args.statistic in let x = c.args.entity in let held = c.args.held in let p = c.in-Ok.present in
    let same_x : to_z w64 (of_z w64 x) ≡ x = search rules in
    let same_h : to_z w64 (of_z w64 held) ≡ held = search rules in
    let same_p : to_z w64 (of_z w64 p) ≡ p = search rules in
    reset_then j o x held e refers c.requires.subject p (λ t is. simp (same_x, same_h) at c.in-Ok.ensures.value t is) c.renew.new.self c.renew.result
    (subst (λ (e : Seen). HasChanged (renewed_known j x p) e c.renew.new.self c.renew.result) c.in-Ok.ensures.same (simp (same_x, same_p) at c.renew.ensures))
