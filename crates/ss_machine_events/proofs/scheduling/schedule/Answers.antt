use Rattle.std.proofs.Common.{rules, ◌≡◌, ℤ, Bool, Ok, Err, sym, subst, to_z, of_z, w64}
use Rattle.std.proofs.lemmas.Int.{to_z-of_z}
use Rattle.ss_base.specs.declared.value.Value.TheVariants.{Whole}
use Rattle.ss_world.specs.State.{known_in}
use Rattle.ss_meaning.specs.Events.{filed_notice}
use Rattle.ss_machine_world.specs.Seen.{Seen, HasChangedWithMemory}
use Rattle.ss_machine_events.specs.Scheduled.{IsDoneIf, IsUnfiled}
use Rattle.ss_machine_events.proofs.Filing.{none_filed, not_filed}
use Rattle.ss_machine_events.proofs.scheduling.schedule.Goals as goal

pub returns-in-Err : goal.returns-in-Err
returns-in-Err c =
    let class = c.args.class in let n = c.args.notice in let e = c.args.world.now in
    let fits = c.ranges.notice in let h = simp to_z-of_z at c.in-Err.ensures in
    let known : known_in e.heap class n ≡ Err c.in-Err.kind = subst (λ (e : Seen). known_in e.heap class n ≡ Err c.in-Err.kind) c.world.view_is (sym h) in
    none_filed e class n c.args.time c.requires.notices c.in-Err.kind known

pub returns-else-file : goal.returns-else-file
returns-else-file c =
    let class = c.args.class in let n = c.args.notice in let time = c.args.time in let e = c.args.world.now in
    let new = c.file.new.world in let u = c.unfiled.result in
    let number : to_z w64 (of_z w64 n) ≡ n = search rules in
    let same : to_z w64 (of_z w64 time) ≡ time = search rules in
    let fits = c.ranges.notice in let h = simp to_z-of_z at c.in-Ok.ensures in
    let known : known_in e.heap class n ≡ Ok tt = subst (λ (e : Seen). known_in e.heap class n ≡ Ok tt) c.world.view_is (sym h) in
    let kept : new ≡ e = subst (λ (b : Bool). IsDoneIf (filed_notice class (Whole (to_z w64 (of_z w64 n))) (to_z w64 (of_z w64 time))) b e new) c.if-file.false c.file.ensures in
    let why : IsUnfiled time n new u = subst (λ (m : ℤ). IsUnfiled time m new u) number (subst (λ (t : ℤ). IsUnfiled t (to_z w64 (of_z w64 n)) new u) same c.unfiled.ensures) in
    subst (λ (m : Seen). HasChangedWithMemory (filed_notice class (Whole n) time) e m (Err u)) (sym kept)
    (not_filed e class n time c.requires.notices known u (subst (λ (m : Seen). IsUnfiled time n m u) kept why))
