use Rattle.std.proofs.Common.{rules, ◌≡◌, Ok, Err, refl, sym, subst, ◌∙◌, arith, w64, SFits}
use Rattle.ss_sets.proofs.Common.{FaultKind, joiner, pos, MatchResult, member_class, owned, Result, State, to_z-of_z}
use Rattle.ss_sets.proofs.Ranked.{before_is, looked, ranked_last, ranked_before}
use Rattle.ss_sets.proofs.ranking.file_ranked.Goals as goal

pub returns-in-Ok-eq0-clause-done : goal.returns-in-Ok-eq0-clause-done
returns-in-Ok-eq0-clause-done c =
    let st = c.args.heap.now.state in let fo = c.ranges.o in let fx = c.ranges.x in let found = simp to_z-of_z at c.in-Ok-eq0.ensures.found in let none : c.in-Ok-eq0.field-0 ≡ pos 0 = search rules in
    subst (λ (f : Result State FaultKind). MatchResult c.file_last.result (λ _. f ≡ Ok c.file_last.new.self.state) (λ e. (f ≡ Err e) × (c.file_last.new.self.state ≡ st)))
    (ranked_last st c.sets_are_apart.ensures c.args.set c.requires.set c.args.keys.now c.args.o c.args.x (sym none ∙ found.1)) (simp (to_z-of_z, c.first_after.ensures.same) at c.file_last.ensures.done)

pub returns-in-Ok-eq0-clause-touches : goal.returns-in-Ok-eq0-clause-touches
returns-in-Ok-eq0-clause-touches c =
    let st = c.args.heap.now.state in let fo = c.ranges.o in let fx = c.ranges.x in let t = simp to_z-of_z at c.first_after.ensures.touches in let u = c.file_last.ensures.touches in
    let b = before_is st (member_class st.layout c.args.set) c.args.keys.now c.args.x (owned st c.args.set c.args.o) in
    (omega (arith, t.0, u.2), omega (arith, t.1, u.0, u.2, b))

pub returns-in-Ok-first_after-clause-done : goal.returns-in-Ok-first_after-clause-done
returns-in-Ok-first_after-clause-done c =
    let st = c.args.heap.now.state in let fo = c.ranges.o in let fx = c.ranges.x in let y = c.in-Ok-first_after.y in let fy : SFits w64 y = search rules in
    let found = simp to_z-of_z at c.in-Ok-first_after.ensures.found in let some : y ≡ pos 0 → ⊥ = search rules in
    subst (λ (f : Result State FaultKind). MatchResult c.file_before.result (λ _. f ≡ Ok c.file_before.new.self.state) (λ e. (f ≡ Err e) × (c.file_before.new.self.state ≡ st)))
    (ranked_before st c.sets_are_apart.ensures c.args.set c.requires.set c.args.keys.now c.args.o c.args.x y some found.1) (simp (to_z-of_z, c.first_after.ensures.same) at c.file_before.ensures.done)

pub returns-in-Ok-first_after-clause-touches : goal.returns-in-Ok-first_after-clause-touches
returns-in-Ok-first_after-clause-touches c =
    let st = c.args.heap.now.state in let fo = c.ranges.o in let fx = c.ranges.x in let t = simp to_z-of_z at c.first_after.ensures.touches in let u = c.file_before.ensures.touches in
    let b = before_is st (member_class st.layout c.args.set) c.args.keys.now c.args.x (owned st c.args.set c.args.o) in
    (omega (arith, t.0, u.2), omega (arith, t.1, u.0, u.2, b))

pub returns-in-Err-clause-done : goal.returns-in-Err-clause-done
returns-in-Err-clause-done c =
    let fx = c.ranges.x in
    (rw (looked (joiner c.args.heap.now.state c.args.set c.args.x) (Err c.in-Err.fault) (simp to_z-of_z at c.in-Err.ensures)) refl, refl)
