use Rattle.std.proofs.Common.{rules, Ok, Err, sym, ap, ◌∙◌, arith, w64, to_z, SFits, subst, ◌≡◌, ◌∷◌}
use Rattle.ss_sets.proofs.Common.{member_class, owner, ranks_after, State, to_z-of_z}
use Rattle.ss_world.specs.Sets.{next_in}
use Rattle.ss_sets.proofs.Walking.{first_found, not_none, started, at_end, never_lost, stopped, passed}
use Rattle.ss_sets.proofs.ranking.walk.Goals as goal

pub returns-in-Err-clause-found : goal.returns-in-Err-clause-found
returns-in-Err-clause-found c = let fo = c.ranges.o in first_found c.args.heap.now.state c.args.set (owner c.args.heap.now.state c.args.set c.args.o) (Err c.in-Err.fault) (simp to_z-of_z at c.in-Err.ensures.value)

pub loop-y-init : goal.loop-y-init
loop-y-init c =
    let fo = c.ranges.o in let fy : SFits w64 c.in-Ok.first = search rules in
    simp to_z-of_z (record {
      same = c.first.ensures.same;
      since = omega (arith, c.first.ensures.touches.2);
      reached = started c.args.heap.now.state c.args.set c.args.o _ c.args.heap.now.total _ c.in-Ok.first (simp to_z-of_z at c.in-Ok.ensures.value) (omega (arith, c.first.ensures.touches.0, c.first.ensures.touches.2));
    })

-- a member is there
impossible : (c : goal.In-Err-look) → ⊥
impossible c =
    let fo = c.ranges.o in let fy = c.loop-y.auto.y-fits in
    never_lost c.args.heap.now.state c.sets_are_apart.ensures c.args.set c.requires.rank.set c.args.o _ c.args.heap.now.total c.loop-y.heap.total (to_z w64 c.loop-y.y-bits) (simp to_z-of_z at c.loop-y.invariant.reached) (not_none c.loop-y.y-bits c.loop-y-test.true) c.in-Err-look.fault
    (simp (to_z-of_z, c.loop-y.invariant.same) at c.in-Err-look.ensures.found)

pub returns-in-Err-look-clause-found : goal.returns-in-Err-look-clause-found
returns-in-Err-look-clause-found c = absurd (impossible c)

pub returns-in-Err-look-clause-touches : goal.returns-in-Err-look-clause-touches
returns-in-Err-look-clause-touches c = absurd (impossible c)

pub returns-then-it-clause-found : goal.returns-then-it-clause-found
returns-then-it-clause-found c =
    let fo = c.ranges.o in let st = c.args.heap.now.state in
    let y = to_z w64 c.loop-y.y-bits in let it = c.in-Ok-look.it in
    let h = subst (λ (s : State). (it.after ≡ ranks_after s (member_class s.layout c.args.set) (c.args.rank.now.key ∷ c.args.others.now) y c.args.rank.now.x) × (next_in s c.args.set y ≡ Ok it.next)) c.loop-y.invariant.same c.in-Ok-look.ensures.found in
    ((first_found st c.args.set (owner st c.args.set c.args.o) (Ok c.in-Ok.first) (simp to_z-of_z at c.in-Ok.ensures.value)).0, stopped st c.sets_are_apart.ensures c.args.set c.requires.rank.set c.args.o _ c.args.heap.now.total c.loop-y.heap.total (to_z w64 c.loop-y.y-bits) (simp to_z-of_z at c.loop-y.invariant.reached) (not_none c.loop-y.y-bits c.loop-y-test.true) (sym c.if-it.true ∙ h.0))

pub loop-y-preserved : goal.loop-y-preserved
loop-y-preserved c =
    let fo = c.ranges.o in let fn : SFits w64 c.in-Ok-look.it.next = search rules in
    let y = to_z w64 c.loop-y.y-bits in let it = c.in-Ok-look.it in
    let h = subst (λ (s : State). (it.after ≡ ranks_after s (member_class s.layout c.args.set) (c.args.rank.now.key ∷ c.args.others.now) y c.args.rank.now.x) × (next_in s c.args.set y ≡ Ok it.next)) c.loop-y.invariant.same c.in-Ok-look.ensures.found in
    simp to_z-of_z (record {
      same = c.look.ensures.same ∙ c.loop-y.invariant.same;
      since = omega (arith, c.in-Ok-look.ensures.touches, c.loop-y.invariant.since);
      reached = passed c.args.heap.now.state c.sets_are_apart.ensures c.args.set c.requires.rank.set c.args.o _ c.args.heap.now.total c.loop-y.heap.total (to_z w64 c.loop-y.y-bits) (simp to_z-of_z at c.loop-y.invariant.reached) (not_none c.loop-y.y-bits c.loop-y-test.true) (sym c.if-it.false ∙ h.0) c.in-Ok-look.it.next h.1 _ c.in-Ok-look.ensures.touches;
    })

pub returns-clause-found : goal.returns-clause-found
returns-clause-found c =
    let fo = c.ranges.o in let st = c.args.heap.now.state in
    ((first_found st c.args.set (owner st c.args.set c.args.o) (Ok c.in-Ok.first) (simp to_z-of_z at c.in-Ok.ensures.value)).0, at_end st c.sets_are_apart.ensures c.args.set c.requires.rank.set c.args.o _ c.args.heap.now.total c.loop-y.heap.total (to_z w64 c.loop-y.y-bits) (simp to_z-of_z at c.loop-y.invariant.reached) (ap (to_z w64) c.loop-y-test.false))
