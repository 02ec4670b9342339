use Rattle.std.proofs.Common.{rules, ◌≡◌, Err, ap, subst, to_z, of_z, w64}
use Rattle.ss_machine_instructions.proofs.Common.{assigned, IsAssigned, MatchResult, said_of_layout, Seen, Whole}
use Rattle.ss_machine_instructions.proofs.attributes.assign_number.Goals as goal

pub invariant_of-world : goal.invariant_of-world
invariant_of-world c = let i = c.world.inside in said_of_layout i.population.layout c.set_whole.new.self.layout i.notices.items i.timeline.histories.statistics i.classes.items c.set_whole.ensures.layout c.world.invariant

pub returns-clause-done : goal.returns-clause-done
returns-clause-done c =
    let n = c.args.entity in let x = c.args.number in
    let h = c.set_whole.new.self in let r = c.set_whole.result in
    let same_n : to_z w64 (of_z w64 n) ≡ n = search rules in
    let same_x : to_z w64 (of_z w64 x) ≡ x = search rules in
    subst (λ (old : Seen). MatchResult r (λ _. IsAssigned old.heap c.args.class c.args.field n x h) (λ kind. (assigned old.heap c.args.class c.args.field n (Whole x) ≡ Err kind) × (h ≡ old.heap))) c.world.view_is (simp (same_n, same_x) at c.set_whole.ensures.done)

pub returns-clause-layout : goal.returns-clause-layout
returns-clause-layout c = subst (λ (old : Seen). c.set_whole.new.self.layout ≡ old.heap.layout) c.world.view_is c.set_whole.ensures.layout

pub returns-clause-same : goal.returns-clause-same
returns-clause-same c = let h = c.set_whole.new.self in ap (λ (old : Seen). record old { heap = h }) c.world.view_is
