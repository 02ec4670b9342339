use Rattle.std.proofs.Common.{rules, ◌≡◌, Err, ap, subst, to_z, of_z, w64}
use Rattle.ss_machine_instructions.proofs.Common.{changed_number, computed, IsChanged, MatchResult, operator_of, said_of_layout, Seen, value_in}
use Rattle.ss_machine_instructions.proofs.attributes.change.Goals as goal

pub invariant_of-world : goal.invariant_of-world
invariant_of-world c = let i = c.world.inside in said_of_layout i.population.layout c.change_whole.new.population.layout i.notices.items i.timeline.histories.statistics i.classes.items c.change_whole.ensures.layout c.world.invariant

pub returns-clause-done : goal.returns-clause-done
returns-clause-done c =
    let n = c.args.entity in let by = c.args.by in
    let h = c.change_whole.new.population in let r = c.change_whole.result in
    let same_n : to_z w64 (of_z w64 n) ≡ n = search rules in
    let same_by : to_z w64 (of_z w64 by) ≡ by = search rules in
    subst (λ (old : Seen). MatchResult r (λ _. IsChanged (λ z. computed (operator_of c.args.sign) z by) old.heap c.args.class c.args.field n h) (λ kind. (changed_number (λ z. computed (operator_of c.args.sign) z by) (value_in old.heap c.args.class c.args.field n) ≡ Err kind) × (h ≡ old.heap))) c.world.view_is (simp (same_n, same_by) at c.change_whole.ensures.done)

pub returns-clause-layout : goal.returns-clause-layout
returns-clause-layout c = subst (λ (old : Seen). c.change_whole.new.population.layout ≡ old.heap.layout) c.world.view_is c.change_whole.ensures.layout

pub returns-clause-same : goal.returns-clause-same
returns-clause-same c = let h = c.change_whole.new.population in ap (λ (old : Seen). record old { heap = h }) c.world.view_is
