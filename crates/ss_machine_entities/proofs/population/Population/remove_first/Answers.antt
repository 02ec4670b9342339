use Rattle.std.proofs.Common.{◌≡◌, Ok, Err, ap, sym, subst, ◌∙◌}
use Rattle.std.specs.Prelude.{MatchResult}
use Rattle.std.proofs.lemmas.Int.{to_z-of_z}
use Rattle.ss_records.specs.State.{State}
use Rattle.ss_sets.specs.Disciplines.{first_removed}
use Rattle.ss_machine_entities.proofs.Refiled.{first_out_keeps}
use Rattle.ss_machine_entities.proofs.population.Population.remove_first.Goals as goal

pub invariant_of-self : goal.invariant_of-self
invariant_of-self c = c.self.invariant ∙ sym (first_out_keeps c.self.inside.heap.state c.remove_first.new.self.state c.remove_first.result _ _ c.remove_first.ensures.done).counts

pub returns-clause-done : goal.returns-clause-done
returns-clause-done c =
    let fits = c.ranges.o in
    let g = c.remove_first.new.self.state in
    subst (λ (h : State). MatchResult c.remove_first.result (λ x. first_removed h c.args.set c.args.o ≡ Ok (x, g)) (λ e. (first_removed h c.args.set c.args.o ≡ Err e) × (g ≡ h))) c.self.view_is (simp to_z-of_z at c.remove_first.ensures.done)

pub returns-clause-layout : goal.returns-clause-layout
returns-clause-layout c = (first_out_keeps c.self.inside.heap.state c.remove_first.new.self.state c.remove_first.result _ _ c.remove_first.ensures.done).layout ∙ ap (λ (h : State). h.layout) c.self.view_is
