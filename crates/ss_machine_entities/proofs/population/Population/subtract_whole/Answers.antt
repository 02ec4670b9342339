use Rattle.std.proofs.Common.{◌≡◌, sym, subst, ◌∙◌}
use Rattle.std.specs.Prelude.{MatchResult, Err}
use Rattle.std.proofs.lemmas.Int.{to_z-of_z}
use Rattle.ss_base.specs.Arithmetic.{minus_of}
use Rattle.ss_records.specs.State.{State, value_in}
use Rattle.ss_records.specs.Attributes.{IsChanged, changed_number}
use Rattle.ss_machine_entities.proofs.Counting.{changed_keeps}
use Rattle.ss_machine_entities.proofs.population.Population.subtract_whole.Goals as goal

pub invariant_of-self : goal.invariant_of-self
invariant_of-self c = c.self.invariant ∙ sym (changed_keeps c.self.inside.heap.state c.subtract_whole.new.self.state _ _ _ _ c.subtract_whole.result c.subtract_whole.ensures.done).counts

pub returns-clause-done : goal.returns-clause-done
returns-clause-done c =
    let fn = c.ranges.n in let fb = c.ranges.by in let h = simp to_z-of_z at c.subtract_whole.ensures.done in
    subst (λ (s : State). MatchResult c.subtract_whole.result (λ _. IsChanged (λ z. minus_of z c.args.by) s c.args.class c.args.field c.args.n c.subtract_whole.new.self.state) (λ f. (changed_number (λ z. minus_of z c.args.by) (value_in s c.args.class c.args.field c.args.n) ≡ Err f) × (c.subtract_whole.new.self.state ≡ s))) c.self.view_is h
