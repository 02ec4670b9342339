use Rattle.std.proofs.Common.{◌≡◌, sym, subst, ◌∙◌}
use Rattle.std.specs.Prelude.{MatchResult, Err}
use Rattle.std.proofs.lemmas.Int.{to_z-of_z}
use Rattle.ss_base.specs.Arithmetic.{plus_of}
use Rattle.ss_records.specs.State.{State, value_in}
use Rattle.ss_records.specs.Attributes.{IsChanged, changed_number}
use Rattle.ss_machine_entities.proofs.Counting.{changed_keeps}
use Rattle.ss_machine_entities.proofs.population.Population.add_whole.Goals as goal

pub invariant_of-self : goal.invariant_of-self
invariant_of-self c = c.self.invariant ∙ sym (changed_keeps c.self.inside.heap.state c.add_whole.new.self.state _ _ _ _ c.add_whole.result c.add_whole.ensures.done).counts

pub returns-clause-done : goal.returns-clause-done
returns-clause-done c =
    let fn = c.ranges.n in let fb = c.ranges.by in let h = simp to_z-of_z at c.add_whole.ensures.done in
    subst (λ (s : State). MatchResult c.add_whole.result (λ _. IsChanged (λ z. plus_of z c.args.by) s c.args.class c.args.field c.args.n c.add_whole.new.self.state) (λ f. (changed_number (λ z. plus_of z c.args.by) (value_in s c.args.class c.args.field c.args.n) ≡ Err f) × (c.add_whole.new.self.state ≡ s))) c.self.view_is h
