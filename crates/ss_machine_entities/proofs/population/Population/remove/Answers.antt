use Rattle.std.proofs.Common.{ap, sym, ◌∙◌}
use Rattle.ss_records.specs.State.{State}
use Rattle.ss_machine_entities.proofs.Refiled.{removed_keeps}
use Rattle.ss_machine_entities.proofs.population.Population.remove.Goals as goal

pub invariant_of-self : goal.invariant_of-self
invariant_of-self c = c.self.invariant ∙ sym (removed_keeps c.self.inside.heap.state c.remove.new.self.state c.remove.result _ _ _ c.remove.ensures.done).counts

pub returns-clause-layout : goal.returns-clause-layout
returns-clause-layout c = (removed_keeps c.self.inside.heap.state c.remove.new.self.state c.remove.result _ _ _ c.remove.ensures.done).layout ∙ ap (λ (h : State). h.layout) c.self.view_is
