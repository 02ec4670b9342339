use Rattle.std.proofs.Common.{ap, sym, ◌∙◌}
use Rattle.ss_records.specs.State.{State}
use Rattle.ss_machine_entities.proofs.Refiled.{after_keeps}
use Rattle.ss_machine_entities.proofs.population.Population.file_after.Goals as goal

pub invariant_of-self : goal.invariant_of-self
invariant_of-self c = c.self.invariant ∙ sym (after_keeps c.self.inside.heap.state c.file_after.new.self.state c.file_after.result _ _ _ _ c.file_after.ensures.done).counts

pub returns-clause-layout : goal.returns-clause-layout
returns-clause-layout c = (after_keeps c.self.inside.heap.state c.file_after.new.self.state c.file_after.result _ _ _ _ c.file_after.ensures.done).layout ∙ ap (λ (h : State). h.layout) c.self.view_is
