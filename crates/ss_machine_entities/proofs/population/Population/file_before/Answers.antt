use Rattle.std.proofs.Common.{ap, sym, ◌∙◌}
use Rattle.ss_records.specs.State.{State}
use Rattle.ss_machine_entities.proofs.Refiled.{before_keeps}
use Rattle.ss_machine_entities.proofs.population.Population.file_before.Goals as goal

pub invariant_of-self : goal.invariant_of-self
invariant_of-self c = c.self.invariant ∙ sym (before_keeps c.self.inside.heap.state c.file_before.new.self.state c.file_before.result _ _ _ _ c.file_before.ensures.done).counts

pub returns-clause-layout : goal.returns-clause-layout
returns-clause-layout c = (before_keeps c.self.inside.heap.state c.file_before.new.self.state c.file_before.result _ _ _ _ c.file_before.ensures.done).layout ∙ ap (λ (h : State). h.layout) c.self.view_is
