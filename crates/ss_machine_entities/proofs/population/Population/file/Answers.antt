use Rattle.std.proofs.Common.{ap, sym, ◌∙◌}
use Rattle.ss_records.specs.State.{State}
use Rattle.ss_machine_entities.proofs.Refiled.{filed_keeps}
use Rattle.ss_machine_entities.proofs.population.Population.file.Goals as goal

pub invariant_of-self : goal.invariant_of-self
invariant_of-self c = c.self.invariant ∙ sym (filed_keeps c.self.inside.heap.state c.file.new.heap.state c.file.result _ _ _ _ c.file.ensures.done).counts

pub returns-clause-layout : goal.returns-clause-layout
returns-clause-layout c = (filed_keeps c.self.inside.heap.state c.file.new.heap.state c.file.result _ _ _ _ c.file.ensures.done).layout ∙ ap (λ (h : State). h.layout) c.self.view_is
