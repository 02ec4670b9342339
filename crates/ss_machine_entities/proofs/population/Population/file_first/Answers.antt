use Rattle.std.proofs.Common.{ap, sym, ◌∙◌}
use Rattle.ss_records.specs.State.{State}
use Rattle.ss_machine_entities.proofs.Refiled.{first_keeps}
use Rattle.ss_machine_entities.proofs.population.Population.file_first.Goals as goal

pub invariant_of-self : goal.invariant_of-self
invariant_of-self c = c.self.invariant ∙ sym (first_keeps c.self.inside.heap.state c.file_first.new.self.state c.file_first.result _ _ _ c.file_first.ensures.done).counts

pub returns-clause-layout : goal.returns-clause-layout
returns-clause-layout c = (first_keeps c.self.inside.heap.state c.file_first.new.self.state c.file_first.result _ _ _ c.file_first.ensures.done).layout ∙ ap (λ (h : State). h.layout) c.self.view_is
