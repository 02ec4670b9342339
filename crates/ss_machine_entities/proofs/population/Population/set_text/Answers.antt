use Rattle.std.proofs.Common.{sym, ◌∙◌}
use Rattle.ss_machine_entities.proofs.Counting.{value_keeps}
use Rattle.ss_machine_entities.proofs.population.Population.set_text.Goals as goal

pub invariant_of-self : goal.invariant_of-self
invariant_of-self c = c.self.invariant ∙ sym (value_keeps c.self.inside.heap.state c.set_text.new.self.state _ _ _ _ c.set_text.result c.set_text.ensures.done).counts
