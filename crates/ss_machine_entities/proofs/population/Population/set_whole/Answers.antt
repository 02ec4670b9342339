use Rattle.std.proofs.Common.{sym, ◌∙◌}
use Rattle.ss_machine_entities.proofs.Counting.{set_keeps}
use Rattle.ss_machine_entities.proofs.population.Population.set_whole.Goals as goal

pub invariant_of-self : goal.invariant_of-self
invariant_of-self c = c.self.invariant ∙ sym (set_keeps c.self.inside.heap.state c.set_whole.new.self.state _ _ _ _ c.set_whole.result c.set_whole.ensures.done).counts
