use Rattle.std.proofs.Common.{ap}
use Rattle.ss_world.specs.State.{State}
use Rattle.ss_machine_world.proofs.Said.{said_of_layout}
use Rattle.ss_machine_world.proofs.world.World.begun.Goals as goal

pub invariant_of-self : goal.invariant_of-self
invariant_of-self c = let i = c.self.inside in said_of_layout i.population.layout c.last.new.self.layout i.notices.items i.timeline.histories.statistics i.classes.items (ap (λ (h : State). h.layout) c.last.ensures.same) c.self.invariant

pub invariant_of-self-else-reverse : goal.invariant_of-self-else-reverse
invariant_of-self-else-reverse c = let i = c.self.inside in said_of_layout i.population.layout c.first.new.self.layout i.notices.items i.timeline.histories.statistics i.classes.items (ap (λ (h : State). h.layout) c.first.ensures.same) c.self.invariant
