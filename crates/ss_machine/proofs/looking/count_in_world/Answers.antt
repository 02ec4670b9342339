use Rattle.std.proofs.Common.{ap}
use Rattle.ss_world.specs.State.{State}
use Rattle.ss_machine_world.proofs.Said.{said_of_layout}
use Rattle.ss_machine.proofs.looking.count_in_world.Goals as goal

pub invariant_of-world : goal.invariant_of-world
invariant_of-world c = let i = c.world.inside in said_of_layout i.population.layout c.find_count.new.self.layout i.notices.items i.timeline.histories.statistics i.classes.items (ap (λ (h : State). h.layout) c.find_count.ensures.same) c.world.invariant
