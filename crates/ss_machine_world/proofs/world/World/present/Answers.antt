use Rattle.std.proofs.Common.{ap}
use Rattle.ss_machine_world.proofs.Common.{State}
use Rattle.ss_machine_world.proofs.Said.{said_of_layout}
use Rattle.ss_machine_world.proofs.world.World.present.Goals as goal

pub invariant_of-self : goal.invariant_of-self
invariant_of-self c = let i = c.self.inside in said_of_layout i.population.layout c.member_count.new.self.layout i.notices.items i.timeline.histories.statistics i.classes.items (ap (λ (h : State). h.layout) c.member_count.ensures.same) c.self.invariant
