use Rattle.std.proofs.Common.{refl, ap}
use Rattle.ss_machine_time.specs.Times.{Times}
use Rattle.ss_machine_world.proofs.Said.{said_still}
use Rattle.ss_machine.proofs.looking.upcoming_in_world.Goals as goal

pub invariant_of-world : goal.invariant_of-world
invariant_of-world c =
    let i = c.world.inside in
    said_still i.population.layout i.population.layout i.notices.items i.timeline.histories.statistics c.upcoming.new.self.histories.statistics i.classes.items refl (ap (λ (t : Times). t.histories.statistics) c.upcoming.ensures.same) c.world.invariant
