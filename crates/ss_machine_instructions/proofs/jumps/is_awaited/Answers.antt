use Rattle.std.proofs.Common.{refl, ap}
use Rattle.ss_machine_time.specs.Times.{Times}
use Rattle.ss_machine_world.proofs.Said.{said_still}
use Rattle.ss_machine_instructions.proofs.jumps.is_awaited.Goals as goal

pub invariant_of-scene : goal.invariant_of-scene
invariant_of-scene c =
    let i = c.scene.inside in
    said_still i.population.layout i.population.layout i.notices.items i.timeline.histories.statistics c.is_awaited.new.self.histories.statistics i.classes.items refl (ap (λ (t : Times). t.histories.statistics) c.is_awaited.ensures.same) c.scene.invariant
