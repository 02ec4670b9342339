use Rattle.ss_machine_world.proofs.Said.{said_of_layout}
use Rattle.ss_machine_world.proofs.world.World.remove_entity.Goals as goal

pub invariant_of-self : goal.invariant_of-self
invariant_of-self c = rw (c.destroy.ensures.layout, c.end_histories.ensures.same.2) c.self.invariant

pub invariant_of-self-in-Err : goal.invariant_of-self-in-Err
invariant_of-self-in-Err c = let i = c.self.inside in said_of_layout i.population.layout c.destroy.new.self.layout i.notices.items i.timeline.histories.statistics i.classes.items c.destroy.ensures.layout c.self.invariant
