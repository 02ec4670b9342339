use Rattle.std.proofs.Common.{ap, ◌∙◌}
use Rattle.ss_machine_world.proofs.Common.{Times}
use Rattle.ss_machine_world.proofs.world.World.create_watched.Goals as goal

pub invariant_of-self : goal.invariant_of-self
invariant_of-self c = rw (ap (λ (t : Times). t.histories.statistics) c.reserve.ensures.same) c.self.invariant

pub invariant_of-self-in-Ok : goal.invariant_of-self-in-Ok
invariant_of-self-in-Ok c = rw (c.create.ensures.layout, c.start.ensures.same.2 ∙ ap (λ (t : Times). t.histories.statistics) c.reserve.ensures.same) c.self.invariant

pub invariant_of-self-in-Err : goal.invariant_of-self-in-Err
invariant_of-self-in-Err c = rw (c.create.ensures.layout, ap (λ (t : Times). t.histories.statistics) c.reserve.ensures.same) c.self.invariant
