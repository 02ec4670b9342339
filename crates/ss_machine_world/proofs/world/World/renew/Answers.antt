use Rattle.ss_machine_world.proofs.world.World.renew.Goals as goal

pub invariant_of-self : goal.invariant_of-self
invariant_of-self c = rw (c.renew.ensures.same.2) c.self.invariant
