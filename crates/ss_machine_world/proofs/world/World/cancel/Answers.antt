use Rattle.std.proofs.Common.{to_z, of_z, w64}
use Rattle.ss_machine_world.proofs.Leaving.{cancelled_statistics}
use Rattle.ss_machine_world.proofs.world.World.cancel.Goals as goal

pub invariant_of-self : goal.invariant_of-self
invariant_of-self c = rw (cancelled_statistics (to_z w64 (of_z w64 c.args.notice)) c.self.inside.timeline c.cancel.new.self c.cancel.result c.cancel.ensures) c.self.invariant
