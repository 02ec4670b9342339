use Rattle.std.proofs.Common.{to_z, of_z, w64}
use Rattle.std.specs.Prelude.{pos}
use Rattle.ss_machine_world.proofs.Common.{OfVariable, Whole}
use Rattle.ss_machine_world.proofs.Noting.{noted_statistics}
use Rattle.ss_machine_world.proofs.world.World.note_variable.Goals as goal

pub invariant_of-self : goal.invariant_of-self
invariant_of-self c = rw (noted_statistics (OfVariable c.args.number) (pos 0) (Whole (to_z w64 (of_z w64 c.args.value))) c.self.inside.timeline c.note.new.self c.note.result c.note.ensures) c.self.invariant
