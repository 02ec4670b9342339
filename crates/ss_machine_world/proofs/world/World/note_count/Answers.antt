use Rattle.std.proofs.Common.{to_z, of_z, w64, ap}
use Rattle.ss_machine_world.proofs.Common.{OfCount, State, Whole}
use Rattle.ss_machine_world.proofs.Noting.{noted_statistics}
use Rattle.ss_machine_world.proofs.Said.{said_of_layout}
use Rattle.ss_machine_world.proofs.world.World.note_count.Goals as goal

pub invariant_of-self : goal.invariant_of-self
invariant_of-self c = rw (ap (λ (h : State). h.layout) c.member_count.ensures.same, noted_statistics (OfCount c.args.set) (to_z w64 (of_z w64 c.args.owner)) (Whole (to_z w64 (of_z w64 c.in-Ok.count))) c.self.inside.timeline c.note_count.new.self c.note_count.result c.note_count.ensures) c.self.invariant

pub invariant_of-self-in-Err : goal.invariant_of-self-in-Err
invariant_of-self-in-Err c = let i = c.self.inside in said_of_layout i.population.layout c.member_count.new.self.layout i.notices.items i.timeline.histories.statistics i.classes.items (ap (λ (h : State). h.layout) c.member_count.ensures.same) c.self.invariant
