use Rattle.ss_machine_time.proofs.Timely.{timely_cancelled}
use Rattle.ss_machine_time.proofs.timeline.Timeline.cancel.Goals as goal

pub invariant_of-self : goal.invariant_of-self
invariant_of-self c =
    timely_cancelled c.self.inside.time c.self.inside.histories.latest _ c.self.inside.pending.list c.cancel.new.self.list c.cancel.result c.cancel.ensures.ok c.cancel.ensures.unchanged c.self.invariant
