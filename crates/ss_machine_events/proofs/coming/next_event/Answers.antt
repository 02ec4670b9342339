use Rattle.std.proofs.Common.{refl, ap}
use Rattle.ss_world.specs.State.{State}
use Rattle.ss_machine_time.specs.Times.{Times}
use Rattle.ss_machine_world.proofs.Said.{said_still}
use Rattle.ss_machine_events.proofs.Times.{next_statistics}
use Rattle.ss_machine_events.proofs.coming.next_event.Goals as goal

pub invariant_of-world : goal.invariant_of-world
invariant_of-world c =
    let i = c.world.inside in let u : Times = c.next.new.self in
    said_still i.population.layout i.population.layout i.notices.items i.timeline.histories.statistics u.histories.statistics i.classes.items
    refl (next_statistics i.timeline u c.next.result c.next.ensures) c.world.invariant

pub invariant_of-world-in-Some : goal.invariant_of-world-in-Some
invariant_of-world-in-Some c =
    let i = c.world.inside in let u : Times = c.next.new.self in
    said_still i.population.layout c.meet.new.self.layout i.notices.items i.timeline.histories.statistics u.histories.statistics i.classes.items
    (ap (λ (h : State). h.layout) c.meet.ensures) (next_statistics i.timeline u c.next.result c.next.ensures) c.world.invariant
