use Rattle.std.proofs.Common.{refl, to_z, of_z, w64}
use Rattle.ss_machine_time.specs.Times.{Times}
use Rattle.ss_machine_world.proofs.Said.{said_still}
use Rattle.ss_machine_events.proofs.Times.{scheduled_statistics}
use Rattle.ss_machine_events.proofs.scheduling.file_under.Goals as goal

pub invariant_of-world : goal.invariant_of-world
invariant_of-world c =
    let i = c.world.inside in let ss = i.timeline.histories.statistics in
    let t : Times = i.timeline in let u : Times = c.schedule.new.self in
    said_still i.population.layout i.population.layout i.notices.items ss u.histories.statistics i.classes.items
    refl (scheduled_statistics t u c.args.key (to_z w64 (of_z w64 c.args.notice)) c.schedule.result c.schedule.ensures) c.world.invariant
