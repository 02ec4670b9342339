use Rattle.std.proofs.Common.{List, sym, subst}
use Rattle.ss_machine_world.proofs.Common.{AreSaid, Notices}
use Rattle.ss_machine_world.proofs.Said.{said_still}
use Rattle.ss_machine_world.proofs.world.World.new.Goals as goal

pub invariant_of-result : goal.invariant_of-result
invariant_of-result c =
    let ss = c.args.statistics.now in let entries = c.in_ok-classes.classes.items in
    said_still c.layout-plan.result.now c.in_ok-population.population.layout c.args.notices.items ss c.in_ok-timeline.timeline.histories.statistics entries (sym c.layout-plan.ensures) c.in_ok-timeline.ensures.statistics
    (subst (λ (es : List Notices). AreSaid c.layout-plan.result.now es ss entries) c.deref.ensures.value c.in_ok-classes.ensures)
