use Rattle.std.proofs.Common.{List, ap, sym, ◌∙◌, subst}
use Rattle.ss_machine_world.proofs.Common.{AreSaid, ClassEntry, ranked_from, Seen}
use Rattle.ss_machine_world.proofs.world.World.has_ties.Goals as goal

pub returns : goal.returns
returns c = λ r e.
    let i = c.self.inside in
    let said : AreSaid i.population.layout i.notices.items i.timeline.histories.statistics c.deref.result.now =
    subst (λ (entries : List ClassEntry). AreSaid i.population.layout i.notices.items i.timeline.histories.statistics entries) (sym c.deref.ensures.value) c.self.invariant in
    c.has_ties.ensures _ _ _ said r (ap (λ (v : Seen). ranked_from 0 v.notices c.args.class) c.self.view_is ∙ e)
