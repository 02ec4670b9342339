use Rattle.std.proofs.Common.{rules, ◌≡◌, ◌∙◌, ℤ, sym, subst, to_z, of_z, w64}
use Rattle.ss_world.specs.PendingList.{PendingList}
use Rattle.ss_machine_time.specs.Times.{IsTimely}
use Rattle.ss_machine_time.proofs.Timely.{timely_passed}
use Rattle.ss_machine_time.proofs.timeline.Timeline.next.Goals as goal

pub invariant_of-self : goal.invariant_of-self
invariant_of-self c =
    let same : to_z w64 (of_z w64 c.in-Some.time) ≡ c.in-Some.time = search rules in
    let latest = c.self.inside.histories.latest in
    subst (λ (t : ℤ). IsTimely t latest c.take.new.self.list.entries) (sym same)
    (subst (λ (p : PendingList). IsTimely c.in-Some.time latest p.entries) (sym c.take.ensures.rest)
    (timely_passed c.self.inside.time latest c.self.inside.pending.list (c.in-Some.time, c.in-Some.notice) (sym c.take.ensures.next ∙ c.in-Some.is) c.self.invariant))
