use Rattle.std.proofs.Common.{rules, ◌≡◌, subst, to_z, of_z, w64}
use Rattle.ss_machine_notices.proofs.Common.{HasRearranged, said_of_layout, Seen, seen_of}
use Rattle.ss_world.specs.State.{timed, State}
use Rattle.ss_machine_instructions.proofs.Filing.{rearranged}
use Rattle.ss_machine_notices.proofs.scheduling.set_time.Goals as goal

pub invariant_of-world : goal.invariant_of-world
invariant_of-world c = let i = c.world.inside in said_of_layout i.population.layout c.set_time_a.new.self.layout i.notices.items i.timeline.histories.statistics i.classes.items c.set_time_a.ensures.layout c.world.invariant

pub returns : goal.returns
returns c =
    let n = c.args.notice in let t = c.args.time in
    let i = c.world.inside in let h = c.set_time_a.new.self in let r = c.set_time_a.result in
    let e : Seen = seen_of i.disciplines.items i.notices.items i.population i.timeline in
    let same_n : to_z w64 (of_z w64 n) ≡ n = search rules in
    let same_t : to_z w64 (of_z w64 t) ≡ t = search rules in
    subst (λ (old : Seen). HasRearranged (λ h. timed h n t) old (record e { heap = h }) r) c.world.view_is
    (rearranged (λ (h : State). timed h n t) e h r (simp (same_n, same_t) at c.set_time_a.ensures.done))
