use Rattle.std.proofs.Common.{rules, ◌≡◌, subst, to_z, of_z, w64}
use Rattle.ss_machine_notices.proofs.Common.{HasSetField, said_of_layout, Seen, seen_of, Whole}
use Rattle.ss_machine_notices.proofs.Giving.{number_set}
use Rattle.ss_machine_notices.proofs.scheduling.set_number.Goals as goal

pub invariant_of-world : goal.invariant_of-world
invariant_of-world c = let i = c.world.inside in said_of_layout i.population.layout c.set_whole.new.self.layout i.notices.items i.timeline.histories.statistics i.classes.items c.set_whole.ensures.layout c.world.invariant

pub returns : goal.returns
returns c =
    let n = c.args.notice in let x = c.args.number in
    let i = c.world.inside in let h = c.set_whole.new.self in let r = c.set_whole.result in
    let e : Seen = seen_of i.disciplines.items i.notices.items i.population i.timeline in
    let same_n : to_z w64 (of_z w64 n) ≡ n = search rules in
    let same_x : to_z w64 (of_z w64 x) ≡ x = search rules in
    let both = number_set e c.args.class c.args.field n x h r (simp (same_n, same_x) at c.set_whole.ensures.done) c.set_whole.ensures.layout in
    record { set = subst (λ (old : Seen). HasSetField c.args.class c.args.field n (Whole x) old (record e { heap = h }) r) c.world.view_is both.0; read = both.1 }
