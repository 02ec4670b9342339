use Rattle.std.proofs.Common.{rules, ◌≡◌, subst, to_z, of_z, w64}
use Rattle.ss_machine_notices.proofs.Common.{HasSetField, said_of_layout, Seen, seen_of, Text}
use Rattle.ss_machine_notices.proofs.Giving.{value_set}
use Rattle.ss_machine_notices.proofs.scheduling.set_text.Goals as goal

pub invariant_of-world : goal.invariant_of-world
invariant_of-world c = let i = c.world.inside in said_of_layout i.population.layout c.set_text.new.self.layout i.notices.items i.timeline.histories.statistics i.classes.items c.set_text.ensures.layout c.world.invariant

pub returns : goal.returns
returns c =
    let n = c.args.notice in
    let i = c.world.inside in let h = c.set_text.new.self in let r = c.set_text.result in
    let e : Seen = seen_of i.disciplines.items i.notices.items i.population i.timeline in
    let same : to_z w64 (of_z w64 n) ≡ n = search rules in
    subst (λ (old : Seen). HasSetField c.args.class c.args.field n (Text c.args.text) old (record e { heap = h }) r) c.world.view_is
    (value_set e c.args.class c.args.field n (Text c.args.text) h r (simp same at c.set_text.ensures.done) c.set_text.ensures.layout)
