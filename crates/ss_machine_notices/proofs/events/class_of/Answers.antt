use Rattle.std.proofs.Common.{rules, ◌≡◌, ℤ, subst, to_z, of_z, w64}
use Rattle.ss_machine_notices.proofs.Common.{living, Seen}
use Rattle.ss_machine_notices.proofs.events.class_of.Goals as goal

pub returns : goal.returns
returns c =
    let n = c.args.notice in let r = c.class_of.result in
    let same : to_z w64 (of_z w64 n) ≡ n = search rules in
    subst (λ (v : Seen). r ≡ living v.heap n) c.world.view_is (subst (λ (z : ℤ). r ≡ living c.world.inside.population z) same c.class_of.ensures)
