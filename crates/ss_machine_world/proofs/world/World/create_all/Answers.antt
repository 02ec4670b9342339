use Rattle.std.proofs.Common.{rules, ◌≡◌, ℤ, Err, refl, ap, subst, to_z, of_z, w64}
use Rattle.ss_machine_world.proofs.Common.{created_all, no_value, Seen, State}
use Rattle.ss_machine_world.proofs.Starting.{fault_due, all_fault}
use Rattle.ss_machine_world.proofs.world.World.create_all.Goals as goal

pub returns-in-Err : goal.returns-in-Err
returns-in-Err c =
    let class = c.args.class in let count = c.args.count in let e = c.args.self.now in let kind = c.in-Err.kind in
    let same : to_z w64 (of_z w64 count) ≡ count = search rules in
    let due : Err kind ≡ no_value (created_all e.heap class count) =
    subst (λ (h : State). Err kind ≡ no_value (created_all h class count)) (ap (λ (e : Seen). e.heap) c.self.view_is)
    (subst (λ (z : ℤ). Err kind ≡ no_value (created_all c.self.inside.population class z)) same c.in-Err.ensures) in
    (all_fault e class count c.requires.permanent kind (fault_due (created_all e.heap class count) kind due), refl)
