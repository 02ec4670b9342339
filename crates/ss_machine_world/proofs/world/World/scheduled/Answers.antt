use Rattle.std.proofs.Common.{rules, ◌≡◌, ℤ, Err, ap, subst, to_z, of_z, w64}
use Rattle.ss_machine_world.proofs.Common.{known_in, Seen, State}
use Rattle.ss_machine_world.proofs.Leaving.{kept_pending, there_in}
use Rattle.ss_machine_world.proofs.world.World.scheduled.Goals as goal

pub returns-in-Err : goal.returns-in-Err
returns-in-Err c =
    let e = c.args.self.now in let class = c.args.class in let n = c.args.number in
    let same : to_z w64 (of_z w64 n) ≡ n = search rules in
    let heap = ap (λ (v : Seen). v.heap) c.self.view_is in
    kept_pending e class n (there_in e.heap.layout.classes class c.requires.class) (Err c.in-Err.kind)
    (subst (λ (h : State). Err c.in-Err.kind ≡ known_in h class n) heap (subst (λ (z : ℤ). Err c.in-Err.kind ≡ known_in c.self.inside.population class z) same c.in-Err.ensures)) c.requires.pending
