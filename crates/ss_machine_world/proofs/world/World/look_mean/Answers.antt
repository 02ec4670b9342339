use Rattle.std.proofs.Common.{rules, ◌≡◌, to_z, of_z, w64}
use Rattle.ss_machine_world.proofs.Figured.{mean_looked}
use Rattle.ss_machine_world.proofs.world.World.look_mean.Goals as goal

pub returns : goal.returns
returns c = λ o refers.
    let same : to_z w64 (of_z w64 c.args.entity) ≡ c.args.entity = search rules in
    mean_looked c.args.statistic o c.args.entity c.args.self.now refers c.look_statistic.result (λ t is. simp same at c.look_statistic.ensures t is)
