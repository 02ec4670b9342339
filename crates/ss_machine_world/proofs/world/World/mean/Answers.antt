use Rattle.std.proofs.Common.{rules, ◌≡◌, Some, None, Ok, Err, refl, subst, to_z, of_z, w64}
use Rattle.ss_machine_world.proofs.Common.{mean_kept, NoEntity, Seen, sure, with_seen}
use Rattle.ss_machine_world.proofs.Figured.{mean_is, mean_not}
use Rattle.ss_machine_world.proofs.world.World.mean.Goals as goal

pub returns-in-Err-clause-value : goal.returns-in-Err-clause-value
returns-in-Err-clause-value c = λ o refers.
    let same : to_z w64 (of_z w64 c.args.entity) ≡ c.args.entity = search rules in
    mean_not c.args.statistic o c.args.entity c.args.self.now refers c.in-Err.kind (λ t is. simp same at c.in-Err.ensures t is)

pub returns-in-None-clause-value : goal.returns-in-None-clause-value
returns-in-None-clause-value c = λ o refers.
    let same : to_z w64 (of_z w64 c.args.entity) ≡ c.args.entity = search rules in
    mean_is c.args.statistic o c.args.entity c.args.self.now refers None (Err NoEntity) (λ t is. simp same at c.in-Ok.ensures t is)
    (λ s. subst (λ (v : Seen). mean_kept c.args.statistic c.args.entity (with_seen s v) ≡ sure None) c.self.view_is (simp same at c.in-None.ensures.value)) tt

pub returns-in-Some-clause-value : goal.returns-in-Some-clause-value
returns-in-Some-clause-value c = λ o refers.
    let same : to_z w64 (of_z w64 c.args.entity) ≡ c.args.entity = search rules in
    mean_is c.args.statistic o c.args.entity c.args.self.now refers (Some c.in-Some.mean) (Ok c.in-Some.mean) (λ t is. simp same at c.in-Ok.ensures t is)
    (λ s. subst (λ (v : Seen). mean_kept c.args.statistic c.args.entity (with_seen s v) ≡ sure (Some c.in-Some.mean)) c.self.view_is (simp same at c.in-Some.ensures.value)) refl
