use Rattle.std.proofs.Common.{rules, ◌≡◌, Some, None, Err, refl, subst, to_z, of_z, w64}
use Rattle.ss_machine_world.proofs.Common.{figure_kept, figured, NoEntity, Seen, with_seen}
use Rattle.ss_machine_world.proofs.Figured.{figure_is, figure_not}
use Rattle.ss_machine_world.proofs.world.World.figure.Goals as goal

pub returns-in-Err : goal.returns-in-Err
returns-in-Err c = λ o refers.
    let same : to_z w64 (of_z w64 c.args.entity) ≡ c.args.entity = search rules in
    figure_not c.args.statistic o c.args.entity c.args.self.now refers c.args.fold c.in-Err.kind (λ t is. simp same at c.in-Err.ensures t is)

pub returns-in-None : goal.returns-in-None
returns-in-None c = λ o refers.
    let same : to_z w64 (of_z w64 c.args.entity) ≡ c.args.entity = search rules in
    figure_is c.args.statistic o c.args.entity c.args.self.now refers c.args.fold None (Err NoEntity) (λ t is. simp same at c.in-Ok.ensures t is)
    (λ s. subst (λ (v : Seen). figure_kept c.args.fold c.args.statistic c.args.entity (with_seen s v) ≡ figured None) c.self.view_is (simp same at c.in-None.ensures)) tt

pub returns-in-Some : goal.returns-in-Some
returns-in-Some c = λ o refers.
    let same : to_z w64 (of_z w64 c.args.entity) ≡ c.args.entity = search rules in
    figure_is c.args.statistic o c.args.entity c.args.self.now refers c.args.fold (Some c.in-Some.answer) c.in-Some.answer (λ t is. simp same at c.in-Ok.ensures t is)
    (λ s. subst (λ (v : Seen). figure_kept c.args.fold c.args.statistic c.args.entity (with_seen s v) ≡ figured (Some c.in-Some.answer)) c.self.view_is (simp same at c.in-Some.ensures)) refl
