use Rattle.std.proofs.lemmas.Result.{IfOk-weaker}
use Rattle.ss_program.specs.View.{view_expression}
use Rattle.ss_code_generator.proofs.Rounds.{system_kept, entity_kept}
use Rattle.ss_code_generator.proofs.generator.Generator.kept_owner.Goals as goal

pub returns-in-TheSystem : goal.returns-in-TheSystem
returns-in-TheSystem c = rw c.in-TheSystem.is (IfOk-weaker c.owner.result _ _ system_kept (rw c.in-TheSystem.is at c.owner.ensures))

pub returns-in_ok-cell-in-Entity : goal.returns-in_ok-cell-in-Entity
returns-in_ok-cell-in-Entity c =
    let push = c.in_ok-push-in-Entity.ensures in
    rw c.in-Entity.is (entity_kept (view_expression c.in-Entity.entity) push.code push.room c.in_ok-cell-in-Entity.ensures.grows c.in_ok-cell-in-Entity.ensures.at)
