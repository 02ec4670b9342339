use Rattle.ss_program.specs.View.{view_expression}
use Rattle.ss_code_generator.proofs.Emitting.{makes_earlier}
use Rattle.ss_code_generator.proofs.Itemed.{mean_of_looked}
use Rattle.ss_code_generator.proofs.generator.Generator.item.Goals as goal

pub returns-in_ok-put-in-MeanOf-clause-code : goal.returns-in_ok-put-in-MeanOf-clause-code
returns-in_ok-put-in-MeanOf-clause-code c =
    let cell = c.in_ok-entity-in-MeanOf.ensures in
    rw c.in-MeanOf.is (makes_earlier c.reach.ensures.grows (mean_of_looked c.in-MeanOf.statistic (view_expression c.in-MeanOf.entity) c.in_ok-push-in-MeanOf.ensures.code cell.grows cell.at cell.room (rw c.in_ok-statistic-in-MeanOf.ensures at c.in_ok-put-in-MeanOf.ensures)))
