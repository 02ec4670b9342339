use Rattle.std.proofs.lemmas.Result.{IfOk-weaker}
use Rattle.ss_code_generator.proofs.Spotted.{attribute_spotted, count_spotted}
use Rattle.ss_code_generator.proofs.generator.Generator.spot.Goals as goal

pub returns-in_ok-spot-in-ToAttribute : goal.returns-in_ok-spot-in-ToAttribute
returns-in_ok-spot-in-ToAttribute c = rw c.in-ToAttribute.is (attribute_spotted c.in_ok-spot-in-ToAttribute.ensures)

pub returns-in-ToCount : goal.returns-in-ToCount
returns-in-ToCount c = rw c.in-ToCount.is (IfOk-weaker c.count_spot.result _ _ (count_spotted c.in-ToCount.count) c.count_spot.ensures)
