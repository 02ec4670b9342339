use Rattle.std.proofs.lemmas.Result.{IfOk-weaker}
use Rattle.ss_code_generator.proofs.Operands.{entity_borne}
use Rattle.ss_code_generator.proofs.generator.Generator.owner.Goals as goal

pub returns-in-Entity : goal.returns-in-Entity
returns-in-Entity c = rw c.in-Entity.is (IfOk-weaker c.operand.result _ _ entity_borne c.operand.ensures)
