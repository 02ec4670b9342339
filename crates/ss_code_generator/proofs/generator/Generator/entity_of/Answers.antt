use Rattle.std.proofs.lemmas.Result.{IfOk-weaker}
use Rattle.ss_code_generator.proofs.Operands.{entity_borne}
use Rattle.ss_code_generator.proofs.generator.Generator.entity_of.Goals as goal

pub returns-in-Some : goal.returns-in-Some
returns-in-Some c = rw c.in-Some.is (IfOk-weaker c.operand.result _ _ entity_borne c.operand.ensures)
