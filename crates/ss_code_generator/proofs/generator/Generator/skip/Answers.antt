use Rattle.ss_code_generator.proofs.Common.{on_ok_weaker}
use Rattle.ss_code_instructions.specs.declared.instruction.Instruction.TheVariants as r
use Rattle.ss_code_instructions.specs.Instructions as i
use Rattle.ss_code_generator.proofs.Called.{of_one}
use Rattle.ss_code_generator.proofs.generator.Generator.skip.Goals as goal

pub returns : goal.returns
returns c =
    on_ok_weaker c.put.result (λ is. of_one i.Skip (r.Skip c.in_ok-count.field-0.address) c.in_ok-count.ensures is (λ f t u h. h) (λ code constants x h. h) (λ prints cells y. tt)) c.put.ensures
