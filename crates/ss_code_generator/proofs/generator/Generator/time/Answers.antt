use Rattle.ss_code_generator.proofs.Common.{Integer, on_ok_weaker}
use Rattle.ss_code_instructions.specs.declared.instruction.Instruction.TheVariants as r
use Rattle.ss_code_instructions.specs.Instructions as i
use Rattle.ss_code_generator.proofs.Noticing.{cell_works}
use Rattle.ss_code_generator.proofs.generator.Generator.time.Goals as goal

pub returns-in_ok-time-in-At-clause-code : goal.returns-in_ok-time-in-At-clause-code
returns-in_ok-time-in-At-clause-code c =
    let run = r.At c.in_ok-time-in-At.field-0.address c.in_ok-to.to in
    rw c.in-At.is (on_ok_weaker c.put.result (λ is. cell_works (λ z y. i.At y z) run c.in_ok-to.ensures.grows c.in_ok-to.ensures.at c.in_ok-time-in-At.ensures is (λ f t u h. (Integer, h)) (λ code constants x h. h) (λ prints cells z y. tt)) c.put.ensures)

pub returns-in_ok-units-in-In-clause-code : goal.returns-in_ok-units-in-In-clause-code
returns-in_ok-units-in-In-clause-code c =
    let run = r.In c.in_ok-units-in-In.field-0.address c.in_ok-to.to in
    rw c.in-In.is (on_ok_weaker c.put-in-In.result (λ is. cell_works (λ z y. i.In y z) run c.in_ok-to.ensures.grows c.in_ok-to.ensures.at c.in_ok-units-in-In.ensures is (λ f t u h. (Integer, h)) (λ code constants x h. h) (λ prints cells z y. tt)) c.put-in-In.ensures)
