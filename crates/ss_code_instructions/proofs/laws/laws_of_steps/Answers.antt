use Rattle.ss_code_instructions.proofs.Calling.{ticks_and_calls as calls_so}
use Rattle.ss_code_instructions.proofs.Bounding.{steps_are_bounded as bounded_so}
use Rattle.ss_code_instructions.proofs.laws.laws_of_steps.Goals as goal

pub returns : goal.returns
returns c = record { ticks_and_calls = calls_so; steps_are_bounded = bounded_so }
