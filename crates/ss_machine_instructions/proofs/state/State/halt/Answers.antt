use Rattle.std.proofs.Common.{ap}
use Rattle.ss_code_instructions.specs.declared.instruction.Instruction.TheVariants.{Halt as Runs}
use Rattle.ss_machine_instructions.specs.Ways.{on_after}
use Rattle.ss_machine_instructions.proofs.Calling.{halts}
use Rattle.ss_machine_instructions.proofs.state.State.halt.Goals as goal

pub returns : goal.returns
returns c = λ here w core r. halts w core here c.args.self.now Runs r c.stop.new.self (on_after here c.stop.result) r.runs.carries c.stop.ensures.stopped (ap (on_after here) c.stop.ensures.none)
