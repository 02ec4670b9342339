use Rattle.std.proofs.Common.{rules, ap}
use Rattle.ss_code_instructions.specs.declared.instruction.Instruction.TheVariants.{LookCount as Runs}
use Rattle.ss_machine_instructions.proofs.Common.{assignable_count, HasAnswer, on_after}
use Rattle.ss_machine_instructions.proofs.Looking.{looks_at_count}
use Rattle.ss_machine_instructions.proofs.state.State.look_count.Goals as goal

pub returns : goal.returns
returns c = λ w core r.
    let looks : HasAnswer (assignable_count c.args.class) c.args.self.now.world c.look_count-answer.result = search rules in
    looks_at_count w core c.args.here c.args.self.now (Runs c.args.class) r c.args.class c.look_count-answer.result c.done.new.self (on_after c.args.here c.done.result) r.runs.carries looks c.done.ensures.state (ap (on_after c.args.here) c.done.ensures.way)
