use Rattle.std.proofs.Common.{ap, refl}
use Rattle.ss_code_instructions.specs.declared.instruction.Instruction.TheVariants.{Await as Runs}
use Rattle.ss_machine_instructions.proofs.Common.{on_if_at, Seen}
use Rattle.ss_machine_instructions.proofs.Comparing.{awaits}
use Rattle.ss_machine_instructions.proofs.state.State.await_event.Goals as goal

pub returns : goal.returns
returns c = λ here skip w core r.
    let s = c.args.self.now in
    awaits w core here s (Runs skip) r skip c.is_awaited.result (record s { world = c.is_awaited.new.world }) (on_if_at here c.is_awaited.result skip) r.runs.carries c.is_awaited.ensures.value (ap (λ (e : Seen). record s { world = e }) c.is_awaited.ensures.same) refl
