use Rattle.std.proofs.Common.{ap}
use Rattle.ss_code_instructions.specs.declared.instruction.Instruction.TheVariants.{NextEvent as Runs}
use Rattle.ss_machine_instructions.proofs.Common.{back_if_at, Seen}
use Rattle.ss_machine_instructions.proofs.Comparing.{back_if_at_is, next_events}
use Rattle.ss_machine_instructions.proofs.state.State.next_event.Goals as goal

pub returns : goal.returns
returns c = λ here back w core r.
    let s = c.args.self.now in
    next_events w core here s (Runs back) r back c.is_awaited.result (record s { world = c.is_awaited.new.world }) (back_if_at here c.is_awaited.result back) r.runs.carries c.is_awaited.ensures.value (ap (λ (e : Seen). record s { world = e }) c.is_awaited.ensures.same) (back_if_at_is here c.is_awaited.result back)
