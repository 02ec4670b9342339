use Rattle.std.proofs.Common.{Some, ap, ◌∙◌}
use Rattle.ss_base.specs.declared.line.Line.{Line}
use Rattle.ss_machine_instructions.specs.Ways.{faulted}
use Rattle.ss_machine_notices.proofs.events.fault_of_event.Goals as goal

pub line_of-requires : goal.line_of-requires
line_of-requires g c = c.requires

pub returns-clause-state : goal.returns-clause-state
returns-clause-state g c = λ said here.
    c.fault.ensures.faulted
    ∙ ap (λ (l : Line). faulted c.args.kind (record c.args.state.now { fault_line = Some l })) (c.line_of.ensures said here)
