-- The exit statuses of the program, where its words give an order.
use Rattle.std.specs.Prelude.{ℕ, Result, Ok, Err}
use Rattle.ss_engine.specs.Outcomes.{status_of}
use Rattle.ss_engine.specs.declared.outcome.Outcome.{Outcome}
use Rattle.simscript_order.specs.declared.failure.ProgramFailure.{ProgramFailure}
use Rattle.simscript_order.specs.FailureStatuses.{failure_status}

-- an order that was obeyed, or what stopped it
abbrev pub ended_status : Result Outcome ProgramFailure → ℕ
ended_status (Ok outcome) = status_of outcome
ended_status (Err cause) = failure_status cause
