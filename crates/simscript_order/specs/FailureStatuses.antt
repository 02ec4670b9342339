-- The exit statuses of the program where it stops before a run has an outcome.
use Rattle.std.specs.Prelude.{ℕ}
use Rattle.simscript_order.specs.declared.failure.ProgramFailure.{ProgramFailure}
use Rattle.simscript_order.specs.declared.failure.ProgramFailure.TheVariants as failure

-- what stops the program before a run has an outcome
abbrev pub failure_status : ProgramFailure → ℕ
failure_status failure.Source = 6
failure_status failure.Input = 6
failure_status failure.Report = 6
failure_status failure.Memory = 5
