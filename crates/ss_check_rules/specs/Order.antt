-- The order of breaches: by the rule, and then by the line.
use Rattle.std.specs.Prelude.{ℕ}
use Rattle.ss_check_rules.specs.declared.error.CheckError.{CheckError}
use Rattle.ss_check_rules.specs.declared.error.CheckError.TheVariants as e

abbrev pub check_error_order : CheckError → ℕ × ℕ
check_error_order (e.NoMain line) = (1, line.0)
check_error_order (e.NoEventRoutine line) = (2, line.0)
check_error_order (e.StartPlace line) = (3, line.0)
check_error_order (e.Unknown line) = (4, line.0)
check_error_order (e.Subscript line) = (5, line.0)
check_error_order (e.NotAssignable line) = (6, line.0)
check_error_order (e.Arguments line) = (7, line.0)
check_error_order (e.Mode line) = (8, line.0)
check_error_order (e.Fields line) = (9, line.0)
check_error_order e.Memory = (10, 0)
