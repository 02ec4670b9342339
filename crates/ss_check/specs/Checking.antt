-- What a program that breaks no rule becomes, and why another is refused.
use Rattle.std.specs.Prelude.{◌≡◌, Option, Some, None}
use Rattle.ss_tree.specs.Tree.{ProgramTree}
use Rattle.ss_check_rules.specs.Refusal.{refusal_of_uses}
use Rattle.ss_check_rules.specs.declared.error.CheckError.{CheckError}
use Rattle.ss_check_rules.specs.declared.error.CheckError.TheVariants as errors
use Rattle.ss_names.specs.Table.{table}
use Rattle.ss_program.specs.declared.sections.Program.{Program as ProgramValue}
use Rattle.ss_program.specs.Program.{Program}
use Rattle.ss_program.specs.View.{view_program}
use Rattle.ss_names_meaning.specs.Resolved.{resolved}

-- the program of a tree, with its names resolved
abbrev pub resolved_program : ProgramTree → Option Program
resolved_program p = resolved (table p) p.sections

-- the first rule on what is done with names that a program breaks
abbrev pub refusal_of : ProgramTree → Option CheckError
refusal_of p = refusal_of_uses p

-- the program of a tree that breaks none of the rules
pub record HasProgram (p : ProgramTree) (r : ProgramValue) : Type 0 where
  pub kept : refusal_of p ≡ None
  pub resolved : resolved_program p ≡ Some (view_program r)

-- the error is the first breach, unless memory was refused
abbrev pub IsReportedBreach : CheckError → Option CheckError → Type 0
IsReportedBreach errors.Memory found = Unit {0}
IsReportedBreach e found = found ≡ Some e
