-- A program that breaks no rule has a resolved form, which is well typed.
use Rattle.std.specs.Prelude.{◌≡◌, Some, None}
use Rattle.ss_tree.specs.Tree.{ProgramTree}
use Rattle.ss_names.specs.Table.{table}
use Rattle.ss_program.specs.Program.{Program}
use Rattle.ss_program.specs.WellTyped.{IsWellTyped}
use Rattle.ss_tables_rules.specs.Broken.{refusal_of_declarations}
use Rattle.ss_check_rules.specs.Refusal.{refusal_of_uses}
use Rattle.ss_names_meaning.specs.Resolved.{resolved}

abbrev pub ProgramsResolve : Type 0
ProgramsResolve =
    (p : ProgramTree) → refusal_of_declarations p ≡ None → refusal_of_uses p ≡ None →
    (x : Program) × (resolved (table p) p.sections ≡ Some x) × IsWellTyped x
