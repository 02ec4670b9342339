-- The tables of a program, and why a program has none.
use Rattle.std.specs.Prelude.{◌≡◌, Bool, is_some, Option, Some, None, Result, Ok, Err}
use Rattle.ss_tree.specs.Tree.{ProgramTree}
use Rattle.ss_tree.specs.Names.{NameBytes}
use Rattle.ss_names_declarations.specs.NameTable.{value_for}
use Rattle.ss_names.specs.Table.{Table, table}
use Rattle.ss_tables_rules.specs.Broken.{refusal_of_declarations}
use Rattle.ss_tables_rules.specs.declared.error.TableError.{TableError}
use Rattle.ss_tables_rules.specs.declared.error.TableError.TheVariants as errors

-- the table of a program that breaks no rule on what it declares
pub record AreTablesOf (p : ProgramTree) (t : Table) : Type 0 where
  pub kept : refusal_of_declarations p ≡ None
  pub is_of_program : t ≡ table p

-- the table of some program that breaks no rule on what it declares
abbrev pub AreTables : Table → Type 0
AreTables t = (p : ProgramTree) × AreTablesOf p t

-- the error is the first breach, unless memory was refused
abbrev pub IsReportedError : TableError → Option TableError → Type 0
IsReportedError errors.Memory found = Unit {0}
IsReportedError e found = found ≡ Some e

-- the names, unless a rule is broken or memory was refused
abbrev pub AreNamesUnless : {E : Type 0} → Table → Result (Option TableError) E → Result Table TableError → Type 0
AreNamesUnless names (Ok None) result = result ≡ Ok names
AreNamesUnless names (Ok (Some error)) result = result ≡ Err error
AreNamesUnless names (Err e) result = result ≡ Err errors.Memory

-- which global and derived names a program has
abbrev pub is_declared : ProgramTree → NameBytes → Bool
is_declared p name = is_some (value_for (table p).meanings name)
