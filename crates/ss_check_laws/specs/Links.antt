-- A section whose names mean what is there in a program.
use Rattle.std.specs.Prelude.{◌≡◌, ℕ, ◌+◌, ◌≤◌, Bool, true, List, length, slice_get, take, drop, Some, None}
use Rattle.std.specs.List.{AllByRecursion as Every}
use Rattle.std.specs.Map.{values_of}
use Rattle.ss_base.specs.declared.layout.Mode.{Mode}
use Rattle.ss_tree.specs.Names.{NameBytes}
use Rattle.ss_names_declarations.specs.NameTable.{place_in, value_for}
use Rattle.ss_names_uses.specs.declared.used.Use.{Use}
use Rattle.ss_names.specs.declared.entry.RoutineSection.{RoutineSection}
use Rattle.ss_names_scopes.specs.Locals.{Moded}
use Rattle.ss_names_scopes.specs.Scopes.{Scope}
use Rattle.ss_program.specs.Program.{Routine, Program}
use Rattle.ss_program.specs.WellTyped.{TypedScope as Place}
use Rattle.ss_tables_rules.specs.Rules.{may_be_hidden}
use Rattle.ss_check_rules.specs.Refusal.{use_breaks}
use Rattle.ss_names_meaning.specs.Layouts.{ResolvedLayout}
use Rattle.ss_names_meaning.specs.Resolved.{local_modes}
use Rattle.ss_names_laws.specs.ValidTables.{IsValidTable}

-- uses that break no rule
abbrev pub AreValid : Scope → Bool → List Use → Type 0
AreValid s in_main us = Every (λ u. use_breaks s in_main u ≡ None) us

-- a routine of the program: what it is given and yields are the first local variables of its section
pub record IsRoutineAt (s : Scope) (p : Program) (k : ℕ) (known : RoutineSection) : Type 0 where
  pub routine : Routine
  pub locals : Moded
  pub modes : List Mode
  pub there : slice_get p.routines k ≡ Some routine
  pub section : slice_get s.sections known.section ≡ Some locals
  pub moded : local_modes locals ≡ Some modes
  pub given : routine.given ≡ take known.given modes
  pub yielding : routine.yielding ≡ take known.yielding (drop known.given modes)
  pub enough : known.given + known.yielding ≤ length modes

-- the program has the layout of the table, the local variables their modes, and the routines what they are given and yield
pub record IsLinked (s : Scope) (g : Place) : Type 0 where
  pub laid : ResolvedLayout
  pub table : IsValidTable s.table laid
  pub layout : g.program.layout ≡ laid.layout
  pub globals : g.program.globals ≡ laid.globals
  pub counts : g.program.counts ≡ laid.counts
  pub statistics : g.program.statistics ≡ laid.statistics
  pub moded : local_modes s.locals ≡ Some g.locals
  pub hides : (name : NameBytes) (number : ℕ) → place_in s.locals name ≡ Some number → may_be_hidden (value_for s.table.meanings name) ≡ true
  pub routines : (k : ℕ) (known : RoutineSection) → slice_get (values_of s.table.routines) k ≡ Some known → IsRoutineAt s g.program k known
