-- What a name means in a section.
use Rattle.std.specs.Prelude.{ℕ, Bool, true, false, List, map, Option, Some, None, option_and_then, slice_get}
use Rattle.std.specs.List.{position}
use Rattle.std.specs.Map.{keys_of, values_of, lookup}
use Rattle.ss_base.specs.declared.layout.ClassKind.{ClassKind}
use Rattle.ss_base.specs.declared.layout.ClassKind.TheVariants as kinds
use Rattle.ss_base.specs.declared.layout.Mode.{Mode}
use Rattle.ss_base.specs.declared.layout.Mode.TheVariants.{Integer}
use Rattle.ss_base.specs.declared.layout.Owner.{Owner}
use Rattle.ss_base.specs.declared.layout.Owner.TheVariants as owners
use Rattle.ss_program.specs.declared.expression.Variable.{Variable}
use Rattle.ss_program.specs.declared.expression.Variable.TheVariants as variables
use Rattle.ss_tree.specs.Names.{NameBytes}
use Rattle.ss_tree.specs.Tree.{SectionKindTree, main, SectionTree}
use Rattle.ss_tree.specs.declared.expression.Designator.{Designator}
use Rattle.ss_tree.specs.declared.expression.Designator.TheVariants as designators
use Rattle.ss_names_declarations.specs.NameTable.{place_in, same_name, value_for}
use Rattle.ss_names_uses.specs.declared.used.ClassNeed.{ClassNeed}
use Rattle.ss_names_uses.specs.declared.used.ClassNeed.TheVariants as needs
use Rattle.ss_names.specs.declared.meaning.Meaning.{Meaning}
use Rattle.ss_names.specs.declared.meaning.Meaning.TheVariants as meanings
use Rattle.ss_names.specs.Table.{Table, owner_of_meaning}
use Rattle.ss_names_scopes.specs.Locals.{Moded, locals_of}

-- a section: the table, its local variables, and those of all sections
pub record Scope : Type 0 where
  pub table : Table
  pub locals : Moded
  pub sections : List Moded

-- the scope of a section of a program with this table
abbrev pub scope_of : Table → List SectionTree → SectionTree → Scope
scope_of t sections s = record { table = t; locals = locals_of t s; sections = map (locals_of t) sections }

abbrev pub is_main : SectionKindTree → Bool
is_main main = true
is_main _ = false

abbrev pub is_main_section : SectionTree → Bool
is_main_section s = is_main s.kind

-- ---- the meaning of a name

-- the mode of a local variable; a name without any is refused, and counts as INTEGER
abbrev pub known_mode : Option (Option Mode) → Mode
known_mode (Some (Some mode)) = mode
known_mode _ = Integer

-- a local variable hides what its name means in the whole program
abbrev pub hidden_by : Moded → NameBytes → Option ℕ → Option Meaning → Option Meaning
hidden_by locals name (Some number) global =
    Some (meanings.Variable (variables.Local number) (known_mode (lookup (same_name name) locals)))
hidden_by locals name None global = global

abbrev pub meaning_of_name : Scope → NameBytes → Option Meaning
meaning_of_name s name =
    hidden_by s.locals name (position (same_name name) (keys_of s.locals)) (value_for s.table.meanings name)

-- what is named; None for a name that means nothing
abbrev pub meaning_of : Scope → Designator → Option Meaning
meaning_of s (designators.Name name) = meaning_of_name s name
meaning_of s designators.TimeV = Some meanings.Clock
meaning_of s designators.TimeA = Some meanings.NoticeTime

-- ---- what is of a kind, has a mode, is a variable, or is of an entity

-- whether a class is of the kind that a place needs: single entities are those of temporary classes and notices
abbrev pub is_kind : ClassNeed → ClassKind → Bool
is_kind needs.Permanent kinds.Permanent = true
is_kind needs.Notice kinds.Notice = true
is_kind needs.Single kinds.Temporary = true
is_kind needs.Single kinds.Notice = true
is_kind _ _ = false

-- the mode of what a name means; a set and a routine have none
abbrev pub mode_of_meaning : Meaning → Option Mode
mode_of_meaning (meanings.Variable variable mode) = Some mode
mode_of_meaning (meanings.Attribute class field mode) = Some mode
mode_of_meaning (meanings.Set set) = None
mode_of_meaning (meanings.Routine routine) = None
mode_of_meaning _ = Some Integer

-- the variable that a name means: a local or a global one, or that of a class
abbrev pub variable_of : Meaning → Option Variable
variable_of (meanings.Variable variable mode) = Some variable
variable_of (meanings.Class class kind variable) = Some (variables.Global variable)
variable_of _ = None

-- what the name of a class means here: the variable that has an entity of the class where none is named
abbrev pub meaning_of_class : Scope → ℕ → Option Meaning
meaning_of_class s class = option_and_then (meaning_of_name s) (slice_get (keys_of s.table.classes) class)

abbrev pub meaning_of_owner : Scope → Owner → Option Meaning
meaning_of_owner s owners.System = None
meaning_of_owner s (owners.Class class) = meaning_of_class s class

-- the variable that has the entity of what a name means, where no subscript is written; None where it is of no entity
abbrev pub implied : Scope → Meaning → Option Meaning
implied s m = meaning_of_owner s (owner_of_meaning s.table m)

-- ---- histories

-- a name that a local variable hides has no history
abbrev pub unless_hidden : Option ℕ → Option ℕ → Option ℕ
unless_hidden (Some local) found = None
unless_hidden None found = found

-- the number of the history of what is named
abbrev pub history_of : Scope → Designator → Option ℕ
history_of s (designators.Name name) = unless_hidden (place_in s.locals name) (place_in s.table.histories name)
history_of s _ = None

-- ---- parameters

abbrev pub mode_given : Option (Option Mode) → Option Mode
mode_given known = option_and_then (λ mode. mode) known

-- the mode of the local variable of this number
abbrev pub local_mode : Moded → ℕ → Option Mode
local_mode locals n = mode_given (slice_get (values_of locals) n)

abbrev pub local_mode_at : Option Moded → ℕ → Option Mode
local_mode_at found number = option_and_then (λ locals. local_mode locals number) found

-- the mode of a parameter of the routine of a section: the given ones come before those that it yields
abbrev pub parameter_mode : Scope → ℕ → ℕ → Option Mode
parameter_mode s section number = local_mode_at (slice_get s.sections section) number
