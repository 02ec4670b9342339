-- The local variables of a section.
use Rattle.std.specs.Prelude.{ℕ, Bool, true, false, ◌&&◌, ◌==◌, List, [], ◌∷◌, map, Option, Some, None, is_none, option_to_list, if◌then◌else◌}
use Rattle.std.specs.Global.{Vec}
use Rattle.std.specs.List.{flat_map}
use Rattle.std.specs.Option.{option_or}
use Rattle.ss_base.specs.declared.layout.Mode.{Mode}
use Rattle.ss_tree.specs.Names.{NameBytes}
use Rattle.ss_tree.specs.Tree.{SectionTree}
use Rattle.ss_tree.specs.declared.expression.Designator.TheVariants as designators
use Rattle.ss_tree.specs.declared.expression.Designator.{Designator}
use Rattle.ss_names_declarations.specs.NameTable.{first_entries, value_for}
use Rattle.ss_names_uses.specs.declared.used.Role.{Role}
use Rattle.ss_names_uses.specs.declared.used.Role.TheVariants as roles
use Rattle.ss_names_uses.specs.declared.used.Used.{Used}
use Rattle.ss_names_uses.specs.declared.used.Used.TheVariants.{Parameter, Local, Place}
use Rattle.ss_names_uses.specs.declared.used.Use.{Use}
use Rattle.ss_names_uses.specs.Uses.{uses}
use Rattle.ss_names.specs.Modes.{value_mode}
use Rattle.ss_names.specs.Table.{Table}

-- names with their modes; None is a mode that nothing gives
abbrev pub Moded : Type 0
Moded = List (NameBytes × Option Mode)

-- whether a name without subscript is a variable in this role
abbrev pub may_be_variable : Role → Bool
may_be_variable roles.Set = false
may_be_variable _ = true

-- whether a name with so many subscripts is a local variable in this role: one without subscript that is used as a variable and
-- isn't global
abbrev pub is_local_place : Table → Role → NameBytes → ℕ → Bool
is_local_place t role name subscripts = may_be_variable role && (subscripts == 0) && is_none (value_for t.meanings name)

abbrev pub local_place : Table → Role → Designator → ℕ → Option NameBytes
local_place t role (designators.Name name) subscripts = if is_local_place t role name subscripts then Some name else None
local_place t role _ subscripts = None

-- the local variable that a use names
abbrev pub local_of : Table → Used → Option NameBytes
local_of t (Parameter name) = Some name
local_of t (Local name mode) = Some name
local_of t (Place role place subscripts is_number) = local_place t role place subscripts
local_of t _ = None

abbrev pub local_used : Table → Use → List NameBytes
local_used t u = option_to_list (local_of t u.what)

abbrev pub defined_by : Used → List (NameBytes × Mode)
defined_by (Local name mode) = (name, value_mode mode) ∷ []
defined_by _ = []

-- the modes that local DEFINEs give
abbrev pub defined : List Use → List (NameBytes × Mode)
defined us = flat_map (λ (u : Use). defined_by u.what) us

-- a local variable with its mode: that of its first DEFINE in the section, or else that of NORMALLY
abbrev pub moded_in : Option Mode → List (NameBytes × Mode) → NameBytes → NameBytes × Option Mode
moded_in usual modes name = (name, option_or (value_for modes name) usual)

-- the local variables of a section with these uses, in the order of their numbers: each once, by its first use. So parameters
-- come first, given ones before yielded ones, then those of DEFINEs, then those that are only used.
abbrev pub locals : Table → List Use → Moded
locals t us = first_entries (map (moded_in t.usual (defined us)) (flat_map (local_used t) us))

abbrev pub uses_seen : Vec Use → List Use
uses_seen us = us.items

abbrev pub locals_of : Table → SectionTree → Moded
locals_of t s = locals t (uses s)
