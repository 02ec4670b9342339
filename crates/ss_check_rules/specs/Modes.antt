-- Rule 73: values of two modes, or a text where a number has to be, or a MEAN where a value has to be.
use Rattle.std.specs.Prelude.{ℕ, ◌+◌, Bool, true, false, ◌&&◌, ◌||◌, ◌==◌, Option, Some, option_and_then, slice_get, get_or, []}
use Rattle.ss_base.specs.declared.layout.Mode.{Mode}
use Rattle.ss_base.specs.declared.layout.Mode.TheVariants.{Integer, Alpha}
use Rattle.ss_names_declarations.specs.NameTable.{place_in, value_for}
use Rattle.ss_names_uses.specs.declared.used.ModeOf.{ModeOf}
use Rattle.ss_names_uses.specs.declared.used.ModeOf.TheVariants as modes
use Rattle.ss_names_uses.specs.declared.used.Role.{Role}
use Rattle.ss_names_uses.specs.declared.used.Role.TheVariants as roles
use Rattle.ss_names.specs.declared.entry.RoutineSection.{RoutineSection}
use Rattle.ss_names.specs.declared.meaning.Meaning.{Meaning}
use Rattle.ss_names.specs.Table.{Table, mode_of_attribute}
use Rattle.ss_names_scopes.specs.Scopes.{Scope, implied, meaning_of_name, mode_of_meaning, parameter_mode}
use Rattle.ss_check_rules.specs.Kinds.{is_mean}

abbrev pub meaning_mode : Option Meaning → Option Mode
meaning_mode meaning = option_and_then mode_of_meaning meaning

-- the mode of the attribute of a class in this place
abbrev pub attribute_mode : Table → Option ℕ → ℕ → Option Mode
attribute_mode t known place = option_and_then (λ class. option_and_then (mode_of_attribute t) (slice_get (get_or t.fields class []) place)) known

-- the mode that a use says, if there is one
abbrev pub mode_of_use : Scope → ModeOf → Option Mode
mode_of_use s modes.Integer = Some Integer
mode_of_use s modes.Alpha = Some Alpha
mode_of_use s (modes.Named name) = meaning_mode (meaning_of_name s name)
mode_of_use s (modes.Given routine place) =
    option_and_then (λ (r : RoutineSection). parameter_mode s r.section place) (value_for s.table.routines routine)
mode_of_use s (modes.Yielded routine place) =
    option_and_then (λ (r : RoutineSection). parameter_mode s r.section (r.given + place)) (value_for s.table.routines routine)
mode_of_use s (modes.Attribute class place) = attribute_mode s.table (place_in s.table.classes class) place

-- two modes, where there are two
abbrev pub differ : Option Mode → Option Mode → Bool
differ (Some Integer) (Some Alpha) = true
differ (Some Alpha) (Some Integer) = true
differ _ _ = false

abbrev pub is_text : Option Meaning → Bool
is_text meaning = differ (meaning_mode meaning) (Some Integer)

-- a MEAN isn't a whole number but what two whole numbers make, and is rounded where it is printed
abbrev pub is_mean_as_value : Role → Meaning → Bool
is_mean_as_value roles.Value meaning = is_mean meaning
is_mean_as_value _ meaning = false

-- a place in a role breaks the rule: a text where a number has to be, a MEAN as a value, or an entity that is in a variable of
-- texts because no subscript is written
abbrev pub mixes_modes : Scope → Role → Meaning → ℕ → Bool → Bool
mixes_modes s role meaning subscripts is_number =
    (is_number && is_text (Some meaning)) || is_mean_as_value role meaning || ((subscripts == 0) && is_text (implied s meaning))
