-- What names may be in their places: kinds, subscripts, and what takes values.
use Rattle.std.specs.Prelude.{ℕ, Bool, true, false, ◌==◌, Option, Some, None, is_some, nat_le}
use Rattle.std.specs.Option.{option_map_or}
use Rattle.ss_base.specs.declared.layout.Owner.{Owner}
use Rattle.ss_base.specs.declared.layout.Owner.TheVariants as owners
use Rattle.ss_tree.specs.declared.expression.Designator.{Designator}
use Rattle.ss_tree.specs.declared.expression.Designator.TheVariants as designators
use Rattle.ss_names_declarations.specs.NameTable.{value_for}
use Rattle.ss_names_uses.specs.declared.used.Role.{Role}
use Rattle.ss_names_uses.specs.declared.used.Role.TheVariants as roles
use Rattle.ss_names_uses.specs.declared.used.ClassNeed.{ClassNeed}
use Rattle.ss_program.specs.declared.expression.SetQuery.TheVariants.{MemberCount}
use Rattle.ss_names.specs.declared.meaning.Meaning.{Meaning}
use Rattle.ss_names.specs.declared.meaning.Meaning.TheVariants as m
use Rattle.ss_names.specs.Table.{Table, owner_of_meaning}
use Rattle.ss_names_scopes.specs.Scopes.{Scope, history_of, is_kind, meaning_of, variable_of}

abbrev pub if_means : (Meaning → Bool) → Option Meaning → Bool
if_means test meaning = option_map_or test meaning false

-- ---- kinds, 79

-- what may be a value or a target: all but sets and routines
abbrev pub has_value : Meaning → Bool
has_value (m.Set set) = false
has_value (m.Routine routine) = false
has_value _ = true

abbrev pub is_variable : Meaning → Bool
is_variable meaning = is_some (variable_of meaning)

abbrev pub is_set : Meaning → Bool
is_set (m.Set set) = true
is_set _ = false

abbrev pub is_routine : Meaning → Bool
is_routine (m.Routine routine) = true
is_routine _ = false

abbrev pub is_mean : Meaning → Bool
is_mean (m.Statistic None statistic) = true
is_mean _ = false

abbrev pub suits_class : Option Meaning → ClassNeed → Bool
suits_class (Some (m.Class class kind variable)) need = is_kind need kind
suits_class _ need = false

-- what a place means in its role; no local variable hides a set
abbrev pub meaning_in_role : Scope → Role → Designator → Option Meaning
meaning_in_role s roles.Set (designators.Name name) = value_for s.table.meanings name
meaning_in_role s role place = meaning_of s place

-- whether what is named is of the kind that its role needs
abbrev pub suits : Scope → Role → Designator → Bool
suits s roles.Reset place = is_some (history_of s place)
suits s roles.Set place = if_means is_set (meaning_in_role s roles.Set place)
suits s roles.LoopVariable place = if_means is_variable (meaning_of s place)
suits s _ place = if_means has_value (meaning_of s place)

-- what TALLY and ACCUMULATE may be of: a global variable of a DEFINE, an attribute or N. of a set
abbrev pub may_be_watched : Meaning → Bool
may_be_watched (m.Variable variable mode) = true
may_be_watched (m.Attribute class field mode) = true
may_be_watched (m.OfSet MemberCount set) = true
may_be_watched _ = false

-- ---- subscripts, 75

abbrev pub may_have : Owner → ℕ → Bool
may_have owners.System n = n == 0
may_have (owners.Class class) n = nat_le n 1

-- whether so many subscripts may be written: TIME.A takes one always, what each entity of a class has takes one or none, and
-- anything else none
abbrev pub suits_subscripts : Table → Meaning → ℕ → Bool
suits_subscripts t m.NoticeTime n = n == 1
suits_subscripts t meaning n = may_have (owner_of_meaning t meaning) n

-- ---- targets, 76

-- what takes values: variables, attributes and N. of classes
abbrev pub takes_values : Meaning → Bool
takes_values (m.Variable variable mode) = true
takes_values (m.Class class kind variable) = true
takes_values (m.Count count) = true
takes_values (m.Attribute class field mode) = true
takes_values _ = false

abbrev pub is_target : Role → Bool
is_target roles.Target = true
is_target _ = false
