-- Rule 74: other counts of arguments than are taken.
use Rattle.std.specs.Prelude.{ℕ, Bool, true, ◌==◌, length, get_or, [], nat_le}
use Rattle.std.specs.Option.{option_map_or}
use Rattle.ss_tree.specs.declared.expression.Function.{Function}
use Rattle.ss_tree.specs.declared.expression.Function.TheVariants.{One, Two}
use Rattle.ss_names_declarations.specs.NameTable.{place_in, value_for}
use Rattle.ss_names_uses.specs.declared.used.CountNeed.{CountNeed}
use Rattle.ss_names_uses.specs.declared.used.CountNeed.TheVariants as needs
use Rattle.ss_names.specs.declared.entry.RoutineSection.{RoutineSection}
use Rattle.ss_names.specs.Table.{Table}

-- how many arguments a function takes
abbrev pub argument_count : Function → ℕ
argument_count (One op) = 1
argument_count (Two op) = 2

-- whether so many arguments are taken: a function and a routine take as many as they have, SCHEDULE and EVENT at most as many as
-- their class has attributes. A name of no routine or class breaks 79.
abbrev pub suits_count : Table → ℕ → CountNeed → Bool
suits_count t count (needs.Arguments function) = count == argument_count function
suits_count t count (needs.Given routine) = option_map_or (λ (r : RoutineSection). count == r.given) (value_for t.routines routine) true
suits_count t count (needs.Yielded routine) = option_map_or (λ (r : RoutineSection). count == r.yielding) (value_for t.routines routine) true
suits_count t count (needs.Attributes class) =
    option_map_or (λ (n : ℕ). nat_le count (length (get_or t.fields n []))) (place_in t.classes class) true
