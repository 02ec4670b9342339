-- A resolved program: each name is replaced by what it means.
use Rattle.std.specs.Prelude.{ℕ, map, nat_le, Bool, true, false, List, [], length, take, drop, slice_get, get_or, Option, Some, None}
use Rattle.std.specs.List.{list_all, position}
use Rattle.std.specs.Map.{keys_of, values_of}
use Rattle.ss_base.specs.declared.layout.Mode.{Mode}
use Rattle.ss_base.specs.declared.layout.RankKey.{RankKey}
use Rattle.ss_base.specs.declared.line.Line.{Line}
use Rattle.ss_tree.specs.Tree.{SectionKindTree, event, SectionTree, statement_row}
use Rattle.ss_tree.specs.Names.{NameBytes}
use Rattle.ss_names.specs.declared.entry.EventSection.{EventSection}
use Rattle.ss_names_declarations.specs.NameTable.{value_for}
use Rattle.ss_names.specs.declared.entry.RoutineSection.{RoutineSection}
use Rattle.ss_names.specs.declared.meaning.Meaning.{Meaning}
use Rattle.ss_names.specs.declared.meaning.Meaning.TheVariants as meanings
use Rattle.ss_names.specs.Entries.{is_notice_class}
use Rattle.ss_names.specs.Table.{Table}
use Rattle.ss_names_scopes.specs.Locals.{Moded, locals_of}
use Rattle.ss_names_scopes.specs.Scopes.{is_main_section, local_mode}
use Rattle.ss_program.specs.Program.{Block, Routine, Event, Program}
use Rattle.ss_names_meaning.specs.Answers.{◌>>=◌, each, of_one, of_three, of_two, upto, where_holds}
use Rattle.ss_names_meaning.specs.Layouts.{resolved_layout, tie_keys}
use Rattle.ss_names_meaning.specs.Statements.{statements}

-- ---- sections

-- the modes of the local variables, in the order of their numbers
abbrev pub local_modes : Moded → Option (List Mode)
local_modes locals = each (local_mode locals) (upto (length locals))

-- a resolved section: the line of its head, the modes of its local variables, and its statements
pub record Parts : Type 0 where
  pub line : Line
  pub modes : List Mode
  pub body : Block

-- the statements of a section, where sections have these local variables, and it has these
abbrev pub resolved_body : Table → List Moded → Moded → SectionTree → Option Block
resolved_body t all locals s = statements (record { table = t; locals = locals; sections = all }) (statement_row s.body)

-- the section
abbrev pub parts_with : Table → List Moded → Moded → SectionTree → Option Parts
parts_with t all locals s =
    of_two {C = Parts} (local_modes locals) (resolved_body t all locals s) (λ modes done. record { line = s.line; modes = modes; body = done })

-- the section of this number, where sections have these local variables
abbrev pub parts_with_locals : Table → List Moded → List SectionTree → ℕ → Option Parts
parts_with_locals t all sections n = do
  s ← slice_get sections n
  locals ← slice_get all n
  parts_with t all locals s

-- ---- routines

-- a routine that is given and yields so many values: the given ones are its first local variables, the yielded ones the next
abbrev pub routine_of : ℕ → ℕ → Parts → Routine
routine_of given yielding parts = record {
  given = take given parts.modes;
  yielding = take yielding (drop given parts.modes);
  others = drop yielding (drop given parts.modes);
  body = parts.body;
}

-- the routine of this number, by a function that resolves each section
abbrev pub routine_from : (ℕ → Option Parts) → RoutineSection → Option Routine
routine_from section known = of_one (section known.section) (routine_of known.given known.yielding)

-- ---- event routines

abbrev pub class_variable : Meaning → Option (Option ℕ)
class_variable (meanings.Class class kind variable) = Some (Some variable)
class_variable _ = None

-- the global variable that gets the number of the notice, also if the routine has a local one of its name
abbrev pub saved : Table → NameBytes → Bool → Option (Option ℕ)
saved t name false = Some None
saved t name true = value_for t.meanings name >>= class_variable

-- the event routine of a class that is given so many values
abbrev pub event_of_class : ℕ → List RankKey → ℕ → Option ℕ → Parts → Event
event_of_class class keys given variable parts = record {
  class = class;
  ties = keys;
  line = parts.line;
  given = take given parts.modes;
  others = drop given parts.modes;
  saved = variable;
  body = parts.body;
}

-- a notice class with its EVENT section, by a function that resolves each section; it is given at most as many values as
-- the class has attributes
abbrev pub class_event_from : Table → (ℕ → Option Parts) → ℕ → NameBytes → EventSection → Option Event
class_event_from t section class name known = do
  given ← where_holds (nat_le known.given (length (get_or t.fields class []))) known.given
  of_three (tie_keys t class name) (saved t name known.saving) (section known.section)
      (λ keys variable parts. event_of_class class keys given variable parts)

-- the notice class of this number, by a function that resolves each section
abbrev pub event_from : Table → (ℕ → Option Parts) → ℕ → Option Event
event_from t section class = do
  name ← slice_get (keys_of t.classes) class
  known ← value_for t.events name
  class_event_from t section class name known

-- whether the class of an EVENT section is a notice class
abbrev pub is_known_kind : Table → SectionKindTree → Bool
is_known_kind t (event name given saving) = is_notice_class (value_for t.classes name)
is_known_kind t _ = true

abbrev pub is_known : Table → SectionTree → Bool
is_known t s = is_known_kind t s.kind

-- ---- the program

-- MAIN, the first if there are several, by a function that resolves each section
abbrev pub main_from : (ℕ → Option Parts) → List SectionTree → Option Parts
main_from section sections = position is_main_section sections >>= section

-- the program with these sections, where they have these local variables
unfoldable pub resolved_with_locals : Table → List Moded → List SectionTree → Option Program
resolved_with_locals t all sections = do
  laid ← resolved_layout t
  known ← where_holds (list_all (is_known t) sections) sections
  routines ← each (routine_from (parts_with_locals t all known)) (values_of t.routines)
  events ← each (event_from t (parts_with_locals t all known)) t.ranks
  parts ← main_from (parts_with_locals t all known) known
  Some (record {
    layout = laid.layout;
    disciplines = laid.disciplines;
    globals = laid.globals;
    counts = laid.counts;
    statistics = laid.statistics;
    routines = routines;
    events = events;
    locals = parts.modes;
    main = parts.body;
  })

-- The program with these sections, by its table, with each name replaced by what it means. None if a name isn't of the kind
-- that its place needs. None if a subscript is missing or too many, or a count of arguments doesn't fit.
abbrev pub resolved : Table → List SectionTree → Option Program
resolved t sections = resolved_with_locals t (map (locals_of t) sections) sections
