-- The lists in which a program's things are numbered.
use Rattle.std.specs.Prelude.{ℕ, ◌++◌, Bool, true, false, List, [], ◌∷◌, map, filter, length, Option, Some, None, is_some, option_to_list, if◌then◌else◌, nat_eq, slice_get, unwrap_or}
use Rattle.std.specs.Global.{Vec}
use Rattle.std.specs.List.{flat_map, fold, list_any, range_with_len}
use Rattle.std.specs.Map.{keys_of}
use Rattle.std.specs.Option.{option_map, option_or}
use Rattle.ss_base.specs.declared.layout.Mode.{Mode}
use Rattle.ss_base.specs.declared.layout.Mode.TheVariants.{Integer, Alpha}
use Rattle.ss_base.specs.declared.layout.ClassKind.{ClassKind}
use Rattle.ss_base.specs.declared.layout.ClassKind.TheVariants as kinds
use Rattle.ss_base.specs.declared.layout.Owner.{Owner}
use Rattle.ss_base.specs.declared.layout.Owner.TheVariants as owners
use Rattle.ss_tree.specs.Names.{NameBytes}
use Rattle.ss_tree.specs.declared.preamble.ModeWord.{ModeWord}
use Rattle.ss_tree.specs.declared.preamble.ModeWord.TheVariants as words
use Rattle.ss_base.specs.declared.words.Weighting.{Weighting}
use Rattle.ss_names_declarations.specs.NameTable.{each_once, entry_if, first_entries, place_in, value_for}
use Rattle.ss_names_declarations.specs.declared.declaration.Declared.{Declared}
use Rattle.ss_names_declarations.specs.declared.declaration.Declared.TheVariants as d
use Rattle.ss_names_declarations.specs.declared.declaration.Declaration.{Declaration}
use Rattle.ss_names.specs.declared.entry.Attribute.{Attribute}
use Rattle.ss_names.specs.declared.entry.DefinedOrder.{DefinedOrder}
use Rattle.ss_names.specs.declared.entry.Set.{Set}
use Rattle.ss_names.specs.declared.entry.RoutineSection.{RoutineSection}
use Rattle.ss_names.specs.declared.entry.EventSection.{EventSection}
use Rattle.ss_names.specs.declared.entry.RankedBy.{RankedBy}
use Rattle.ss_names.specs.declared.entry.TiedBy.{TiedBy}
use Rattle.ss_names.specs.Modes.{value_mode}

-- what each of some declarations gives, one after the other
abbrev pub given_by : {A : Type 0} → (Declared → List A) → List Declaration → List A
given_by f ds = flat_map (λ (x : Declaration). f x.what) ds

-- what each of some declarations gives to names; of two entries for a name the first counts
abbrev pub named_by : {A : Type 0} → (Declared → List (NameBytes × A)) → List Declaration → List (NameBytes × A)
named_by f ds = first_entries (given_by f ds)

abbrev pub row_of : Vec NameBytes → List NameBytes
row_of row = row.items

-- ---- modes

-- REAL gives none
abbrev pub usual_of : ModeWord → List Mode
usual_of words.Integer = Integer ∷ []
usual_of words.Alpha = Alpha ∷ []
usual_of words.Real = []

abbrev pub usual_by : Declared → List Mode
usual_by (d.Normally mode) = usual_of mode
usual_by _ = []

-- the mode that NORMALLY gives to every name that has none, wherever the NORMALLY is
abbrev pub usual_mode : List Declaration → Option Mode
usual_mode ds = slice_get (given_by usual_by ds) 0

abbrev pub mode_by : Declared → List (NameBytes × Mode)
mode_by (d.Variable name mode) = (name, value_mode mode) ∷ []
mode_by _ = []

-- each name that a DEFINE gives a mode, with the first
abbrev pub modes : List Declaration → List (NameBytes × Mode)
modes ds = named_by mode_by ds

-- the mode of a name: that of its DEFINE, or else that of NORMALLY; a name without any is refused, and counts as INTEGER
abbrev pub mode_of_name : List Declaration → NameBytes → Mode
mode_of_name ds name = unwrap_or (option_or (value_for (modes ds) name) (usual_mode ds)) Integer

-- ---- classes and their attributes

abbrev pub class_by : Declared → List (NameBytes × ClassKind)
class_by (d.Class name kind) = (name, kind) ∷ []
class_by _ = []

abbrev pub classes : List Declaration → List (NameBytes × ClassKind)
classes ds = named_by class_by ds

abbrev pub attribute_by : List (NameBytes × ClassKind) → Declared → List (NameBytes × ℕ)
attribute_by cs (d.Attribute name class) = entry_if name (place_in cs class)
attribute_by cs _ = []

-- each attribute with the number of its class
abbrev pub attribute_classes : List Declaration → List (NameBytes × ℕ)
attribute_classes ds = named_by (attribute_by (classes ds)) ds

-- the attributes of a class, in the order of the text
abbrev pub attributes_of_class : List (NameBytes × ℕ) → ℕ → List NameBytes
attributes_of_class owned class = keys_of (filter (λ e. nat_eq e.1 class) owned)

-- an attribute is numbered in its class: by how many attributes of the class come before it
abbrev pub attribute_after : (NameBytes → Mode) → List (NameBytes × ℕ) → NameBytes × ℕ → NameBytes × Attribute
attribute_after mode before e =
    (e.0, record { class = e.1; field = length (attributes_of_class before e.1); mode = mode e.0 })

abbrev pub attributes_after : (NameBytes → Mode) → List (NameBytes × ℕ) → List (NameBytes × ℕ) → List (NameBytes × Attribute)
attributes_after mode before [] = []
attributes_after mode before (e ∷ es) = attribute_after mode before e ∷ attributes_after mode (before ++ e ∷ []) es

abbrev pub attributes : List Declaration → List (NameBytes × Attribute)
attributes ds = attributes_after (mode_of_name ds) [] (attribute_classes ds)

-- the attributes of each of so many classes
abbrev pub fields_by_class : List (NameBytes × ℕ) → ℕ → List (List NameBytes)
fields_by_class owned classes = map (attributes_of_class owned) (range_with_len 0 classes)

abbrev pub fields : List Declaration → List (List NameBytes)
fields ds = fields_by_class (attribute_classes ds) (length (classes ds))

-- ---- sets

abbrev pub set_by : Declared → List NameBytes
set_by (d.Owner set class) = set ∷ []
set_by (d.Member set class) = set ∷ []
set_by _ = []

-- the sets: each name that is owned or belonged to
abbrev pub set_names : List Declaration → List NameBytes
set_names ds = each_once (given_by set_by ds)

-- THE SYSTEM, or the class of this name
abbrev pub owner_named : List (NameBytes × ClassKind) → Option NameBytes → Option Owner
owner_named cs None = Some owners.System
owner_named cs (Some class) = option_map owners.Class (place_in cs class)

abbrev pub owner_entry : List (NameBytes × ClassKind) → Declared → List (NameBytes × Owner)
owner_entry cs (d.Owner set class) = entry_if set (owner_named cs class)
owner_entry cs _ = []

abbrev pub member_by : List (NameBytes × ClassKind) → Declared → List (NameBytes × ℕ)
member_by cs (d.Member set class) = entry_if set (place_in cs class)
member_by cs _ = []

abbrev pub order_by : Declared → List (NameBytes × DefinedOrder)
order_by (d.Order set rule statement) = (set, record { rule = rule; statement = statement }) ∷ []
order_by _ = []

-- a set: its owner, the class of its members and its order, each as it was declared first
abbrev pub set_of : List (NameBytes × ClassKind) → List Declaration → NameBytes → Set
set_of cs ds name =
    record {
      owner = value_for (given_by (owner_entry cs) ds) name;
      member = value_for (given_by (member_by cs) ds) name;
      order = value_for (given_by order_by ds) name;
    }

abbrev pub sets : List Declaration → List Set
sets ds = map (set_of (classes ds) ds) (set_names ds)

-- ---- global variables

-- N. of a class
abbrev pub count_name : NameBytes → NameBytes
count_name class = 78 ∷ 46 ∷ class

-- the variable of a class, and N. of it where it is permanent
abbrev pub class_variables : ClassKind → NameBytes → List (NameBytes × Mode)
class_variables kinds.Permanent class = (class, Integer) ∷ (count_name class, Integer) ∷ []
class_variables _ class = (class, Integer) ∷ []

-- a DEFINE of an attribute gives its mode and declares no variable
abbrev pub variable_by : List (NameBytes × Attribute) → Declared → List (NameBytes × Mode)
variable_by owned (d.Variable name mode) = if is_some (value_for owned name) then [] else (name, value_mode mode) ∷ []
variable_by owned (d.Class class kind) = class_variables kind class
variable_by owned _ = []

-- the global variables with their modes
abbrev pub global_variables : List Declaration → List (NameBytes × Mode)
global_variables ds = named_by (variable_by (attributes ds)) ds

-- ---- sections and subjects

abbrev pub routine_by : Declared → List (NameBytes × RoutineSection)
routine_by (d.Routine name section given yielding) =
    (name, record { section = section; given = given; yielding = yielding }) ∷ []
routine_by _ = []

abbrev pub routines : List Declaration → List (NameBytes × RoutineSection)
routines ds = named_by routine_by ds

abbrev pub event_by : Declared → List (NameBytes × EventSection)
event_by (d.Event name section given saving) = (name, record { section = section; given = given; saving = saving }) ∷ []
event_by _ = []

-- the EVENT sections, by the names of their classes
abbrev pub events : List Declaration → List (NameBytes × EventSection)
events ds = named_by event_by ds

abbrev pub history_by : Declared → List (NameBytes × Weighting)
history_by (d.Subject name weighting) = (name, weighting) ∷ []
history_by _ = []

-- the subjects of TALLY and ACCUMULATE; each has a history
abbrev pub histories : List Declaration → List (NameBytes × Weighting)
histories ds = named_by history_by ds

-- ---- the order of rank, and keys

abbrev pub is_notice_class : Option ClassKind → Bool
is_notice_class (Some kinds.Notice) = true
is_notice_class _ = false

-- the number of a class of notices
abbrev pub notice_number : List (NameBytes × ClassKind) → NameBytes → List ℕ
notice_number cs name = if is_notice_class (value_for cs name) then option_to_list (place_in cs name) else []

abbrev pub priority_by : List (NameBytes × ClassKind) → Declared → List ℕ
priority_by cs (d.Priority class) = notice_number cs class
priority_by cs _ = []

abbrev pub notice_by : List (NameBytes × ClassKind) → Declared → List ℕ
notice_by cs (d.Class class kind) = notice_number cs class
notice_by cs _ = []

-- the numbers and one more, unless it is among them
abbrev pub number_added : List ℕ → ℕ → List ℕ
number_added numbers number = if list_any (nat_eq number) numbers then numbers else numbers ++ number ∷ []

-- the classes of notices in the order of rank, each once: those of PRIORITY ORDER in that order, then the others as declared
abbrev pub ranks : List Declaration → List ℕ
ranks ds = fold number_added [] (given_by (priority_by (classes ds)) ds ++ given_by (notice_by (classes ds)) ds)

abbrev pub rank_key_by : Declared → List RankedBy
rank_key_by (d.RankKey attribute high statement) = record { statement = statement; attribute = attribute; high = high } ∷ []
rank_key_by _ = []

abbrev pub tie_key_by : Declared → List TiedBy
tie_key_by (d.TieKey class attribute high) = record { class = class; attribute = attribute; high = high } ∷ []
tie_key_by _ = []
