-- One table of what a program declares. Each thing is numbered by its place in a list.
use Rattle.std.specs.Prelude.{ℕ, ◌++◌, Bool, true, false, not, List, [], ◌∷◌, map, Option, Some, None, is_some, if◌then◌else◌, slice_get, unwrap_or}
use Rattle.std.specs.List.{flat_map}
use Rattle.std.specs.Map.{keys_of}
use Rattle.std.specs.Option.{option_map, option_map_or}
use Rattle.ss_base.specs.declared.line.Line.{Line}
use Rattle.ss_base.specs.Lines.{line_if}
use Rattle.ss_base.specs.declared.layout.Mode.{Mode}
use Rattle.ss_base.specs.declared.layout.ClassKind.{ClassKind}
use Rattle.ss_base.specs.declared.layout.ClassKind.TheVariants.{Permanent}
use Rattle.ss_base.specs.declared.layout.Owner.{Owner}
use Rattle.ss_base.specs.declared.layout.Owner.TheVariants as owners
use Rattle.ss_program.specs.declared.expression.Fold.{Fold}
use Rattle.ss_program.specs.declared.expression.Fold.TheVariants as folds
use Rattle.ss_program.specs.declared.expression.SetQuery.TheVariants.{FirstMember, LastMember, MemberCount}
use Rattle.ss_program.specs.declared.expression.MemberQuery.TheVariants.{Predecessor, Successor, Membership}
use Rattle.ss_program.specs.declared.expression.Variable.TheVariants.{Global}
use Rattle.ss_program.specs.declared.sections.Subject.{Subject}
use Rattle.ss_program.specs.declared.sections.Subject.TheVariants as subjects
use Rattle.ss_tree.specs.Names.{NameBytes}
use Rattle.ss_tree.specs.Tree.{ProgramTree}
use Rattle.ss_tree.specs.declared.preamble.StatisticKind.{StatisticKind}
use Rattle.ss_tree.specs.declared.preamble.StatisticKind.TheVariants as kinds
use Rattle.ss_base.specs.declared.words.Weighting.{Weighting}
use Rattle.ss_names_declarations.specs.Declarations.{declarations}
use Rattle.ss_names_declarations.specs.NameTable.{entry_if, first_entries, place_among, place_in, value_for}
use Rattle.ss_names_declarations.specs.declared.declaration.Declared.{Declared}
use Rattle.ss_names_declarations.specs.declared.declaration.Declared.TheVariants as d
use Rattle.ss_names_declarations.specs.declared.declaration.Declaration.{Declaration}
use Rattle.ss_names.specs.declared.entry.Attribute.{Attribute}
use Rattle.ss_names.specs.declared.entry.Set.{Set}
use Rattle.ss_names.specs.declared.entry.RoutineSection.{RoutineSection}
use Rattle.ss_names.specs.declared.entry.EventSection.{EventSection}
use Rattle.ss_names.specs.declared.entry.RankedBy.{RankedBy}
use Rattle.ss_names.specs.declared.entry.TiedBy.{TiedBy}
use Rattle.ss_names.specs.declared.meaning.Meaning.{Meaning}
use Rattle.ss_names.specs.declared.meaning.Meaning.TheVariants as m
use Rattle.ss_names.specs.Entries.{attributes, classes, count_name, events, fields, given_by, histories, modes, rank_key_by, ranks, routines, set_names, sets, tie_key_by, usual_mode, global_variables}
use Rattle.ss_names.specs.Modes.{value_mode}

pub record Table : Type 0 where
  -- each global and derived name, with what it means
  pub meanings : List (NameBytes × Meaning)
  -- the mode that NORMALLY gives
  pub usual : Option Mode
  -- the modes that DEFINEs give
  pub modes : List (NameBytes × Mode)
  pub classes : List (NameBytes × ClassKind)
  pub attributes : List (NameBytes × Attribute)
  -- the attributes of each class
  pub fields : List (List NameBytes)
  pub set_names : List NameBytes
  pub sets : List Set
  -- the global variables
  pub variables : List (NameBytes × Mode)
  pub routines : List (NameBytes × RoutineSection)
  pub events : List (NameBytes × EventSection)
  -- the classes of notices in the order of rank
  pub ranks : List ℕ
  -- the subjects of TALLY and ACCUMULATE, each of which has a history, and what they are
  pub histories : List (NameBytes × Weighting)
  pub subjects : List (Option Subject)
  pub rank_keys : List RankedBy
  pub tie_keys : List TiedBy

-- ---- the table without what names mean

abbrev pub numbered : List Declaration → Table
numbered ds = record {
  meanings = [];
  usual = usual_mode ds;
  modes = modes ds;
  classes = classes ds;
  attributes = attributes ds;
  fields = fields ds;
  set_names = set_names ds;
  sets = sets ds;
  variables = global_variables ds;
  routines = routines ds;
  events = events ds;
  ranks = ranks ds;
  histories = histories ds;
  subjects = [];
  rank_keys = given_by rank_key_by ds;
  tie_keys = given_by tie_key_by ds;
}

-- ---- what is declared of names

-- a derived name of a set: a letter, a period and its name
abbrev pub derived_name : ℕ → NameBytes → NameBytes
derived_name letter name = letter ∷ 46 ∷ name

-- a set, and F., L., N., P., S. and M. of it
abbrev pub set_meanings : NameBytes → Option ℕ → List (NameBytes × Meaning)
set_meanings name None = []
set_meanings name (Some set) =
    (name, m.Set set)
    ∷ (derived_name 70 name, m.OfSet FirstMember set)
    ∷ (derived_name 76 name, m.OfSet LastMember set)
    ∷ (derived_name 78 name, m.OfSet MemberCount set)
    ∷ (derived_name 80 name, m.OfMember Predecessor set)
    ∷ (derived_name 83 name, m.OfMember Successor set)
    ∷ (derived_name 77 name, m.OfMember Membership set)
    ∷ []

-- a class, and the variable of its name
abbrev pub class_meaning : Option ℕ → Option ClassKind → Option ℕ → Option Meaning
class_meaning (Some class) (Some kind) (Some variable) = Some (m.Class class kind variable)
class_meaning _ _ _ = None

-- N. of a permanent class
abbrev pub count_meaning : Option ℕ → Option ClassKind → Option ℕ → Option Meaning
count_meaning (Some class) (Some Permanent) (Some variable) = Some (m.Count (record { class = class; variable = variable }))
count_meaning _ _ _ = None

-- what the name of a class means, and N. of it
abbrev pub class_entry : Table → NameBytes → Option Meaning
class_entry t name = class_meaning (place_in t.classes name) (value_for t.classes name) (place_in t.variables name)

abbrev pub count_entry : Table → NameBytes → Option Meaning
count_entry t name = count_meaning (place_in t.classes name) (value_for t.classes name) (place_in t.variables (count_name name))

abbrev pub attribute_meaning : Attribute → Meaning
attribute_meaning a = m.Attribute a.class a.field a.mode

-- a DEFINE of an attribute gives its mode and declares nothing
abbrev pub variable_meaning : Table → NameBytes → Mode → Option Meaning
variable_meaning t name mode =
    if is_some (value_for t.attributes name) then None
    else option_map (λ n. m.Variable (Global n) mode) (place_in t.variables name)

-- the fold of a statistic; a MEAN has none
abbrev pub fold_of : StatisticKind → Option Fold
fold_of kinds.Number = Some folds.Number
fold_of kinds.Sum = Some folds.Sum
fold_of kinds.Maximum = Some folds.Maximum
fold_of kinds.Minimum = Some folds.Minimum
fold_of kinds.Mean = None

-- the names that a declaration declares, and what they mean; a set is declared by its owner and by its members
abbrev pub declares : Table → Declared → List (NameBytes × Meaning)
declares t (d.Class name kind) = entry_if name (class_entry t name) ++ entry_if (count_name name) (count_entry t name)
declares t (d.Attribute name class) = entry_if name (option_map attribute_meaning (value_for t.attributes name))
declares t (d.Owner name class) = set_meanings name (place_among t.set_names name)
declares t (d.Member name class) = set_meanings name (place_among t.set_names name)
declares t (d.Variable name mode) = entry_if name (variable_meaning t name (value_mode mode))
declares t (d.Statistic name kind subject) =
    entry_if name (option_map (m.Statistic (fold_of kind)) (place_in t.histories subject))
declares t (d.Routine name section given yielding) = entry_if name (option_map m.Routine (place_in t.routines name))
declares t _ = []

-- each global and derived name, with what it means by its first declaration
abbrev pub meanings : List Declaration → List (NameBytes × Meaning)
meanings ds = first_entries (given_by (declares (numbered ds)) ds)

-- ---- names that are declared twice

-- a name that a declaration declares, what it means by it, and the line
pub record Entered : Type 0 where
  pub line : Line
  pub name : NameBytes
  pub meaning : Meaning

abbrev pub entered_in_line : Line → NameBytes × Meaning → Entered
entered_in_line line e = record { line = line; name = e.0; meaning = e.1 }

abbrev pub entered_by : Table → Declaration → List Entered
entered_by t x = map (entered_in_line x.line) (declares t x.what)

-- a set's owner and its members' class both declare the set and its derived names; a spelling is a derived name of one set
abbrev pub same_of_set : Meaning → Meaning → Bool
same_of_set (m.Set first) (m.Set second) = true
same_of_set (m.OfSet query first) (m.OfSet other second) = true
same_of_set (m.OfMember query first) (m.OfMember other second) = true
same_of_set _ _ = false

-- whether a name that means the one is declared as another
abbrev pub is_another : Option Meaning → Meaning → Bool
is_another known new = option_map_or (λ old. not (same_of_set old new)) known false

-- the lines where a name is declared that means something by the declarations before it
abbrev pub clashes_after : List (NameBytes × Meaning) → List Entered → List Line
clashes_after before [] = []
clashes_after before (e ∷ es) =
    line_if (is_another (value_for before e.name) e.meaning) e.line
    ++ clashes_after (before ++ (e.name, e.meaning) ∷ []) es

abbrev pub clashes : List Declaration → List Line
clashes ds = clashes_after [] (flat_map (entered_by (numbered ds)) ds)

-- ---- subjects of statistics

-- what may have a history: a variable of a DEFINE, an attribute, or N. of a set
abbrev pub subject_of : Option Meaning → Option Subject
subject_of (Some (m.Variable (Global n) mode)) = Some (subjects.OfVariable n)
subject_of (Some (m.Attribute class field mode)) = Some (subjects.OfAttribute class field)
subject_of (Some (m.OfSet MemberCount set)) = Some (subjects.OfCount set)
subject_of _ = None

-- ---- the table

-- the subjects of TALLY and ACCUMULATE, by what names mean
abbrev pub subjects_by : List (NameBytes × Meaning) → List NameBytes → List (Option Subject)
subjects_by ms names = map (λ name. subject_of (value_for ms name)) names

abbrev pub declared : List Declaration → Table
declared ds = record (numbered ds) {
  meanings = meanings ds;
  subjects = subjects_by (meanings ds) (keys_of (histories ds));
}

-- the table of a program
abbrev pub table : ProgramTree → Table
table p = declared (declarations p)

-- ---- what the table says of names

-- the mode of an attribute by its name
abbrev pub mode_of_attribute : Table → NameBytes → Option Mode
mode_of_attribute t name = option_map (λ (a : Attribute). a.mode) (value_for t.attributes name)

-- ---- who has what a name means

abbrev pub owner_kind_of_set : Option Set → Owner
owner_kind_of_set set = option_map_or (λ (s : Set). unwrap_or s.owner owners.System) set owners.System

abbrev pub owner_kind_of_member : Option Set → Owner
owner_kind_of_member set = option_map_or (λ (s : Set). unwrap_or (option_map owners.Class s.member) owners.System) set owners.System

abbrev pub owner_of_subject : Table → Option Subject → Owner
owner_of_subject t (Some (subjects.OfAttribute class field)) = owners.Class class
owner_of_subject t (Some (subjects.OfCount set)) = owner_kind_of_set (slice_get t.sets set)
owner_of_subject t _ = owners.System

abbrev pub owner_of_statistic : Table → Option (Option Subject) → Owner
owner_of_statistic t known = option_map_or (owner_of_subject t) known owners.System

-- who has what a name means: each entity of a class, or else THE SYSTEM. A statistic is its subject's.
abbrev pub owner_of_meaning : Table → Meaning → Owner
owner_of_meaning t (m.Attribute class field mode) = owners.Class class
owner_of_meaning t (m.Set set) = owner_kind_of_set (slice_get t.sets set)
owner_of_meaning t (m.OfSet query set) = owner_kind_of_set (slice_get t.sets set)
owner_of_meaning t (m.OfMember query set) = owner_kind_of_member (slice_get t.sets set)
owner_of_meaning t (m.Statistic fold statistic) = owner_of_statistic t (slice_get t.subjects statistic)
owner_of_meaning t _ = owners.System
