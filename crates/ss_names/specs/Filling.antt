-- What each pass over the declarations adds to the table, declaration by declaration. What the table is in the end says `declared`.
use Rattle.std.specs.Prelude.{◌≡◌, ℕ, ◌++◌, List, [], ◌∷◌, map, length, get_or, Option, Some, None, is_some, if◌then◌else◌, nat_lt, slice_get, slice_set, unwrap_or}
use Rattle.std.specs.List.{fold}
use Rattle.std.specs.Map.{keys_of}
use Rattle.std.specs.Option.{option_or}
use Rattle.ss_base.specs.declared.line.Line.{Line}
use Rattle.ss_base.specs.declared.layout.Mode.{Mode}
use Rattle.ss_base.specs.declared.layout.Mode.TheVariants.{Integer}
use Rattle.ss_base.specs.declared.layout.ClassKind.{ClassKind}
use Rattle.ss_program.specs.declared.expression.SetQuery.{SetQuery}
use Rattle.ss_program.specs.declared.expression.SetQuery.TheVariants.{FirstMember, LastMember, MemberCount}
use Rattle.ss_program.specs.declared.expression.MemberQuery.{MemberQuery}
use Rattle.ss_program.specs.declared.expression.MemberQuery.TheVariants.{Predecessor, Successor, Membership}
use Rattle.ss_tree.specs.Names.{NameBytes}
use Rattle.ss_names_declarations.specs.NameTable.{place_among, place_in, value_for, with_first, with_name}
use Rattle.ss_names_declarations.specs.declared.declaration.Declared.{Declared}
use Rattle.ss_names_declarations.specs.declared.declaration.Declared.TheVariants as d
use Rattle.ss_names_declarations.specs.declared.declaration.Declaration.{Declaration}
use Rattle.ss_names.specs.declared.entry.Attribute.{Attribute}
use Rattle.ss_names.specs.declared.entry.Set.{Set}
use Rattle.ss_names.specs.declared.meaning.Meaning.{Meaning}
use Rattle.ss_names.specs.Entries.{attribute_by, class_by, event_by, fields_by_class, history_by, mode_by, notice_by, owner_named, priority_by, rank_key_by, routine_by, set_by, tie_key_by, usual_by, variable_by, number_added}
use Rattle.ss_names.specs.Table.{Table, declares, same_of_set, subjects_by}

-- the table of no declarations
abbrev pub no_names : Table
no_names = record {
  meanings = [];
  usual = None;
  modes = [];
  classes = [];
  attributes = [];
  fields = [];
  set_names = [];
  sets = [];
  variables = [];
  routines = [];
  events = [];
  ranks = [];
  histories = [];
  subjects = [];
  rank_keys = [];
  tie_keys = [];
}

-- ---- the first pass: what needs no other entry

abbrev pub kept_mode : Option Mode → Mode → Option Mode
kept_mode known mode = option_or known (Some mode)

abbrev pub pushed : {A : Type 0} → List A → A → List A
pushed xs x = xs ++ x ∷ []

abbrev pub add_names : Table → Declared → Table
add_names t w = record t {
  usual = fold kept_mode t.usual (usual_by w);
  modes = fold with_first t.modes (mode_by w);
  classes = fold with_first t.classes (class_by w);
  set_names = fold with_name t.set_names (set_by w);
  routines = fold with_first t.routines (routine_by w);
  events = fold with_first t.events (event_by w);
  histories = fold with_first t.histories (history_by w);
  rank_keys = fold pushed t.rank_keys (rank_key_by w);
  tie_keys = fold pushed t.tie_keys (tie_key_by w);
}

abbrev pub names_pass : Table → Declaration → Table
names_pass t x = add_names t x.what

-- ---- the second pass: attributes, sets, and the classes of PRIORITY ORDER

abbrev pub no_set : Set
no_set = record { owner = None; member = None; order = None }

-- no attributes of any class, and no properties of any set
abbrev pub with_rows : Table → Table
with_rows t = record t { fields = fields_by_class [] (length t.classes); sets = map (λ (name : NameBytes). no_set) t.set_names }

-- whether each class has attributes, and each set an entry
pub record HasRows (t : Table) : Type 0 where
  pub fields : length t.fields ≡ length t.classes
  pub sets : length t.sets ≡ length t.set_names

-- attributes by their names, and those of each class
pub record Fields : Type 0 where
  pub entries : List (NameBytes × Attribute)
  pub rows : List (List NameBytes)

abbrev pub table_fields : Table → Fields
table_fields t = record { entries = t.attributes; rows = t.fields }

abbrev pub with_fields : Table → Fields → Table
with_fields t fs = record t { attributes = fs.entries; fields = fs.rows }

abbrev pub mode_named : Table → NameBytes → Mode
mode_named t name = unwrap_or (option_or (value_for t.modes name) t.usual) Integer

abbrev pub row_pushed : List (List NameBytes) → ℕ → NameBytes → List (List NameBytes)
row_pushed rows class name = slice_set rows class (get_or rows class [] ++ name ∷ [])

-- one more attribute of its class
abbrev pub field_pushed : (NameBytes → Mode) → Fields → NameBytes × ℕ → Fields
field_pushed mode fs e =
    record {
      entries = fs.entries ++ (e.0, record { class = e.1; field = length (get_or fs.rows e.1 []); mode = mode e.0 }) ∷ [];
      rows = row_pushed fs.rows e.1 e.0;
    }

-- one more attribute of its class, unless its name has an entry
abbrev pub with_field : (NameBytes → Mode) → Fields → NameBytes × ℕ → Fields
with_field mode fs e = if is_some (value_for fs.entries e.0) then fs else field_pushed mode fs e

abbrev pub fields_added : Table → List (NameBytes × ℕ) → Fields
fields_added t es = fold (with_field (mode_named t)) (table_fields t) es

-- what is known of a set, with what a later declaration adds
abbrev pub merged : Set → Set → Set
merged known more =
    record {
      owner = option_or known.owner more.owner;
      member = option_or known.member more.member;
      order = option_or known.order more.order;
    }

abbrev pub merged_with : Option Set → Set → Set
merged_with None more = more
merged_with (Some known) more = merged known more

abbrev pub merged_at : List Set → ℕ → Set → List Set
merged_at sets number more = slice_set sets number (merged_with (slice_get sets number) more)

abbrev pub merged_if : List Set → Set → Option ℕ → List Set
merged_if sets more None = sets
merged_if sets more (Some number) = merged_at sets number more

-- the sets of these names, of one of which more is said
abbrev pub with_set : List NameBytes → List Set → NameBytes × Set → List Set
with_set names sets e = merged_if sets e.1 (place_among names e.0)

-- what a declaration says of a set
abbrev pub set_part : List (NameBytes × ClassKind) → Declared → List (NameBytes × Set)
set_part cs (d.Owner set class) = (set, record { owner = owner_named cs class; member = None; order = None }) ∷ []
set_part cs (d.Member set class) = (set, record { owner = None; member = place_in cs class; order = None }) ∷ []
set_part cs (d.Order set rule statement) =
    (set, record { owner = None; member = None; order = Some (record { rule = rule; statement = statement }) }) ∷ []
set_part cs _ = []

abbrev pub with_sets : Table → List Set → Table
with_sets t sets = record t { sets = sets }

abbrev pub with_ranks : Table → List ℕ → Table
with_ranks t ranks = record t { ranks = ranks }

abbrev pub add_entities : Table → Declared → Table
add_entities t w = record t {
  attributes = (fields_added t (attribute_by t.classes w)).entries;
  fields = (fields_added t (attribute_by t.classes w)).rows;
  sets = fold (with_set t.set_names) t.sets (set_part t.classes w);
  ranks = fold number_added t.ranks (priority_by t.classes w);
}

abbrev pub entities_pass : Table → Declaration → Table
entities_pass t x = add_entities t x.what

-- ---- the third pass: global variables, and the other classes of notices

abbrev pub with_variables : Table → List (NameBytes × Mode) → Table
with_variables t variables = record t { variables = variables }

abbrev pub add_variables : Table → Declared → Table
add_variables t w = record t {
  variables = fold with_first t.variables (variable_by t.attributes w);
  ranks = fold number_added t.ranks (notice_by t.classes w);
}

abbrev pub variables_pass : Table → Declaration → Table
variables_pass t x = add_variables t x.what

-- ---- the last pass: what names mean

-- the first in the text of what was found so far and a line
abbrev pub sooner : Option Line → Line → Option Line
sooner None line = Some line
sooner (Some found) line = if nat_lt line.0 found.0 then Some line else Some found

abbrev pub first_line : List Line → Option Line
first_line lines = fold sooner None lines

-- the first line where a name is declared as two things, after a declaration of a name that is known as this or not yet
abbrev pub clash_after : Option Line → Option Meaning → Meaning → Line → Option Line
clash_after clash None new line = clash
clash_after clash (Some known) new line = if same_of_set known new then clash else sooner clash line

-- the letters of F., L., N., P., S. and M. of a set
abbrev pub letter_of_set : SetQuery → ℕ
letter_of_set FirstMember = 70
letter_of_set LastMember = 76
letter_of_set MemberCount = 78

abbrev pub letter_of_member : MemberQuery → ℕ
letter_of_member Predecessor = 80
letter_of_member Successor = 83
letter_of_member Membership = 77

-- what is entered: what names mean, and the first line where one is declared as two things
pub record Entering : Type 0 where
  pub meanings : List (NameBytes × Meaning)
  pub clash : Option Line

abbrev pub entered : List (NameBytes × Meaning) → Option Line → Entering
entered ms clash = record { meanings = ms; clash = clash }

abbrev pub enter_name : Line → Entering → NameBytes × Meaning → Entering
enter_name line s e = entered (with_first s.meanings e) (clash_after s.clash (value_for s.meanings e.0) e.1 line)

abbrev pub meanings_pass : Table → Entering → Declaration → Entering
meanings_pass t s x = fold (enter_name x.line) s (declares t x.what)

abbrev pub all_entered : Table → List Declaration → Entering
all_entered t ds = fold (meanings_pass t) (entered [] None) ds

abbrev pub with_meanings : Table → List (NameBytes × Meaning) → Table
with_meanings t ms = record t { meanings = ms }

abbrev pub with_all_meanings : List Declaration → Table → Table
with_all_meanings ds t = with_meanings t (all_entered t ds).meanings

abbrev pub with_subjects : Table → Table
with_subjects t = record t { subjects = subjects_by t.meanings (keys_of t.histories) }

-- ---- all passes

abbrev pub entities_filled : List Declaration → Table
entities_filled ds = fold entities_pass (with_rows (fold names_pass no_names ds)) ds

abbrev pub filled_table : List Declaration → Table
filled_table ds = with_subjects (with_all_meanings ds (fold variables_pass (entities_filled ds) ds))
