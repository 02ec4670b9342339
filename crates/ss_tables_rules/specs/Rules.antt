-- The rules 51 to 60 that one declaration and the table decide, and 52 on the uses of sections.
use Rattle.std.specs.Prelude.{ℕ, Bool, true, false, not, ◌||◌, List, [], ◌∷◌, Option, Some, None, is_some, option_and_then, option_map, if◌then◌else◌, nat_le, nat_eq, slice_get}
use Rattle.std.specs.List.{flat_map}
use Rattle.std.specs.Map.{lookup}
use Rattle.std.specs.Option.{option_map_or, option_or}
use Rattle.ss_base.specs.declared.line.Line.{Line}
use Rattle.ss_base.specs.declared.layout.Mode.{Mode as ValueMode}
use Rattle.ss_tree.specs.Names.{NameBytes}
use Rattle.ss_tree.specs.Tree.{SectionTree}
use Rattle.ss_tree.specs.declared.preamble.ModeWord.{ModeWord}
use Rattle.ss_tree.specs.declared.preamble.ModeWord.TheVariants as modes
use Rattle.ss_names_declarations.specs.Earliest.{unless}
use Rattle.ss_names_declarations.specs.NameTable.{is_one_of, place_among, place_in, same_name, value_for}
use Rattle.ss_names_declarations.specs.declared.declaration.Declared.{Declared}
use Rattle.ss_names_declarations.specs.declared.declaration.Declared.TheVariants as d
use Rattle.ss_names_declarations.specs.declared.declaration.Declaration.{Declaration}
use Rattle.ss_names_uses.specs.declared.used.Use.{Use}
use Rattle.ss_names_uses.specs.Uses.{uses}
use Rattle.ss_names.specs.declared.entry.Attribute.{Attribute}
use Rattle.ss_names.specs.declared.entry.Set.{Set}
use Rattle.ss_names.specs.declared.meaning.Meaning.{Meaning}
use Rattle.ss_names.specs.declared.meaning.Meaning.TheVariants as m
use Rattle.ss_names.specs.Entries.{is_notice_class}
use Rattle.ss_names.specs.Table.{Table}
use Rattle.ss_names_scopes.specs.Locals.{Moded, local_of, locals}
use Rattle.ss_tables_rules.specs.declared.error.TableError.{TableError}
use Rattle.ss_tables_rules.specs.declared.error.TableError.TheVariants as e

-- ---- what the rules ask

-- a number past the most: 64 classes, 64 sets, 64 attributes of a class
abbrev pub is_too_many : Option ℕ → Bool
is_too_many number = option_map_or (nat_le 64) number false

abbrev pub field_number : Option Attribute → Option ℕ
field_number attribute = option_map (λ (a : Attribute). a.field) attribute

-- a parameter or a local variable may hide a variable, that of a class, or nothing
abbrev pub may_be_hidden : Option Meaning → Bool
may_be_hidden None = true
may_be_hidden (Some (m.Variable variable mode)) = true
may_be_hidden (Some (m.Class class kind variable)) = true
may_be_hidden (Some _) = false

abbrev pub is_real : ModeWord → Bool
is_real modes.Real = true
is_real _ = false

abbrev pub table_set_at : Table → Option ℕ → Option Set
table_set_at t number = option_and_then (slice_get t.sets) number

abbrev pub set_by_name : Table → NameBytes → Option Set
set_by_name t name = table_set_at t (place_among t.set_names name)

abbrev pub has_owner : Option Set → Bool
has_owner set = option_map_or (λ (s : Set). is_some s.owner) set false

abbrev pub has_member : Option Set → Bool
has_member set = option_map_or (λ (s : Set). is_some s.member) set false

abbrev pub is_class_of : Option Attribute → Option ℕ → Bool
is_class_of (Some a) (Some class) = nat_eq a.class class
is_class_of _ _ = false

-- whether a name is that of an attribute of a class
abbrev pub is_attribute_of : Table → NameBytes → NameBytes → Bool
is_attribute_of t class name = is_class_of (value_for t.attributes name) (place_in t.classes class)

-- ---- the rules, by what is declared

-- 51, parameters and local variables; 52, REAL and attributes; 53, priorities and BREAKs; 54, DEFINE as a set; 55 and 56, sets;
-- 59, classes, attributes and sets; 60, keys of BREAKs. Of several rules the first.
abbrev pub broken_in : Table → Line → Declared → Option TableError
broken_in t line (d.Class name kind) = unless (not (is_too_many (place_in t.classes name))) (e.TooMany line)
broken_in t line (d.Attribute name class) =
    option_or (unless (is_some t.usual || is_some (value_for t.modes name)) (e.RealMode line))
    (unless (not (is_too_many (field_number (value_for t.attributes name)))) (e.TooMany line))
broken_in t line (d.Owner set class) =
    option_or (unless (has_member (set_by_name t set)) (e.NoMember line))
    (unless (not (is_too_many (place_among t.set_names set))) (e.TooMany line))
broken_in t line (d.Member set class) =
    option_or (unless (has_owner (set_by_name t set)) (e.NoOwner line))
    (unless (not (is_too_many (place_among t.set_names set))) (e.TooMany line))
broken_in t line (d.Variable name mode) = unless (not (is_real mode)) (e.RealMode line)
broken_in t line (d.Order set rule statement) = unless (is_one_of t.set_names set) (e.UnknownSet line)
broken_in t line (d.Priority class) = unless (is_notice_class (value_for t.classes class)) (e.UnknownClass line)
broken_in t line (d.Ties class) = unless (is_notice_class (value_for t.classes class)) (e.UnknownClass line)
broken_in t line (d.TieKey class attribute high) = unless (is_attribute_of t class attribute) (e.TieKey line)
broken_in t line (d.Parameter name section) = unless (may_be_hidden (value_for t.meanings name)) (e.Twice line)
broken_in t line (d.Local name section mode) =
    option_or (unless (may_be_hidden (value_for t.meanings name)) (e.Twice line)) (unless (not (is_real mode)) (e.RealMode line))
broken_in t line _ = None

abbrev pub broken_by : Table → Declaration → Option TableError
broken_by t x = broken_in t x.line x.what

-- ---- 52, on uses

abbrev pub has_no_mode : Option (Option ValueMode) → Bool
has_no_mode (Some None) = true
has_no_mode _ = false

-- whether a use names a local variable that has no mode
abbrev pub lacks_mode : Moded → Option NameBytes → Bool
lacks_mode ls name = option_map_or (λ n. has_no_mode (lookup (same_name n) ls)) name false

abbrev pub unmoded_use : Table → Moded → Use → List TableError
unmoded_use t ls u = if lacks_mode ls (local_of t u.what) then e.RealMode u.line ∷ [] else []

abbrev pub unmoded_in : Table → SectionTree → List TableError
unmoded_in t s = flat_map (unmoded_use t (locals t (uses s))) (uses s)
