-- Refusal 57: the keys of a ranked set are attributes of its members' class. The line is that of the DEFINE.
use Rattle.std.specs.Prelude.{ℕ, Bool, true, false, not, List, [], ◌∷◌, Option, Some, None, option_and_then, option_map, if◌then◌else◌, nat_eq}
use Rattle.std.specs.List.{flat_map, list_any}
use Rattle.ss_base.specs.declared.line.Line.{Line}
use Rattle.ss_tree.specs.Names.{NameBytes}
use Rattle.ss_tree.specs.Tree.{OrderTree, ranked, PreambleTree, define_sets}
use Rattle.ss_tree.specs.declared.preamble.NamedKey.{NamedKey}
use Rattle.ss_names_declarations.specs.NameTable.{value_for}
use Rattle.ss_names.specs.declared.entry.Attribute.{Attribute}
use Rattle.ss_names.specs.declared.entry.Set.{Set}
use Rattle.ss_names.specs.Table.{Table}
use Rattle.ss_tables_rules.specs.Rules.{set_by_name}
use Rattle.ss_tables_rules.specs.declared.error.TableError.{TableError}
use Rattle.ss_tables_rules.specs.declared.error.TableError.TheVariants.{RankKey}

abbrev pub member_of : Option Set → Option ℕ
member_of set = option_and_then (λ (s : Set). s.member) set

abbrev pub member_named : Table → NameBytes → Option ℕ
member_named t set = member_of (set_by_name t set)

abbrev pub class_of : Option Attribute → Option ℕ
class_of attribute = option_map (λ (a : Attribute). a.class) attribute

-- whether a key of this class is none of the members' class, where there is one
abbrev pub is_foreign : Option ℕ → Option ℕ → Bool
is_foreign key None = false
is_foreign None (Some class) = true
is_foreign (Some key) (Some class) = not (nat_eq key class)

-- whether a key of this class is foreign to the members of one of these sets
abbrev pub is_foreign_to_any : Table → List NameBytes → Option ℕ → Bool
is_foreign_to_any t sets key = list_any (λ set. is_foreign key (member_named t set)) sets

-- a key that isn't an attribute of the class of the members of a set that its DEFINE names
abbrev pub misranked_key : Table → Line → List NameBytes → NamedKey → List TableError
misranked_key t line sets key =
    if is_foreign_to_any t sets (class_of (value_for t.attributes key.name)) then RankKey line ∷ [] else []

-- the keys of a DEFINE
abbrev pub keys_of_order : OrderTree → List NamedKey
keys_of_order (ranked keys) = keys
keys_of_order _ = []

abbrev pub misranked_in : Table → PreambleTree → List TableError
misranked_in t (define_sets line sets order) = flat_map (misranked_key t line sets) (keys_of_order order)
misranked_in t _ = []

abbrev pub misranked : Table → List PreambleTree → List TableError
misranked t preamble = flat_map (misranked_in t) preamble
