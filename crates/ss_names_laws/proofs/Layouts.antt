-- A program that breaks no rule on declarations has a layout.
use Rattle.std.proofs.Common.{◌≡◌, ℕ, ◌<◌, ◌≤◌, ◌&&◌, nat_eq, nat_le, nat_lt, Bool, true, List, [], ◌∷◌, ◌++◌, length, get_or, Option, Some, None, option_map, inl, inr, refl, sym, ap, subst, arith}
use Rattle.ss_names_laws.proofs.Common.{Attribute, attribute_after, attribute_classes, attributes, attributes_after, class_layout, classes, ClassKind, declarations, each, layout, Mode, mode_of_attribute, mode_of_name, NameBytes, PlainClass, PlainLayout, ProgramTree, refusal_of_declarations, Set, set_layout, set_names, set_of, SetLayout, slice_get, Table, table, there, upto, value_at, value_for, values_of}
use Rattle.std.specs.List.{AllByRecursion as Every, filter, list_all}
use Rattle.std.proofs.lemmas.Bool.{and_from, cond-true, le-leb}
use Rattle.ss_base.specs.Layout.{is_layout, is_narrow, is_sound, names_classes, owns_among}
use Rattle.ss_names_laws.specs.Laws.{LayoutsAreThere}
use Rattle.ss_names_laws.proofs.Attributes.{row_of}
use Rattle.ss_names_laws.proofs.Each.{every_image, every_passed}
use Rattle.ss_names_laws.proofs.NameTable.{has_value}
use Rattle.ss_names_laws.proofs.Items.{Among, at_item, each_item}
use Rattle.ss_names_laws.proofs.Limits.{few_attributes, few_classes, few_sets}
use Rattle.ss_names_laws.proofs.Owners.{IsOwned, all_owned}
use Rattle.ss_names_laws.proofs.Parts.{each_length, numbers_length}
use Rattle.ss_names_laws.proofs.Results.{each_made, goes, upto_every}

-- ---- attributes of a class

-- each name of the row of a class is that of an attribute
abbrev IsKnown : Table → NameBytes → Type 0
IsKnown t name = (a : Attribute) × (value_for t.attributes name ≡ Some a)

entry_after : (mode : NameBytes → Mode) (before es : List (NameBytes × ℕ)) (e : NameBytes × ℕ) → Among es e → (a : Attribute) × Among (attributes_after mode before es) (e.0, a)
entry_after mode before [] e a = absurd a
entry_after mode before (f ∷ es) e (inl same) =
    let here = attribute_after mode before f in
    (here.1, inl (λ i. ((same i).0, here.1)))
entry_after mode before (f ∷ es) e (inr later) = let rest = entry_after mode (before ++ f ∷ []) es e later in (rest.0, inr rest.1)

row_known : (p : ProgramTree) (class : ℕ) → class < length (table p).classes → Every (IsKnown (table p)) (get_or (table p).fields class [])
row_known p class lt =
    let ds = declarations p in
    let owned = attribute_classes ds in
    let of_class : NameBytes × ℕ → Bool = λ e. nat_eq e.1 class in
    let P = λ (e : NameBytes × ℕ). IsKnown (table p) e.0 in
    let all = each_item P owned (λ e a. let entry = entry_after (mode_of_name ds) [] owned e a in has_value (attributes ds) e.0 entry.0 entry.1) in
    let own = every_passed P P of_class (λ e h is. h) owned all in
    subst (Every (IsKnown (table p))) (sym (row_of ds class lt)) (every_image (IsKnown (table p)) (λ (e : NameBytes × ℕ). e.0) (filter of_class owned) (λ e a. at_item P (filter of_class owned) e own a))

row_few : (p : ProgramTree) → refusal_of_declarations p ≡ None → (class : ℕ) → class < length (table p).classes → length (get_or (table p).fields class []) ≤ 64
row_few p kept class lt = subst (λ (names : List NameBytes). length names ≤ 64) (sym (row_of (declarations p) class lt)) (few_attributes p kept class)

-- ---- what is laid out

class_there : (t : Table) (n : ℕ) (kind : ClassKind) → slice_get (values_of t.classes) n ≡ Some kind → Every (IsKnown t) (get_or t.fields n []) → length (get_or t.fields n []) ≤ 64 → (c : PlainClass) × (class_layout t n ≡ Some c) × (is_narrow c ≡ true)
class_there t n kind class known few =
    let modes = each_made (mode_of_attribute t) (λ (mode : Mode). Unit {0}) (get_or t.fields n []) (each_item (λ (name : NameBytes). (mode : Mode) × (mode_of_attribute t name ≡ Some mode) × Unit {0}) (get_or t.fields n []) (λ name a.
    let k = at_item (IsKnown t) (get_or t.fields n []) name known a in
    (k.0.mode, ap (λ (o : Option Attribute). option_map (λ (x : Attribute). x.mode) o) k.1, tt))) in
    let laid : PlainClass = record { kind = kind; fields = modes.0 } in
    (laid, rw (class, modes.1) refl, le-leb (length modes.0) 1048576 (omega (arith, each_length (mode_of_attribute t) (get_or t.fields n []) modes.0 modes.1, few)))

all_of : {A : Type 0} (test : A → Bool) (xs : List A) → Every (λ x. test x ≡ true) xs → list_all test xs ≡ true
all_of test [] h = refl
all_of test (x ∷ xs) h = rw (h.0, all_of test xs h.1) refl

layout_there : (t : Table) (cs : List PlainClass) (ss : List SetLayout) → each (class_layout t) (upto (length t.classes)) ≡ Some cs → each set_layout t.sets ≡ Some ss → length cs ≤ 64 → length ss ≤ 64 →
    Every (λ (c : PlainClass). is_narrow c ≡ true) cs → Every (λ (y : SetLayout). names_classes (length cs) y ≡ true) ss → (laid : PlainLayout) × (layout t ≡ Some laid)
layout_there t cs ss e f few_cs few_ss narrow sound =
    let laid : PlainLayout = record { classes = cs; sets = ss } in
    let classes : nat_le (length cs) 1048576 ≡ true = le-leb (length cs) 1048576 (omega (arith, few_cs)) in
    let sets : nat_le (length ss) 1048576 ≡ true = le-leb (length ss) 1048576 (omega (arith, few_ss)) in
    let small = and_from (nat_le (length ss) 1048576) (list_all is_narrow cs) sets (all_of is_narrow cs narrow) in
    let fits : is_layout laid ≡ true =
    and_from (is_sound laid) (nat_le (length cs) 1048576 && (nat_le (length ss) 1048576 && list_all is_narrow cs)) (all_of (names_classes (length cs)) ss sound)
    (and_from (nat_le (length cs) 1048576) (nat_le (length ss) 1048576 && list_all is_narrow cs) classes small) in
    (laid, rw (e, f) (cond-true (is_layout laid) (Some laid) None fits))

pub layouts_are_there : LayoutsAreThere
layouts_are_there p kept =
    let t = table p in
    let ds = declarations p in
    let laid = each_made (class_layout t) (λ (c : PlainClass). is_narrow c ≡ true) (upto (length t.classes))
    (upto_every (λ (n : ℕ). (c : PlainClass) × (class_layout t n ≡ Some c) × (is_narrow c ≡ true)) (length t.classes)
    (λ n lt. let e = there t.classes n lt in class_there t n e.0.1 (value_at t.classes n e.0.0 e.0.1 e.1) (row_known p n lt) (row_few p kept n lt))) in
    let count : length laid.0 ≡ length t.classes = numbers_length (class_layout t) (length t.classes) laid.0 laid.1 in
    let each_set = every_image (λ (s : Set). (y : SetLayout) × (set_layout s ≡ Some y) × (names_classes (length t.classes) y ≡ true)) (set_of (classes ds) ds) (set_names ds) (λ name a.
    let set = at_item (IsOwned p) (set_names ds) name (all_owned p kept) a in
    let made : SetLayout = record { owner = set.owner; member = set.member } in
    (made, goes _ _ set.owner made set.owned (goes _ _ set.member made set.filled refl), and_from (owns_among (length t.classes) set.owner) (nat_lt set.member (length t.classes)) set.owner_below set.member_below)) in
    let laid_sets = each_made set_layout (λ (y : SetLayout). names_classes (length t.classes) y ≡ true) t.sets each_set in
    let few_cs : length laid.0 ≤ 64 = omega (arith, count, few_classes p kept) in
    let few_ss : length laid_sets.0 ≤ 64 = omega (arith, each_length set_layout t.sets laid_sets.0 laid_sets.1, few_sets p kept) in
    layout_there t laid.0 laid_sets.0 laid.1 laid_sets.1 few_cs few_ss laid.2
    (subst (λ (n : ℕ). Every (λ (y : SetLayout). names_classes n y ≡ true) laid_sets.0) (sym count) laid_sets.2)
