-- No more than 64 classes, sets, and attributes of a class.
use Rattle.std.proofs.Common.{◌≡◌, ℕ, ◌<◌, ◌≤◌, ◌||◌, nat_eq, nat_le, not, is_some, Bool, true, false, cond, List, [], ◌∷◌, ◌++◌, length, map, Option, Some, None, ⊎_elim, refl, sym, ap, subst, ◌∙◌, append_assoc, append-nil, arith}
use Rattle.std.specs.List.{AllByRecursion as Every, IsDistinct, filter}
use Rattle.ss_names_laws.proofs.Common.{Attribute, attribute_by, attribute_classes, attributes, attributes_after, attributes_of_class, class_by, classes, ClassKind, declarations, Declared, filter-append, first_entries, firsts_once, given_by, keys_append, keys_of, length-append, length-map, Line, Mode, mode_of_name, NameBytes, place_among, place_from, place_in, ProgramTree, refusal_of_declarations, same_name, set_by, set_names, set_of, Table, table, there, value_for, value_from_place}
use Rattle.std.proofs.lemmas.Bool.{cases_lt, eqb-true, leb-false, not-true}
use Rattle.ss_tables_rules.specs.Rules.{broken_in, field_number, has_member, has_owner, is_too_many, set_by_name}
use Rattle.ss_names_declarations.specs.declared.declaration.Declared.TheVariants as d
use Rattle.ss_tables_rules.specs.declared.error.TableError.TheVariants as errors
use Rattle.ss_names_laws.proofs.Each.{at_place, every_first, every_if, every_named, from_places}
use Rattle.ss_names_laws.proofs.Names.{entry_of, once_as_entries}
use Rattle.ss_names_laws.proofs.Unbroken.{every_given, holds_unless, two_fit}

abbrev IsFew : Option ℕ → Type 0
IsFew o = not (is_too_many o) ≡ true

few : (n : ℕ) → IsFew (Some n) → n < 64
few n h = leb-false 64 n (not-true (nat_le 64 n) h)

-- ---- entries

few_entries : {V : Type 0} (es : List (NameBytes × V)) → IsDistinct same_name (keys_of es) → Every (λ (e : NameBytes × V). IsFew (place_in es e.0)) es → length es ≤ 64
few_entries {V = V} es once h = ⊎_elim
    (λ (lt : 64 < length es).
    let e = there es 64 lt in
    let here = at_place (λ (f : NameBytes × V). IsFew (place_in es f.0)) es 64 e.0 h e.1 in
    let no : 64 < 64 = few 64 (subst IsFew (place_from es 64 e.0.0 e.0.1 once e.1) here) in
    absurd (omega (arith, no)))
    (λ (le : length es ≤ 64). le)
    (cases_lt 64 (length es))

-- ---- what declarations say

module _ (t : Table) (line : Line) where
  class_few : (w : Declared) → broken_in t line w ≡ None → Every (λ (e : NameBytes × ClassKind). IsFew (place_in t.classes e.0)) (class_by w)
  class_few (d.Class name kind) h = (holds_unless (not (is_too_many (place_in t.classes name))) (errors.TooMany line) h, tt)
  class_few _ h = tt

  set_few : (w : Declared) → broken_in t line w ≡ None → Every (λ (name : NameBytes). IsFew (place_among t.set_names name)) (set_by w)
  set_few (d.Owner set class) h = ((two_fit (has_member (set_by_name t set)) (not (is_too_many (place_among t.set_names set))) (errors.NoMember line) (errors.TooMany line) h).1, tt)
  set_few (d.Member set class) h = ((two_fit (has_owner (set_by_name t set)) (not (is_too_many (place_among t.set_names set))) (errors.NoOwner line) (errors.TooMany line) h).1, tt)
  set_few _ h = tt

  attribute_few : (w : Declared) → broken_in t line w ≡ None → Every (λ (e : NameBytes × ℕ). IsFew (field_number (value_for t.attributes e.0))) (attribute_by t.classes w)
  attribute_few (d.Attribute name class) h =
      every_if (λ (e : NameBytes × ℕ). IsFew (field_number (value_for t.attributes e.0))) name (place_in t.classes class)
      (λ n is. (two_fit (is_some t.usual || is_some (value_for t.modes name)) (not (is_too_many (field_number (value_for t.attributes name)))) (errors.RealMode line) (errors.TooMany line) h).1)
  attribute_few _ h = tt

-- ---- rows

one_name : (before : List (NameBytes × ℕ)) (e : NameBytes × ℕ) (class : ℕ) (b : Bool) → nat_eq e.1 class ≡ b → length (attributes_of_class before e.1) < 64 → length (attributes_of_class before class) ≤ 64 →
    length (attributes_of_class before class ++ keys_of (cond b (e ∷ []) [])) ≤ 64
one_name before e class true is here le =
    let lt : length (attributes_of_class before class) < 64 = subst (λ (c : ℕ). length (attributes_of_class before c) < 64) (eqb-true e.1 class is) here in
    omega (arith, lt, length-append (attributes_of_class before class) (e.0 ∷ []))
one_name before e class false is here le = subst (λ (names : List NameBytes). length names ≤ 64) (sym (append-nil (attributes_of_class before class))) le

row_more : (before : List (NameBytes × ℕ)) (e : NameBytes × ℕ) (class : ℕ) → length (attributes_of_class before e.1) < 64 → length (attributes_of_class before class) ≤ 64 → length (attributes_of_class (before ++ e ∷ []) class) ≤ 64
row_more before e class here le =
    let of_class : NameBytes × ℕ → Bool = λ f. nat_eq f.1 class in
    subst (λ (names : List NameBytes). length names ≤ 64) (sym (ap keys_of (filter-append of_class before (e ∷ [])) ∙ keys_append (filter of_class before) (filter of_class (e ∷ []))))
    (one_name before e class (nat_eq e.1 class) refl here le)

rows_few : (mode : NameBytes → Mode) (class : ℕ) (before es : List (NameBytes × ℕ)) → Every (λ (e : NameBytes × Attribute). e.1.field < 64) (attributes_after mode before es) → length (attributes_of_class before class) ≤ 64 → length (attributes_of_class (before ++ es) class) ≤ 64
rows_few mode class before [] h le = subst (λ (l : List (NameBytes × ℕ)). length (attributes_of_class l class) ≤ 64) (sym (append-nil before)) le
rows_few mode class before (e ∷ es) h le =
    subst (λ (l : List (NameBytes × ℕ)). length (attributes_of_class l class) ≤ 64) (append_assoc before (e ∷ []) es) (rows_few mode class (before ++ e ∷ []) es h.1 (row_more before e class h.0 le))

-- attributes have the names of the list that gives their classes
pub keys_after : (mode : NameBytes → Mode) (before es : List (NameBytes × ℕ)) → keys_of (attributes_after mode before es) ≡ keys_of es
keys_after mode before [] = refl
keys_after mode before (e ∷ es) = ap (λ (names : List NameBytes). e.0 ∷ names) (keys_after mode (before ++ e ∷ []) es)

every_after : (P : NameBytes → Type 0) (mode : NameBytes → Mode) (before es : List (NameBytes × ℕ)) → Every (λ (e : NameBytes × ℕ). P e.0) es → Every (λ (e : NameBytes × Attribute). P e.0) (attributes_after mode before es)
every_after P mode before [] h = tt
every_after P mode before (e ∷ es) h = (h.0, every_after P mode (before ++ e ∷ []) es h.1)

-- ---- a program that breaks no rule

module _ (p : ProgramTree) (kept : refusal_of_declarations p ≡ None) where
  pub few_classes : length (table p).classes ≤ 64
  few_classes =
      let all = given_by class_by (declarations p) in
      let IsOfFew = λ (e : NameBytes × ClassKind). IsFew (place_in (table p).classes e.0) in
      few_entries (first_entries all) (firsts_once all) (every_first IsOfFew all (every_given p kept IsOfFew class_by (class_few (table p))))

  pub few_sets : length (table p).sets ≤ 64
  few_sets =
      let ds = declarations p in
      let all = given_by set_by ds in
      let es = first_entries (map entry_of all) in
      let IsOfFew = λ (names : List NameBytes) (e : NameBytes × NameBytes). IsFew (place_among names e.0) in
      let each = every_named (λ (name : NameBytes). IsFew (place_among (table p).set_names name)) entry_of (λ name k. k) all (every_given p kept (λ (name : NameBytes). IsFew (place_among (table p).set_names name)) set_by (set_few (table p))) in
      let entries : length es ≤ 64 = few_entries es (firsts_once (map entry_of all)) (subst (λ (names : List NameBytes). Every (IsOfFew names) es) (once_as_entries all) each) in
      let names : length (set_names ds) ≡ length (keys_of es) = ap length (once_as_entries all) in
      omega (arith, entries, names, length-map (set_names ds) (set_of (classes ds) ds), length-map es (λ (e : NameBytes × NameBytes). e.0))

  pub few_attributes : (class : ℕ) → length (attributes_of_class (attribute_classes (declarations p)) class) ≤ 64
  few_attributes class =
      let ds = declarations p in
      let all = given_by (attribute_by (classes ds)) ds in
      let mode = mode_of_name ds in
      let IsOfFew = λ (name : NameBytes). IsFew (field_number (value_for (attributes ds) name)) in
      let P = λ (e : NameBytes × ℕ). IsOfFew e.0 in
      let named = every_after IsOfFew mode [] (first_entries all) (every_first P all (every_given p kept P (attribute_by (classes ds)) (attribute_few (table p)))) in
      let once = subst (IsDistinct same_name) (sym (keys_after mode [] (first_entries all))) (firsts_once all) in
      let numbers = from_places (λ (e : NameBytes × Attribute). e.1.field < 64) (attributes ds) (λ i e at.
      few e.1.field (subst (λ (o : Option Attribute). IsFew (field_number o)) (value_from_place (attributes ds) i e.0 e.1 once at) (at_place (λ (f : NameBytes × Attribute). IsOfFew f.0) (attributes ds) i e named at))) in
      rows_few mode class [] (attribute_classes ds) numbers (omega arith)
