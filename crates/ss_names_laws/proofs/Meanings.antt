-- Each name of a program that breaks no rule on declarations means something that is there.
use Rattle.std.proofs.Common.{◌≡◌, ℕ, ◌<◌, List, [], length, get_or, slice_get, Option, Some, None, option_map, inl, refl, sym, ap, subst, ◌∙◌, ◌≢◌, Contains}
use Rattle.ss_names_laws.proofs.Common.{Attribute, class_layout, ClassKind, count_by, CountedClass, counts, declarations, each, firsts_once, Global, Integer, key_at, keys_of, length-map, Meaning, Mode, mode_of_attribute, mode_of_meaning, NameBytes, numbered, Permanent, place_from, place_in, PlainClass, ProgramTree, refusal_of_declarations, resolved_layout, resolved_statistic, ResolvedLayout, same_Some, set_layout, slice_get-map, slice_get_within, Statistic, Subject, subject_of, table, there, value_at, value_by_place, value_for, value_from_place, values_of}
use Rattle.ss_names.specs.Entries.{class_by, classes, given_by, global_variables, set_names, set_of, routines, sets}
use Rattle.std.specs.List.{AllByRecursion as Every}
use Rattle.ss_names.specs.declared.meaning.Meaning.TheVariants as m
use Rattle.ss_names_laws.specs.Laws.{TablesAreValid}
use Rattle.ss_names_laws.specs.ValidTables.{IsClassAt, IsMeant, IsNamedClass, IsPlainAt, IsSetAt, IsValidTable, IsWatched}
use Rattle.ss_names_laws.proofs.Attributes.{attribute_there}
use Rattle.ss_names_laws.proofs.Classes.{class_meant, class_said, class_there, count_meant}
use Rattle.ss_names_laws.proofs.Items.{contains, in_image, in_pieces}
use Rattle.ss_names_laws.proofs.NameTable.{place_in_below, value_among}
use Rattle.ss_names_laws.proofs.Known.{IsKnown, name_known}
use Rattle.ss_names_laws.proofs.Parts.{class_parts, IsMadeOf, numbers_length, parts_of, subject_kept}
use Rattle.ss_names_laws.proofs.Steps.{each_at, numbers_at}
use Rattle.ss_names_laws.proofs.Variables.{mode_at, no_count}

module _ (p : ProgramTree) (x : ResolvedLayout) (made : IsMadeOf (table p) x) where
  -- ---- what is numbered is there

  class_at : (class : ℕ) → class < length (classes (declarations p)) → (c : PlainClass) × (slice_get x.layout.classes class ≡ Some c) × (slice_get (values_of (classes (declarations p))) class ≡ Some c.kind) × (each (mode_of_attribute (table p)) (get_or (table p).fields class []) ≡ Some c.fields)
  class_at class lt =
      let laid = numbers_at (class_layout (table p)) (length (classes (declarations p))) x.layout.classes class made.are_classes lt in
      let parts = class_parts (table p) class laid.0 laid.2 in
      (laid.0, laid.1, parts.0, parts.1)

  pub kind_at : (name : NameBytes) (class : ℕ) (kind : ClassKind) → place_in (classes (declarations p)) name ≡ Some class → value_for (classes (declarations p)) name ≡ Some kind → IsClassAt x class kind
  kind_at name class kind place value =
      let e = value_by_place (classes (declarations p)) name class place in
      let c = class_at class (slice_get_within (classes (declarations p)) class (name, e.0) e.2) in
      (c.0, c.1, same_Some c.0.kind kind (sym c.2 ∙ value_at (classes (declarations p)) class name e.0 e.2 ∙ sym e.1 ∙ value))

  pub field_at : (name : NameBytes) (a : Attribute) → value_for (table p).attributes name ≡ Some a → IsMeant (table p) x (m.Attribute a.class a.field a.mode)
  field_at name a h =
      let place = attribute_there (declarations p) name a h in
      let c = class_at a.class place.0 in
      let mode = each_at (mode_of_attribute (table p)) (get_or (table p).fields a.class []) c.0.fields a.field name c.3 place.1 in
      let known : mode_of_attribute (table p) name ≡ Some a.mode = ap (λ (o : Option Attribute). option_map (λ (y : Attribute). y.mode) o) h in
      (c.0, c.1, mode.1 ∙ sym mode.2 ∙ known)

  set_at : (set : ℕ) → set < length (set_names (declarations p)) → IsSetAt (table p) x set
  set_at set lt =
      let ds = declarations p in
      let known = there (sets ds) set (subst (λ (n : ℕ). set < n) (sym (length-map (set_names ds) (set_of (classes ds) ds))) lt) in
      let laid = each_at set_layout (sets ds) x.layout.sets set known.0 made.are_sets known.1 in
      record { known = known.0; laid = laid.0; there = known.1; is_laid = laid.2; laid_there = laid.1 }

  statistic_at : (k : ℕ) → k < length (table p).histories → (s : Statistic) × (slice_get x.statistics k ≡ Some s) × (slice_get (table p).subjects k ≡ Some (Some s.subject))
  statistic_at k lt =
      let s = numbers_at (resolved_statistic (table p)) (length (table p).histories) x.statistics k made.are_statistics lt in
      (s.0, s.1, subject_kept (table p) k s.0 s.2)

module _ (p : ProgramTree) (kept : refusal_of_declarations p ≡ None) (x : ResolvedLayout) (made : IsMadeOf (table p) x) where
  plain_at : (name : NameBytes) (meaning : Meaning) (k : ℕ) (mode : Mode) → value_for (table p).meanings name ≡ Some meaning → place_in (global_variables (declarations p)) name ≡ Some k → mode_of_meaning meaning ≡ Some mode → count_by meaning ≡ [] → IsPlainAt x k mode
  plain_at name meaning k mode h place is none = (
    ap (λ (l : List Mode). slice_get l k) made.are_globals ∙ mode_at p kept name meaning k mode h place is,
    subst (Every (λ (c : CountedClass). c.variable ≢ k)) (sym made.are_counts) (no_count p kept name meaning k h place none),
  )

  -- ---- what names mean

  fits : (name : NameBytes) (meaning : Meaning) → value_for (table p).meanings name ≡ Some meaning → IsKnown (numbered (declarations p)) name meaning → IsMeant (table p) x meaning
  fits name (m.Variable (Global k) mode) h known = plain_at name (m.Variable (Global k) mode) k mode h known refl refl
  fits name (m.Class class kind variable) h known = (kind_at p x made name class kind known.0 known.1, plain_at name (m.Class class kind variable) variable Integer h known.2 refl refl)
  fits name (m.Count count) h known =
      let ms = (table p).meanings in
      let all = values_of ms in
      let here = in_image (λ (e : NameBytes × Meaning). e.1) ms (name, m.Count count) (value_among ms name (m.Count count) h) in
      let listed = contains (counts (table p)) count (in_pieces count_by all (m.Count count) count here (inl refl)) in (
        subst (λ (l : List CountedClass). Contains l count) (sym made.are_counts) listed,
        ap (λ (l : List Mode). slice_get l count.variable) made.are_globals ∙ mode_at p kept name (m.Count count) count.variable Integer h known.4 refl,
      )
  fits name (m.Attribute class field mode) h known = field_at p x made name (record { class = class; field = field; mode = mode }) known
  fits name (m.Set set) h known = set_at p x made set known
  fits name (m.OfSet query set) h known = set_at p x made set known
  fits name (m.OfMember query set) h known = set_at p x made set known
  fits name (m.Routine k) h known = let r = value_by_place (routines (declarations p)) name k known in (r.0, value_at (routines (declarations p)) k name r.0 r.2)
  fits name _ h known = known

  -- ---- the names of classes, and subjects

  class_named_so : (class : ℕ) (c : PlainClass) → slice_get x.layout.classes class ≡ Some c → IsNamedClass (table p) class c
  class_named_so class c at =
      let ds = declarations p in
      let count : length x.layout.classes ≡ length (classes ds) = numbers_length (class_layout (table p)) (length (classes ds)) x.layout.classes made.are_classes in
      let lt : class < length (classes ds) = subst (λ (n : ℕ). class < n) count (slice_get_within x.layout.classes class c at) in
      let e = there (classes ds) class lt in
      let once = firsts_once (given_by class_by ds) in
      let place = place_from (classes ds) class e.0.0 e.0.1 once e.1 in
      let value = value_from_place (classes ds) class e.0.0 e.0.1 once e.1 in
      let said = class_said ds e.0.0 e.0.1 value in
      let own = class_there ds said.0 e.0.0 e.0.1 said.1 in
      let means = class_meant p kept said.0 e.0.0 e.0.1 said.1 (class, e.0.1, own.2, place, value, own.5) in
      let laid = class_at p x made class lt in
      let same : laid.0 ≡ c = same_Some laid.0 c (sym laid.1 ∙ at) in
      let kind : e.0.1 ≡ c.kind = same_Some e.0.1 c.kind (sym (value_at (classes ds) class e.0.0 e.0.1 e.1) ∙ laid.2 ∙ ap (λ (l : PlainClass). Some l.kind) same) in
      record {
        name = e.0.0;
        variable = own.2;
        there = key_at (classes ds) class e.0.0 e.0.1 e.1;
        meant = means ∙ ap (λ (k : ClassKind). Some (m.Class class k own.2)) kind;
        fields = laid.3 ∙ ap (λ (l : PlainClass). Some l.fields) same;
      }

  watched_so : (name : NameBytes) (number : ℕ) → place_in (table p).histories name ≡ Some number → IsWatched (table p) x name
  watched_so name number h =
      let t = table p in
      let e = value_by_place t.histories name number h in
      let s = statistic_at p x made number (place_in_below t.histories name number h) in
      let of_name : NameBytes → Option Subject = λ n. subject_of (value_for t.meanings n) in
      let here : slice_get t.subjects number ≡ Some (of_name name) = slice_get-map of_name (keys_of t.histories) number ∙ ap (option_map of_name) (key_at t.histories number name e.0 e.2) in
      record { number = number; statistic = s.0; there = h; laid = s.1; known = s.2; meant = same_Some (of_name name) (Some s.0.subject) (sym here ∙ s.2) }

  valid : resolved_layout (table p) ≡ Some x → IsValidTable (table p) x
  valid is = record {
    laid = is;
    meanings = λ name meaning h. fits name meaning h (name_known (declarations p) name meaning h);
    classes = class_named_so;
    numbered = λ name class kind variable h. (name_known (declarations p) name (m.Class class kind variable) h).0;
    counts = λ name class variable h.
        let said = class_said (declarations p) name Permanent (name_known (declarations p) name (m.Class class Permanent variable) h).1 in
        count_meant p kept said.0 name said.1;
    routines = λ name k h.
        let r = value_by_place (routines (declarations p)) name k (name_known (declarations p) name (m.Routine k) h) in
        (r.0, value_at (routines (declarations p)) k name r.0 r.2, r.1);
    watched = watched_so;
  }

pub tables_are_valid : TablesAreValid
tables_are_valid p x kept h = valid p kept x (parts_of (table p) x h) h
