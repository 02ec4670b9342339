-- What a name means in a linked section is there in the program.
use Rattle.std.proofs.Common.{◌≡◌, ◌≢◌, ℕ, true, List, length, Option, Some, None, refl, sym, ap, subst, ◌∙◌}
use Rattle.std.specs.Prelude.{nat_lt, option_map, slice_get, unwrap_or, Contains}
use Rattle.std.specs.List.{AllByRecursion as Every}
use Rattle.std.specs.Map.{lookup}
use Rattle.std.specs.Option.{option_and_then}
use Rattle.ss_check_laws.proofs.Common.{and_parts, ClassKind, CountedClass, Designator, get_or_from_slice_get, hidden_by, Integer, is_variable, IsLinked, known_mode, local_mode, ltb-true, Meaning, meaning_of, meaning_of_class, meaning_of_name, MemberCount, Mode, mode_of_meaning, NameBytes, numbers_at, Owner, place_in, PlainClass, PlainLayout, same_name, same_Some, Scope, SetLayout, slice_get_within, Statistic, Subject, ToVariable, value_for, Variable, variable_of}
use Rattle.std.proofs.lemmas.List.Sums.{AllPass-from_list_all}
use Rattle.ss_names.specs.Table.{owner_of_meaning, owner_of_subject, owner_kind_of_member, owner_kind_of_set, owner_of_statistic, subject_of}
use Rattle.ss_names_declarations.proofs.Entries.{value_by_place, there as item_at, value_at}
use Rattle.ss_program.specs.WellTyped.{CanTakeMode, kind_of_class, TypedScope as Place, field_mode}
use Rattle.ss_program.specs.declared.expression.Variable.TheVariants.{Global, Local}
use Rattle.ss_base.specs.declared.layout.Owner.TheVariants as owners
use Rattle.ss_base.specs.Layout.{names_classes, owns_among}
use Rattle.ss_tree.specs.declared.expression.Designator.TheVariants as designators
use Rattle.ss_program.specs.declared.sections.Subject.TheVariants as subjects
use Rattle.ss_names.specs.declared.meaning.Meaning.TheVariants as meanings
use Rattle.ss_names_laws.specs.ValidTables.{IsMeant, IsPlainAt, IsSetAt, IsStatisticAt, IsWatched}
use Rattle.ss_names_laws.proofs.Parts.{parts_of, set_parts}

module _ (s : Scope) (g : Place) (k : IsLinked s g) where
  -- ---- classes and sets

  abbrev pub IsClassHere : ℕ → Type 0
  IsClassHere class = (c : PlainClass) × (slice_get k.laid.layout.classes class ≡ Some c)

  -- THE SYSTEM, or a class that is there
  abbrev pub IsOwner : Owner → Type 0
  IsOwner owners.System = Unit {0}
  IsOwner (owners.Class class) = IsClassHere class

  -- a set, who has it in the table and in the program, and the class of its members
  pub record IsSetHere (set : ℕ) : Type 0 where
    pub laid : SetLayout
    pub there : slice_get g.program.layout.sets set ≡ Some laid
    pub owner : owner_kind_of_set (slice_get s.table.sets set) ≡ laid.owner
    pub member : owner_kind_of_member (slice_get s.table.sets set) ≡ owners.Class laid.member
    pub owner_there : IsOwner laid.owner
    pub member_there : IsClassHere laid.member

  class_in_program : (class : ℕ) (c : PlainClass) → slice_get k.laid.layout.classes class ≡ Some c → slice_get g.program.layout.classes class ≡ Some c
  class_in_program class c e = ap (λ (l : PlainLayout). slice_get l.classes class) k.layout ∙ e

  is_owner : (o : Owner) → owns_among (length k.laid.layout.classes) o ≡ true → IsOwner o
  is_owner owners.System h = tt
  is_owner (owners.Class class) h = item_at k.laid.layout.classes class (ltb-true class (length k.laid.layout.classes) h)

  pub set_here : (set : ℕ) → IsSetAt s.table k.laid set → IsSetHere set
  set_here set i =
      let classes = length k.laid.layout.classes in
      let sets = k.laid.layout.sets in
      let all = AllPass-from_list_all (names_classes classes) sets (parts_of s.table k.laid k.table.laid).sound in
      let named : names_classes classes i.laid ≡ true =
      subst (λ (l : SetLayout). names_classes classes l ≡ true) (get_or_from_slice_get sets set i.laid i.laid i.laid_there) (all set i.laid (slice_get_within sets set i.laid i.laid_there)) in
      let both = and_parts (owns_among classes i.laid.owner) (nat_lt i.laid.member classes) named in
      let parts = set_parts i.known i.laid i.is_laid in
      record {
        laid = i.laid;
        there = ap (λ (l : PlainLayout). slice_get l.sets set) k.layout ∙ i.laid_there;
        owner = ap owner_kind_of_set i.there ∙ ap (λ (o : Option Owner). unwrap_or o owners.System) parts.0;
        member = ap owner_kind_of_member i.there ∙ ap (λ (o : Option ℕ). unwrap_or (option_map owners.Class o) owners.System) parts.1;
        owner_there = is_owner i.laid.owner both.0;
        member_there = item_at k.laid.layout.classes i.laid.member (ltb-true i.laid.member classes both.1);
      }

  set_owned : (set : ℕ) → IsSetHere set → IsOwner (owner_kind_of_set (slice_get s.table.sets set))
  set_owned set i = subst IsOwner (sym i.owner) i.owner_there

  -- ---- statistics

  abbrev pub IsSubjectHere : Subject → Type 0
  IsSubjectHere (subjects.OfVariable n) = Unit {0}
  IsSubjectHere (subjects.OfAttribute class field) = IsClassHere class
  IsSubjectHere (subjects.OfCount set) = IsSetHere set

  abbrev pub IsStatisticHere : ℕ → Type 0
  IsStatisticHere n = (x : Statistic) × (slice_get g.program.statistics n ≡ Some x) × (slice_get s.table.subjects n ≡ Some (Some x.subject)) × IsSubjectHere x.subject

  subject_here : (o : Option Meaning) (p : Subject) → subject_of o ≡ Some p → ((m : Meaning) → o ≡ Some m → IsMeant s.table k.laid m) → IsSubjectHere p
  subject_here (Some (meanings.Variable (Global n) mode)) p e h = subst IsSubjectHere (same_Some (subjects.OfVariable n) p e) tt
  subject_here (Some (meanings.Attribute class field mode)) p e h =
      let i = h (meanings.Attribute class field mode) refl in
      subst IsSubjectHere (same_Some (subjects.OfAttribute class field) p e) (i.0, i.1)
  subject_here (Some (meanings.OfSet MemberCount set)) p e h =
      subst IsSubjectHere (same_Some (subjects.OfCount set) p e) (set_here set (h (meanings.OfSet MemberCount set) refl))
  subject_here _ p e h = absurd cc

  -- the subject of a TALLY or an ACCUMULATE, with its statistic
  pub watched_here : (name : NameBytes) (w : IsWatched s.table k.laid name) → (slice_get g.program.statistics w.number ≡ Some w.statistic) × IsSubjectHere w.statistic.subject
  watched_here name w = (
    ap (λ (l : List Statistic). slice_get l w.number) k.statistics ∙ w.laid,
    subject_here (value_for s.table.meanings name) w.statistic.subject w.meant (k.table.meanings name),
  )

  statistic_here : (n : ℕ) → IsStatisticAt s.table n → IsStatisticHere n
  statistic_here n i =
      let w = k.table.watched i.0 n i.1 in
      let here = watched_here i.0 w in
      subst IsStatisticHere (same_Some w.number n (sym w.there ∙ i.1)) (w.statistic, here.0, w.known, here.1)

  -- ---- meanings

  -- what a name means here is there in the program, and of its mode and kind
  abbrev pub IsHere : Meaning → Type 0
  IsHere (meanings.Variable variable mode) = CanTakeMode g (ToVariable variable) mode
  IsHere (meanings.Class class kind variable) = CanTakeMode g (ToVariable (Global variable)) Integer × (kind_of_class g.program class ≡ Some kind)
  IsHere (meanings.Count count) = Contains g.program.counts count × (slice_get g.program.globals count.variable ≡ Some Integer)
  IsHere (meanings.Attribute class field mode) = (field_mode g.program class field ≡ Some mode) × IsClassHere class
  IsHere (meanings.Set set) = IsSetHere set
  IsHere (meanings.OfSet query set) = IsSetHere set
  IsHere (meanings.OfMember query set) = IsSetHere set
  IsHere (meanings.Statistic fold n) = IsStatisticHere n
  IsHere _ = Unit {0}

  plain_here : (n : ℕ) (mode : Mode) → IsPlainAt k.laid n mode → CanTakeMode g (ToVariable (Global n)) mode
  plain_here n mode i = (
    ap (λ (l : List Mode). slice_get l n) k.globals ∙ i.0,
    subst (Every (λ (c : CountedClass). c.variable ≢ n)) (sym k.counts) i.1,
  )

  pub meant_here : (m : Meaning) → IsMeant s.table k.laid m → IsHere m
  meant_here (meanings.Variable (Global n) mode) i = plain_here n mode i
  meant_here (meanings.Variable (Local n) mode) i = absurd i
  meant_here (meanings.Class class kind variable) i =
      let c = i.0 in
      (plain_here variable Integer i.1, ap (option_map (λ (x : PlainClass). x.kind)) (class_in_program class c.0 c.1) ∙ ap Some c.2)
  meant_here (meanings.Count count) i = (
    subst (λ (l : List CountedClass). Contains l count) (sym k.counts) i.0,
    ap (λ (l : List Mode). slice_get l count.variable) k.globals ∙ i.1,
  )
  meant_here (meanings.Attribute class field mode) i = (
    ap (λ (o : Option PlainClass). option_and_then (λ (modes : List Mode). slice_get modes field) (option_map (λ (x : PlainClass). x.fields) o)) (class_in_program class i.0 i.1) ∙ i.2,
    (i.0, i.1),
  )
  meant_here (meanings.Set set) i = set_here set i
  meant_here (meanings.OfSet query set) i = set_here set i
  meant_here (meanings.OfMember query set) i = set_here set i
  meant_here (meanings.Statistic fold n) i = statistic_here n i
  meant_here _ i = tt

  -- a local variable has its mode
  local_here : (name : NameBytes) (n : ℕ) → place_in s.locals name ≡ Some n → slice_get g.locals n ≡ Some (known_mode (lookup (same_name name) s.locals))
  local_here name n e =
      let v = value_by_place s.locals name n e in
      let at = numbers_at (local_mode s.locals) (length s.locals) g.locals n k.moded (slice_get_within s.locals n (name, v.0) v.2) in
      let known : v.0 ≡ Some at.0 = sym (ap (λ (o : Option (Option Mode)). option_and_then (λ (m : Option Mode). m) o) (value_at s.locals n name v.0 v.2)) ∙ at.2 in
      at.1 ∙ ap Some (sym (ap known_mode (v.1 ∙ ap Some known)))

  pub seen : (name : NameBytes) (o : Option ℕ) → place_in s.locals name ≡ o → meaning_of_name s name ≡ hidden_by s.locals name o (value_for s.table.meanings name)
  seen name o e = ap (λ p. hidden_by s.locals name p (value_for s.table.meanings name)) e

  pub named_here : (name : NameBytes) (m : Meaning) → meaning_of_name s name ≡ Some m → IsHere m
  named_here name m e = by (place_in s.locals name) refl
    where
      by : (o : Option ℕ) → place_in s.locals name ≡ o → IsHere m
      by None f = meant_here m (k.table.meanings name m (sym (seen name None f) ∙ e))
      by (Some n) f =
          let local : Meaning = meanings.Variable (Local n) (known_mode (lookup (same_name name) s.locals)) in
          subst IsHere (same_Some local m (sym (seen name (Some n) f) ∙ e)) (local_here name n f, tt)

  pub meaning_here : (d : Designator) (m : Meaning) → meaning_of s d ≡ Some m → IsHere m
  meaning_here (designators.Name name) m e = named_here name m e
  meaning_here designators.TimeV m e = subst IsHere (same_Some meanings.Clock m e) tt
  meaning_here designators.TimeA m e = subst IsHere (same_Some meanings.NoticeTime m e) tt

  -- ---- owners

  subject_owner : (p : Subject) → IsSubjectHere p → IsOwner (owner_of_subject s.table (Some p))
  subject_owner (subjects.OfVariable n) i = tt
  subject_owner (subjects.OfAttribute class field) i = i
  subject_owner (subjects.OfCount set) i = set_owned set i

  -- who has what a name means is there
  pub owner_here : (m : Meaning) → IsHere m → IsOwner (owner_of_meaning s.table m)
  owner_here (meanings.Attribute class field mode) i = i.1
  owner_here (meanings.Set set) i = set_owned set i
  owner_here (meanings.OfSet query set) i = set_owned set i
  owner_here (meanings.OfMember query set) i = subst IsOwner (sym i.member) i.member_there
  owner_here (meanings.Statistic fold n) i = subst IsOwner (sym (ap (owner_of_statistic s.table) i.2)) (subject_owner i.0.subject i.3)
  owner_here _ i = tt

  -- ---- variables

  -- the variable of what a name means
  abbrev pub IsVariable : Meaning → Type 0
  IsVariable m = (v : Variable) × (mode : Mode) × (variable_of m ≡ Some v) × (mode_of_meaning m ≡ Some mode) × CanTakeMode g (ToVariable v) mode

  pub variable_here : (m : Meaning) → IsHere m → is_variable m ≡ true → IsVariable m
  variable_here (meanings.Variable v mode) i h = (v, mode, refl, refl, i)
  variable_here (meanings.Class class kind n) i h = (Global n, Integer, refl, refl, i.0)
  variable_here _ i h = absurd cc

  -- the name of a class means its variable, or a local one that hides it
  pub class_variable : (name : NameBytes) (class : ℕ) (kind : ClassKind) (n : ℕ) → value_for s.table.meanings name ≡ Some (meanings.Class class kind n) →
      (m : Meaning) × (meaning_of_name s name ≡ Some m) × IsVariable m
  class_variable name class kind n e = by (place_in s.locals name) refl
    where
      named : (m : Meaning) → is_variable m ≡ true → meaning_of_name s name ≡ Some m → (m : Meaning) × (meaning_of_name s name ≡ Some m) × IsVariable m
      named m h f = (m, f, variable_here m (named_here name m f) h)

      by : (o : Option ℕ) → place_in s.locals name ≡ o → (m : Meaning) × (meaning_of_name s name ≡ Some m) × IsVariable m
      by None f = named (meanings.Class class kind n) refl (seen name None f ∙ e)
      by (Some j) f = named (meanings.Variable (Local j) (known_mode (lookup (same_name name) s.locals))) refl (seen name (Some j) f)

  -- the variable that has an entity of a class where none is named
  pub implied_here : (class : ℕ) → IsClassHere class → (m : Meaning) × (meaning_of_class s class ≡ Some m) × IsVariable m
  implied_here class i =
      let n = k.table.classes class i.0 i.1 in
      let v = class_variable n.name class i.0.kind n.variable n.meant in
      (v.0, ap (option_and_then (meaning_of_name s)) n.there ∙ v.1, v.2)
