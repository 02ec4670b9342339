-- A named place that breaks no rule means something, of an entity where one has it.
use Rattle.std.proofs.Common.{◌≡◌, ℕ, ◌≤◌, Bool, true, false, Option, Some, None, refl, sym, ap, subst, ◌∙◌, arith}
use Rattle.std.specs.Prelude.{not, ◌&&◌, ◌||◌, ◌==◌, option_map, slice_get, if◌then◌else◌}
use Rattle.std.proofs.lemmas.Bool.{eqb-true, leb-true, not-false, not-true, or_parts}
use Rattle.ss_check_laws.proofs.Common.{and_expression, and_term, Designator, Expression, ExpressionRow, ExpressionTree, Fetch, first_fails, first_holds, goes, holds_unless, Integer, IsLinked, Line, Meaning, Mode, no_expression, no_term, Owner, owner_kind_of_set, owner_of_meaning, owner_of_statistic, owner_of_subject, SetLayout, Statistic, Subject, TermRow, unless}
use Rattle.ss_check_rules.specs.Kinds.{if_means, is_target, may_have, meaning_in_role, suits, suits_subscripts, takes_values}
use Rattle.ss_check_rules.specs.Modes.{meaning_mode, mode_of_use, is_mean_as_value, is_text, mixes_modes}
use Rattle.ss_names_meaning.specs.Expressions.{entity_of, expression, meaning_with_entity, place_named, set_owner, of_owner, subscript}
use Rattle.ss_names_scopes.specs.Scopes.{meaning_of, meaning_of_class, mode_of_meaning, Scope, implied, meaning_of_owner as implied_of}
use Rattle.ss_names_uses.specs.Uses.{row_length, designated}
use Rattle.ss_program.specs.WellTyped.{HasMode, TypedScope as Place, IsTypedRestart, IsAlone, IsOfEntities, IsTypedOwner, mode_at, owner_of_set as owner_in_program}
use Rattle.ss_base.specs.declared.layout.Owner.TheVariants as owners
use Rattle.ss_tree.specs.declared.expression.Designator.TheVariants as designators
use Rattle.ss_program.specs.declared.sections.Subject.TheVariants as subjects
use Rattle.ss_names_uses.specs.declared.used.Role.{Role}
use Rattle.ss_names.specs.declared.meaning.Meaning.TheVariants as meanings
use Rattle.ss_check_rules.specs.Refusal.{meaning_breaks, place_breaks}
use Rattle.ss_check_rules.specs.declared.error.CheckError.TheVariants as errors
use Rattle.ss_check_laws.proofs.Steps.{alike, meant}
use Rattle.ss_check_laws.proofs.Linked.{IsHere, IsOwner, IsSetHere, IsStatisticHere, IsSubjectHere, implied_here, meaning_here, owner_here}

-- ---- modes

-- the mode that a use says of what is named is that of its meaning
pub said_is : (s : Scope) (d : Designator) → mode_of_use s (designated d) ≡ meaning_mode (meaning_of s d)
said_is s (designators.Name name) = refl
said_is s designators.TimeV = refl
said_is s designators.TimeA = refl

pub number_mode : (b : Bool) (m : Meaning) (mode : Mode) → mode_of_meaning m ≡ Some mode → (b && is_text (Some m)) ≡ false → b ≡ true → mode ≡ Integer
number_mode b m mode e h t = alike (mode_of_meaning m) (Some Integer) mode Integer (subst (λ c. (c && is_text (Some m)) ≡ false) t h) e refl

-- ---- rules

-- what is named is of the kind that its role needs, and what it means breaks nothing
pub place_kept : (s : Scope) (line : Line) (role : Role) (d : Designator) (n : ℕ) (b : Bool) → place_breaks s line role d n b ≡ None → (suits s role d ≡ true) × (meaning_breaks s line role n b (meaning_in_role s role d) ≡ None)
place_kept s line role d n b h = first_holds (suits s role d) (meaning_breaks s line role n b (meaning_in_role s role d)) (errors.Unknown line) h

-- ---- entities

at_most_one : (o : Owner) (n : ℕ) → may_have o n ≡ true → n ≤ 1
at_most_one owners.System n h = omega (arith, eqb-true n 0 h)
at_most_one (owners.Class class) n h = leb-true n 1 h

module _ (s : Scope) (g : Place) where
  -- ---- numbers

  abbrev pub Number : ExpressionTree → Type 0
  Number e = (x : Expression) × (expression s e ≡ Some x) × HasMode g x Integer

  abbrev pub Numbers : ExpressionRow → Type 0
  Numbers no_expression = Unit {0}
  Numbers (and_expression e es) = Number e × Numbers es

  abbrev pub NumberTerms : TermRow → Type 0
  NumberTerms no_term = Unit {0}
  NumberTerms (and_term sign e es) = Number e × NumberTerms es

  -- none of no subscripts, or the one
  abbrev IsSubscript : ℕ → Option Expression → Type 0
  IsSubscript n None = n ≡ 0
  IsSubscript n (Some x) = (n ≡ 1) × HasMode g x Integer

  subscripted : (es : ExpressionRow) → row_length es ≤ 1 → Numbers es → (e : Option Expression) × (subscript s es ≡ Some e) × IsSubscript (row_length es) e
  unfolding subscript
  subscripted no_expression few n = (None, refl, refl)
  subscripted (and_expression e no_expression) few n =
      (Some n.0.0, goes (expression s e) (λ x. Some (Some x)) n.0.0 (Some n.0.0) n.0.1 refl, (refl, n.0.2))
  subscripted (and_expression e (and_expression f es)) few n = absurd (omega (arith, few))

  -- ---- entities

  -- the entity that an owner's things are of, which is a number
  abbrev pub OwnerHas : Owner → Option Expression → Type 0
  OwnerHas owners.System None = Unit {0}
  OwnerHas owners.System (Some e) = ⊥
  OwnerHas (owners.Class class) None = ⊥
  OwnerHas (owners.Class class) (Some e) = HasMode g e Integer

  abbrev pub EntityFits : Meaning → Option Expression → Type 0
  EntityFits meanings.NoticeTime None = ⊥
  EntityFits meanings.NoticeTime (Some e) = HasMode g e Integer
  EntityFits m e = OwnerHas (owner_of_meaning s.table m) e

  -- what is named, with its subscripts, and the entity that has it
  abbrev pub HasEntity : ExpressionRow → Meaning → Type 0
  HasEntity es m = (e : Option Expression) × (of : Option Expression) × (subscript s es ≡ Some e) × (entity_of s m e ≡ Some of) × EntityFits m of

  pub placed : (d : Designator) (es : ExpressionRow) (m : Meaning) (p : HasEntity es m) → meaning_of s d ≡ Some m → place_named s d es ≡ Some (m, p.1)
  placed d es m p h = goes (subscript s es) (λ e. meaning_with_entity s d e) p.0 (m, p.1) p.2 (goes _ _ m (m, p.1) h (goes _ _ p.1 (m, p.1) p.3 refl))

  -- ---- rules

  -- a meaning in a role, with so many subscripts, breaks no rule
  pub record IsUnbroken (role : Role) (n : ℕ) (is_number : Bool) (m : Meaning) : Type 0 where
    pub subscripts : suits_subscripts s.table m n ≡ true
    pub target : (is_target role && not (takes_values m)) ≡ false
    pub mode : (is_number && is_text (Some m)) ≡ false
    pub value : is_mean_as_value role m ≡ false
    pub entity : ((n == 0) && is_text (implied s m)) ≡ false

  unbroken : (line : Line) (role : Role) (n : ℕ) (is_number : Bool) (m : Meaning) → meaning_breaks s line role n is_number (Some m) ≡ None → IsUnbroken role n is_number m
  unbroken line role n is_number m h =
      let a = first_fails (not (suits_subscripts s.table m n))
      (if is_target role && not (takes_values m) then Some (errors.NotAssignable line) else unless (not (mixes_modes s role m n is_number)) (errors.Mode line))
      (errors.Subscript line) h in
      let b = first_fails (is_target role && not (takes_values m)) (unless (not (mixes_modes s role m n is_number)) (errors.Mode line)) (errors.NotAssignable line) a.1 in
      let c = not-true (mixes_modes s role m n is_number) (holds_unless (not (mixes_modes s role m n is_number)) (errors.Mode line) b.1) in
      let d = or_parts ((is_number && is_text (Some m)) || is_mean_as_value role m) ((n == 0) && is_text (implied s m)) c in
      let e = or_parts (is_number && is_text (Some m)) (is_mean_as_value role m) d.0 in
      record { subscripts = not-false (suits_subscripts s.table m n) a.0; target = b.0; mode = e.0; value = e.1; entity = d.1 }

module _ (s : Scope) (g : Place) (k : IsLinked s g) where
  -- ---- the entity of what is named

  owner_entity : (o : Owner) → IsOwner s g k o → (n : ℕ) (e : Option Expression) → IsSubscript s g n e → may_have o n ≡ true → ((n == 0) && is_text (implied_of s o)) ≡ false →
      (of : Option Expression) × (of_owner s o e ≡ Some of) × OwnerHas s g o of
  owner_entity owners.System i n None f h t = (None, refl, tt)
  owner_entity owners.System i n (Some x) f h t = absurd (omega (arith, eqb-true n 0 h, f.0))
  owner_entity (owners.Class class) i n None f h t =
      let v = implied_here s g k class i in
      let text : is_text (meaning_of_class s class) ≡ false = subst (λ (j : ℕ). ((j == 0) && is_text (meaning_of_class s class)) ≡ false) f t in
      let mode : v.2.1 ≡ Integer = alike (meaning_mode (meaning_of_class s class)) (Some Integer) v.2.1 Integer text (ap meaning_mode v.1 ∙ v.2.3) refl in
      (Some (Fetch v.2.0), goes _ _ (Fetch v.2.0) (Some (Fetch v.2.0)) (goes _ _ v.0 (Fetch v.2.0) v.1 (goes _ _ v.2.0 (Fetch v.2.0) v.2.2 refl)) refl, subst (λ m. mode_at g v.2.0 ≡ Some m) mode v.2.4.0)
  owner_entity (owners.Class class) i n (Some x) f h t = (Some x, refl, f.1)

  few_subscripts : (m : Meaning) (n : ℕ) → suits_subscripts s.table m n ≡ true → n ≤ 1
  few_subscripts meanings.NoticeTime n h = omega (arith, eqb-true n 1 h)
  few_subscripts m n h = at_most_one (owner_of_meaning s.table m) n h

  meant_entity : (m : Meaning) → IsHere s g k m → (n : ℕ) (e : Option Expression) → IsSubscript s g n e → suits_subscripts s.table m n ≡ true → ((n == 0) && is_text (implied s m)) ≡ false →
      (of : Option Expression) × (entity_of s m e ≡ Some of) × EntityFits s g m of
  meant_entity meanings.NoticeTime i n None f h t = absurd (omega (arith, eqb-true n 1 h, f))
  meant_entity meanings.NoticeTime i n (Some x) f h t = (Some x, refl, f.1)
  meant_entity m i n e f h t = owner_entity (owner_of_meaning s.table m) (owner_here s g k m i) n e f h t

  has_entity : (es : ExpressionRow) (m : Meaning) → IsHere s g k m → Numbers s g es → suits_subscripts s.table m (row_length es) ≡ true → ((row_length es == 0) && is_text (implied s m)) ≡ false → HasEntity s g es m
  has_entity es m i n h t =
      let e = subscripted s g es (few_subscripts m (row_length es) h) n in
      let of = meant_entity m i (row_length es) e.0 e.2 h t in
      (e.0, of.0, e.1, of.1, of.2)

  -- a place in a role that asks for a kind of what its name means
  abbrev pub InRole : Role → (kind : Meaning → Bool) → Designator → ExpressionRow → Bool → Type 0
  InRole role kind d es b = (m : Meaning) × (meaning_of s d ≡ Some m) × (kind m ≡ true) × IsHere s g k m × IsUnbroken s g role (row_length es) b m × HasEntity s g es m

  pub in_place : (line : Line) (role : Role) (d : Designator) (es : ExpressionRow) (b : Bool) (m : Meaning) → IsHere s g k m → meaning_in_role s role d ≡ Some m → place_breaks s line role d (row_length es) b ≡ None → Numbers s g es →
      IsUnbroken s g role (row_length es) b m × HasEntity s g es m
  in_place line role d es b m i e h n =
      let u = unbroken s g line role (row_length es) b m (subst (λ o. meaning_breaks s line role (row_length es) b o ≡ None) e (place_kept s line role d (row_length es) b h).1) in
      (u, has_entity es m i n u.subscripts u.entity)

  pub in_role : (line : Line) (role : Role) (kind : Meaning → Bool) (d : Designator) (es : ExpressionRow) (b : Bool) → suits s role d ≡ if_means kind (meaning_of s d) → meaning_in_role s role d ≡ meaning_of s d →
      place_breaks s line role d (row_length es) b ≡ None → Numbers s g es → InRole role kind d es b
  in_role line role kind d es b asked means h n =
      let m = meant (meaning_of s d) kind (sym asked ∙ (place_kept s line role d (row_length es) b h).0) in
      let i = meaning_here s g k d m.0 m.1 in
      let p = in_place line role d es b m.0 i (means ∙ m.1) h n in
      (m.0, m.1, m.2, i, p.0, p.1)

  -- ---- sets and statistics

  -- the entity of a set is an owner such as its sets have
  pub owner_fits : (set : ℕ) → IsSetHere s g k set → (of : Option Expression) → OwnerHas s g (owner_kind_of_set (slice_get s.table.sets set)) of → IsTypedOwner g set (set_owner of)
  owner_fits set i of f = by i.laid.owner of (ap (option_map (λ (l : SetLayout). l.owner)) i.there) (subst (λ o. OwnerHas s g o of) i.owner f)
    where
      by : (o : Owner) (of : Option Expression) → owner_in_program g.program set ≡ Some o → OwnerHas s g o of → IsTypedOwner g set (set_owner of)
      by owners.System None e f = e
      by (owners.Class class) (Some x) e f = ((class, e), f)
      by _ _ e f = absurd f

  abbrev SubjectFits : Subject → Option Expression → Type 0
  SubjectFits p None = IsAlone g.program p
  SubjectFits p (Some e) = IsOfEntities g.program p × HasMode g e Integer

  subject_fits : (p : Subject) (of : Option Expression) → IsSubjectHere s g k p → OwnerHas s g (owner_of_subject s.table (Some p)) of → SubjectFits p of
  subject_fits (subjects.OfVariable n) None i f = tt
  subject_fits (subjects.OfAttribute class field) (Some e) i f = (tt, f)
  subject_fits (subjects.OfCount set) None i f = owner_fits set i None f
  subject_fits (subjects.OfCount set) (Some e) i f = owner_fits set i (Some e) f
  subject_fits _ _ i f = absurd f

  -- a statistic is that of one thing or, with an entity, of each
  pub statistic_fits : (n : ℕ) (x : Statistic) (of : Option Expression) → slice_get g.program.statistics n ≡ Some x → IsSubjectHere s g k x.subject →
      OwnerHas s g (owner_of_subject s.table (Some x.subject)) of → IsTypedRestart g n of
  statistic_fits n x None e i f = (x, e, subject_fits x.subject None i f)
  statistic_fits n x (Some y) e i f =
      let p = subject_fits x.subject (Some y) i f in
      ((x, e, p.0), p.1)

  pub named_statistic_fits : (n : ℕ) (i : IsStatisticHere s g k n) (of : Option Expression) → OwnerHas s g (owner_of_statistic s.table (slice_get s.table.subjects n)) of → IsTypedRestart g n of
  named_statistic_fits n i of f = statistic_fits n i.0 of i.1 i.3 (subst (λ o. OwnerHas s g o of) (ap (owner_of_statistic s.table) i.2) f)
