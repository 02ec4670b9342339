-- Targets, sets and subjects of a RESET whose uses break no rule resolve, and are well typed.
use Rattle.std.proofs.Common.{◌≡◌, ℕ, true, false, Option, Some, None, refl, sym, ap, subst, ◌∙◌, rules}
use Rattle.ss_check_laws.proofs.Common.{Designator, ExpressionRow, Global, goes, Integer, is_some, IsLinked, Line, Meaning, meaning_mode, MemberCount, Mode, none-some, not-false, owner_of_subject, place_breaks, place_in, row_length, Subject, subject_of, value_for}
use Rattle.ss_check_rules.specs.Kinds.{has_value, is_set, takes_values}
use Rattle.ss_names_meaning.specs.Expressions.{place_named, set_owner, place_of, set_number}
use Rattle.ss_names_scopes.specs.Scopes.{meaning_of_name, mode_of_meaning, Scope, unless_hidden}
use Rattle.ss_program.specs.Program.{Expression, ToVariable, Place as Target, ToAttribute, ToCount, InputTarget as ReadTarget, SetOwner, Restart}
use Rattle.ss_program.specs.WellTyped.{CanTakeMode, IsTypedOwner, IsTypedRestart, TypedScope as Place}
use Rattle.ss_tree.specs.declared.expression.Designator.TheVariants.{Name}
use Rattle.ss_names_uses.specs.declared.used.Role.TheVariants as roles
use Rattle.ss_names.specs.declared.meaning.Meaning.TheVariants as meanings
use Rattle.ss_check_rules.specs.declared.error.CheckError.TheVariants as errors
use Rattle.ss_names_meaning.specs.Answers.{◌>>=◌}
use Rattle.ss_check_laws.specs.BodyLaws.{IsResolvedRestart, RestartsResolve, IsResolvedSet, SetsResolve, TargetsResolve}
use Rattle.ss_check_laws.proofs.Steps.{after, meant}
use Rattle.ss_check_laws.proofs.Linked.{IsHere, meant_here, named_here, seen, watched_here}
use Rattle.ss_check_laws.proofs.Places.{EntityFits, Numbers, OwnerHas, in_place, in_role, number_mode, owner_fits, place_kept, placed, said_is, statistic_fits}
use Rattle.ss_check_laws.proofs.Expressions.{numbers}

-- ---- meanings

set_meant : (m : Meaning) → is_set m ≡ true → (set : ℕ) × (m ≡ meanings.Set set)
set_meant (meanings.Set set) h = (set, refl)
set_meant _ h = absurd cc

subject_meant : (o : Option Meaning) (p : Subject) → subject_of o ≡ Some p → (m : Meaning) × (o ≡ Some m)
subject_meant None p h = absurd cc
subject_meant (Some m) p h = (m, refl)

not_hidden : (local found : Option ℕ) → is_some (unless_hidden local found) ≡ true → (n : ℕ) × (local ≡ None) × (found ≡ Some n)
not_hidden None (Some n) h = (n, refl, refl)
not_hidden _ _ h = absurd cc

module _ (s : Scope) (g : Place) (k : IsLinked s g) where
  -- ---- targets

  abbrev HasPlace : Meaning → Option Expression → Type 0
  HasPlace m of = (x : Target) × (mode : Mode) × (place_of m of ≡ Some x) × (mode_of_meaning m ≡ Some mode) × CanTakeMode g x mode

  meant_place : (m : Meaning) (of : Option Expression) → IsHere s g k m → EntityFits s g m of → takes_values m ≡ true → HasPlace m of
  meant_place (meanings.Variable v mode) None i f h = (ToVariable v, mode, refl, refl, i)
  meant_place (meanings.Class class kind variable) None i f h = (ToVariable (Global variable), Integer, refl, refl, i.0)
  meant_place (meanings.Count count) None i f h = (ToCount count, Integer, refl, refl, (refl, i.0))
  meant_place (meanings.Attribute class field mode) (Some e) i f h = (ToAttribute class field e, mode, refl, refl, (i.0, f))
  meant_place _ _ i f h = absurd (search rules)

  -- ---- sets

  set_by : (line : Line) (d : Designator) (es : ExpressionRow) → place_breaks s line roles.Set d (row_length es) false ≡ None → Numbers s g es → IsResolvedSet s g (record { designator = d; subscripts = es })
  set_by line (Name name) es h n =
      let global = value_for s.table.meanings name in
      let m = meant global is_set (place_kept s line roles.Set (Name name) (row_length es) false h).0 in
      let set = set_meant m.0 m.2 in
      let e : global ≡ Some (meanings.Set set.0) = m.1 ∙ ap Some set.1 in
      let here = meant_here s g k (meanings.Set set.0) (k.table.meanings name (meanings.Set set.0) e) in
      let p = (in_place s g k line roles.Set (Name name) es false (meanings.Set set.0) here e h n).1 in
      let Fits = λ (o : ℕ × SetOwner). IsTypedOwner g o.0 o.1 in
      after Fits _ _ set.0 (ap set_number e) (after Fits _ _ p.0 p.2 (after Fits _ _ p.1 p.3 ((set.0, set_owner p.1), refl, owner_fits s g k set.0 here p.1 p.4)))
  set_by line _ es h n = absurd (none-some (errors.Unknown line) (sym h))

  -- ---- subjects

  -- the entity of a subject is that of its name
  subject_owned : (m : Meaning) (p : Subject) (of : Option Expression) → subject_of (Some m) ≡ Some p → EntityFits s g m of → OwnerHas s g (owner_of_subject s.table (Some p)) of
  subject_owned (meanings.Variable (Global n) mode) p of e f = subst (λ o. OwnerHas s g o of) (ap (owner_of_subject s.table) e) f
  subject_owned (meanings.Attribute class field mode) p of e f = subst (λ o. OwnerHas s g o of) (ap (owner_of_subject s.table) e) f
  subject_owned (meanings.OfSet MemberCount set) p of e f = subst (λ o. OwnerHas s g o of) (ap (owner_of_subject s.table) e) f
  subject_owned _ p of e f = absurd cc

  restart_by : (line : Line) (d : Designator) (es : ExpressionRow) → place_breaks s line roles.Reset d (row_length es) false ≡ None → Numbers s g es → IsResolvedRestart s g (record { designator = d; subscripts = es })
  restart_by line (Name name) es h n =
      let kept = place_kept s line roles.Reset (Name name) (row_length es) false h in
      let found = not_hidden (place_in s.locals name) (place_in s.table.histories name) kept.0 in
      let alone = found.1 in
      let w = k.table.watched name found.0 found.2 in
      let here = watched_here s g k name w in
      let m = subject_meant (value_for s.table.meanings name) w.statistic.subject w.meant in
      let means : meaning_of_name s name ≡ Some m.0 = seen s g k name None alone ∙ m.1 in
      let p = (in_place s g k line roles.Reset (Name name) es false m.0 (named_here s g k name m.0 means) means h n).1 in
      let Fits = λ (r : Restart). IsTypedRestart g r.statistic r.of in
      after Fits _ _ w.number (ap (λ o. unless_hidden o (place_in s.table.histories name)) alone ∙ w.there)
      (after {A = Meaning × Option Expression} Fits _ _ (m.0, p.1) (placed s g (Name name) es m.0 p means)
      (record { statistic = w.number; of = p.1 }, refl, statistic_fits s g k w.number w.statistic p.1 here.0 here.1 (subject_owned m.0 w.statistic.subject p.1 (ap subject_of (sym m.1) ∙ w.meant) p.4)))
  restart_by line _ es h n = absurd (none-some (errors.Unknown line) (sym h))

pub targets_resolve : TargetsResolve
targets_resolve s g k line b n h =
    let d = n.designator in
    let es = n.subscripts in
    let p = in_role s g k line roles.Target has_value d es b refl refl h.0 (numbers s g k line es h.1) in
    let v = meant_place s g k p.0 p.5.1 p.3 p.5.4 (not-false (takes_values p.0) p.4.target) in
    let q : Meaning × Option Expression = (p.0, p.5.1) in
    let found : place_named s d es ≡ Some q = placed s g d es p.0 p.5 p.1 in
    let read : ReadTarget = record { place = v.0; mode = v.1 } in (
      v.0,
      v.1,
      goes (place_named s d es) (λ r. place_of r.0 r.1) q v.0 found v.2,
      v.4,
      said_is s d ∙ ap meaning_mode p.1 ∙ v.3,
      number_mode b p.0 v.1 v.3 p.4.mode,
      goes (place_named s d es) (λ r. place_of r.0 r.1 >>= λ x. mode_of_meaning r.0 >>= λ m. Some (record { place = x; mode = m })) q read found
          (goes (place_of p.0 p.5.1) _ v.0 read v.2 (goes (mode_of_meaning p.0) _ v.1 read v.3 refl)),
    )

pub sets_resolve : SetsResolve
sets_resolve s g k line n h = set_by s g k line n.designator n.subscripts h.0 (numbers s g k line n.subscripts h.1)

pub restarts_resolve : RestartsResolve
restarts_resolve s g k line n h = restart_by s g k line n.designator n.subscripts h.0 (numbers s g k line n.subscripts h.1)
