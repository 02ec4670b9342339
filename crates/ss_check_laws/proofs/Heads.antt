-- Heads of loops whose uses break no rule resolve, and are well typed.
use Rattle.std.proofs.Common.{◌≡◌, true, false, ◌++◌, Option, Some, None, refl, subst}
use Rattle.std.specs.Prelude.{is_some, IfSome}
use Rattle.std.specs.List.{flat_map}
use Rattle.ss_check_laws.proofs.Common.{after_member, AreValid, ClassKind, expression, Expression, ExpressionTree, for_head, from_end, from_member, goes, guarded, GuardTree, HeadTree, Integer, is_variable, IsLinked, Line, meaning_of_name, Name, NameBytes, no_expression, over_class, over_members, over_range, phrases_of, PhraseTree, Scope, StartTree, Variable, variable_named, variable_of}
use Rattle.ss_check_laws.specs.BodyLaws.{IsResolvedForHead, HeadsResolve}
use Rattle.ss_names_meaning.specs.Answers.{if_there}
use Rattle.ss_names_meaning.specs.Heads.{resolved_phrase, called_variable, guard, head, resolved_start}
use Rattle.ss_names_uses.specs.Uses.{in_named, in_expression, in_guard, in_head, in_option, in_phrase, in_start, loop_variable}
use Rattle.ss_program.specs.Program.{ToVariable, AtEnd, Guard}
use Rattle.ss_program.specs.WellTyped.{CanTakeMode, HasMode, kind_of_class, TypedScope as Place, IsTypedCondition, IsTypedPhrase, IsTypedStart, IsTypedHead}
use Rattle.ss_names_uses.specs.declared.used.ClassNeed.TheVariants as needs
use Rattle.ss_names_uses.specs.declared.used.Role.TheVariants as roles
use Rattle.ss_check_laws.proofs.Steps.{GoesWell, each_resolves, three_parts, two_parts, after, after_one, after_two}
use Rattle.ss_check_laws.proofs.Linked.{variable_here}
use Rattle.ss_check_laws.proofs.Places.{in_role, number_mode}
use Rattle.ss_check_laws.proofs.Expressions.{number_kept}
use Rattle.ss_check_laws.proofs.Targets.{sets_resolve}
use Rattle.ss_check_laws.proofs.Conditions.{conditions_resolve}
use Rattle.ss_check_laws.proofs.Classes.{classes_resolve, permanent_kind}

module _ (s : Scope) (g : Place) (k : IsLinked s g) (line : Line) where
  -- ---- variables of loops

  abbrev TakesNumbers : Option Variable → Type 0
  TakesNumbers o = GoesWell (λ v. CanTakeMode g (ToVariable v) Integer) o

  loops : (name : NameBytes) → AreValid s g.is_main (loop_variable line name) → TakesNumbers (variable_named s name)
  loops name h =
      let p = in_role s g k line roles.LoopVariable is_variable (Name name) no_expression true refl refl h.0 tt in
      let v = variable_here s g k p.0 p.3 p.2 in
      let mode = number_mode true p.0 v.1 v.3 p.4.mode refl in
      (v.0, goes (meaning_of_name s name) variable_of p.0 v.0 p.1 v.2, subst (λ m. CanTakeMode g (ToVariable v.0) m) mode v.4)

  called_loops : (v : Variable) (called : Option NameBytes) → (is_some called ≡ false → CanTakeMode g (ToVariable v) Integer) → AreValid s g.is_main (in_option (loop_variable line) called) → TakesNumbers (called_variable s v called)
  called_loops v None f h = (v, refl, f refl)
  called_loops v (Some name) f h = loops name h

  -- ---- phrases and guards

  phrase_resolves : (p : PhraseTree) → AreValid s g.is_main (in_phrase line p) → GoesWell (IsTypedPhrase g) (resolved_phrase s p)
  phrase_resolves p h = after_one (IsTypedPhrase g) _ _ (conditions_resolve s g k line p.condition h) (λ x t. t)

  guard_resolves : (t : GuardTree) → AreValid s g.is_main (in_guard line t) → GoesWell (λ (x : Guard). IsTypedCondition g x.condition) (guard s t)
  guard_resolves t h = after_one (λ (x : Guard). IsTypedCondition g x.condition) _ _ (conditions_resolve s g k line t.condition h) (λ x r. r)

  -- ---- parts of heads

  step_resolves : (o : Option ExpressionTree) → AreValid s g.is_main (in_option (in_expression line true) o) → GoesWell (λ z. IfSome z (λ x. HasMode g x Integer)) (if_there (expression s) o)
  step_resolves None h = (None, refl, tt)
  step_resolves (Some e) h = after_one (λ (z : Option Expression). IfSome z (λ x. HasMode g x Integer)) _ _ (number_kept s g k line e h) (λ x i. i)

  start_resolves : (t : StartTree) → AreValid s g.is_main (in_start line t) → GoesWell (IsTypedStart g) (resolved_start s t)
  start_resolves from_end h = (AtEnd, refl, tt)
  start_resolves (from_member e) h = after_one (IsTypedStart g) _ _ (number_kept s g k line e h) (λ x i. i)
  start_resolves (after_member e) h = after_one (IsTypedStart g) _ _ (number_kept s g k line e h) (λ x i. i)

  -- ---- heads

  with_phrases : (over : HeadTree) → GoesWell (IsTypedHead g) (head s over) → AreValid s g.is_main (flat_map (in_phrase line) (phrases_of over)) → IsResolvedForHead s g over
  with_phrases over x h =
      let ps = each_resolves s g.is_main (resolved_phrase s) (in_phrase line) (IsTypedPhrase g) phrase_resolves (phrases_of over) h in
      (x.0, x.1, x.2, ps.0, ps.1, ps.2)

  for_resolves : (over : HeadTree) → AreValid s g.is_main (in_head line over) → IsResolvedForHead s g over
  unfolding head
  for_resolves (over_range variable from to by phrases) h =
      let first = in_expression line true from in
      let last = in_expression line true to in
      let more = in_option (in_expression line true) by in
      let p = two_parts s g.is_main (first ++ last ++ more) (flat_map (in_phrase line) phrases) h.1 in
      let q = three_parts s g.is_main first last more p.0 in
      let v = loops variable (h.0, tt) in
      let x = number_kept s g k line from q.0 in
      let y = number_kept s g k line to q.1 in
      with_phrases (over_range variable from to by phrases)
      (after (IsTypedHead g) _ _ v.0 v.1 (after (IsTypedHead g) _ _ x.0 x.1 (after_two (IsTypedHead g) _ _ _ y (step_resolves by q.2) (λ b c f i. (v.2, x.2, f, i))))) p.1
  for_resolves (over_members variable set from reverse phrases) h =
      let p = three_parts s g.is_main (in_named line roles.Set false set) (in_start line from) (flat_map (in_phrase line) phrases) h.1 in
      let v = loops variable (h.0, tt) in
      with_phrases (over_members variable set from reverse phrases)
      (after (IsTypedHead g) _ _ v.0 v.1 (after_two (IsTypedHead g) _ _ _ (sets_resolve s g k line set p.0) (start_resolves from p.1) (λ o x f i. (v.2, f, i)))) p.2
  for_resolves (over_class name called phrases) h =
      let p = two_parts s g.is_main (in_option (loop_variable line) called) (flat_map (in_phrase line) phrases) h.1 in
      let c = classes_resolve s g k line needs.Permanent name (is_some called) (h.0, tt) in
      let permanent = subst (λ (kind : ClassKind). kind_of_class g.program c.0.class ≡ Some kind) (permanent_kind c.1 c.4) c.3 in
      with_phrases (over_class name called phrases)
      (after (IsTypedHead g) _ _ c.0 c.2 (after_one (IsTypedHead g) _ _ (called_loops c.0.variable called c.5 p.0) (λ v i. (i, permanent)))) p.1

pub heads_resolve : HeadsResolve
heads_resolve s g k line (for_head over) h = for_resolves s g k line over h
heads_resolve s g k line (guarded guards) h = each_resolves s g.is_main (guard s) (in_guard line) (λ (x : Guard). IsTypedCondition g x.condition) (guard_resolves s g k line) guards h
