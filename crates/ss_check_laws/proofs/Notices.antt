-- SCHEDULE, CANCEL and RESET.
use Rattle.std.proofs.Common.{◌≡◌, ℕ, ◌<◌, ◌≤◌, Bool, true, List, length, get_or, take, Option, Some, None, nat_le, option_map, [], refl, sym, ap, subst, arith, ◌∙◌, le-leb, leb-true}
use Rattle.ss_check_laws.proofs.Common.{AreValid, at_time, attribute_mode, ClassKind, cond-true, each_at, each_length, expression, ExpressionTree, holds_unless, in_units, is_kind, IsLinked, IsResolvedClass, Line, Mode, mode_of_attribute, NameBytes, NamedClass, now, option_and_then, option_map_or, place_in, PlainClass, PlainLayout, Scope, slice_get, slice_get_within, Table, there, unless, WhenTree}
use Rattle.ss_names_meaning.specs.Answers.{each, where_holds, ◌>>=◌}
use Rattle.ss_program.specs.Program.{Expression, Statement, Now, When}
use Rattle.ss_program.specs.WellTyped.{HasMode, IsTypedStatement, TypedScope as Place, HaveModes, IsTypedWhen, AreTypedGiven}
use Rattle.ss_base.specs.declared.layout.ClassKind.TheVariants as kinds
use Rattle.ss_names_uses.specs.declared.used.ClassNeed.TheVariants as needs
use Rattle.ss_names_uses.specs.declared.used.ModeOf.TheVariants as modes
use Rattle.ss_names_uses.specs.Uses as uses
use Rattle.ss_names.specs.declared.meaning.Meaning.TheVariants as meanings
use Rattle.ss_check_rules.specs.declared.error.CheckError.TheVariants as errors
use Rattle.ss_names_meaning.specs.Statements.{when}
use Rattle.ss_check_laws.proofs.Steps.{GoesWell, after, after_one}
use Rattle.ss_check_laws.proofs.Expressions.{number_kept}
use Rattle.ss_check_laws.proofs.Lists.{in_order}
use Rattle.ss_check_laws.proofs.Values.{value_resolves}
use Rattle.ss_check_laws.proofs.Entities.{class_is}

pub notice_kind : (kind : ClassKind) → is_kind needs.Notice kind ≡ true → kind ≡ kinds.Notice
notice_kind kinds.Notice h = refl
notice_kind _ h = absurd cc

-- the mode of an attribute, by its place in its class
field_there : (t : Table) (names : List NameBytes) (fields : List Mode) (i : ℕ) (m : Mode) → each (mode_of_attribute t) names ≡ Some fields → slice_get fields i ≡ Some m → option_and_then (mode_of_attribute t) (slice_get names i) ≡ Some m
field_there t names fields i m h e =
    let within = slice_get_within fields i m e in
    let lt : i < length names = omega (arith, within, each_length (mode_of_attribute t) names fields h) in
    let name = there names i lt in
    let at = each_at (mode_of_attribute t) names fields i name.0 h name.1 in
    ap (option_and_then (mode_of_attribute t)) name.1 ∙ at.2 ∙ (sym at.1 ∙ e)

module _ (s : Scope) (g : Place) (linked : IsLinked s g) (line : Line) where
  when_resolves : (t : WhenTree) → AreValid s g.is_main (uses.in_when line t) → GoesWell (IsTypedWhen g) (when s t)
  when_resolves (at_time e) k = after_one (IsTypedWhen g) _ _ (number_kept s g linked line e k) (λ x h. h)
  when_resolves (in_units e) k = after_one (IsTypedWhen g) _ _ (number_kept s g linked line e k) (λ x h. h)
  when_resolves now k = (Now, refl, tt)

  -- values for the first attributes of a class of notices
  abbrev GivenTo : NamedClass → List Expression → Type 0
  GivenTo c xs = (nat_le (length xs) c.attributes ≡ true) × AreTypedGiven g c.class xs

  given_resolve : (name : NameBytes) (is_called : Bool) (c : IsResolvedClass s g needs.Notice name is_called) (given : List ExpressionTree) → AreValid s g.is_main (uses.in_given line name given) →
      GoesWell (GivenTo c.0) (each (expression s) given)
  given_resolve name is_called c given k =
      let class = c.0.class in
      let m = class_is s needs.Notice name c.0 c.2 in
      let place : place_in s.table.classes name ≡ Some class = linked.table.numbered name class m.0 m.1 m.2 in
      let meant = linked.table.meanings name (meanings.Class class m.0 m.1) m.2 in
      let laid = meant.0 in
      let at : slice_get g.program.layout.classes class ≡ Some laid.0 = ap (λ (l : PlainLayout). slice_get l.classes class) linked.layout ∙ laid.1 in
      let fields = (linked.table.classes class laid.0 laid.1).fields in
      let names = get_or s.table.fields class [] in
      let few : length given ≤ length names =
      leb-true (length given) (length names) (holds_unless (nat_le (length given) (length names)) (errors.Arguments line)
      (subst (λ (o : Option ℕ). unless (option_map_or (λ (n : ℕ). nat_le (length given) (length (get_or s.table.fields n []))) o true) (errors.Arguments line) ≡ None) place k.0)) in
      let xs = in_order s g.is_main (expression s) (λ (i : ℕ). uses.in_value line (modes.Attribute name i)) (HasMode g) given laid.0.fields
      (λ i e w f h. value_resolves s g linked line (modes.Attribute name i) w e
      (ap (λ (o : Option ℕ). attribute_mode s.table o i) place ∙ field_there s.table names laid.0.fields i w fields f) h)
      (omega (arith, few, each_length (mode_of_attribute s.table) names laid.0.fields fields)) k.1 in (
        xs.0,
        xs.1,
        (
          le-leb (length xs.0) c.0.attributes (omega (arith, few, xs.2.0, m.4)),
          (
            c.3 ∙ ap Some (notice_kind c.1 c.4),
            (laid.0.fields, ap (option_map (λ (x : PlainClass). x.fields)) at, subst (λ (n : ℕ). HaveModes g xs.0 (take n laid.0.fields)) (sym xs.2.0) xs.2.1),
          ),
        ),
      )

  -- what both forms of SCHEDULE end with
  pub scheduled : (name : NameBytes) (is_called : Bool) (c : IsResolvedClass s g needs.Notice name is_called) (given : List ExpressionTree) (time : WhenTree) (f : List Expression → When → Statement) →
      AreValid s g.is_main (uses.in_given line name given) → AreValid s g.is_main (uses.in_when line time) → ((xs : List Expression) (due : When) → AreTypedGiven g c.0.class xs → IsTypedWhen g due → IsTypedStatement g (f xs due)) →
      GoesWell (IsTypedStatement g) (each (expression s) given >>= λ xs. when s time >>= λ due. where_holds (nat_le (length xs) c.0.attributes) (f xs due))
  scheduled name is_called c given time f k j good =
      let us = given_resolve name is_called c given k in
      let t = when_resolves time j in
      after (IsTypedStatement g) _ _ us.0 us.1 (after (IsTypedStatement g) _ _ t.0 t.1
      (f us.0 t.0, cond-true (nat_le (length us.0) c.0.attributes) (Some (f us.0 t.0)) None us.2.0, good us.0 t.0 us.2.1 t.2))
