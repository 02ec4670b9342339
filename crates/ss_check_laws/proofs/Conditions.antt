-- Conditions whose uses break no rule resolve, and are well typed.
use Rattle.std.proofs.Common.{true, false, List, refl, subst}
use Rattle.std.specs.List.{AllByRecursion as Every, flat_map}
use Rattle.ss_check_laws.proofs.Common.{AreValid, compare, data_ended, empty, IsLinked, Line, member, mode_of_use, Scope, TestTree}
use Rattle.ss_names_uses.specs.Uses.{in_named, in_expression, in_test, expression_tree_mode}
use Rattle.ss_program.specs.WellTyped.{HasMode, TypedScope as Place, IsTypedTest}
use Rattle.ss_program.specs.Program.{Compare, DataEnded}
use Rattle.ss_names_uses.specs.declared.used.Role.TheVariants as roles
use Rattle.ss_check_rules.specs.declared.error.CheckError.TheVariants as errors
use Rattle.ss_names_meaning.specs.Conditions.{conjunction, one_test}
use Rattle.ss_check_laws.specs.BodyLaws.{ConditionsResolve}
use Rattle.ss_check_laws.proofs.Steps.{GoesWell, agree, each_resolves, two_parts, after, after_one, after_two}
use Rattle.ss_check_laws.proofs.Expressions.{number_kept, resolves}
use Rattle.ss_check_laws.proofs.Targets.{sets_resolve}

module _ (s : Scope) (g : Place) (k : IsLinked s g) (line : Line) where
  test_resolves : (t : TestTree) → AreValid s g.is_main (in_test line t) → GoesWell (IsTypedTest g) (one_test s t)
  unfolding one_test
  test_resolves (compare left relation right) h =
      let p = two_parts s g.is_main (in_expression line false left) (in_expression line false right) h.1 in
      let x = resolves s g k line false left p.0 in
      let y = resolves s g k line false right p.1 in
      let same = agree (mode_of_use s (expression_tree_mode left)) (mode_of_use s (expression_tree_mode right)) x.1 y.1 (errors.Mode line) h.0 x.4 y.4 in
      after (IsTypedTest g) _ _ x.0 x.2 (after (IsTypedTest g) _ _ y.0 y.2 (Compare relation x.0 y.0, refl, (y.1, subst (HasMode g x.0) same x.3, y.3)))
  test_resolves (empty set negated) h = after_one (IsTypedTest g) _ _ (sets_resolve s g k line set h) (λ q t. t)
  test_resolves (member e set negated) h =
      let p = two_parts s g.is_main (in_expression line true e) (in_named line roles.Set false set) h in
      after_two (IsTypedTest g) _ _ _ (number_kept s g k line e p.0) (sets_resolve s g k line set p.1) (λ x q f i. (f, i))
  test_resolves (data_ended negated) h = (DataEnded negated, refl, tt)

  conjunction_resolves : (ts : List TestTree) → AreValid s g.is_main (flat_map (in_test line) ts) → GoesWell (Every (IsTypedTest g)) (conjunction s ts)
  conjunction_resolves ts h = each_resolves s g.is_main (one_test s) (in_test line) (IsTypedTest g) test_resolves ts h

pub conditions_resolve : ConditionsResolve
conditions_resolve s g k line t h = each_resolves s g.is_main (conjunction s) (flat_map (in_test line)) (Every (IsTypedTest g)) (conjunction_resolves s g k line) t h
