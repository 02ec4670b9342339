-- Expressions whose uses break no rule resolve, and are well typed.
use Rattle.std.proofs.Common.{◌≡◌, Bool, true, false, Option, Some, None, refl, sym, ap, subst, ◌∙◌, arith, rules}
use Rattle.std.specs.Prelude.{◌==◌}
use Rattle.ss_check_laws.proofs.Common.{Alpha, AreValid, eqb-true, false≢true, Global, goes, has_value, holds_unless, Integer, is_mean, IsLinked, Line, Meaning, meaning_mode, Mode, mode_of_meaning, mode_of_use, Multiply, none-some, One, row_length, Scope, Two}
use Rattle.ss_names_meaning.specs.Expressions.{meaning_with_entity, subscript, expression, factors, one, resolved_operator, resolved_value, terms, two}
use Rattle.ss_program.specs.Program.{Expression, Fetch, Constant, Attribute, OfSystemSet, OfSet, OfMember, Clock, TimeOf, Figure, FigureOf, Calculate}
use Rattle.ss_program.specs.WellTyped.{HasMode, TypedScope as Place}
use Rattle.ss_tree.specs.Tree.{and_expression, and_term, ExpressionRow, ExpressionTree, named, no_expression, no_term, parenthesised, TermRow, number, text, call, product, signed, sum}
use Rattle.ss_base.specs.declared.value.Value.TheVariants.{Whole, Text}
use Rattle.ss_names_uses.specs.Uses as uses
use Rattle.ss_names_uses.specs.declared.used.Role.TheVariants as roles
use Rattle.ss_names.specs.declared.meaning.Meaning.TheVariants as meanings
use Rattle.ss_check_rules.specs.declared.error.CheckError.TheVariants as errors
use Rattle.ss_names_meaning.specs.Answers.{◌>>=◌}
use Rattle.ss_check_laws.specs.BodyLaws.{ExpressionsResolve, IsResolved}
use Rattle.ss_check_laws.proofs.Steps.{after, after_one, after_two, GoesWell, two_parts}
use Rattle.ss_check_laws.proofs.Linked.{IsHere}
use Rattle.ss_check_laws.proofs.Places.{EntityFits, Number, Numbers, NumberTerms, OwnerHas, in_role, named_statistic_fits, number_mode, owner_fits, said_is}

module _ (s : Scope) (g : Place) where
  -- ---- numbers

  -- a number has the mode of a number
  from_number : (b : Bool) (e : ExpressionTree) → Number s g e → mode_of_use s (uses.expression_tree_mode e) ≡ Some Integer → IsResolved s g b e
  from_number b e n h = (n.0, Integer, n.1, n.2, h, λ t. refl)

  pub as_number : (e : ExpressionTree) → IsResolved s g true e → Number s g e
  as_number e r = (r.0, r.2, subst (HasMode g r.0) (r.5 refl) r.3)

  -- ---- signs, products and sums

  abbrev IsWhole : Expression → Type 0
  IsWhole x = HasMode g x Integer

  factors_number : (left : Expression) → HasMode g left Integer → (es : ExpressionRow) → Numbers s g es → GoesWell IsWhole (factors s left es)
  unfolding factors
  factors_number left h no_expression n = (left, refl, h)
  factors_number left h (and_expression e es) n = after IsWhole _ _ n.0.0 n.0.1 (factors_number (Calculate Multiply left n.0.0) (refl, h, n.0.2) es n.1)

  terms_number : (left : Expression) → HasMode g left Integer → (es : TermRow) → NumberTerms s g es → GoesWell IsWhole (terms s left es)
  unfolding terms
  terms_number left h no_term n = (left, refl, h)
  terms_number left h (and_term sign e es) n = after IsWhole _ _ n.0.0 n.0.1 (terms_number (Calculate (resolved_operator sign) left n.0.0) (refl, h, n.0.2) es n.1)

  -- ---- functions

  one_argument : (es : ExpressionRow) → row_length es ≡ 1 → Numbers s g es → GoesWell IsWhole (one s es)
  unfolding one
  one_argument (and_expression e no_expression) h n = n.0
  one_argument _ h n = absurd (omega (arith, h))

  abbrev ArePair : Expression × Expression → Type 0
  ArePair p = HasMode g p.0 Integer × HasMode g p.1 Integer

  two_arguments : (es : ExpressionRow) → row_length es ≡ 2 → Numbers s g es → GoesWell ArePair (two s es)
  unfolding two
  two_arguments (and_expression e (and_expression f no_expression)) h n = after_two ArePair _ _ _ n.0 n.1.0 (λ x y i j. (i, j))
  two_arguments _ h n = absurd (omega (arith, h))

module _ (s : Scope) (g : Place) (k : IsLinked s g) where
  -- ---- what is named

  abbrev pub HasValue : Meaning → Option Expression → Type 0
  HasValue m of = (x : Expression) × (mode : Mode) × (resolved_value m of ≡ Some x) × (mode_of_meaning m ≡ Some mode) × HasMode g x mode

  -- all but sets, routines and MEANs have a value
  pub meant_value : (m : Meaning) (of : Option Expression) → IsHere s g k m → EntityFits s g m of → has_value m ≡ true → is_mean m ≡ false → HasValue m of
  meant_value (meanings.Variable v mode) None i f h n = (Fetch v, mode, refl, refl, i.0)
  meant_value (meanings.Class class kind variable) None i f h n = (Fetch (Global variable), Integer, refl, refl, i.0.0)
  meant_value (meanings.Count count) None i f h n = (Fetch (Global count.variable), Integer, refl, refl, i.1)
  meant_value (meanings.Attribute class field mode) (Some e) i f h n = (Attribute class field e, mode, refl, refl, (i.0, f))
  meant_value (meanings.OfSet query set) None i f h n = (OfSystemSet query set, Integer, refl, refl, (refl, owner_fits s g k set i None f))
  meant_value (meanings.OfSet query set) (Some e) i f h n =
      let o = owner_fits s g k set i (Some e) f in
      (OfSet query set e, Integer, refl, refl, (refl, o.0, o.1))
  meant_value (meanings.OfMember query set) None i f h n = absurd (subst (λ o. OwnerHas s g o None) i.member f)
  meant_value (meanings.OfMember query set) (Some e) i f h n =
      (OfMember query set e, Integer, refl, refl, (refl, (i.laid, i.there), subst (λ o. OwnerHas s g o (Some e)) i.member f))
  meant_value (meanings.Statistic (Some fold) n) None i f h t = (Figure fold n, Integer, refl, refl, (refl, named_statistic_fits s g k n i None f))
  meant_value (meanings.Statistic (Some fold) n) (Some e) i f h t =
      let p = named_statistic_fits s g k n i (Some e) f in
      (FigureOf fold n e, Integer, refl, refl, (refl, p.0, p.1))
  meant_value meanings.Clock None i f h n = (Clock, Integer, refl, refl, refl)
  meant_value meanings.NoticeTime (Some e) i f h n = (TimeOf e, Integer, refl, refl, (refl, f))
  meant_value _ _ i f h n = absurd (search rules)

  module _ (line : Line) where
    -- ---- expressions

    mutual
      unfolding expression

      pub resolves : (b : Bool) (e : ExpressionTree) → AreValid s g.is_main (uses.in_expression line b e) → IsResolved s g b e
      resolves b (number z) h = (Constant (Whole z), Integer, refl, refl, refl, λ t. refl)
      resolves true (text t) h = absurd (none-some (errors.Mode line) (sym h.0))
      resolves false (text t) h = (Constant (Text t), Alpha, refl, refl, refl, λ f. absurd (false≢true f))
      resolves b (named d es) h =
          let p = in_role s g k line roles.Value has_value d es b refl refl h.0 (numbers es h.1) in
          let of = p.5.1 in
          let v = meant_value p.0 of p.3 p.5.4 p.2 p.4.value in
          let q : Meaning × Option Expression = (p.0, of) in (
            v.0,
            v.1,
            goes (subscript s es) (λ e. meaning_with_entity s d e >>= λ r. resolved_value r.0 r.1) p.5.0 v.0 p.5.2
                (goes (meaning_with_entity s d p.5.0) (λ r. resolved_value r.0 r.1) q v.0 (goes _ _ p.0 q p.1 (goes _ _ of q p.5.3 refl)) v.2),
            v.4,
            said_is s d ∙ ap meaning_mode p.1 ∙ v.3,
            number_mode b p.0 v.1 v.3 p.4.mode,
          )
      resolves b (call (One op) es) h =
          let n = one_argument s g es (eqb-true (row_length es) 1 (holds_unless (row_length es == 1) (errors.Arguments line) h.0)) (numbers es h.1) in
          from_number s g b (call (One op) es) (after_one (IsWhole s g) _ _ n (λ x i. (refl, i))) refl
      resolves b (call (Two op) es) h =
          let n = two_arguments s g es (eqb-true (row_length es) 2 (holds_unless (row_length es == 2) (errors.Arguments line) h.0)) (numbers es h.1) in
          from_number s g b (call (Two op) es) (after_one (IsWhole s g) _ _ n (λ p i. (refl, i.0, i.1))) refl
      resolves b (parenthesised e) h = resolves b e h
      resolves b (product e es) h =
          let p = two_parts s g.is_main (uses.in_expression line true e) (uses.in_numbers line es) h in
          let n = as_number s g e (resolves true e p.0) in
          from_number s g b (product e es) (after (IsWhole s g) _ _ n.0 n.1 (factors_number s g n.0 n.2 es (numbers es p.1))) refl
      resolves b (signed sign e) h = from_number s g b (signed sign e) (after_one (IsWhole s g) _ _ (as_number s g e (resolves true e h)) (λ x i. (refl, i))) refl
      resolves b (sum e es) h =
          let p = two_parts s g.is_main (uses.in_expression line true e) (uses.in_terms line es) h in
          let n = as_number s g e (resolves true e p.0) in
          from_number s g b (sum e es) (after (IsWhole s g) _ _ n.0 n.1 (terms_number s g n.0 n.2 es (number_terms es p.1))) refl

      pub numbers : (es : ExpressionRow) → AreValid s g.is_main (uses.in_numbers line es) → Numbers s g es
      numbers no_expression h = tt
      numbers (and_expression e es) h =
          let p = two_parts s g.is_main (uses.in_expression line true e) (uses.in_numbers line es) h in
          (as_number s g e (resolves true e p.0), numbers es p.1)

      number_terms : (es : TermRow) → AreValid s g.is_main (uses.in_terms line es) → NumberTerms s g es
      number_terms no_term h = tt
      number_terms (and_term sign e es) h =
          let p = two_parts s g.is_main (uses.in_expression line true e) (uses.in_terms line es) h in
          (as_number s g e (resolves true e p.0), number_terms es p.1)

    -- an expression that has to be a number
    pub number_kept : (e : ExpressionTree) → AreValid s g.is_main (uses.in_expression line true e) → Number s g e
    number_kept e h = as_number s g e (resolves true e h)

pub expressions_resolve : ExpressionsResolve
expressions_resolve s g k line b e h = resolves s g k line b e h
