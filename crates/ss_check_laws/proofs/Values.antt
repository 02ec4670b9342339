-- Values and targets of the modes that their places want: LET, ADD, SUBTRACT, READ and CALL.
use Rattle.std.proofs.Common.{◌≡◌, ℕ, ◌+◌, ◌<◌, true, false, List, ◌++◌, length, take, drop, Option, Some, None, refl, sym, ap, subst, arith, ◌∙◌, length-drop, eq-eqb, eqb-true}
use Rattle.std.specs.Prelude.{◌&&◌, ◌==◌, option_and_then, slice_get}
use Rattle.ss_check_laws.proofs.Common.{AllZip, call_statement, CheckError, cond-true, each_length, expression, ExpressionTree, goes, holds_unless, Integer, Line, local_modes, Meaning, Mode, mode_of_use, Moded, NameBytes, NamedTree, option_map_or, RoutineSection, slice_get_within, target, unless, value_for, values_of}
use Rattle.ss_check_laws.specs.Links.{AreValid, IsLinked, IsRoutineAt}
use Rattle.ss_check_rules.specs.Kinds.{if_means, is_routine}
use Rattle.ss_names_laws.proofs.Steps.{numbers_at, upto_length}
use Rattle.ss_names_meaning.specs.Answers.{upto, ◌>>=◌}
use Rattle.ss_names_scopes.specs.Scopes.{local_mode, Scope, local_mode_at, mode_given, parameter_mode}
use Rattle.ss_program.specs.Program.{Statement, Change, Call, InputTarget}
use Rattle.ss_program.specs.WellTyped.{CanTakeMode, HasMode, IsTypedStatement, TypedScope as Place}
use Rattle.ss_base.specs.declared.words.Sign.{Sign}
use Rattle.ss_names_uses.specs.declared.used.ModeOf.{ModeOf}
use Rattle.ss_names_uses.specs.declared.used.ModeOf.TheVariants as modes
use Rattle.ss_names_uses.specs.declared.used.Role.TheVariants as roles
use Rattle.ss_names_uses.specs.Uses as uses
use Rattle.ss_names.specs.declared.meaning.Meaning.TheVariants as meanings
use Rattle.ss_check_rules.specs.declared.error.CheckError.TheVariants as errors
use Rattle.ss_names_meaning.specs.Statements.{reader, routine_number, simple_statement}
use Rattle.ss_check_laws.proofs.Steps.{GoesWell, agree, two_parts, after, after_two}
use Rattle.ss_check_laws.proofs.Expressions.{expressions_resolve, number_kept}
use Rattle.ss_check_laws.proofs.Lists.{after_first, in_order}
use Rattle.ss_check_laws.proofs.Targets.{targets_resolve}

-- ---- routines

routine_meant : (o : Option Meaning) → if_means is_routine o ≡ true → (k : ℕ) × (o ≡ Some (meanings.Routine k))
routine_meant (Some (meanings.Routine k)) h = (k, refl)
routine_meant _ h = absurd cc

as_many : (n count : ℕ) (x : CheckError) → unless (n == count) x ≡ None → n ≡ count
as_many n count x k = eqb-true n count (holds_unless (n == count) x k)

both_same : (a b x y : ℕ) → a ≡ x → b ≡ y → ((a == x) && (b == y)) ≡ true
both_same a b x y h g = rw (eq-eqb a x h, eq-eqb b y g) refl

-- the mode of a local variable, by its number
local_there : (locals : Moded) (all : List Mode) (i : ℕ) (m : Mode) → local_modes locals ≡ Some all → slice_get all i ≡ Some m → mode_given (slice_get (values_of locals) i) ≡ Some m
local_there locals all i m h e =
    let within = slice_get_within all i m e in
    let lt : i < length locals = omega (arith, within, each_length (local_mode locals) (upto (length locals)) all h, upto_length (length locals)) in
    let at = numbers_at (local_mode locals) (length locals) all i h lt in
    at.2 ∙ (sym at.1 ∙ e)

parameter_there : (s : Scope) (g : Place) (k : ℕ) (known : RoutineSection) (r : IsRoutineAt s g.program k known) (i : ℕ) (m : Mode) → slice_get r.modes i ≡ Some m → parameter_mode s known.section i ≡ Some m
parameter_there s g k known r i m e = ap (λ (o : Option Moded). local_mode_at o i) r.section ∙ local_there r.locals r.modes i m r.moded e

module _ (s : Scope) (g : Place) (linked : IsLinked s g) (line : Line) where
  -- ---- modes that are wanted

  pub takes_number : (n : NamedTree) → AreValid s g.is_main (uses.in_named line roles.Target true n) → GoesWell (λ x. CanTakeMode g x Integer) (target s n)
  takes_number n k =
      let x = targets_resolve s g linked line true n k in
      (x.0, x.2, subst (CanTakeMode g x.0) (x.5 refl) x.3)

  pub value_resolves : (wanted : ModeOf) (m : Mode) (e : ExpressionTree) → mode_of_use s wanted ≡ Some m → AreValid s g.is_main (uses.in_value line wanted e) → GoesWell (λ x. HasMode g x m) (expression s e)
  value_resolves wanted m e w k =
      let x = expressions_resolve s g linked line false e k.1 in
      (x.0, x.2, subst (HasMode g x.0) (agree (mode_of_use s (uses.expression_tree_mode e)) (mode_of_use s wanted) x.1 m (errors.Mode line) k.0 x.4 w) x.3)

  pub takes_value : (wanted : ModeOf) (m : Mode) (n : NamedTree) → mode_of_use s wanted ≡ Some m → AreValid s g.is_main (uses.in_target line wanted n) → GoesWell (λ x. CanTakeMode g x m) (target s n)
  takes_value wanted m n w k =
      let x = targets_resolve s g linked line false n k.1 in
      (x.0, x.2, subst (CanTakeMode g x.0) (agree (mode_of_use s (uses.designated n.designator)) (mode_of_use s wanted) x.1 m (errors.Mode line) k.0 x.4 w) x.3)

  -- ---- statements

  -- ADD and SUBTRACT
  pub change_resolves : (sign : Sign) (e : ExpressionTree) (n : NamedTree) → AreValid s g.is_main (uses.in_expression line true e ++ uses.in_named line roles.Target true n) →
      GoesWell (IsTypedStatement g) (expression s e >>= λ v. target s n >>= λ x. Some (Change line sign x v))
  change_resolves sign e n k =
      let p = two_parts s g.is_main (uses.in_expression line true e) (uses.in_named line roles.Target true n) k in
      after_two (IsTypedStatement g) _ _ _ (number_kept s g linked line e p.0) (takes_number n p.1) (λ v x h f. (f, h))

  pub reader_resolves : (n : NamedTree) → AreValid s g.is_main (uses.in_named line roles.Target false n) → GoesWell (λ (x : InputTarget). CanTakeMode g x.place x.mode) (reader s n)
  reader_resolves n k =
      let x = targets_resolve s g linked line false n k in
      (record { place = x.0; mode = x.1 }, x.6, x.3)

  pub call_resolves : (name : NameBytes) (given : List ExpressionTree) (yielding : List NamedTree) → AreValid s g.is_main (uses.in_call line name given yielding) →
      GoesWell (IsTypedStatement g) (simple_statement s (call_statement line name given yielding))
  unfolding simple_statement
  call_resolves name given yielding k =
      let meant = routine_meant (value_for s.table.meanings name) (holds_unless (if_means is_routine (value_for s.table.meanings name)) (errors.Unknown line) k.0) in
      let entry = linked.table.routines name meant.0 meant.1 in
      let known = entry.0 in
      let r = linked.routines meant.0 known entry.1 in
      let some : length given ≡ known.given =
      as_many (length given) known.given (errors.Arguments line) (subst (λ (o : Option RoutineSection). unless (option_map_or (λ (r : RoutineSection). length given == r.given) o true) (errors.Arguments line) ≡ None) entry.2 k.1.0) in
      let more : length yielding ≡ known.yielding =
      as_many (length yielding) known.yielding (errors.Arguments line) (subst (λ (o : Option RoutineSection). unless (option_map_or (λ (r : RoutineSection). length yielding == r.yielding) o true) (errors.Arguments line) ≡ None) entry.2 k.1.1.0) in
      let p = two_parts s g.is_main (uses.in_places (λ (i : ℕ). uses.in_value line (modes.Given name i)) 0 given) (uses.in_places (λ (i : ℕ). uses.in_target line (modes.Yielded name i)) 0 yielding) k.1.1.1 in
      let xs = in_order s g.is_main (expression s) (λ (i : ℕ). uses.in_value line (modes.Given name i)) (HasMode g) given r.modes
      (λ i e m f h. value_resolves (modes.Given name i) m e (ap (option_and_then (λ (r : RoutineSection). parameter_mode s r.section i)) entry.2 ∙ parameter_there s g meant.0 known r i m f) h)
      (omega (arith, some, r.enough)) p.0 in
      let ys = in_order s g.is_main (target s) (λ (i : ℕ). uses.in_target line (modes.Yielded name i)) (CanTakeMode g) yielding (drop known.given r.modes)
      (λ i n m f h. takes_value (modes.Yielded name i) m n
      (ap (option_and_then (λ (r : RoutineSection). parameter_mode s r.section (r.given + i))) entry.2 ∙ parameter_there s g meant.0 known r (known.given + i) m (sym (after_first known.given i r.modes) ∙ f)) h)
      (omega (arith, more, r.enough, length-drop known.given r.modes)) p.1 in
      let made : Statement = Call line meant.0 xs.0 ys.0 in
      after {A = ℕ × RoutineSection} (IsTypedStatement g) _ _ (meant.0, known)
      (goes {B = ℕ × RoutineSection} (routine_number (value_for s.table.meanings name)) _ meant.0 (meant.0, known) (ap routine_number meant.1)
      (goes {B = ℕ × RoutineSection} (slice_get (values_of s.table.routines) meant.0) _ known (meant.0, known) entry.1 refl))
      (after (IsTypedStatement g) _ _ xs.0 xs.1 (after (IsTypedStatement g) _ _ ys.0 ys.1 (
        made,
        cond-true ((length xs.0 == known.given) && (length ys.0 == known.yielding)) (Some made) None
            (both_same (length xs.0) (length ys.0) known.given known.yielding (xs.2.0 ∙ some) (ys.2.0 ∙ more)),
        (
          r.routine,
          r.there,
          subst (AllZip (HasMode g) xs.0) (ap (λ (n : ℕ). take n r.modes) some ∙ sym r.given) xs.2.1,
          subst (AllZip (CanTakeMode g) ys.0) (ap (λ (n : ℕ). take n (drop known.given r.modes)) more ∙ sym r.yielding) ys.2.1,
        ),
      )))
