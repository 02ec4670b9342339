-- The code of expressions.
use Rattle.std.proofs.Common.{◌≡◌, ℕ, ◌+◌, false, List, [], ◌∷◌, ◌++◌, length, Some, None, Ok, Err, refl, sym, ap, ◌∙◌, subst, arith, length-append}
use Rattle.std.specs.Prelude.{Result as OkOr, pos}
use Rattle.ss_code_instructions.proofs.Common.{act, Attribute, attribute, Calculate, Clock, clock, Code, Constant, core_at, deliver, Expression, Fetch, Figure, figure, FigureOf, Frame, Instruction, is_due, Line, look, looked, of_member, of_set, OfMember, OfSet, OfSystemSet, Operand, outcome_then, Part, Placed, RunState, Signed, Store, Target, time_of, TimeOf, Unary, Value, value, Whole, with_operand_value, with_values}
use Rattle.ss_code_instructions.specs.Translation.{after, expression_code, height, leaf, next, operand, operand_code, place, Site, one_operand}
use Rattle.ss_meaning.specs.Values.{applied, calculated, Fails, Failure, if_ok, operator_of, TypeError, signed}
use Rattle.ss_code_instructions.specs.Instructions as i
use Rattle.ss_code_instructions.proofs.Steps.{Reaches, at, arrive}
use Rattle.ss_code_instructions.proofs.Parts.{Leads, step_leads, Runs, same, put_on, went, look_then, alike}
use Rattle.ss_code_instructions.proofs.Operands.{on, Tops, put_then, computes, held, reads_both, Evaluates, leaf_runs, operand_runs, read_runs, two_join}

if_ok_ok : {A : Type 0} (r : OkOr A Failure) → if_ok r Ok ≡ r
if_ok_ok (Ok a) = refl
if_ok_ok (Err t) = refl

module _ (code : Code) (n : ℕ) where
  -- the code of an expression computes its value, and leaves it at a target
  abbrev pub Leaves : Site → Target → Expression → Type 0
  Leaves t to e = Runs code n (height t) same (expression_code t to e) (on to) (λ w. outcome_then (look t.line (value e) w) (put_then t.line to))

  -- one instruction that computes a value without operands
  none_runs : (t : Site) (to : Target) (x : Instruction) (f : Store → OkOr Value Failure) → Tops to (height t) → is_due x ≡ false → ((p : ℕ) (cells : List Value) (frames : List Frame) (s : Store) → act code t.line x (core_at p cells frames s) ≡ deliver t.line to (f s) cells (core_at p cells frames s)) → Runs code n (height t) same (place t x ∷ []) (on to) (λ w. outcome_then (look t.line f w) (put_then t.line to))
  none_runs t to x f tops calm acts = record {
    by = λ p cells frames w high has in_.
        step_leads code (place t x) (core_at p cells frames w.store) w _ _ has.0 calm (acts p cells frames w.store)
        (computes code t.line to (f w.store) p cells cells frames w (subst (Tops to) (sym high) tops));
  }

  -- one instruction that computes a value from that of an operand
  one_runs : (t : Site) (to : Target) (e : Expression) (make : Operand → Instruction) (f : Value → Store → OkOr Value Failure) → Tops to (height t) → Evaluates code n t e → ((x : Operand) → is_due (make x) ≡ false) → ((x : Operand) (p : ℕ) (cells : List Value) (frames : List Frame) (s : Store) → act code t.line (make x) (core_at p cells frames s) ≡ with_operand_value x s cells (λ v below. deliver t.line to (f v s) below (core_at p cells frames s))) → Runs code n (height t) same (one_operand t e (expression_code t (next t) e) make) (on to) (λ w. outcome_then (look t.line (λ s. if_ok (value e s) (λ v. f v s)) w) (put_then t.line to))
  one_runs t to e make f tops r calm acts =
      alike code n (height t) (λ w. look_then t.line (value e w.store) f (put_then t.line to) w)
      (read_runs code n t e r make (on to) (λ p cells0 frames s v below. deliver t.line to (f v s) below (core_at p cells0 frames s)) (λ v w. outcome_then (look t.line (f v) w) (put_then t.line to)) calm acts (λ v p cells cells0 frames w high.
      computes code t.line to (f v w.store) p cells cells0 frames w (subst (Tops to) (sym high) tops)))

  -- and from those of two operands
  two_runs : (t : Site) (to : Target) (a b : Expression) (make : (x y : Operand) → Instruction) (f : Value → Value → Store → OkOr Value Failure) → Tops to (height t) → Evaluates code n t a → Evaluates code n (after t a) b → ((x y : Operand) → is_due (make x y) ≡ false) → ((x y : Operand) (p : ℕ) (cells : List Value) (frames : List Frame) (s : Store) → act code t.line (make x y) (core_at p cells frames s) ≡ with_values x y s cells (λ v w below. deliver t.line to (f v w s) below (core_at p cells frames s))) → Runs code n (height t) same (operand_code t a ++ one_operand (after t a) b (expression_code (after t a) (next (after t a)) b) (make (operand t a))) (on to) (λ w. outcome_then (look t.line (λ s. if_ok (value a s) (λ x. if_ok (value b s) (λ y. f x y s))) w) (put_then t.line to))
  two_runs t to a b make f tops ra rb calm acts = record {
    by = λ p cells frames w high has in_.
        let ca = operand_code t a in
        let cb = operand_code (after t a) b in
        let x : Placed = place (after (after t a) b) (make (operand t a) (operand (after t a) b)) in
        let k = λ (v : Value) (w' : RunState). at (p + length (ca ++ (cb ++ x ∷ []))) (on to v cells) frames w' in
        let len : p + length ca + length cb + 1 ≡ p + length (ca ++ (cb ++ x ∷ [])) = omega (arith, length-append ca (cb ++ x ∷ []), length-append cb (x ∷ [])) in
        subst (λ o. Reaches code (at p cells frames w) (arrive k frames o)) (both_looks t.line (value a w.store) (value b) f (put_then t.line to) w)
        (two_join code n t a b ra rb (x ∷ []) k (λ v u w. outcome_then (look t.line (f v u) w) (put_then t.line to)) p cells frames w high has in_ (λ v u q r has'.
        step_leads code x (core_at (p + length ca + length cb) (held (leaf b) u (held (leaf a) v cells)) frames w.store) w _ _ has'.0 (calm (operand t a) (operand (after t a) b))
        (acts (operand t a) (operand (after t a) b) (p + length ca + length cb) (held (leaf b) u (held (leaf a) v cells)) frames w.store
        ∙ reads_both t a b v u w.store cells (λ v u below. deliver t.line to (f v u w.store) below (core_at (p + length ca + length cb) (held (leaf b) u (held (leaf a) v cells)) frames w.store)) high q r)
        (subst (λ j. Leads code w (deliver t.line to (f v u w.store) cells (core_at (p + length ca + length cb) (held (leaf b) u (held (leaf a) v cells)) frames w.store)) (arrive (λ v w'. at j (on to v cells) frames w') frames (outcome_then (looked t.line (f v u w.store) w) (put_then t.line to)))) len
        (computes code t.line to (f v u w.store) (p + length ca + length cb) cells (held (leaf b) u (held (leaf a) v cells)) frames w (subst (Tops to) (sym high) tops)))));
  }
    where
      both_looks : {B : Type 0} (l : Line) (r : OkOr Value Failure) (g : Store → OkOr Value Failure) (f : Value → Value → Store → OkOr Value Failure) (go : Value → Part B) (w : RunState) → outcome_then (looked l r w) (λ x w. outcome_then (look l g w) (λ y w. outcome_then (look l (f x y) w) go)) ≡ outcome_then (looked l (if_ok r (λ x. if_ok (g w.store) (λ y. f x y w.store))) w) go
      both_looks l (Ok x) g f go w = look_then l (g w.store) (f x) go w
      both_looks l (Err (Fails kind)) g f go w = refl
      both_looks l (Err TypeError) g f go w = refl

  -- the value of a look that is copied as it is
  copied : (t : Site) (to : Target) (e : Expression) {c : List Placed} → Runs code n (height t) same c (on to) (λ w. outcome_then (look t.line (λ s. if_ok (value e s) (λ v. Ok v)) w) (put_then t.line to)) → Runs code n (height t) same c (on to) (λ w. outcome_then (look t.line (value e) w) (put_then t.line to))
  copied t to e r = alike code n (height t) (λ w. ap (λ o. outcome_then (looked t.line o w) (put_then t.line to)) (if_ok_ok (value e w.store))) r

  -- into a new cell
  in_cell : (t : Site) (e : Expression) → Leaves t (next t) e → Runs code n (height t) same (expression_code t (next t) e) put_on (look t.line (value e))
  in_cell t e r = alike code n (height t) (λ w. went (look t.line (value e) w)) r

  -- an operand
  as_operand : (t : Site) (e : Expression) → Leaves t (next t) e → Evaluates code n t e
  as_operand t e r = operand_runs code n t e (in_cell t e r)

  pub leaves : (t : Site) (to : Target) → Tops to (height t) → (e : Expression) → Leaves t to e
  leaves t to tops (Constant v) =
      copied t to (Constant v)
      (one_runs t to (Constant v) (λ x. i.Move x to) (λ v s. Ok v) tops (leaf_runs code n t (Constant v) (i.Constant v) refl) (λ x. refl) (λ x p cells frames s. refl))
  leaves t to tops (Fetch y) =
      copied t to (Fetch y)
      (one_runs t to (Fetch y) (λ x. i.Move x to) (λ v s. Ok v) tops (leaf_runs code n t (Fetch y) (i.Held y) refl) (λ x. refl) (λ x p cells frames s. refl))
  leaves t to tops (Attribute class field e) =
      one_runs t to e (λ x. i.Attribute class field x to) (attribute class field) tops (as_operand t e (leaves t (next t) refl e)) (λ x. refl) (λ x p cells frames s. refl)
  leaves t to tops (OfSystemSet query set) =
      none_runs t to (i.OfSet query set None to) (of_set query set None) tops refl (λ p cells frames s. refl)
  leaves t to tops (OfSet query set e) =
      one_runs t to e (λ x. i.OfSet query set (Some x) to) (λ o. of_set query set (Some o)) tops (as_operand t e (leaves t (next t) refl e)) (λ x. refl) (λ x p cells frames s. refl)
  leaves t to tops (OfMember query set e) =
      one_runs t to e (λ x. i.OfMember query set x to) (of_member query set) tops (as_operand t e (leaves t (next t) refl e)) (λ x. refl) (λ x p cells frames s. refl)
  leaves t to tops Clock = none_runs t to (i.Clock to) (λ s. Ok (clock s)) tops refl (λ p cells frames s. refl)
  leaves t to tops (TimeOf e) =
      one_runs t to e (λ x. i.TimeOf x to) time_of tops (as_operand t e (leaves t (next t) refl e)) (λ x. refl) (λ x p cells frames s. refl)
  leaves t to tops (Figure fold j) = none_runs t to (i.Figure fold j None to) (figure fold j None) tops refl (λ p cells frames s. refl)
  leaves t to tops (FigureOf fold j e) =
      one_runs t to e (λ x. i.Figure fold j (Some x) to) (λ x. figure fold j (Some x)) tops (as_operand t e (leaves t (next t) refl e)) (λ x. refl) (λ x p cells frames s. refl)
  leaves t to tops (Signed sign e) =
      one_runs t to e (λ x. i.Calculate (operator_of sign) (i.Constant (Whole (pos 0))) x to) (λ v s. signed sign v) tops (as_operand t e (leaves t (next t) refl e)) (λ x. refl) (λ x p cells frames s. refl)
  leaves t to tops (Unary op e) =
      one_runs t to e (λ x. i.Unary op x to) (λ v s. applied op v) tops (as_operand t e (leaves t (next t) refl e)) (λ x. refl) (λ x p cells frames s. refl)
  leaves t to tops (Calculate op a b) =
      two_runs t to a b (λ x y. i.Calculate op x y to) (λ x y s. calculated op x y) tops (as_operand t a (leaves t (next t) refl a)) (as_operand (after t a) b (leaves (after t a) (next (after t a)) refl b)) (λ x y. refl) (λ x y p cells frames s. refl)

  -- an expression in a new cell, and an operand
  pub value_runs : (t : Site) (e : Expression) → Runs code n (height t) same (expression_code t (next t) e) put_on (look t.line (value e))
  value_runs t e = in_cell t e (leaves t (next t) refl e)

  pub evaluates : (t : Site) (e : Expression) → Evaluates code n t e
  evaluates t e = as_operand t e (leaves t (next t) refl e)
