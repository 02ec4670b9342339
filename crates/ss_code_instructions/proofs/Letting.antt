-- LET, ADD and SUBTRACT, for each place that they assign.
use Rattle.std.proofs.Common.{◌≡◌, ℕ, ◌+◌, Bool, true, false, List, ◌++◌, length, Option, Some, None, refl, sym, subst, arith, length-append}
use Rattle.std.specs.Prelude.{if◌then◌else◌}
use Rattle.ss_code_instructions.proofs.Common.{above, after, assigned_variable, calculated, change_by, change_code, Code, core_at, count_code, CountedClass, deliver, did, Expression, expression_code, fetched, Frame, give_to, Global, height, if_ok, InCount, Integer, InVariable, is_kept, leaf, let_code, look, looked, next, onward, operand, operand_code, operator_of, or_zero, outcome_then, Part, Place, RunState, settle, Sign, Site, sure, ToAttribute, ToCount, ToVariable, Value, value, Variable, with_operand, with_operand_value, write}
use Rattle.ss_code_instructions.specs.Instructions.{Held, Placed, Target as To}
use Rattle.ss_code_instructions.specs.Instructions as i
use Rattle.ss_code_instructions.proofs.Steps.{Reaches, here, at, arrive}
use Rattle.ss_code_instructions.proofs.Parts.{Leads, onwards, whatever, did_leads, Runs, same, done, put_on, went, then_then, seq, alike}
use Rattle.ss_code_instructions.proofs.Operands.{on, Tops, put_then, computes, held, reads, read_runs, one_join}
use Rattle.ss_code_instructions.proofs.Expressions.{leaves, evaluates}
use Rattle.ss_code_instructions.proofs.Assigning.{written_goal, variable_runs, count_run, count_taken}
use Rattle.ss_code_instructions.proofs.Attributes.{let_attribute_runs}
use Rattle.ss_code_instructions.proofs.Changing.{change_attribute_runs}

module _ (code : Code) (n : ℕ) where
  let_count_runs : (t : Site) (c : CountedClass) (e : Expression) → Runs code n (height t) same (let_code t (ToCount c) e) done (give_to t.line (ToCount c) (look t.line (value e)))
  let_count_runs t c e = record {
    by = λ p cells frames w high has in_.
        let ce : List Placed = operand_code t e in
        let last : List Placed = count_code (after t e) c (operand t e) in
        let end : p + length ce + 2 ≡ p + length (ce ++ last) = omega (arith, length-append ce last) in
        one_join code n t e (evaluates code n t e) last (λ o w'. at (p + length (ce ++ last)) cells frames w') (write t.line (InCount c)) p cells frames w high has in_ (λ v found has'.
        subst (λ j. Reaches code (at (p + length ce) (held (leaf e) v cells) frames w) (arrive (λ o w'. at j cells frames w') frames (write t.line (InCount c) v w))) end
        (count_run code (after t e) c (operand t e) v (p + length ce) (held (leaf e) v cells) cells frames w (λ go. reads t e v w.store cells go high found) has'));
  }

  let_variable_runs : (t : Site) (x : Variable) (e : Expression) → Runs code n (height t) same (let_code t (ToVariable x) e) done (give_to t.line (ToVariable x) (look t.line (value e)))
  let_variable_runs t x e = by (is_kept t x)
    where
      by : (b : Bool) → Runs code n (height t) same (if b then with_operand t e (λ y. i.Keep y x) else expression_code t (i.Into x) e) done (λ w. outcome_then (look t.line (value e) w) (write t.line (InVariable x)))
      by true =
          read_runs code n t e (evaluates code n t e) (λ y. i.Keep y x) done (λ p cells0 frames s v below. did t.line (assigned_variable x v s) (λ u. onward below (core_at p cells0 frames s) u)) (write t.line (InVariable x)) (λ y. refl) (λ y p cells frames s. refl) (λ v p cells cells0 frames w high.
          did_leads code t.line (assigned_variable x v w.store) (λ u. onward cells (core_at p cells0 frames w.store) u) w (λ o w'. at (p + 1) cells frames w') frames settle (λ u done_. onwards here))
      by false = record {
        by = λ p cells frames w high has in_.
            written_goal (at p cells frames w) (λ w'. at (p + length (expression_code t (i.Into x) e)) cells frames w') frames (look t.line (value e) w) (write t.line (InVariable x)) ((leaves code n t (i.Into x) tt e).by p cells frames w high has in_);
      }

  pub let_runs : (t : Site) (p : Place) (e : Expression) → Runs code n (height t) same (let_code t p e) done (give_to t.line p (look t.line (value e)))
  let_runs t (ToVariable x) e = let_variable_runs t x e
  let_runs t (ToAttribute class field r) e = let_attribute_runs code n t class field r e
  let_runs t (ToCount c) e = let_count_runs t c e

  -- ## ADD and SUBTRACT

  -- a value is added to what a variable holds, or subtracted
  abbrev sum_part : (t : Site) → Sign → Variable → Expression → Part Value
  sum_part t sign x e w = outcome_then (look t.line (value e) w) (λ y. look t.line (λ s. if_ok (sure (fetched x s)) (λ v. calculated (operator_of sign) v y)))

  sum_runs : (t : Site) (sign : Sign) (x : Variable) (e : Expression) (to : To) → Tops to (height t) → Runs code n (height t) same (with_operand t e (λ y. i.Calculate (operator_of sign) (Held x) y to)) (on to) (λ w. outcome_then (sum_part t sign x e w) (put_then t.line to))
  sum_runs t sign x e to tops =
      alike code n (height t) (λ w. sym (then_then (look t.line (value e) w) (λ y. look t.line (λ s. if_ok (sure (fetched x s)) (λ v. calculated (operator_of sign) v y))) (put_then t.line to)))
      (read_runs code n t e (evaluates code n t e) (λ y. i.Calculate (operator_of sign) (Held x) y to) (on to) (λ p cells0 frames s u above. with_operand_value (Held x) s above (λ v below. deliver t.line to (calculated (operator_of sign) v u) below (core_at p cells0 frames s))) (λ y w. outcome_then (look t.line (λ s. if_ok (sure (fetched x s)) (λ v. calculated (operator_of sign) v y)) w) (put_then t.line to)) (λ y. refl) (λ y p cells frames s. refl) (λ y p cells cells0 frames w high.
      sum_leads (fetched x w.store) y p cells cells0 frames w (subst (Tops to) (sym high) tops)))
    where
      sum_leads : (o : Option Value) (y : Value) (p : ℕ) (cells cells0 : List Value) (frames : List Frame) (w : RunState) → Tops to (length cells) → Leads code w (deliver t.line to (calculated (operator_of sign) (or_zero o) y) cells (core_at p cells0 frames w.store)) (arrive (λ v w'. at (p + 1) (on to v cells) frames w') frames (outcome_then (looked t.line (if_ok (sure o) (λ v. calculated (operator_of sign) v y)) w) (put_then t.line to)))
      sum_leads None y p cells cells0 frames w h = whatever
      sum_leads (Some v) y p cells cells0 frames w h = computes code t.line to (calculated (operator_of sign) v y) p cells cells0 frames w h

  change_count_runs : (t : Site) (sign : Sign) (c : CountedClass) (e : Expression) → Runs code n (height t) same (change_code t sign (ToCount c) e) done (change_by t.line sign (ToCount c) e)
  change_count_runs t sign c e =
      alike code n (height t) (λ w. then_then (look t.line (value e) w) (λ y. look t.line (λ s. if_ok (sure (fetched (Global c.variable) s)) (λ v. calculated (operator_of sign) v y))) (write t.line (InCount c)))
      (seq code n (height t) {mid = put_on} (alike code n (height t) (λ w. went (sum_part t sign (Global c.variable) e w)) (sum_runs t sign (Global c.variable) e (next t) refl)) (λ v. count_taken code n t Integer c v))

  pub change_runs_at : (t : Site) (sign : Sign) (p : Place) (e : Expression) → Runs code n (height t) same (change_code t sign p e) done (change_by t.line sign p e)
  change_runs_at t sign (ToVariable x) e =
      alike code n (height t) (λ w. then_then (look t.line (value e) w) (λ y. look t.line (λ s. if_ok (sure (fetched x s)) (λ v. calculated (operator_of sign) v y))) (write t.line (InVariable x)))
      (variable_runs code n t x (λ to. with_operand t e (λ y. i.Calculate (operator_of sign) (Held x) y to)) (sum_part t sign x e) (λ to tops. sum_runs t sign x e to tops))
  change_runs_at t sign (ToAttribute class field r) e = change_attribute_runs code n t sign class field r e
  change_runs_at t sign (ToCount c) e = change_count_runs t sign c e
