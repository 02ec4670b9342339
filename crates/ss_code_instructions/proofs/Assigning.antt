-- The code of assignments to variables, and to N. of a permanent class.
use Rattle.std.proofs.Common.{◌≡◌, ℕ, ◌+◌, Bool, true, false, List, [], ◌∷◌, ◌++◌, length, Some, Ok, Err, refl, subst, arith}
use Rattle.std.specs.Prelude.{Result as OkOr, slice_get, if◌then◌else◌}
use Rattle.ss_code_instructions.proofs.Common.{above, assignable_count, assigned_variable, assignment, class_at, Code, core_at, count_code, CountedClass, CreatedTwice, deliver, did, Fails, Failure, Frame, Global, height, InCount, Integer, Into, InVariable, is_kept, is_made, is_permanent, Left, Line, looked, MachineState, Mode, Moved, next, onward, Operand, Outcome, outcome_then, Part, place, Placed, RunState, settle, Site, Store, Target, turned, TypeError, unless_fault, Value, Variable, variable_code, WentOn, where_fit, with_operand_value, write, Written}
use Rattle.ss_code_instructions.specs.Instructions as i
use Rattle.ss_code_instructions.proofs.Steps.{HasAt, Reaches, here, at, arrive}
use Rattle.ss_code_instructions.proofs.Parts.{Leads, onwards, breaks, whatever, step_leads, did_leads, at_the_height, Runs, same, done, put_on, went, seq, alike, change_runs}
use Rattle.ss_code_instructions.proofs.Operands.{on, Tops, put_then}

-- a part whose value is written, and then is no longer needed
pub written_goal : {code : Code} (s : MachineState) (k : RunState → MachineState) (frames : List Frame) (o : Outcome Value) (f : Value → Part (Unit {0})) → Reaches code s (arrive (λ v. k) frames (outcome_then o (λ v w. outcome_then (f v w) (λ _. WentOn v)))) → Reaches code s (arrive (λ u. k) frames (outcome_then o f))
written_goal s k frames (Left e w) f r = r
written_goal {code} s k frames (WentOn v w) f r = by (f v w) r
  where
    by : (q : Outcome (Unit {0})) → Reaches code s (arrive (λ (v : Value). k) frames (outcome_then q (λ _. WentOn v))) → Reaches code s (arrive (λ u. k) frames q)
    by (WentOn u w) r = r
    by (Left e w) r = r

module _ (code : Code) where
  -- an instruction that changes the store, and what follows
  pub change_leads : {B : Type 0} (l : Line) (r : OkOr Store Failure) (go : Store → Moved) (w : RunState) (k : B → RunState → MachineState) (frames : List Frame) (f : Unit {0} → Part B) → ((s : Store) → r ≡ Ok s → Leads code w (go s) (arrive k frames (f tt (record w { store = s })))) → Leads code w (did l r go) (arrive k frames (outcome_then (outcome_then (looked l r w) settle) f))
  change_leads l (Ok s) go w k frames f h = h s refl
  change_leads l (Err (Fails kind)) go w k frames f h = breaks
  change_leads l (Err TypeError) go w k frames f h = whatever

  -- an operand goes to a variable
  pub assigns : (u : Site) (x : Variable) (from : Operand) (v : Value) (q : ℕ) (cells0 cells : List Value) (frames : List Frame) (w : RunState) → ((go : Value → List Value → Moved) → with_operand_value from w.store cells0 go ≡ go v cells) → slice_get code.places q ≡ Some (place u (assignment u x from)) → Reaches code (at q cells0 frames w) (arrive (λ o w'. at (q + 1) cells frames w') frames (write u.line (InVariable x) v w))
  assigns u x from v q cells0 cells frames w reads has = by (is_kept u x) has
    where
      moved : (r : OkOr Store Failure) → Leads code w (did {A = Written} u.line (turned (λ t. record { cells = cells; store = t }) r) (λ b. onward b.cells (core_at q cells0 frames w.store) b.store)) (arrive (λ o w'. at (q + 1) cells frames w') frames (outcome_then (looked u.line r w) settle))
      moved (Ok t) = onwards here
      moved (Err (Fails kind)) = breaks
      moved (Err TypeError) = whatever

      by : (b : Bool) → slice_get code.places q ≡ Some (place u (if b then i.Keep from x else i.Move from (Into x))) → Reaches code (at q cells0 frames w) (arrive (λ o w'. at (q + 1) cells frames w') frames (write u.line (InVariable x) v w))
      by true has =
          step_leads code (place u (i.Keep from x)) (core_at q cells0 frames w.store) w _ _ has refl
          (reads (λ v below. did u.line (assigned_variable x v w.store) (λ s. onward below (core_at q cells0 frames w.store) s)))
          (did_leads code u.line (assigned_variable x v w.store) (λ s. onward cells (core_at q cells0 frames w.store) s) w (λ o w'. at (q + 1) cells frames w') frames settle (λ s done_. onwards here))
      by false has =
          step_leads code (place u (i.Move from (Into x))) (core_at q cells0 frames w.store) w _ _ has refl
          (reads (λ v below. deliver u.line (Into x) (Ok v) below (core_at q cells0 frames w.store)))
          (moved (assigned_variable x v w.store))

  -- an operand goes to N. of a permanent class
  pub count_run : (u : Site) (c : CountedClass) (from : Operand) (v : Value) (q : ℕ) (cells0 cells : List Value) (frames : List Frame) (w : RunState) → ((go : Value → List Value → Moved) → with_operand_value from w.store cells0 go ≡ go v cells) → HasAt code.places q (count_code u c from) → Reaches code (at q cells0 frames w) (arrive (λ o w'. at (q + 2) cells frames w') frames (write u.line (InCount c) v w))
  count_run u c from v q cells0 cells frames w reads has =
      step_leads code (place u (i.LookCount c.class)) (core_at q cells0 frames w.store) w _ _ has.0 refl refl
      (subst (λ o. Leads code w (did u.line (assignable_count c.class w.store) (λ _. onward cells0 (core_at q cells0 frames w.store) w.store)) (arrive ends frames o)) (after_look (is_permanent (class_at c.class w.store)) (is_made w.store.world.heap c.class))
      (did_leads code u.line (assignable_count c.class w.store) (λ _. onward cells0 (core_at q cells0 frames w.store) w.store) w ends frames (λ _. write u.line (InVariable (Global c.variable)) v) (λ a r.
      onwards
      (subst (λ j. Reaches code (at (q + 1) cells0 frames w) (arrive (λ o w'. at j cells frames w') frames (write u.line (InVariable (Global c.variable)) v w))) two
      (assigns u (Global c.variable) from v (q + 1) cells0 cells frames w reads has.1.0)))))
    where
      ends : Unit {0} → RunState → MachineState
      ends o w' = at (q + 2) cells frames w'

      two : q + 1 + 1 ≡ q + 2
      two = omega arith

      after_look : (p m : Bool) → outcome_then (looked u.line (where_fit p (unless_fault m CreatedTwice (Ok tt))) w) (λ (_ : Unit {0}). write u.line (InVariable (Global c.variable)) v) ≡ outcome_then (looked u.line (where_fit p (unless_fault m CreatedTwice (assigned_variable (Global c.variable) v w.store))) w) settle
      after_look false m = refl
      after_look true true = refl
      after_look true false = refl

module _ (code : Code) (n : ℕ) where
  -- N. of a permanent class takes the value in the topmost cell
  pub count_taken : (t : Site) (mode : Mode) (c : CountedClass) (v : Value) → Runs code n (height t) (put_on v) (count_code (above t mode) c (i.Taken (height t))) done (write t.line (InCount c) v)
  count_taken t mode c v = record {
    by = λ p cells frames w high has in_.
        count_run code (above t mode) c (i.Taken (height t)) v p (v ∷ cells) cells frames w (λ go. at_the_height (height t) cells (go v cells) high) has;
  }

  -- a variable takes the value that some code leaves at a target
  pub variable_runs : (t : Site) (x : Variable) (source : Target → List Placed) (m : Part Value) → ((to : Target) → Tops to (height t) → Runs code n (height t) same (source to) (on to) (λ w. outcome_then (m w) (put_then t.line to))) → Runs code n (height t) same (variable_code t x source) done (λ w. outcome_then (m w) (write t.line (InVariable x)))
  variable_runs t x source m runs = by (is_kept t x)
    where
      kept : (v : Value) → Runs code n (height t) (put_on v) (place (above t Integer) (i.Keep (i.Taken (height t)) x) ∷ []) done (write t.line (InVariable x) v)
      kept v =
          change_runs code n (height t) (place (above t Integer) (i.Keep (i.Taken (height t)) x)) (put_on v) done (assigned_variable x v) refl (λ p cells frames s h.
          at_the_height (height t) cells (did t.line (assigned_variable x v s) (λ u. onward cells (core_at p (v ∷ cells) frames s) u)) h)

      by : (b : Bool) → Runs code n (height t) same (if b then source (next t) ++ place (above t Integer) (i.Keep (i.Taken (height t)) x) ∷ [] else source (Into x)) done (λ w. outcome_then (m w) (write t.line (InVariable x)))
      by true = seq code n (height t) {mid = put_on} (alike code n (height t) (λ w. went (m w)) (runs (next t) refl)) kept
      by false = record {
        by = λ p cells frames w high has in_.
            written_goal (at p cells frames w) (λ w'. at (p + length (source (Into x))) cells frames w') frames (m w) (write t.line (InVariable x)) ((runs (Into x) tt).by p cells frames w high has in_);
      }
