-- Statements of one operand and one instruction: DESTROY, CANCEL, SKIP; and CREATE EVERY and RESET.
use Rattle.std.proofs.Common.{◌≡◌, ℕ, ◌+◌, false, List, [], ◌∷◌, ◌++◌, Option, Err, refl}
use Rattle.std.specs.Prelude.{Result as OkOr}
use Rattle.ss_code_instructions.proofs.Common.{act, after_bearer, bearer, bearer_code, change, Code, core_at, CountedClass, creates_code, did, empty_lines, Expression, Fails, Failure, Frame, height, if_ok, Instruction, is_due, look, looked, made_all, onward, Operand, outcome_then, place, reset, Restart, restarts_code, RunState, send, Sends, settle, Site, Store, unscheduled, Value, value, value_if_any, with_operand, with_operand_value, without}
use Rattle.ss_meaning.specs.Statements.{create_every, destroy, cancel, restart_each}
use Rattle.ss_code_instructions.specs.Instructions as i
use Rattle.ss_code_instructions.proofs.Steps.{here, at}
use Rattle.ss_code_instructions.proofs.Parts.{onwards, writes, did_leads, Runs, same, done, at_end, alike, none, seq, change_runs}
use Rattle.ss_code_instructions.proofs.Operands.{read_runs}
use Rattle.ss_code_instructions.proofs.Expressions.{evaluates}
use Rattle.ss_code_instructions.proofs.Looking.{bearer_lands}

module _ (code : Code) (n : ℕ) where
  -- an operand, and an instruction that changes the store by it
  one_changes : (t : Site) (e : Expression) (make : Operand → Instruction) (f : Value → Store → OkOr Store Failure) → ((x : Operand) → is_due (make x) ≡ false) → ((x : Operand) (p : ℕ) (cells : List Value) (frames : List Frame) (s : Store) → act code t.line (make x) (core_at p cells frames s) ≡ with_operand_value x s cells (λ v below. did t.line (f v s) (λ u. onward below (core_at p cells frames s) u))) → Runs code n (height t) same (with_operand t e make) done (λ w. outcome_then (look t.line (value e) w) (λ v. change t.line (f v)))
  one_changes t e make f calm acts =
      read_runs code n t e (evaluates code n t e) make done (λ p cells0 frames s v below. did t.line (f v s) (λ u. onward below (core_at p cells0 frames s) u)) (λ v. change t.line (f v)) calm acts (λ v p cells cells0 frames w high.
      did_leads code t.line (f v w.store) (λ u. onward cells (core_at p cells0 frames w.store) u) w (λ o w'. at (p + 1) cells frames w') frames settle (λ u done_. onwards here))

  pub destroy_runs : (t : Site) (class : ℕ) (e : Expression) → Runs code n (height t) same (with_operand t e (i.Destroy class)) done (destroy t.line class e)
  destroy_runs t class e = one_changes t e (i.Destroy class) (without class) (λ x. refl) (λ x p cells frames s. refl)

  pub cancel_runs : (t : Site) (class : ℕ) (e : Expression) → Runs code n (height t) same (with_operand t e (i.Cancel class)) done (cancel t.line class e)
  cancel_runs t class e = one_changes t e (i.Cancel class) (unscheduled class) (λ x. refl) (λ x p cells frames s. refl)

  -- empty lines are written
  pub skip_runs : (t : Site) (e : Expression) → Runs code n (height t) same (with_operand t e i.Skip) done (λ w. outcome_then (look t.line (λ s. if_ok (value e s) empty_lines) w) send)
  skip_runs t e =
      alike code n (height t) (λ w. lines_then (value e w.store) w)
      (read_runs code n t e (evaluates code n t e) i.Skip done (λ p cells0 frames s v below. did t.line (empty_lines v) (λ bytes. Sends bytes (core_at (p + 1) below frames s))) (λ v w. outcome_then (looked t.line (empty_lines v) w) send) (λ x. refl) (λ x p cells frames s. refl) (λ v p cells cells0 frames w high.
      did_leads code t.line (empty_lines v) (λ bytes. Sends bytes (core_at (p + 1) cells frames w.store)) w (λ o w'. at (p + 1) cells frames w') frames send (λ bytes done_. writes here)))
    where
      lines_then : (r : OkOr Value Failure) (w : RunState) → outcome_then (looked t.line r w) (λ v w. outcome_then (looked t.line (empty_lines v) w) send) ≡ outcome_then (looked t.line (if_ok r empty_lines) w) send
      lines_then (Err (Fails kind)) w = refl
      lines_then _ w = refl

  pub creates_run : (t : Site) (cs : List CountedClass) → Runs code n (height t) same (creates_code t cs) done (create_every t.line cs)
  creates_run t [] = none code n (height t) tt
  creates_run t (c ∷ cs) =
      seq code n (height t) {mid = λ v cells. cells}
      (change_runs code n (height t) (place t (i.CreateAll c)) same done (made_all c) refl (λ p cells frames s h. refl))
      (λ _. creates_run t cs)

  -- a statistic starts afresh
  restart_runs : (t : Site) (j : ℕ) (o : Option Expression) → Runs code n (height t) same (bearer_code t o ++ place (after_bearer t o) (i.Reset j (bearer t o)) ∷ []) done (λ w. outcome_then (look t.line (value_if_any o) w) (λ x. change t.line (reset j x)))
  restart_runs t j o =
      bearer_lands code n t o (i.Reset j) at_end done (λ p cells0 frames s x below. did t.line (reset j x s) (λ u. onward below (core_at p cells0 frames s) u)) (λ x. change t.line (reset j x)) (λ x. refl) (λ x p cells frames s. refl) (λ x p cells cells0 frames w high.
      did_leads code t.line (reset j x w.store) (λ u. onward cells (core_at p cells0 frames w.store) u) w (λ u w'. at (p + 1) cells frames w') frames settle (λ u done_. onwards here))

  pub restarts_run : (t : Site) (rs : List Restart) → Runs code n (height t) same (restarts_code t rs) done (restart_each t.line rs)
  restarts_run t [] = none code n (height t) tt
  restarts_run t (r ∷ rs) = seq code n (height t) {mid = λ v cells. cells} (restart_runs t r.statistic r.of) (λ _. restarts_run t rs)
