-- The code of a time, of values and then a time, and of a reference that is looked at: what SCHEDULE begins with.
use Rattle.std.proofs.Common.{◌≡◌, ℕ, ◌+◌, false, true, List, ◌∷◌, ◌++◌, length, Ok, Err, ℤ, refl, subst}
use Rattle.std.specs.Prelude.{Result as OkOr}
use Rattle.ss_code_instructions.proofs.Common.{act, after_values, At, Code, core_at, deliver, entity, entity_code, entity_value, Expression, Fails, Failure, Frame, height, In, Instruction, is_due, leaf, look, looked, MachineState, next, Now, Operand, outcome_then, Part, place, Placed, RunState, Site, Store, time_value, turned, TypeError, Value, value, values, values_code, When, when_code, Whole, with_operand, with_operand_value}
use Rattle.ss_meaning.specs.Events.{AtTime, Later, time_at, Moment}
use Rattle.ss_code_instructions.specs.Instructions as i
use Rattle.ss_code_instructions.proofs.Keeping.{Only}
use Rattle.ss_code_instructions.proofs.Steps.{HasAt, has_front, has_back, Reaches, at, arrive}
use Rattle.ss_code_instructions.proofs.Parts.{Within, Leads, breaks, whatever, step_leads, Runs, same, onto, alike, looks_then}
use Rattle.ss_code_instructions.proofs.Operands.{computes, held, read_runs, join_look}
use Rattle.ss_code_instructions.proofs.Expressions.{evaluates}
use Rattle.ss_code_instructions.proofs.Members.{looked_join}
use Rattle.ss_code_instructions.proofs.Giving.{values_run}
use Rattle.ss_code_instructions.proofs.Stacked.{values_many, stacked_high}

-- a time in a new cell
abbrev pub put_time : ℤ → List Value → List Value
put_time z cells = Whole z ∷ cells

module _ (code : Code) (n : ℕ) where
  -- a number that an instruction leaves in a new cell
  number_leads : (t : Site) (r : OkOr ℤ Failure) (p : ℕ) (cells cells0 : List Value) (frames : List Frame) (w : RunState) → length cells ≡ height t → Leads code w (deliver t.line (next t) (turned Whole r) cells (core_at p cells0 frames w.store)) (arrive (λ z w'. at (p + 1) (put_time z cells) frames w') frames (looked t.line r w))
  number_leads t (Ok z) p cells cells0 frames w high = computes code t.line (next t) (Ok (Whole z)) p cells cells0 frames w high
  number_leads t (Err (Fails kind)) p cells cells0 frames w high = breaks
  number_leads t (Err TypeError) p cells cells0 frames w high = whatever

  -- ## A time

  -- by an operand
  moment_runs : (t : Site) (e : Expression) (make : Operand → Instruction) (moment : Value → Moment) → ((x : Operand) → is_due (make x) ≡ false) → ((x : Operand) (p : ℕ) (cells : List Value) (frames : List Frame) (s : Store) → act code t.line (make x) (core_at p cells frames s) ≡ with_operand_value x s cells (λ v below. deliver t.line (next t) (turned Whole (time_at (moment v) s)) below (core_at p cells frames s))) → Runs code n (height t) same (with_operand t e make) put_time (λ w. outcome_then (look t.line (value e) w) (λ v. look t.line (time_at (moment v))))
  moment_runs t e make moment calm acts =
      read_runs code n t e (evaluates code n t e) make put_time (λ p cells0 frames s v below. deliver t.line (next t) (turned Whole (time_at (moment v) s)) below (core_at p cells0 frames s)) (λ v. look t.line (time_at (moment v))) calm acts (λ v p cells cells0 frames w high.
      number_leads t (time_at (moment v) w.store) p cells cells0 frames w high)

  pub when_runs : (t : Site) (when : When) → Runs code n (height t) same (when_code t when) put_time (look t.line (time_value when))
  when_runs t (At e) =
      alike code n (height t) (λ w. looks_then t.line (value e w.store) (λ v. time_at (AtTime v)) w) (moment_runs t e (λ x. i.At x (next t)) AtTime (λ x. refl) (λ x p cells frames s. refl))
  when_runs t (In e) =
      alike code n (height t) (λ w. looks_then t.line (value e w.store) (λ v. time_at (Later v)) w) (moment_runs t e (λ x. i.In x (next t)) Later (λ x. refl) (λ x p cells frames s. refl))
  when_runs t Now = record {
    by = λ p cells frames w high has in_.
        step_leads code (place t (i.Clock (next t))) (core_at p cells frames w.store) w _ _ has.0 refl refl
        (number_leads t (Ok w.store.world.time) p cells cells frames w high);
  }

  -- ## Values, and then a time

  -- and what follows: the time is in the topmost cell, above the values
  pub given_join : {B : Type 0} (t : Site) (given : List Expression) (when : When) (rest : List Placed) (k : B → RunState → MachineState) (go : List Value → ℤ → Part B) (p : ℕ) (cells : List Value) (frames : List Frame) (w : RunState) → length cells ≡ height t → HasAt code.places p (values_code t given ++ (when_code (after_values t given) when ++ rest)) → Within code n w → ((vs : List Value) (time : ℤ) → length given ≡ length vs → HasAt code.places (p + length (values_code t given) + length (when_code (after_values t given) when)) rest → Reaches code (at (p + length (values_code t given) + length (when_code (after_values t given) when)) (Whole time ∷ onto vs cells) frames w) (arrive k frames (go vs time w))) → Reaches code (at p cells frames w) (arrive k frames (outcome_then (look t.line (values given) w) (λ vs w. outcome_then (look t.line (time_value when) w) (go vs))))
  given_join t given when rest k go p cells frames w high has in_ f =
      let cv : List Placed = values_code t given in
      let u : Site = after_values t given in
      let cw : List Placed = when_code u when in
      let h0 = has_front code.places p cv (cw ++ rest) has in
      let h1 = has_back code.places p cv (cw ++ rest) has in
      join_look (at p cells frames w) (λ vs w'. at (p + length cv) (onto vs cells) frames w') k frames t.line (values given w.store) w (λ vs w. outcome_then (look t.line (time_value when) w) (go vs))
      ((values_run code n t given).by p cells frames w high h0 in_)
      (λ vs found.
      let many : length given ≡ length vs = subst (Only (λ (us : List Value). length given ≡ length us)) found (values_many given w.store) in
      join_look (at (p + length cv) (onto vs cells) frames w) (λ z w'. at (p + length cv + length cw) (put_time z (onto vs cells)) frames w') k frames t.line (time_value when w.store) w (go vs)
      ((when_runs u when).by (p + length cv) (onto vs cells) frames w (stacked_high t given vs cells many high) (has_front code.places (p + length cv) cw rest h1) in_)
      (λ time found_time. f vs time many (has_back code.places (p + length cv) cw rest h1)))

  -- ## A reference to an entity of a class, which is looked at, and what follows

  pub entity_join : {B : Type 0} (t : Site) (class : ℕ) (e : Expression) (rest : List Placed) (k : B → RunState → MachineState) (go : Value → Part B) (p : ℕ) (cells : List Value) (frames : List Frame) (w : RunState) → length cells ≡ height t → HasAt code.places p (entity_code t true class e ++ rest) → Within code n w → ((v : Value) → value e w.store ≡ Ok v → HasAt code.places (p + length (entity_code t true class e)) rest → Reaches code (at (p + length (entity_code t true class e)) (held (leaf e) v cells) frames w) (arrive k frames (go v w))) → Reaches code (at p cells frames w) (arrive k frames (outcome_then (look t.line (entity_value class e) w) go))
  entity_join t class e rest k go p cells frames w high has in_ f =
      looked_join code n t e (i.LookEntity class) (entity class) (λ x. refl) (λ x p cells frames s. refl) rest k go p cells frames w high has in_ f
