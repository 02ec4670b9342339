-- A variable takes the value that some code leaves at a target, and what follows may read it there.
use Rattle.std.proofs.Common.{◌≡◌, ℕ, zero, suc, ◌+◌, Bool, true, false, List, [], ◌∷◌, ◌++◌, length, Some, Ok, Err, pos, refl, sym, subst, arith, length-append}
use Rattle.std.specs.Prelude.{slice_get, Result as OkOr, if◌then◌else◌}
use Rattle.ss_code_instructions.proofs.Common.{above, all_noting, assigned_variable, Code, core_at, did, Fails, Failure, fetched, Frame, Global, height, Integer, Into, InVariable, is_kept, Left, Local, looked, MachineState, mode_of, next, noted, OfVariable, onward, Outcome, outcome_then, Part, place, Placed, put, put_at, RunState, same_mode, settle, Site, Store, Target, TypeError, Value, Variable, variable_code, WentOn, with_histories, write}
use Rattle.ss_code_instructions.specs.Instructions as i
use Rattle.ss_code_instructions.proofs.Keeping.{Only, then_only, made, made_from}
use Rattle.ss_code_instructions.proofs.Steps.{HasAt, has_front, has_back, Reaches, free, reaches_on, at, arrive, join}
use Rattle.ss_code_instructions.proofs.Parts.{onwards, step_leads, at_the_height, went}
use Rattle.ss_code_instructions.proofs.Operands.{on, Tops, put_then}
use Rattle.ss_code_instructions.proofs.Assigning.{change_leads}

-- ## A variable holds what it was assigned

put_at_holds : (vs : List Value) (k : ℕ) (v : Value) → Only (λ (us : List Value). slice_get us k ≡ Some v) (put_at vs k v)
put_at_holds [] k v = tt
put_at_holds (old ∷ vs) zero v = by (same_mode (mode_of v) (mode_of old))
  where
    by : (b : Bool) → Only (λ (us : List Value). slice_get us 0 ≡ Some v) (if b then Ok (v ∷ vs) else Err TypeError)
    by true = refl
    by false = tt
put_at_holds (old ∷ vs) (suc k) v =
    made_from (λ (us : List Value). slice_get us (suc k) ≡ Some v) (λ (us : List Value). slice_get us k ≡ Some v) (λ rest. old ∷ rest) (put_at vs k v) (put_at_holds vs k v) (λ us q. q)

pub assigned_holds : (x : Variable) (v : Value) (s : Store) → Only (λ (t : Store). fetched x t ≡ Some v) (assigned_variable x v s)
assigned_holds (Local k) v s =
    made_from (λ (t : Store). slice_get t.locals k ≡ Some v) (λ (us : List Value). slice_get us k ≡ Some v) (λ us. record s { locals = us }) (put_at s.locals k v) (put_at_holds s.locals k v) (λ us q. q)
assigned_holds (Global k) v s =
    then_only (λ (t : Store). slice_get t.globals k ≡ Some v) (λ (t : Store). slice_get t.globals k ≡ Some v) (put (Global k) v s) (noted (OfVariable k) (pos 0) v)
    (made_from (λ (t : Store). slice_get t.globals k ≡ Some v) (λ (us : List Value). slice_get us k ≡ Some v) (λ us. record s { globals = us }) (put_at s.globals k v) (put_at_holds s.globals k v) (λ us q. q))
    (λ t q. made (λ (u : Store). slice_get u.globals k ≡ Some v) (with_histories t) (all_noting (OfVariable k) (pos 0) t.world.time v t.world.setting.statistics t.world.histories) (λ hs. q))

-- ## The code of the assignment, and what follows

module _ (code : Code) (u : Site) (x : Variable) where
  -- a part whose value was written to the variable at once
  written_join : {B : Type 0} (s : MachineState) (k0 : RunState → MachineState) (k : B → RunState → MachineState) (frames : List Frame) (o : Outcome Value) (go : Value → Part B) → Reaches code s (arrive (λ (v : Value). k0) frames (outcome_then o (put_then u.line (Into x)))) → ((v : Value) (w : RunState) → fetched x w.store ≡ Some v → Reaches code (k0 w) (arrive k frames (go v w))) → Reaches code s (arrive k frames (outcome_then o (λ v w. outcome_then (write u.line (InVariable x) v w) (λ _. go v))))
  written_join s k0 k frames (Left e w) go g h = g
  written_join s k0 k frames (WentOn v w) go g h = by (assigned_variable x v w.store) (assigned_holds x v w.store) g
    where
      by : (r : OkOr Store Failure) → Only (λ (t : Store). fetched x t ≡ Some v) r → Reaches code s (arrive (λ (v : Value). k0) frames (outcome_then (outcome_then (looked u.line r w) settle) (λ _. WentOn v))) → Reaches code s (arrive k frames (outcome_then (outcome_then (looked u.line r w) settle) (λ _. go v)))
      by (Ok t) holds_ g = reaches_on g (h v (record w { store = t }) holds_)
      by (Err (Fails kind)) holds_ g = g
      by (Err TypeError) holds_ g = free

  -- a value in the topmost cell is kept in the variable
  kept_join : {B : Type 0} (q to : ℕ) (v : Value) (cells : List Value) (frames : List Frame) (w : RunState) (k : B → RunState → MachineState) (go : Part B) → length cells ≡ height u → q + 1 ≡ to → slice_get code.places q ≡ Some (place (above u Integer) (i.Keep (i.Taken (height u)) x)) → ((w' : RunState) → fetched x w'.store ≡ Some v → Reaches code (at to cells frames w') (arrive k frames (go w'))) → Reaches code (at q (v ∷ cells) frames w) (arrive k frames (outcome_then (write u.line (InVariable x) v w) (λ _. go)))
  kept_join q to v cells frames w k go high e has h =
      step_leads code (place (above u Integer) (i.Keep (i.Taken (height u)) x)) (core_at q (v ∷ cells) frames w.store) w _ _ has refl
      (at_the_height (height u) cells (did u.line (assigned_variable x v w.store) (λ s. onward cells (core_at q (v ∷ cells) frames w.store) s)) high)
      (change_leads code u.line (assigned_variable x v w.store) (λ s. onward cells (core_at q (v ∷ cells) frames w.store) s) w k frames (λ _. go) (λ s known.
      onwards (subst (λ j. Reaches code (at j cells frames (record w { store = s })) (arrive k frames (go (record w { store = s })))) (sym e)
      (h (record w { store = s }) (subst (Only (λ (t : Store). fetched x t ≡ Some v)) known (assigned_holds x v w.store))))))

  -- What the code finds may be other cells than those that it leaves.
  pub variable_join : {B : Type 0} (source : Target → List Placed) (rest : List Placed) (m : RunState → Outcome Value) (k : B → RunState → MachineState) (go : Value → Part B) (p : ℕ) (cells0 cells : List Value) (frames : List Frame) (w : RunState) → length cells ≡ height u → HasAt code.places p (variable_code u x source ++ rest) → ((to : Target) → Tops to (height u) → HasAt code.places p (source to) → Reaches code (at p cells0 frames w) (arrive (λ v w'. at (p + length (source to)) (on to v cells) frames w') frames (outcome_then (m w) (put_then u.line to)))) → ((v : Value) (w' : RunState) → fetched x w'.store ≡ Some v → HasAt code.places (p + length (variable_code u x source)) rest → Reaches code (at (p + length (variable_code u x source)) cells frames w') (arrive k frames (go v w'))) → Reaches code (at p cells0 frames w) (arrive k frames (outcome_then (m w) (λ v w. outcome_then (write u.line (InVariable x) v w) (λ _. go v))))
  variable_join {B} source rest m k go p cells0 cells frames w high has runs next_ = by (is_kept u x) has next_
    where
      keep : Placed
      keep = place (above u Integer) (i.Keep (i.Taken (height u)) x)

      by : (b : Bool) → HasAt code.places p ((if b then source (next u) ++ keep ∷ [] else source (Into x)) ++ rest) → ((v : Value) (w' : RunState) → fetched x w'.store ≡ Some v → HasAt code.places (p + length (if b then source (next u) ++ keep ∷ [] else source (Into x))) rest → Reaches code (at (p + length (if b then source (next u) ++ keep ∷ [] else source (Into x))) cells frames w') (arrive k frames (go v w'))) → Reaches code (at p cells0 frames w) (arrive k frames (outcome_then (m w) (λ v w. outcome_then (write u.line (InVariable x) v w) (λ _. go v))))
      by true has next_ =
          let c : List Placed = source (next u) in
          let h0 = has_front code.places p (c ++ keep ∷ []) rest has in
          let h1 = has_back code.places p (c ++ keep ∷ []) rest has in
          let end : p + length c + 1 ≡ p + length (c ++ keep ∷ []) = omega (arith, length-append c (keep ∷ [])) in
          join (at p cells0 frames w) (λ v w'. at (p + length c) (v ∷ cells) frames w') k frames (m w) (λ v w. outcome_then (write u.line (InVariable x) v w) (λ _. go v))
          (subst (λ o. Reaches code (at p cells0 frames w) (arrive (λ v w'. at (p + length c) (v ∷ cells) frames w') frames o)) (went (m w))
          (runs (next u) refl (has_front code.places p c (keep ∷ []) h0)))
          (λ v w' kept_.
          kept_join (p + length c) (p + length (c ++ keep ∷ [])) v cells frames w' k (go v) high end (has_back code.places p c (keep ∷ []) h0).0 (λ w'' holds_. next_ v w'' holds_ h1))
      by false has next_ =
          let c : List Placed = source (Into x) in
          let h0 = has_front code.places p c rest has in
          let h1 = has_back code.places p c rest has in
          written_join (at p cells0 frames w) (λ w'. at (p + length c) cells frames w') k frames (m w) go
          (runs (Into x) tt h0)
          (λ v w' holds_. next_ v w' holds_ h1)
