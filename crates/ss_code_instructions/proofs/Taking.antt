-- The code that takes an item of a loop or a member of a walk: a tick, and the assignment to the loop's variable.
use Rattle.std.proofs.Common.{◌≡◌, ℕ, suc, ◌+◌, ◌≤◌, Bool, true, false, List, [], ◌∷◌, length, Some, Ok, ℤ, refl, sym, ap, ◌∙◌, subst, arith}
use Rattle.std.specs.Prelude.{if◌then◌else◌}
use Rattle.ss_code_instructions.proofs.Common.{assigned_variable, cell_at, Code, core_at, did, fit, Frame, is_kept, Left, looked, MachineState, Moved, onward, outcome_then, OutOfTicks, Part, place, RunState, settle, Site, Stays, Store, take_code, take_tick, Turn, Value, Variable, visit, Whole}
use Rattle.ss_code_instructions.specs.Instructions as i
use Rattle.ss_code_instructions.proofs.Keeping.{Only, Same, lasts_so, suits_on, variable_same}
use Rattle.ss_code_instructions.proofs.Steps.{HasAt, Reaches, at, arrive}
use Rattle.ss_code_instructions.proofs.Parts.{Within, Leads, onwards, step_leads, ticked, tick_run, out_run, then_then}
use Rattle.ss_code_instructions.proofs.Assigning.{change_leads}

module _ (code : Code) (n : ℕ) where
  -- wherever it leads after that, the turn of the item goes on
  pub visit_run : {B : Type 0} (u : Site) (h : ℕ) (x : Variable) (item : ℤ) (m : Part Turn) (g : Turn → Part B) (f : Part B) (p : ℕ) (cells : List Value) (frames : List Frame) (w : RunState) (k : B → RunState → MachineState) → ((t : ℕ) → f (ticked t w) ≡ outcome_then (visit u.line x m item (ticked t w)) g) → cell_at h cells ≡ Some (Whole item) → HasAt code.places p (take_code u h x) → Within code n w → ((w' : RunState) → suc w'.ticks ≡ w.ticks → Within code n w' → Reaches code (at (p + length (take_code u h x)) cells frames w') (arrive k frames (outcome_then (m w') g))) → Reaches code (at p cells frames w) (arrive k frames (take_tick f w))
  visit_run {B} u h x item m g f p cells frames w k is lies has in_ next = by (is_kept u x) has next
    where
      -- the run state after the tick and the assignment
      after : ℕ → Store → RunState
      after t s = record (ticked t w) { store = s }

      within : (t : ℕ) (s : Store) → w.ticks ≡ suc t → assigned_variable x (Whole item) w.store ≡ Ok s → Within code n (after t s)
      within t s e q =
          let few : t ≤ n = omega (arith, e, in_.ticks) in
          let keeps : Same w.store s = subst (Only (Same w.store)) q (variable_same x (Whole item) w.store) in
          record { ticks = few; says = suits_on code w.store s (lasts_so w.store s keeps) in_.says }

      -- the assignment at a place, and what follows at the next
      assigned : (t p q : ℕ) (mv : Moved) → w.ticks ≡ suc t → p + 1 ≡ q → mv ≡ did u.line (assigned_variable x (Whole item) w.store) (λ s. onward cells (core_at p cells frames w.store) s) → ((w' : RunState) → suc w'.ticks ≡ w.ticks → Within code n w' → Reaches code (at q cells frames w') (arrive k frames (outcome_then (m w') g))) → Leads code (ticked t w) mv (arrive k frames (f (ticked t w)))
      assigned t p q mv e to acts next =
          subst (λ y. Leads code (ticked t w) y (arrive k frames (f (ticked t w)))) (sym acts)
          (subst (λ o. Leads code (ticked t w) (did u.line (assigned_variable x (Whole item) w.store) (λ s. onward cells (core_at p cells frames w.store) s)) (arrive k frames o)) (sym (is t ∙ then_then (outcome_then (looked u.line (assigned_variable x (Whole item) w.store) (ticked t w)) settle) (λ _. m) g))
          (change_leads code u.line (assigned_variable x (Whole item) w.store) (λ s. onward cells (core_at p cells frames w.store) s) (ticked t w) k frames (λ _ w. outcome_then (m w) g) (λ s q.
          onwards (subst (λ j. Reaches code (at j cells frames (after t s)) (arrive k frames (outcome_then (m (after t s)) g))) (sym to) (next (after t s) (sym e) (within t s e q))))))

      lying : (p : ℕ) → fit (cell_at h cells) (λ v. did u.line (assigned_variable x v w.store) (λ s. onward cells (core_at p cells frames w.store) s)) ≡ did u.line (assigned_variable x (Whole item) w.store) (λ s. onward cells (core_at p cells frames w.store) s)
      lying p = ap (λ o. fit o (λ v. did u.line (assigned_variable x v w.store) (λ s. onward cells (core_at p cells frames w.store) s))) lies

      by : (b : Bool) → HasAt code.places p (if b then place u i.Turn ∷ (place u (i.Keep (Stays h) x) ∷ []) else place u (i.Take h x) ∷ []) → ((w' : RunState) → suc w'.ticks ≡ w.ticks → Within code n w' → Reaches code (at (p + length (if b then place u i.Turn ∷ (place u (i.Keep (Stays h) x) ∷ []) else place u (i.Take h x) ∷ [])) cells frames w') (arrive k frames (outcome_then (m w') g))) → Reaches code (at p cells frames w) (arrive k frames (take_tick f w))
      by true has next =
          let two : p + 1 + 1 ≡ p + 2 = omega arith in
          tick_run code {A = B} (place u i.Turn) (core_at p cells frames w.store) frames w k f has.0 refl (λ t e.
          onwards (step_leads code (place u (i.Keep (Stays h) x)) (core_at (p + 1) cells frames w.store) (ticked t w) _ _ has.1.0 refl refl (assigned t (p + 1) (p + 2) _ e two (lying (p + 1)) next)))
      by false has next =
          tick_run code {A = B} (place u (i.Take h x)) (core_at p cells frames w.store) frames w k f has.0 refl (λ t e. assigned t p (p + 1) _ e refl (lying p) next)

  -- where no tick is left the machine pauses there
  pub visit_out : {B : Type 0} (u : Site) (h : ℕ) (x : Variable) (p : ℕ) (cells : List Value) (frames : List Frame) (w : RunState) (k : B → RunState → MachineState) → HasAt code.places p (take_code u h x) → w.ticks ≤ 0 → Reaches code (at p cells frames w) (arrive k frames (Left OutOfTicks w))
  visit_out {B} u h x p cells frames w k has le = by (is_kept u x) has
    where
      by : (b : Bool) → HasAt code.places p (if b then place u i.Turn ∷ (place u (i.Keep (Stays h) x) ∷ []) else place u (i.Take h x) ∷ []) → Reaches code (at p cells frames w) (arrive k frames (Left OutOfTicks w))
      by true has = out_run code {A = B} (place u i.Turn) (core_at p cells frames w.store) frames w k has.0 refl le
      by false has = out_run code {A = B} (place u (i.Take h x)) (core_at p cells frames w.store) frames w k has.0 refl le
