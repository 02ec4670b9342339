-- No step gives ticks: a run that has none left ends with none.
use Rattle.std.proofs.Common.{◌≡◌, ◌≢◌, ℕ, zero, suc, ◌+◌, ◌-◌, ◌<◌, ◌≤◌, Bool, true, false, List, Option, Some, None, refl, sym, ap, ◌∙◌, arith}
use Rattle.std.specs.Prelude.{slice_get}
use Rattle.ss_engine.proofs.Common.{EndingsStay, Program}
use Rattle.ss_meaning.specs.Meaning.{Ending, Ended, Fault, Paused, WentWrong, Run, meaning}
use Rattle.ss_code_instructions.specs.Instructions.{Placed}
use Rattle.ss_code_instructions.specs.States.{MachineState, Moved, To, Sends, Rest, Stuck, Done, Breaks}
use Rattle.ss_code_instructions.specs.Machine.{Code, Stepped, Goes, Over, NoStep, act, is_due, with_rest, when_due, step_at, step}
use Rattle.ss_code_instructions.specs.Running.{Underway, Ends, IsFaithful, ended_at, after_one_step, start, steps}

-- a step that leaves at most so many ticks
abbrev Leaves : ℕ → Stepped → Type 0
Leaves n (Goes t) = t.ticks ≤ n
Leaves n (Over e k) = k ≤ n
Leaves n NoStep = Unit {0}

leaves_more : (n : ℕ) (o : Stepped) → Leaves n o → Leaves (suc n) o
leaves_more n (Goes t) h = omega (arith, h)
leaves_more n (Over e k) h = omega (arith, h)
leaves_more n NoStep h = tt

rest_leaves : (r : List ℕ) (t : ℕ) (m : Moved) → Leaves t (with_rest r t m)
rest_leaves r t (To c) = omega arith
rest_leaves r t (Sends bytes c) = omega arith
rest_leaves r t (Rest Done) = omega arith
rest_leaves r t (Rest (Breaks kind line)) = omega arith
rest_leaves r t Stuck = tt

due_leaves : (b : Bool) (r : List ℕ) (t : ℕ) (m : Moved) → Leaves t (when_due b r t m)
due_leaves false r t m = rest_leaves r t m
due_leaves true r zero m = omega arith
due_leaves true r (suc t) m = leaves_more t (with_rest r t m) (rest_leaves r t m)

at_leaves : (o : Option Placed) (code : Code) (s : MachineState) → Leaves s.ticks (step_at o code s)
at_leaves None code s = tt
at_leaves (Some x) code s = due_leaves (is_due x.instruction) s.report s.ticks (act code x.line x.instruction s.core)

module _ (code : Code) where
  after : (o : Stepped) (m : ℕ) (s : MachineState) (r : Run) → Leaves s.ticks o → ((t : MachineState) → steps code m t ≡ Ends r → r.ticks ≤ t.ticks) → after_one_step o s (steps code m) ≡ Ends r → r.ticks ≤ s.ticks
  after (Goes t) m s r l so e = omega (arith, l, so t e)
  after (Over k n) m s r l so e = let q : ended_at s k n ≡ r = cc in let ticks : n ≡ r.ticks = ap (λ (x : Run). x.ticks) q in omega (arith, l, ticks)
  after NoStep m s r l so e = absurd cc

  -- a run ends with no more ticks than it has
  ends_within : (m : ℕ) (s : MachineState) (r : Run) → steps code m s ≡ Ends r → r.ticks ≤ s.ticks
  ends_within zero s r e = absurd cc
  ends_within (suc m) s r e =
      after (step code s) m s r (at_leaves (slice_get code.places s.core.place) code s) (λ t f. ends_within m t r f) e

  both : (o : Stepped) (m k : ℕ) (s x : MachineState) (r : Run) → ((t : MachineState) → steps code m t ≡ Underway x → steps code k t ≡ Ends r → r.ticks ≤ x.ticks) → after_one_step o s (steps code m) ≡ Underway x → after_one_step o s (steps code k) ≡ Ends r → r.ticks ≤ x.ticks
  both (Goes t) m k s x r so e f = so t e f
  both (Over q n) m k s x r so e f = absurd cc
  both NoStep m k s x r so e f = absurd cc

  -- and with no more than are left at a state that it passes
  ends_later : (m k : ℕ) (s x : MachineState) (r : Run) → steps code m s ≡ Underway x → steps code k s ≡ Ends r → r.ticks ≤ x.ticks
  ends_later zero k s x r e f =
      let same : s ≡ x = cc in
      let ticks : s.ticks ≡ x.ticks = ap (λ (y : MachineState). y.ticks) same in
      omega (arith, ticks, ends_within k s r f)
  ends_later (suc m) zero s x r e f = absurd cc
  ends_later (suc m) (suc k) s x r e f = both (step code s) m k s x r (λ t g h. ends_later m k t x r g h) e f

module _ (stay : EndingsStay) (p : Program) (right : (input : List ℕ) (n : ℕ) → (meaning p input n).ending ≢ WentWrong) (code : Code) (behaves : IsFaithful p code) (input : List ℕ) (n m : ℕ) (x : MachineState) (passed : steps code m (start code input n) ≡ Underway x) (left : x.ticks ≡ 0) (fewer : ℕ) (lt : fewer < n) where
  not_over : (meaning p input fewer).ending ≢ Paused → ⊥
  not_over going =
      let more = stay p input fewer (n - fewer) going (right input fewer) (right input (fewer + (n - fewer))) in
      let rest : fewer + (n - fewer) ≡ n = omega arith in
      let whole : (meaning p input n).ticks ≡ (meaning p input fewer).ticks + (n - fewer) = ap (λ (r : Run). r.ticks) (ap (meaning p input) (sym rest) ∙ more) in
      let ends = behaves.ends input n (right input n) in
      let late = ends_later code m ends.0 (start code input n) x (meaning p input n) passed ends.1 in
      omega (arith, whole, late)

  by-ending : (e : Ending) → (meaning p input fewer).ending ≡ e → e ≡ Paused
  by-ending Paused q = refl
  by-ending WentWrong q = absurd (right input fewer q)
  by-ending Ended q = absurd (not_over (λ h. let no : Ended ≡ Paused = sym q ∙ h in cc))
  by-ending (Fault kind line) q = absurd (not_over (λ h. let no : Fault kind line ≡ Paused = sym q ∙ h in cc))

  -- where a run has taken all its ticks, its program pauses with fewer
  pub pauses_with_fewer : (meaning p input fewer).ending ≡ Paused
  pauses_with_fewer = by-ending (meaning p input fewer).ending refl
