-- A step takes at most one tick. It leaves the open calls as they are, opens one and takes a tick, or goes back from the last.
use Rattle.std.proofs.Common.{◌≡◌, ℕ, suc, Bool, true, false, Option, Some, None, subst, ◌⊎◌, inl, inr}
use Rattle.ss_code_instructions.proofs.Common.{act, Code, Goes, is_due, MachineState, Placed, slice_get, step_at}
use Rattle.ss_code_instructions.specs.Running.{goes_back}
use Rattle.ss_code_instructions.specs.Reached.{read_mode}
use Rattle.ss_code_instructions.specs.Laws.{AreNextCalls, TicksAndCalls}
use Rattle.ss_code_instructions.proofs.Moving.{AreTicks, after_step}
use Rattle.ss_code_instructions.proofs.Acting.{Way, Good, act_leads}

-- of the ways in which an instruction leads on, only one that takes a tick leads into a call
next_calls : (due : Bool) (g : Option ℕ) (s x : MachineState) → AreTicks due s.ticks x.ticks → Way due g s.core x.core → AreNextCalls s x
next_calls due g s x t (inl on) = inl on.1
next_calls due g s x t (inr (inl b)) = inl b.3
next_calls due g s x t (inr (inr (inl f))) = inr (inr f)
next_calls due g s x t (inr (inr (inr f))) = inr (inl (f.0, f.1, subst (λ b. AreTicks b s.ticks x.ticks) f.2 t))

one_tick : (due : Bool) (n t : ℕ) → AreTicks due n t → (t ≡ n) ⊎ (suc t ≡ n)
one_tick false n t e = inl e
one_tick true n t e = inr e

at_calls : (o : Option Placed) (code : Code) (s x : MachineState) → step_at o code s ≡ Goes x → ((x.ticks ≡ s.ticks) ⊎ (suc x.ticks ≡ s.ticks)) × AreNextCalls s x
at_calls None code s x e = absurd cc
at_calls (Some y) code s x e =
    let q = after_step (Good (is_due y.instruction) (goes_back y.instruction) (read_mode y.instruction) s.core) (is_due y.instruction) s.report s.ticks (act code y.line y.instruction s.core) x (act_leads code y.line y.instruction s.core) e in
    (one_tick (is_due y.instruction) s.ticks x.ticks q.1, next_calls (is_due y.instruction) (goes_back y.instruction) s x q.1 q.0.0)

pub ticks_and_calls : TicksAndCalls
ticks_and_calls code s t e = at_calls (slice_get code.places s.core.place) code s t e
