-- How many steps a run makes: each takes a tick, or goes on towards the end of the code, to a tick, or back from a call.
use Rattle.std.proofs.Common.{◌≡◌, ℕ, zero, suc, ◌+◌, ◌-◌, ◌*◌, ◌<◌, ◌≤◌, Bool, true, false, [], ◌∷◌, ◌++◌, length, Option, Some, None, refl, sym, ap, ◌∙◌, subst, arith, length-append, ◌⊎◌, inl, inr, true≢false}
use Rattle.std.proofs.lemmas.Option.{slice_get_within}
use Rattle.std.specs.Prelude.{slice_get}
use Rattle.ss_code_instructions.proofs.Common.{act, all_events, all_routines, block_code, Code, code_of, Core, first_site, Goes, is_due, MachineState, main_code, main_scope, NoStep, Over, place, Placed, Program, step, step_at, Stepped}
use Rattle.ss_code_instructions.specs.Running.{after_one_step, start, steps, Underway, HasLandings, goes_back}
use Rattle.ss_code_instructions.specs.Instructions as i
use Rattle.ss_code_instructions.specs.Measure.{left_in, is_due_at, left_from, left_at, left_to_do}
use Rattle.ss_code_instructions.specs.Reached.{StepsFall, read_mode}
use Rattle.ss_code_instructions.specs.Laws.{StepsAreBounded}
use Rattle.ss_code_instructions.proofs.Landing.{jumps_land}
use Rattle.ss_code_instructions.proofs.Calling.{ticks_and_calls}
use Rattle.ss_code_instructions.proofs.Moving.{AreTicks, after_step}
use Rattle.ss_code_instructions.proofs.Acting.{Way, Good, act_leads}

-- ## What is left to do

left_most : (b : Bool) (here calls : ℕ) → left_from b here calls ≤ here + calls
left_most true here calls = omega arith
left_most false here calls = omega arith

module _ (code : Code) where
  at_most : (d : Core) → left_at code d.place d.frames ≤ (length code.places - d.place) + left_in (length code.places) d.frames
  at_most d = left_most (is_due_at (slice_get code.places d.place)) (length code.places - d.place) (left_in (length code.places) d.frames)

  -- without a tick less is left
  abbrev Less : Core → Core → Type 0
  Less c d = left_at code d.place d.frames < (length code.places - c.place) + left_in (length code.places) c.frames

  less : HasLandings code → (c d : Core) (x : Placed) → slice_get code.places c.place ≡ Some x → is_due x.instruction ≡ false → c.place < length code.places → Way (is_due x.instruction) (goes_back x.instruction) c d → Less c d
  less lands c d x has calm within (inl on) = omega (arith, at_most d, within, on.0, ap (left_in (length code.places)) on.1)
  less lands c d x has calm within (inr (inl b)) =
      let t = (lands c.place b.0 x has b.1).1 in
      let due : is_due_at (slice_get code.places d.place) ≡ true = ap (λ p. is_due_at (slice_get code.places p)) b.2 ∙ ap is_due_at t.here ∙ t.due in
      let left : left_at code d.place d.frames ≡ left_in (length code.places) d.frames = ap (λ k. left_from k (length code.places - d.place) (left_in (length code.places) d.frames)) due in
      omega (arith, left, within, ap (left_in (length code.places)) b.3)
  less lands c d x has calm within (inr (inr (inl f))) =
      omega (arith, at_most d, within, ap (λ p. length code.places - p) f.2, ap (left_in (length code.places)) f.1)
  less lands c d x has calm within (inr (inr (inr f))) = absurd (true≢false (sym f.2 ∙ calm))

  -- with a tick more may be left, by twice the code
  abbrev Little : Core → Core → Type 0
  Little c d = left_at code d.place d.frames ≤ 2 * length code.places + left_in (length code.places) c.frames

  little : (due : Bool) (g : Option ℕ) (c d : Core) → Way due g c d → Little c d
  little due g c d (inl on) = omega (arith, at_most d, ap (left_in (length code.places)) on.1)
  little due g c d (inr (inl b)) = omega (arith, at_most d, ap (left_in (length code.places)) b.3)
  little due g c d (inr (inr (inl f))) = omega (arith, at_most d, ap (left_in (length code.places)) f.1)
  little due g c d (inr (inr (inr f))) = omega (arith, at_most d, ap (left_in (length code.places)) f.1)

  falls : (b : Bool) (s x : MachineState) → AreTicks b s.ticks x.ticks → (b ≡ false → Less s.core x.core) → Little s.core x.core → left_to_do code x < s.ticks * (2 * length code.places + 1) + left_from b (length code.places - s.core.place) (left_in (length code.places) s.core.frames)
  falls false s x t h k = omega (arith, h refl, ap (λ j. j * (2 * length code.places + 1)) t)
  falls true s x t h k = omega (arith, k, ap (λ j. j * (2 * length code.places + 1)) t)

  at_falls : HasLandings code → (o : Option Placed) (s x : MachineState) → slice_get code.places s.core.place ≡ o → step_at o code s ≡ Goes x → left_to_do code x < left_to_do code s
  at_falls lands None s x q e = absurd cc
  at_falls lands (Some y) s x q e =
      let within = slice_get_within code.places s.core.place y q in
      let w = after_step (Good (is_due y.instruction) (goes_back y.instruction) (read_mode y.instruction) s.core) (is_due y.instruction) s.report s.ticks (act code y.line y.instruction s.core) x (act_leads code y.line y.instruction s.core) e in
      let h = falls (is_due y.instruction) s x w.1 (λ calm. less lands s.core x.core y q calm within w.0.0) (little (is_due y.instruction) (goes_back y.instruction) s.core x.core w.0.0) in
      subst (λ b. left_to_do code x < s.ticks * (2 * length code.places + 1) + left_from b (length code.places - s.core.place) (left_in (length code.places) s.core.frames)) (sym (ap is_due_at q)) h

  -- each step leaves less to do
  pub step_falls : HasLandings code → (s x : MachineState) → step code s ≡ Goes x → left_to_do code x < left_to_do code s
  step_falls lands s x e = at_falls lands (slice_get code.places s.core.place) s x refl e

-- in the code of a program
pub steps_fall : StepsFall
steps_fall p s t e = step_falls (code_of p) (jumps_land p) s t e

underway : {s t : MachineState} → Underway s ≡ Underway t → s ≡ t
underway e = cc

-- ## Many steps

module _ (code : Code) where
  falls_more : HasLandings code → (n : ℕ) (s t : MachineState) → ((x : MachineState) → steps code n x ≡ Underway t → left_to_do code t + n ≤ left_to_do code x) → (k : Stepped) → step code s ≡ k → after_one_step k s (steps code n) ≡ Underway t → left_to_do code t + suc n ≤ left_to_do code s
  falls_more lands n s t on (Goes x) q e =
      let f : left_to_do code x < left_to_do code s = step_falls code lands s x q in
      omega (arith, on x e, f)
  falls_more lands n s t on (Over k ticks) _ e = absurd cc
  falls_more lands n s t on NoStep _ e = absurd cc

  -- so many steps leave less to do by as many
  pub many_fall : HasLandings code → (n : ℕ) (s t : MachineState) → steps code n s ≡ Underway t → left_to_do code t + n ≤ left_to_do code s
  many_fall lands zero s t e = omega (arith, ap (left_to_do code) (underway e))
  many_fall lands (suc n) s t e = falls_more lands n s t (λ x f. many_fall lands n x t f) (step code s) refl e

  ticks_more : (n : ℕ) (s t : MachineState) → ((x : MachineState) → steps code n x ≡ Underway t → x.ticks ≤ t.ticks + n) → (k : Stepped) → step code s ≡ k → after_one_step k s (steps code n) ≡ Underway t → s.ticks ≤ t.ticks + suc n
  ticks_more n s t on (Goes x) q e =
      let taken : (x.ticks ≡ s.ticks) ⊎ (suc x.ticks ≡ s.ticks) = (ticks_and_calls code s x q).0 in
      omega (arith, on x e, taken)
  ticks_more n s t on (Over k ticks) _ e = absurd cc
  ticks_more n s t on NoStep _ e = absurd cc

  -- and each takes one tick at most
  pub many_ticks : (n : ℕ) (s t : MachineState) → steps code n s ≡ Underway t → s.ticks ≤ t.ticks + n
  many_ticks zero s t e = omega (arith, ap (λ (y : MachineState). y.ticks) (underway e))
  many_ticks (suc n) s t e = ticks_more n s t (λ x f. many_ticks n x t f) (step code s) refl e

-- ## The bound

times_least : (u l : ℕ) → 1 ≤ l → u ≤ u * l
times_least zero l q = omega arith
times_least (suc u) l q = omega (arith, q, times_least u l q)

-- MAIN ends with an instruction of its own
at_least_one : (l m a b : ℕ) → l ≡ m + a → m ≡ b + 1 → 1 ≤ l
at_least_one l m a b e f = omega (arith, e, f)

pub never_empty : (p : Program) → 1 ≤ length (code_of p).places
never_empty p =
    let body = block_code (first_site (main_scope p)) 0 p.main in
    let leave = place (first_site (main_scope p)) i.Leave in
    at_least_one (length (code_of p).places) (length (main_code p)) (length (all_routines p ++ all_events p)) (length body)
    (length-append (main_code p) (all_routines p ++ all_events p)) (length-append body (leave ∷ []))

-- so many ticks are at most so many steps
few_ticks : (n made used ticks : ℕ) → n ≤ ticks + made → ticks + used ≡ n → used ≤ made
few_ticks n made used ticks few u = omega (arith, few, u)

-- what was to do at first, and what is to do now, with a code of length l
few_steps : (l n made used ticks now first : ℕ) → ticks * (2 * l + 1) + now + made ≤ n * (2 * l + 1) + first → first ≤ (l - 0) + 0 → ticks + used ≡ n → 1 ≤ l → made ≤ (3 * used + 4) * l
few_steps l n made used ticks now first fall most u least =
    let same : (ticks + used) * (2 * l + 1) ≡ n * (2 * l + 1) = ap (λ k. k * (2 * l + 1)) u in
    omega (arith, fall, most, same, times_least used l least)

pub steps_are_bounded : StepsAreBounded
steps_are_bounded p input n made used x e u =
    let s : MachineState = start (code_of p) input n in
    let l : ℕ = length (code_of p).places in
    record {
      least = few_ticks n made used x.ticks (many_ticks (code_of p) made s x e) u;
      most =
          few_steps l n made used x.ticks (left_at (code_of p) x.core.place x.core.frames) (left_at (code_of p) 0 [])
          (many_fall (code_of p) (jumps_land p) made s x e)
          (left_most (is_due_at (slice_get (code_of p).places 0)) (l - 0) 0) u (never_empty p);
    }
