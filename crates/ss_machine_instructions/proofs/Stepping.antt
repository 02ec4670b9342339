-- What an instruction does is a step of the definition.
use Rattle.std.proofs.Common.{◌≡◌, ℕ, zero, suc, Bool, true, false, List, Option, Some, None, refl, sym, ap, ◌∙◌, subst}
use Rattle.ss_meaning.specs.Meaning as endings
use Rattle.ss_code_instructions.specs.declared.instruction.Instruction.{Instruction as Running}
use Rattle.ss_code_instructions.specs.Machine.{act, is_due, Goes, Over, with_rest, when_due, step_at, step}
use Rattle.ss_machine_instructions.proofs.Common.{Core, Here, Moved, State}
use Rattle.ss_machine_instructions.specs.Doing.{Compiled, HasPerformed, IsReadyFor, IsAsDefined, HasStopped, AreTicksLeft, AreLeftBy, IsDoneIfDue, IsOver, IsStep, line_or, definition_state}
use Rattle.ss_machine_instructions.specs.declared.flow.Ending.TheVariants.{NoMemory, Ended, Paused, Faulted, NoOutput, NoInput}
use Rattle.ss_machine_instructions.specs.declared.flow.Ending.{Ending}

module _ (w : Compiled) (c : Core) (here : Here) (s : State) (run : Running) (r : IsReadyFor w c here s run) (report : List ℕ) where
  abbrev Does : Moved
  Does = act w.code r.placed.line r.placed.instruction c

  step_is : step w.code (definition_state c report s.ticks) ≡ when_due (is_due r.placed.instruction) report s.ticks Does
  step_is = ap (λ o. step_at o w.code (definition_state c report s.ticks)) r.fits.there

  -- the step is made with so many ticks left
  after : (t : ℕ) (new : State) (result : Option Here) → step w.code (definition_state c report s.ticks) ≡ with_rest report t Does → IsAsDefined w r.placed.line Does new result → AreTicksLeft t new result → IsStep w c report r.placed.line s new result
  after t new (Some there) e leads left =
      (leads.0, e ∙ ap (with_rest report t) leads.1 ∙ ap (λ n. Goes (definition_state leads.0 report n)) (sym left), leads.2)
  after t new None e leads left = by new.ending leads left
    where
      by : (ending : Ending) → HasStopped r.placed.line Does new ending → AreLeftBy t new.ticks ending → IsOver w.code (definition_state c report s.ticks) r.placed.line new ending
      by Ended stops n = e ∙ ap (with_rest report t) stops ∙ ap (Over endings.Ended) (sym n)
      by Faulted stops n = e ∙ ap (with_rest report t) stops ∙ ap (Over (endings.Fault new.fault (line_or r.placed.line new.fault_line))) (sym n)
      by NoMemory stops n = tt
      by Paused stops n = absurd n
      by NoOutput stops n = absurd n
      by NoInput stops n = absurd n

  -- no tick is taken: then as many are left, however it stops
  calm_left : (new : State) (result : Option Here) → IsAsDefined w r.placed.line Does new result → new.ticks ≡ s.ticks → step w.code (definition_state c report s.ticks) ≡ with_rest report s.ticks Does → IsStep w c report r.placed.line s new result
  calm_left new (Some there) leads n e =
      (leads.0, e ∙ ap (with_rest report s.ticks) leads.1 ∙ ap (λ n. Goes (definition_state leads.0 report n)) (sym n), leads.2)
  calm_left new None leads n e = by new.ending leads
    where
      by : (ending : Ending) → HasStopped r.placed.line Does new ending → IsOver w.code (definition_state c report s.ticks) r.placed.line new ending
      by Ended stops = e ∙ ap (with_rest report s.ticks) stops ∙ ap (Over endings.Ended) (sym n)
      by Faulted stops = e ∙ ap (with_rest report s.ticks) stops ∙ ap (Over (endings.Fault new.fault (line_or r.placed.line new.fault_line))) (sym n)
      by NoMemory stops = tt
      by Paused stops = absurd stops
      by NoOutput stops = absurd stops
      by NoInput stops = absurd stops

  due_steps : (ticks : ℕ) (new : State) (result : Option Here) → s.ticks ≡ ticks → step w.code (definition_state c report s.ticks) ≡ when_due true report ticks Does → IsDoneIfDue ticks w r.placed.line Does s new result → IsStep w c report r.placed.line s new result
  due_steps zero new result n e h =
      let old : State = record s { ending = Paused } in
      let paused : IsStep w c report r.placed.line s old None = e ∙ ap (Over endings.Paused) (sym n) in
      subst (λ o. IsStep w c report r.placed.line s new o) (sym h.none) (subst (λ u. IsStep w c report r.placed.line s u None) (sym h.same) paused)
  due_steps (suc t) new result n e h = after t new result e h.leads h.ticks

  pub steps : (new : State) (result : Option Here) → HasPerformed (is_due r.placed.instruction) w r.placed.line Does s new result → IsStep w c report r.placed.line s new result
  steps new result h = by (is_due r.placed.instruction) step_is h
    where
      by : (b : Bool) → step w.code (definition_state c report s.ticks) ≡ when_due b report s.ticks Does → HasPerformed b w r.placed.line Does s new result → IsStep w c report r.placed.line s new result
      by false e h = calm_left new result h.leads h.ticks e
      by true e h = due_steps s.ticks new result refl e h
