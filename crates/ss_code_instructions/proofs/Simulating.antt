-- The code of START SIMULATION, of RETURN and of STOP.
use Rattle.std.proofs.Common.{◌≡◌, ℕ, zero, suc, ◌+◌, ◌-◌, ◌≤◌, Bool, true, false, List, [], ◌∷◌, ◌++◌, length, Option, Some, None, refl, sym, ap, subst, arith}
use Rattle.ss_code_instructions.proofs.Common.{act, Code, height, is_awaited, place, Placed, Site, slice_get, Value, yielded}
use Rattle.ss_code_instructions.specs.States.{core_at, fit, Frame, past, To, backwards}
use Rattle.ss_meaning.specs.Parts.{Again, choose, Left, loop, Returned, RunState, Stopped, WentOn, Over}
use Rattle.ss_meaning.specs.Statements.{Calls, next_due, event_turn, simulate}
use Rattle.ss_code_instructions.specs.Instructions as i
use Rattle.ss_code_instructions.proofs.Acting.{act_lasts}
use Rattle.ss_code_instructions.proofs.Steps.{HasAt, Reaches, here, at, left_to, landed, arrive}
use Rattle.ss_code_instructions.proofs.Parts.{Within, Leads, onwards, ends, whatever, step_leads, out_run, Runs, same, done}
use Rattle.ss_code_instructions.proofs.Loops.{leads_join, turned, Turns, loop_run}
use Rattle.ss_code_instructions.proofs.Looping.{leap}
use Rattle.ss_code_instructions.proofs.Assuming.{CallsRun}

-- ## START SIMULATION: event after event

module _ (code : Code) (n : ℕ) (t : Site) where
  abbrev take_place : Placed
  take_place = place t (i.TakeEvent (height t))

  abbrev next_place : Placed
  next_place = place t (i.NextEvent 1)

  abbrev pub simulate_code : List Placed
  simulate_code = place t (i.Await 2) ∷ (take_place ∷ (next_place ∷ []))

  module _ (h : Calls) (ok : CallsRun code n h) where
    event_turns : (m : ℕ) → n ≡ suc m → (p : ℕ) (cells : List Value) (frames : List Frame) → length cells ≡ height t → HasAt code.places p (take_place ∷ (next_place ∷ [])) → Turns code {C = Unit {0}} {A = Unit {0}} m p done (λ o. p + 2) cells frames (event_turn h.event)
    event_turns m e p cells frames high has = record {
      head = take_place;
      has = has.0;
      due = refl;
      each = λ c w in_.
          leads_join w (act code t.line (i.TakeEvent (height t)) (core_at p cells frames w.store)) (λ (o : Unit {0}) w'. at (p + 1) cells frames w') (turned {C = Unit {0}} {A = Unit {0}} done p (λ o. p + 2) cells frames) frames (h.event w) (λ _. next_due)
          (act_lasts code t.line (i.TakeEvent (height t)) (core_at p cells frames w.store))
          (ok.event m e t.line (height t) p cells frames w high in_)
          (λ o w' fewer same_. next_run w' (is_awaited w'.store) refl);
    }
      where
        next_run : (w : RunState) (b : Bool) → is_awaited w.store ≡ b → Reaches code (at (p + 1) cells frames w) (arrive (turned {C = Unit {0}} {A = Unit {0}} done p (λ o. p + 2) cells frames) frames (choose (is_awaited w.store) (WentOn (Again tt)) (WentOn (Over tt)) w))
        next_run w true q =
            subst (λ b. Reaches code (at (p + 1) cells frames w) (arrive (turned {C = Unit {0}} {A = Unit {0}} done p (λ o. p + 2) cells frames) frames (choose b (WentOn (Again tt)) (WentOn (Over tt)) w))) (sym q)
            (leap code next_place (p + 1) (p + 1 - 1) p cells cells frames w _ has.1.0 refl (ap (λ b. To (core_at (backwards 1 b (p + 1)) cells frames w.store)) q) (omega arith) here)
        next_run w false q =
            subst (λ b. Reaches code (at (p + 1) cells frames w) (arrive (turned {C = Unit {0}} {A = Unit {0}} done p (λ o. p + 2) cells frames) frames (choose b (WentOn (Again tt)) (WentOn (Over tt)) w))) (sym q)
            (leap code next_place (p + 1) (p + 1 + 1) (p + 2) cells cells frames w _ has.1.0 refl (ap (λ b. To (core_at (backwards 1 b (p + 1)) cells frames w.store)) q) (omega arith) here)

    events_run : (m : ℕ) → n ≡ m → (p : ℕ) (cells : List Value) (frames : List Frame) (w : RunState) → length cells ≡ height t → HasAt code.places p (take_place ∷ (next_place ∷ [])) → Within code n w → Reaches code (at p cells frames w) (arrive (λ (o : Unit {0}) w'. at (p + 2) cells frames w') frames (loop m (event_turn h.event) tt w))
    events_run zero e p cells frames w high has in_ =
        out_run code {A = Unit {0}} take_place (core_at p cells frames w.store) frames w (λ (o : Unit {0}) w'. at (p + 2) cells frames w') has.0 refl (omega (arith, e, in_.ticks))
    events_run (suc m) e p cells frames w high has in_ =
        let all : suc m ≤ suc m = omega arith in
        let few : w.ticks ≤ suc m = omega (arith, e, in_.ticks) in
        loop_run code (event_turns m e p cells frames high has) (suc m) all tt w few in_.says

    pub simulate_runs : Runs code n (height t) same simulate_code done (simulate n h.event)
    simulate_runs = record { by = λ p cells frames w high has in_. sides p cells frames w high has in_ (is_awaited w.store) refl }
      where
        sides : (p : ℕ) (cells : List Value) (frames : List Frame) (w : RunState) → length cells ≡ height t → HasAt code.places p simulate_code → Within code n w → (b : Bool) → is_awaited w.store ≡ b → Reaches code (at p cells frames w) (arrive (λ (o : Unit {0}) w'. at (p + 3) cells frames w') frames (choose (is_awaited w.store) (loop n (event_turn h.event) tt) (WentOn tt) w))
        sides p cells frames w high has in_ true q =
            let e : p + 1 + 2 ≡ p + 3 = omega arith in
            subst (λ b. Reaches code (at p cells frames w) (arrive (λ (o : Unit {0}) w'. at (p + 3) cells frames w') frames (choose b (loop n (event_turn h.event) tt) (WentOn tt) w))) (sym q)
            (leap code (place t (i.Await 2)) p (p + 1) (p + 1) cells cells frames w _ has.0 refl (ap (λ b. To (core_at (past 2 b (p + 1)) cells frames w.store)) q) refl
            (subst (λ j. Reaches code (at (p + 1) cells frames w) (arrive (λ (o : Unit {0}) w'. at j cells frames w') frames (loop n (event_turn h.event) tt w))) e
            (events_run n refl (p + 1) cells frames w high has.1 in_)))
        sides p cells frames w high has in_ false q =
            subst (λ b. Reaches code (at p cells frames w) (arrive (λ (o : Unit {0}) w'. at (p + 3) cells frames w') frames (choose b (loop n (event_turn h.event) tt) (WentOn tt) w))) (sym q)
            (leap code (place t (i.Await 2)) p (p + 1 + 2) (p + 3) cells cells frames w _ has.0 refl (ap (λ b. To (core_at (past 2 b (p + 1)) cells frames w.store)) q) (omega arith) here)

  -- ## STOP and RETURN

  pub stop_run : Runs {A = Unit {0}} code n (height t) same (place t i.Halt ∷ []) done (Left Stopped)
  stop_run = record { by = λ p cells frames w high has in_. step_leads code (place t i.Halt) (core_at p cells frames w.store) w _ _ has.0 refl refl ends }

  -- back to the caller
  pub leave_run : (p : ℕ) (cells : List Value) (f : Frame) (fs : List Frame) (w : RunState) → slice_get code.places p ≡ Some (place t i.Leave) → Reaches code (at p cells (f ∷ fs) w) (landed (yielded f.first f.count w.store.locals) f fs w)
  leave_run p cells f fs w has =
      step_leads code (place t i.Leave) (core_at p cells (f ∷ fs) w.store) w _ _ has refl refl (back (yielded f.first f.count w.store.locals))
    where
      back : (o : Option (List Value)) → Leads code w (fit o (λ us. To (core_at f.back (us ++ f.cells) fs (record w.store { locals = f.locals })))) (landed o f fs w)
      back (Some us) = onwards here
      back None = whatever

  pub return_run : Runs {A = Unit {0}} code n (height t) same (place t i.Leave ∷ []) done (Left Returned)
  return_run = record { by = λ p cells frames w high has in_. leaves p cells frames w has.0 }
    where
      leaves : (p : ℕ) (cells : List Value) (frames : List Frame) (w : RunState) → slice_get code.places p ≡ Some (place t i.Leave) → Reaches code (at p cells frames w) (left_to Returned frames w)
      leaves p cells [] w has = step_leads code (place t i.Leave) (core_at p cells [] w.store) w _ _ has refl refl ends
      leaves p cells (f ∷ fs) w has = leave_run p cells f fs w has
