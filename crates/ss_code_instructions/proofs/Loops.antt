-- Loops: the instruction at their head takes a tick, and their end jumps back to it.
use Rattle.std.proofs.Common.{◌≡◌, ℕ, zero, suc, ◌≤◌, true, List, ◌++◌, Some, arith}
use Rattle.ss_code_instructions.proofs.Common.{act, Code, core_at, Frame, is_due, MachineState, Moved, Placed, slice_get, Value}
use Rattle.ss_meaning.specs.Parts.{Again, Left, loop, Outcome, outcome_then, Part, RunState, WentOn, Next, Over, go_on}
use Rattle.ss_code_instructions.proofs.Keeping.{Lasts, lasts_then, Suits, suits_on}
use Rattle.ss_code_instructions.proofs.Acting.{Endures, act_lasts}
use Rattle.ss_code_instructions.proofs.Steps.{Goal, Comes, Reaches, here, reaches_on, Kept, kept, at, arrive}
use Rattle.ss_code_instructions.proofs.Parts.{Within, Leads, onwards, writes, with_core, ticked, tick_run, out_run}

-- what an instruction leads to, and then where the machine goes from there
leads_on : {code : Code} (w : RunState) (m : Moved) (x : MachineState) (r : Goal) → Endures w.store m → Leads code w m (Comes x) → (x.ticks ≤ w.ticks → Lasts w.store x.core.store → Reaches code x r) → Leads code w m r
leads_on w m x r q (onwards {c = c} f) h =
    let t : Kept (with_core c w) x = kept f in
    let lasts : Lasts w.store x.core.store = lasts_then w.store c.store x.core.store q t.same in
    onwards (reaches_on f (h t.fewer lasts))
leads_on w m x r q (writes {bytes = bytes} {c = c} f) h =
    let t : Kept (with_core c (record w { report = w.report ++ bytes })) x = kept f in
    let lasts : Lasts w.store x.core.store = lasts_then w.store c.store x.core.store q t.same in
    writes (reaches_on f (h t.fewer lasts))

-- where a part leads, if another one follows it
pub leads_join : {A B : Type 0} {code : Code} (w : RunState) (m : Moved) (k : A → RunState → MachineState) (k' : B → RunState → MachineState) (frames : List Frame) (o : Outcome A) (f : A → Part B) → Endures w.store m → Leads code w m (arrive k frames o) → ((a : A) (w' : RunState) → (k a w').ticks ≤ w.ticks → Lasts w.store (k a w').core.store → Reaches code (k a w') (arrive k' frames (f a w'))) → Leads code w m (arrive k' frames (outcome_then o f))
leads_join w m k k' frames (Left e w') f q g h = g
leads_join w m k k' frames (WentOn a w') f q g h = leads_on w m (k a w') (arrive k' frames (f a w')) q g (h a w')

-- where a turn leads: to where the next one begins, or to an end of the loop
abbrev pub turned : {C A : Type 0} → (C → List Value → List Value) → ℕ → (A → ℕ) → List Value → List Frame → Next C A → RunState → MachineState
turned hold p to cells frames (Again c) w = at p (hold c cells) frames w
turned hold p to cells frames (Over a) w = at (to a) cells frames w

module _ (code : Code) where
  -- the turns of a loop: the first instruction of each takes a tick
  pub record Turns {C A : Type 0} (n p : ℕ) (hold : C → List Value → List Value) (to : A → ℕ) (cells : List Value) (frames : List Frame) (turn : C → Part (Next C A)) : Type 0 where
    pub head : Placed
    pub has : slice_get code.places p ≡ Some head
    pub due : is_due head.instruction ≡ true
    pub each : (c : C) (w : RunState) → Within code n w → Leads code w (act code head.line head.instruction (core_at p (hold c cells) frames w.store)) (arrive (turned hold p to cells frames) frames (turn c w))

  module _ {C A : Type 0} {n p : ℕ} {hold : C → List Value → List Value} {to : A → ℕ} {cells : List Value} {frames : List Frame} {turn : C → Part (Next C A)} (t : Turns n p hold to cells frames turn) where
    -- after a turn
    again_run : (rest : C → Part A) (w : RunState) → ((c : C) → Reaches code (at p (hold c cells) frames w) (arrive (λ a w'. at (to a) cells frames w') frames (rest c w))) → (o : Next C A) → Reaches code (turned hold p to cells frames o w) (arrive (λ a w'. at (to a) cells frames w') frames (go_on rest o w))
    again_run rest w next (Again c) = next c
    again_run rest w next (Over a) = here

    fewer_at : (o : Next C A) (w : RunState) (j : ℕ) → (turned hold p to cells frames o w).ticks ≤ j → w.ticks ≤ j
    fewer_at (Again c) w j h = h
    fewer_at (Over a) w j h = h

    same_at : (o : Next C A) (w w' : RunState) → Lasts w.store (turned hold p to cells frames o w').core.store → Lasts w.store w'.store
    same_at (Again c) w w' h = h
    same_at (Over a) w w' h = h

    -- The turns. Each has a tick less than there was before it, since its first instruction takes one.
    pub loop_run : (k : ℕ) → k ≤ suc n → (c : C) (w : RunState) → w.ticks ≤ k → Suits code w.store → Reaches code (at p (hold c cells) frames w) (arrive (λ a w'. at (to a) cells frames w') frames (loop k turn c w))
    loop_run zero lek c w le says =
        out_run code {A = A} t.head (core_at p (hold c cells) frames w.store) frames w (λ a w'. at (to a) cells frames w') t.has t.due le
    loop_run (suc k) lek c w le says =
        tick_run code {A = A} t.head (core_at p (hold c cells) frames w.store) frames w (λ a w'. at (to a) cells frames w') (λ w. outcome_then (turn c w) (go_on (loop k turn))) t.has t.due (λ j e.
        leads_join (ticked j w) (act code t.head.line t.head.instruction (core_at p (hold c cells) frames w.store)) (turned hold p to cells frames) (λ a w'. at (to a) cells frames w') frames (turn c (ticked j w)) (go_on (loop k turn))
        (act_lasts code t.head.line t.head.instruction (core_at p (hold c cells) frames w.store))
        (t.each c (ticked j w) (record { ticks = (let few : j ≤ n = omega (arith, e, le, lek) in few); says = says }))
        (λ o w' fewer same.
        let below : k ≤ suc n = omega (arith, lek) in
        let left : w'.ticks ≤ j = fewer_at o w' j fewer in
        let few : w'.ticks ≤ k = omega (arith, left, e, le) in
        let lasts : Lasts w.store w'.store = same_at o w w' same in
        again_run (loop k turn) w' (λ d. loop_run k below d w' few (suits_on code w.store w'.store lasts says)) o))
