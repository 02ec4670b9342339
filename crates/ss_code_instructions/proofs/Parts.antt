-- Code that does what a part of a program does: how such code is put together.
use Rattle.std.proofs.Common.{◌≡◌, ℕ, zero, suc, ◌+◌, ◌≤◌, true, false, List, [], ◌∷◌, ◌++◌, length, Some, Ok, Err, refl, sym, ap, ◌∙◌, subst, arith, length-append, if◌then◌else◌}
use Rattle.ss_code_instructions.proofs.Common.{act, at_height, Breaks, change, Code, Core, core_at, did, Done, Ended, eq-eqb, Fails, Failure, Fault, FaultKind, Frame, if_ok, is_due, Left, Line, look, looked, MachineState, Moved, Outcome, outcome_then, OutOfTicks, Part, Paused, Placed, Rest, run_at, RunState, Sends, settle, step_at, Store, Stuck, take_tick, tick_from, To, turned, TypeError, Value, WentOn, when_due, with_rest}
use Rattle.std.specs.Prelude.{slice_get, Result as OkOr}
use Rattle.ss_code_instructions.proofs.Keeping.{Suits, suits_on}
use Rattle.ss_code_instructions.proofs.Steps.{HasAt, has_front, has_back, Goal, Comes, Finishes, Free, Reaches, here, over, free, more, Kept, at, arrive, join}

-- a run state with at most n ticks, in which the program says what its code says, and each member of a set lives
pub record Within (code : Code) (n : ℕ) (w : RunState) : Type 0 where
  pub ticks : w.ticks ≤ n
  pub says : Suits code w.store

pub within_on : {code : Code} {n p q : ℕ} {cells cells' : List Value} {frames frames' : List Frame} {w w' : RunState} → Within code n w → Kept (at p cells frames w) (at q cells' frames' w') → Within code n w'
within_on {code} {w} {w'} i k = record { ticks = omega (arith, i.ticks, k.fewer); says = suits_on code w.store w'.store k.same i.says }

abbrev pub with_core : Core → RunState → MachineState
with_core c w = record { core = c; report = w.report; ticks = w.ticks }

abbrev pub ticked : ℕ → RunState → RunState
ticked t w = record w { ticks = t }

-- ## One instruction

-- what an instruction does leads to a goal, in a run state whose tick was taken, if one is due
pub data Leads (code : Code) (w : RunState) : Moved → Goal → Type 0 where
  onwards : {c : Core} {g : Goal} → Reaches code (with_core c w) g → Leads code w (To c) g
  writes : {bytes : List ℕ} {c : Core} {g : Goal} → Reaches code (with_core c (record w { report = w.report ++ bytes })) g → Leads code w (Sends bytes c) g
  ends : Leads code w (Rest Done) (Finishes (run_at Ended w))
  breaks : {kind : FaultKind} {l : Line} → Leads code w (Rest (Breaks kind l)) (Finishes (run_at (Fault kind l) w))
  whatever : {m : Moved} → Leads code w m Free

module _ (code : Code) where
  -- a step without a tick
  stepped : (x : Placed) (c : Core) (w : RunState) (m : Moved) → slice_get code.places c.place ≡ Some x → is_due x.instruction ≡ false → act code x.line x.instruction c ≡ m → step_at (slice_get code.places c.place) code (with_core c w) ≡ with_rest w.report w.ticks m
  stepped x c w m has calm e =
      ap (λ o. step_at o code (with_core c w)) has ∙ ap (λ b. when_due b w.report w.ticks (act code x.line x.instruction c)) calm ∙ ap (with_rest w.report w.ticks) e

  pub step_leads : (x : Placed) (c : Core) (w : RunState) (m : Moved) (g : Goal) → slice_get code.places c.place ≡ Some x → is_due x.instruction ≡ false → act code x.line x.instruction c ≡ m → Leads code w m g → Reaches code (with_core c w) g
  step_leads x c w m g has calm e (onwards r) = more (stepped x c w m has calm e) r
  step_leads x c w m g has calm e (writes r) = more (stepped x c w m has calm e) r
  step_leads x c w m g has calm e ends = over (stepped x c w m has calm e)
  step_leads x c w m g has calm e breaks = over (stepped x c w m has calm e)
  step_leads x c w m g has calm e whatever = free

  -- a step with a tick
  due_stepped : (x : Placed) (c : Core) (w : RunState) (t : ℕ) (m : Moved) → slice_get code.places c.place ≡ Some x → is_due x.instruction ≡ true → act code x.line x.instruction c ≡ m → step_at (slice_get code.places c.place) code (with_core c (ticked (suc t) w)) ≡ with_rest w.report t m
  due_stepped x c w t m has due e =
      ap (λ o. step_at o code (with_core c (ticked (suc t) w))) has ∙ ap (λ b. when_due b w.report (suc t) (act code x.line x.instruction c)) due ∙ ap (with_rest w.report t) e

  due_leads : (x : Placed) (c : Core) (w : RunState) (t : ℕ) (m : Moved) (g : Goal) → slice_get code.places c.place ≡ Some x → is_due x.instruction ≡ true → act code x.line x.instruction c ≡ m → Leads code (ticked t w) m g → Reaches code (with_core c (ticked (suc t) w)) g
  due_leads x c w t m g has due e (onwards r) = more (due_stepped x c w t m has due e) r
  due_leads x c w t m g has due e (writes r) = more (due_stepped x c w t m has due e) r
  due_leads x c w t m g has due e ends = over (due_stepped x c w t m has due e)
  due_leads x c w t m g has due e breaks = over (due_stepped x c w t m has due e)
  due_leads x c w t m g has due e whatever = free

  pauses_at : (x : Placed) (c : Core) (w : RunState) → slice_get code.places c.place ≡ Some x → is_due x.instruction ≡ true → Reaches code (with_core c (ticked 0 w)) (Finishes (run_at Paused (ticked 0 w)))
  pauses_at x c w has due =
      over (ap (λ o. step_at o code (with_core c (ticked 0 w))) has ∙ ap (λ b. when_due b w.report 0 (act code x.line x.instruction c)) due)

  -- a part that begins with a tick: the instruction pauses where none is left, and otherwise takes it
  pub tick_run : {A : Type 0} (x : Placed) (c : Core) (frames : List Frame) (w : RunState) (k : A → RunState → MachineState) (m : Part A) → slice_get code.places c.place ≡ Some x → is_due x.instruction ≡ true → ((t : ℕ) → w.ticks ≡ suc t → Leads code (ticked t w) (act code x.line x.instruction c) (arrive k frames (m (ticked t w)))) → Reaches code (with_core c w) (arrive k frames (take_tick m w))
  tick_run {A} x c frames w k m has due h = from w.ticks h
    where
      from : (n : ℕ) → ((t : ℕ) → n ≡ suc t → Leads code (ticked t w) (act code x.line x.instruction c) (arrive k frames (m (ticked t w)))) → Reaches code (with_core c (ticked n w)) (arrive k frames (tick_from n m (ticked n w)))
      from zero h = pauses_at x c w has due
      from (suc t) h = due_leads x c w t (act code x.line x.instruction c) _ has due refl (h t refl)

  -- where no tick is left
  pub out_run : {A : Type 0} (x : Placed) (c : Core) (frames : List Frame) (w : RunState) (k : A → RunState → MachineState) → slice_get code.places c.place ≡ Some x → is_due x.instruction ≡ true → w.ticks ≤ 0 → Reaches code (with_core c w) (arrive k frames (Left OutOfTicks w))
  out_run x c frames w k has due le =
      let e : w.ticks ≡ 0 = omega (arith, le) in
      subst (λ t. Reaches code (with_core c (ticked t w)) (Finishes (run_at Paused (ticked t w)))) (sym e) (pauses_at x c w has due)

  -- what an instruction does where it looks as a part does
  pub did_leads : {A B : Type 0} (l : Line) (r : OkOr A Failure) (go : A → Moved) (w : RunState) (k : B → RunState → MachineState) (frames : List Frame) (f : A → Part B) → ((a : A) → r ≡ Ok a → Leads code w (go a) (arrive k frames (f a w))) → Leads code w (did l r go) (arrive k frames (outcome_then (looked l r w) f))
  did_leads l (Ok a) go w k frames f h = h a refl
  did_leads l (Err (Fails kind)) go w k frames f h = breaks
  did_leads l (Err TypeError) go w k frames f h = whatever

-- ## Cells

-- where there are as many cells as an instruction says
pub at_the_height : (h : ℕ) (cells : List Value) (m : Moved) → length cells ≡ h → at_height h cells m ≡ m
at_the_height h cells m e = ap (λ b. if b then m else Stuck) (eq-eqb (length cells) h e)

abbrev pub same : List Value → List Value
same cells = cells

abbrev pub done : {A : Type 0} → A → List Value → List Value
done u cells = cells

abbrev pub put_on : Value → List Value → List Value
put_on v cells = v ∷ cells

-- values in cells, the last on top
abbrev pub onto : List Value → List Value → List Value
onto [] cells = cells
onto (v ∷ vs) cells = onto vs (v ∷ cells)

-- ## Pieces of code

-- Wherever the code c lies, above h cells and with at most n ticks, it does what m does, and ends where `land` says, counted from its end.
-- It finds what `before` puts on these cells, and leaves what `after` puts there.
pub record Lands {A : Type 0} (code : Code) (n h : ℕ) (before : List Value → List Value) (c : List Placed) (land : A → ℕ → ℕ) (after : A → List Value → List Value) (m : Part A) : Type 0 where
  pub by : (place : ℕ) (cells : List Value) (frames : List Frame) (w : RunState) → length cells ≡ h → HasAt code.places place c → Within code n w → Reaches code (at place (before cells) frames w) (arrive (λ a w'. at (land a (place + length c)) (after a cells) frames w') frames (m w))

-- at its end
abbrev pub at_end : {A : Type 0} → A → ℕ → ℕ
at_end a p = p

abbrev pub Runs : {A : Type 0} → Code → ℕ → ℕ → (List Value → List Value) → List Placed → (A → List Value → List Value) → Part A → Type 0
Runs code n h before c after m = Lands code n h before c at_end after m

-- ## Equal parts

pub went : {A : Type 0} (o : Outcome A) → outcome_then o WentOn ≡ o
went (WentOn a w) = refl
went (Left e w) = refl

pub then_then : {A B D : Type 0} (o : Outcome A) (f : A → Part B) (g : B → Part D) → outcome_then (outcome_then o f) g ≡ outcome_then o (λ a w. outcome_then (f a w) g)
then_then (WentOn a w) f g = refl
then_then (Left e w) f g = refl

pub looks_then : {A B : Type 0} (l : Line) (r : OkOr A Failure) (g : A → Store → OkOr B Failure) (w : RunState) → outcome_then (looked l r w) (λ a. look l (g a)) ≡ looked l (if_ok r (λ a. g a w.store)) w
looks_then l (Err (Fails k)) g w = refl
looks_then l _ g w = refl

-- two looks in turn, each at the present store
pub look_then : {A B D : Type 0} (l : Line) (r : OkOr A Failure) (g : A → Store → OkOr B Failure) (f : B → Part D) (w : RunState) → outcome_then (looked l r w) (λ a w. outcome_then (look l (g a) w) f) ≡ outcome_then (looked l (if_ok r (λ a. g a w.store)) w) f
look_then l (Err (Fails k)) g f w = refl
look_then l _ g f w = refl

pub turned_then : {A B D : Type 0} (l : Line) (r : OkOr A Failure) (g : A → B) (m : B → Part D) (w : RunState) → outcome_then (looked l r w) (λ a. m (g a)) ≡ outcome_then (looked l (turned g r) w) m
turned_then l (Err (Fails k)) g m w = refl
turned_then l _ g m w = refl

module _ (code : Code) (n h : ℕ) where
  -- one part after another
  pub seq : {A B : Type 0} {before : List Value → List Value} {c1 c2 : List Placed} {mid : A → List Value → List Value} {land : B → ℕ → ℕ} {after : B → List Value → List Value} {m1 : Part A} {m2 : A → Part B} → Runs code n h before c1 mid m1 → ((a : A) → Lands code n h (mid a) c2 land after (m2 a)) → Lands code n h before (c1 ++ c2) land after (λ w. outcome_then (m1 w) m2)
  seq {before = before} {c1 = c1} {c2 = c2} {mid = mid} {land = land} {after = after} {m1 = m1} {m2 = m2} r1 r2 = record {
    by = λ place cells frames w high has in_.
        let len : place + length c1 + length c2 ≡ place + length (c1 ++ c2) = omega (arith, length-append c1 c2) in
        join (at place (before cells) frames w) (λ a w'. at (place + length c1) (mid a cells) frames w') (λ b w'. at (land b (place + length (c1 ++ c2))) (after b cells) frames w') frames (m1 w) m2
        (r1.by place cells frames w high (has_front code.places place c1 c2 has) in_)
        (λ a w' k. subst (λ p. Reaches code (at (place + length c1) (mid a cells) frames w') (arrive (λ b w'. at (land b p) (after b cells) frames w') frames (m2 a w'))) len
        ((r2 a).by (place + length c1) cells frames w' high (has_back code.places place c1 c2 has) (within_on in_ k)));
  }

  -- a part that is equal to another lands as it does
  pub alike : {A : Type 0} {before : List Value → List Value} {c : List Placed} {land : A → ℕ → ℕ} {after : A → List Value → List Value} {m m' : Part A} → ((w : RunState) → m w ≡ m' w) → Lands code n h before c land after m → Lands code n h before c land after m'
  alike {before = before} {c = c} {land = land} {after = after} e r = record {
    by = λ place cells frames w high has in_. subst (λ o. Reaches code (at place (before cells) frames w) (arrive (λ a w'. at (land a (place + length c)) (after a cells) frames w') frames o)) (e w) (r.by place cells frames w high has in_);
  }

  -- one look after another
  pub seq_look : {A B : Type 0} {before : List Value → List Value} {c1 c2 : List Placed} {mid : A → List Value → List Value} {land : B → ℕ → ℕ} {after : B → List Value → List Value} (l : Line) (f : Store → OkOr A Failure) (g : A → Store → OkOr B Failure) → Runs code n h before c1 mid (look l f) → ((a : A) → Lands code n h (mid a) c2 land after (look l (g a))) → Lands code n h before (c1 ++ c2) land after (look l (λ s. if_ok (f s) (λ a. g a s)))
  seq_look l f g r1 r2 = alike (λ w. looks_then l (f w.store) g w) (seq r1 r2)

  -- code that lands does so above further cells
  pub above : {A : Type 0} {before : List Value → List Value} {c : List Placed} {land : A → ℕ → ℕ} {after : A → List Value → List Value} {m : Part A} (below : List Value → List Value) (k : ℕ) → ((cells : List Value) → length cells ≡ h → length (below cells) ≡ k) → Lands code n k before c land after m → Lands code n h (λ s. before (below s)) c land (λ a s. after a (below s)) m
  above below k higher r = record { by = λ place cells frames w high has in_. r.by place (below cells) frames w (higher cells high) has in_ }

  -- no instruction
  pub none : {A : Type 0} {after : A → List Value → List Value} (a : A) → Runs code n h (after a) [] after (WentOn a)
  none {after = after} a = record {
    by = λ place cells frames w high has in_. let e : place ≡ place + 0 = omega arith in subst (λ p. Reaches code (at place (after a cells) frames w) (Comes (at p (after a cells) frames w))) e here;
  }

  -- one instruction that looks at the store, and where it leads
  pub look_lands : {A : Type 0} (x : Placed) (before : List Value → List Value) (land : A → ℕ → ℕ) (after : A → List Value → List Value) (f : Store → OkOr A Failure) → is_due x.instruction ≡ false → ((place : ℕ) (cells : List Value) (frames : List Frame) (s : Store) → length cells ≡ h → act code x.line x.instruction (core_at place (before cells) frames s) ≡ did x.line (f s) (λ a. To (core_at (land a (place + 1)) (after a cells) frames s))) → Lands code n h before (x ∷ []) land after (look x.line f)
  look_lands x before land after f calm e = alike (λ w. went (look x.line f w)) (record {
    by = λ place cells frames w high has in_.
        step_leads code x (core_at place (before cells) frames w.store) w _ _ has.0 calm (e place cells frames w.store high)
        (did_leads code x.line (f w.store) _ w (λ a w'. at (land a (place + 1)) (after a cells) frames w') frames WentOn (λ a q. onwards here));
  })

  -- one instruction that changes the store as it looked
  pub change_runs : (x : Placed) (before : List Value → List Value) (after : Unit {0} → List Value → List Value) (f : Store → OkOr Store Failure) → is_due x.instruction ≡ false → ((place : ℕ) (cells : List Value) (frames : List Frame) (s : Store) → length cells ≡ h → act code x.line x.instruction (core_at place (before cells) frames s) ≡ did x.line (f s) (λ s'. To (core_at (place + 1) (after tt cells) frames s'))) → Runs code n h before (x ∷ []) after (change x.line f)
  change_runs x before after f calm e = record {
    by = λ place cells frames w high has in_.
        step_leads code x (core_at place (before cells) frames w.store) w _ _ has.0 calm (e place cells frames w.store high)
        (did_leads code x.line (f w.store) _ w (λ u w'. at (place + 1) (after u cells) frames w') frames settle (λ s' q. onwards here));
  }
