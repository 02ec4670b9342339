-- Steps of the machine, and where they lead.
use Rattle.std.proofs.Common.{◌≡◌, ℕ, zero, suc, ◌+◌, ◌<◌, ◌≤◌, Bool, true, false, List, [], ◌∷◌, ◌++◌, length, Option, Some, None, refl, sym, ap, ◌∙◌, subst, arith, append_assoc, length-append}
use Rattle.ss_code_instructions.proofs.Common.{act, Code, Core, core_at, Ended, Ending, Fault, Frame, Goes, is_due, MachineState, Over, Paused, Placed, Run, run_at, slice_get, step, step_at, Value, with_locals, yielded}
use Rattle.std.proofs.Math.Seq.{get_or-append_seam}
use Rattle.std.proofs.lemmas.Option.{slice_get-get_or}
use Rattle.ss_code_instructions.specs.Running.{after_one_step, steps, Underway, Result, Ends, IsStuck, ended_at}
use Rattle.ss_meaning.specs.Parts.{Faulted, Left, Outcome, outcome_then, OutOfTicks, Part, Returned, RunState, Stopped, WentOn, Wrong, Exit}
use Rattle.ss_code_instructions.proofs.Keeping.{Lasts, lasts_then}
use Rattle.ss_code_instructions.proofs.Moving.{AreTicks, after_step}
use Rattle.ss_code_instructions.proofs.Acting.{act_lasts}

-- the items lie in the list at this place
abbrev pub HasAt : {A : Type 0} → List A → ℕ → List A → Type 0
HasAt all place [] = Unit {0}
HasAt all place (i ∷ is) = (slice_get all place ≡ Some i) × HasAt all (place + 1) is

module _ {A : Type 0} (all : List A) where
  pub has_front : (place : ℕ) (a b : List A) → HasAt all place (a ++ b) → HasAt all place a
  has_front place [] b h = tt
  has_front place (i ∷ a) b h = (h.0, has_front (place + 1) a b h.1)

  pub has_back : (place : ℕ) (a b : List A) → HasAt all place (a ++ b) → HasAt all (place + length a) b
  has_back place [] b h = let e : place ≡ place + 0 = omega arith in subst (λ n. HasAt all n b) e h
  has_back place (i ∷ a) b h =
      let e : place + 1 + length a ≡ place + length (i ∷ a) = omega arith in
      subst (λ n. HasAt all n b) e (has_back (place + 1) a b h.1)

pub has_all : {A : Type 0} (is pre : List A) → HasAt (pre ++ is) (length pre) is
has_all [] pre = tt
has_all {A} (i ∷ is) pre =
    let within : length pre < length (pre ++ i ∷ is) = omega (arith, length-append pre (i ∷ is)) in
    let here = slice_get-get_or (pre ++ i ∷ is) (length pre) i within ∙ ap Some (get_or-append_seam pre i is i) in
    let n : length (pre ++ i ∷ []) ≡ length pre + 1 = omega (arith, length-append pre (i ∷ [])) in
    let rest = has_all is (pre ++ i ∷ []) in
    let rest' = subst (λ l. HasAt l (length (pre ++ i ∷ [])) is) (append_assoc pre (i ∷ []) is) rest in
    (here, subst (λ m. HasAt (pre ++ i ∷ is) m is) n rest')

-- what holds of each item of a list and of its place, where the first has this one
module _ {A : Type 0} (P : ℕ → A → Type 0) where
  abbrev pub EachAt : ℕ → List A → Type 0
  EachAt q [] = Unit {0}
  EachAt q (x ∷ c) = P q x × EachAt (q + 1) c

  pub each_append : (q : ℕ) (c d : List A) → EachAt q c → EachAt (q + length c) d → EachAt q (c ++ d)
  each_append q [] d h k = let e : q + 0 ≡ q = omega arith in subst (λ j. EachAt j d) e k
  each_append q (x ∷ c) d h k =
      let e : q + length (x ∷ c) ≡ q + 1 + length c = omega arith in
      (h.0, each_append (q + 1) c d h.1 (subst (λ j. EachAt j d) e k))

  pub each_get : (q : ℕ) (c : List A) → EachAt q c → (k : ℕ) (x : A) → slice_get c k ≡ Some x → P (q + k) x
  each_get q [] h k x e = absurd cc
  each_get q (y ∷ c) h zero x e =
      let same : y ≡ x = cc in
      let j : q ≡ q + 0 = omega arith in
      subst (λ j. P j x) j (subst (P q) same h.0)
  each_get q (y ∷ c) h (suc k) x e =
      let j : q + 1 + k ≡ q + suc k = omega arith in
      subst (λ j. P j x) j (each_get (q + 1) c h.1 k x e)

-- where a run leads: to a state, or to its end; or nothing is promised
pub data Goal : Type 0 where
  Comes : MachineState → Goal
  Finishes : Run → Goal
  Free : Goal

-- the machine gets there from a state
pub data Reaches (code : Code) : MachineState → Goal → Type 0 where
  here : {s : MachineState} → Reaches code s (Comes s)
  over : {s : MachineState} {e : Ending} {t : ℕ} → step code s ≡ Over e t → Reaches code s (Finishes (ended_at s e t))
  free : {s : MachineState} → Reaches code s Free
  more : {s t : MachineState} {r : Goal} → step code s ≡ Goes t → Reaches code t r → Reaches code s r

pub reaches_on : {code : Code} {s t : MachineState} {r : Goal} → Reaches code s (Comes t) → Reaches code t r → Reaches code s r
reaches_on here g = g
reaches_on (more e f) g = more e (reaches_on f g)

pub in_steps : {code : Code} {s : MachineState} {r : Run} → Reaches code s (Finishes r) → (m : ℕ) × (steps code m s ≡ Ends r)
in_steps {code} {s} (over e) = (1, ap (λ x. after_one_step x s (steps code 0)) e)
in_steps {code} {s} (more e f) = let i = in_steps f in (suc i.0, ap (λ x. after_one_step x s (steps code i.0)) e ∙ i.1)

-- what m steps may come to, where the end is known
abbrev pub Agrees : Run → Result → Type 0
Agrees r (Underway s) = Unit {0}
Agrees r (Ends r') = r' ≡ r
Agrees r IsStuck = ⊥

pub agrees : {code : Code} {s : MachineState} {r : Run} → Reaches code s (Finishes r) → (m : ℕ) → Agrees r (steps code m s)
agrees f zero = tt
agrees {code} {s} (over {e = e} {t = t} h) (suc m) = subst (λ x. Agrees (ended_at s e t) (after_one_step x s (steps code m))) (sym h) refl
agrees {code} {s} {r} (more h f) (suc m) = subst (λ x. Agrees r (after_one_step x s (steps code m))) (sym h) (agrees f m)

-- ## What no step changes: it gives no ticks, the program says the same, and each member of a set goes on to live

pub record Kept (s t : MachineState) : Type 0 where
  pub fewer : t.ticks ≤ s.ticks
  pub same : Lasts s.core.store t.core.store

no_more : (b : Bool) (n t : ℕ) → AreTicks b n t → t ≤ n
no_more false n t e = omega (arith, e)
no_more true n t e = omega (arith, e)

at_kept : (o : Option Placed) (code : Code) (s x : MachineState) → step_at o code s ≡ Goes x → Kept s x
at_kept None code s x e = absurd cc
at_kept (Some i) code s x e =
    let q = after_step (λ (c : Core). Lasts s.core.store c.store) (is_due i.instruction) s.report s.ticks (act code i.line i.instruction s.core) x (act_lasts code i.line i.instruction s.core) e in
    record { fewer = no_more (is_due i.instruction) s.ticks x.ticks q.1; same = q.0 }

pub kept : {code : Code} {s t : MachineState} → Reaches code s (Comes t) → Kept s t
kept here = record { fewer = omega arith; same = (refl, λ j. j) }
kept {code} {s} {t} (more {t = x} e f) =
    let p : Kept s x = at_kept (slice_get code.places s.core.place) code s x e in
    let q : Kept x t = kept f in
    record { fewer = omega (arith, p.fewer, q.fewer); same = lasts_then s.core.store x.core.store t.core.store p.same q.same }

-- ## Where the machine goes after a part of a program

-- the machine at a place, with cells, calls that are open, and a run state
abbrev pub at : ℕ → List Value → List Frame → RunState → MachineState
at place cells frames w = record { core = core_at place cells frames w.store; report = w.report; ticks = w.ticks }

-- where a routine's return leads
abbrev pub landed : Option (List Value) → Frame → List Frame → RunState → Goal
landed (Some us) f fs w = Comes (at f.back (us ++ f.cells) fs (with_locals f.locals w))
landed None f fs w = Free

-- where the machine goes when a part of the program is left
abbrev pub left_to : Exit → List Frame → RunState → Goal
left_to Returned [] w = Finishes (run_at Ended w)
left_to Returned (f ∷ fs) w = landed (yielded f.first f.count w.store.locals) f fs w
left_to Stopped frames w = Finishes (run_at Ended w)
left_to (Faulted kind line) frames w = Finishes (run_at (Fault kind line) w)
left_to OutOfTicks frames w = Finishes (run_at Paused w)
left_to Wrong frames w = Free

-- where the machine goes after a part of the program: to k, or where it is left
abbrev pub arrive : {A : Type 0} → (A → RunState → MachineState) → List Frame → Outcome A → Goal
arrive k frames (WentOn a w) = Comes (k a w)
arrive k frames (Left e w) = left_to e frames w

pub join : {A B : Type 0} {code : Code} (s : MachineState) (k : A → RunState → MachineState) (k' : B → RunState → MachineState) (frames : List Frame) (r : Outcome A) (f : A → Part B) → Reaches code s (arrive k frames r) → ((a : A) (w : RunState) → Kept s (k a w) → Reaches code (k a w) (arrive k' frames (f a w))) → Reaches code s (arrive k' frames (outcome_then r f))
join s k k' frames (WentOn a w) f g h = reaches_on g (h a w (kept g))
join s k k' frames (Left e w) f g h = g

-- where it is known how the part went
pub join_known : {A B : Type 0} {code : Code} (s : MachineState) (k : A → RunState → MachineState) (k' : B → RunState → MachineState) (frames : List Frame) (r : Outcome A) (f : A → Part B) → Reaches code s (arrive k frames r) → ((a : A) (w : RunState) → r ≡ WentOn a w → Kept s (k a w) → Reaches code (k a w) (arrive k' frames (f a w))) → Reaches code s (arrive k' frames (outcome_then r f))
join_known s k k' frames (WentOn a w) f g h = reaches_on g (h a w refl (kept g))
join_known s k k' frames (Left e w) f g h = g

pub follow : {A : Type 0} {code : Code} (s : MachineState) (k k' : A → RunState → MachineState) (frames : List Frame) (r : Outcome A) → Reaches code s (arrive k frames r) → ((a : A) (w : RunState) → Kept s (k a w) → Reaches code (k a w) (Comes (k' a w))) → Reaches code s (arrive k' frames r)
follow s k k' frames (WentOn a w) g h = reaches_on g (h a w (kept g))
follow s k k' frames (Left e w) g h = g
