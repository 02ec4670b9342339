-- What follows a part, with what is known of the part's value; and worlds that are later.
use Rattle.std.proofs.Common.{◌≡◌, ℕ, suc, ◌+◌, List, ◌++◌, length, Option, Some, None, refl, subst, arith, length-append}
use Rattle.ss_code_instructions.proofs.Common.{Code, fit, Frame, Left, MachineState, Moved, needed, Outcome, outcome_then, Part, Placed, RunState, Store, Value, WentOn}
use Rattle.ss_code_instructions.proofs.Keeping.{Lasts, suits_on}
use Rattle.ss_code_instructions.proofs.Steps.{has_front, has_back, Reaches, Kept, at, arrive, join_known}
use Rattle.ss_code_instructions.proofs.Parts.{Within, within_on, Leads, whatever, ticked, Lands, Runs}

-- ## Worlds

-- with a tick less
pub within_ticked : {code : Code} {n t : ℕ} {w : RunState} → Within code (suc n) w → w.ticks ≡ suc t → Within code n (ticked t w)
within_ticked i e = record { ticks = omega (arith, i.ticks, e); says = i.says }

-- with another store, in which the program says the same, and each member of a set goes on to live
pub within_store : {code : Code} {n : ℕ} {w : RunState} {s : Store} → Within code n w → Lasts w.store s → Within code n (record w { store = s })
within_store {code} {w} {s} i e = record { ticks = i.ticks; says = suits_on code w.store s e i.says }

-- ## A part, and what follows

-- what a part goes on with has a property
abbrev pub IfWentOn : {A : Type 0} → (A → Type 0) → Outcome A → Type 0
IfWentOn P (WentOn a w) = P a
IfWentOn P (Left e w) = Unit {0}

-- where the value of a part has a property
pub join_such : {A B : Type 0} {code : Code} (P : A → Type 0) (s : MachineState) (k : A → RunState → MachineState) (k' : B → RunState → MachineState) (frames : List Frame) (r : Outcome A) (f : A → Part B) → IfWentOn P r → Reaches code s (arrive k frames r) → ((a : A) (w : RunState) → P a → Kept s (k a w) → Reaches code (k a w) (arrive k' frames (f a w))) → Reaches code s (arrive k' frames (outcome_then r f))
join_such P s k k' frames r f such g h = join_known s k k' frames r f g (λ a w e q. h a w (subst (IfWentOn P) e such) q)

module _ (code : Code) (n h : ℕ) where
  -- one part after another, where the value of the first has a property
  pub seq_such : {A B : Type 0} {before : List Value → List Value} {c1 c2 : List Placed} {mid : A → List Value → List Value} {land : B → ℕ → ℕ} {after : B → List Value → List Value} {m1 : Part A} {m2 : A → Part B} (P : A → Type 0) → ((w : RunState) → IfWentOn P (m1 w)) → Runs code n h before c1 mid m1 → ((a : A) → P a → Lands code n h (mid a) c2 land after (m2 a)) → Lands code n h before (c1 ++ c2) land after (λ w. outcome_then (m1 w) m2)
  seq_such {before = before} {c1 = c1} {c2 = c2} {mid = mid} {land = land} {after = after} {m1 = m1} {m2 = m2} P such r1 r2 = record {
    by = λ place cells frames w high has in_.
        let len : place + length c1 + length c2 ≡ place + length (c1 ++ c2) = omega (arith, length-append c1 c2) in
        join_such P (at place (before cells) frames w) (λ a w'. at (place + length c1) (mid a cells) frames w') (λ b w'. at (land b (place + length (c1 ++ c2))) (after b cells) frames w') frames (m1 w) m2 (such w)
        (r1.by place cells frames w high (has_front code.places place c1 c2 has) in_)
        (λ a w' p k. subst (λ j. Reaches code (at (place + length c1) (mid a cells) frames w') (arrive (λ b w''. at (land b j) (after b cells) frames w'') frames (m2 a w'))) len
        ((r2 a p).by (place + length c1) cells frames w' high (has_back code.places place c1 c2 has) (within_on in_ k)));
  }

module _ (code : Code) where
  -- an instruction that needs what has to be there; the meaning may have another store by then
  pub needed_leads : {A B : Type 0} (o : Option A) (go : A → Moved) (w w' : RunState) (k : B → RunState → MachineState) (frames : List Frame) (f : A → Part B) → ((a : A) → o ≡ Some a → Leads code w (go a) (arrive k frames (f a w'))) → Leads code w (fit o go) (arrive k frames (outcome_then (needed o w') f))
  needed_leads (Some a) go w w' k frames f h = h a refl
  needed_leads None go w w' k frames f h = whatever
