-- A member, then an owner, then an instruction that works on both: the member is looked at before where the owner's evaluation may fault.
use Rattle.std.proofs.Common.{◌≡◌, ℕ, ◌+◌, Bool, true, false, List, [], ◌∷◌, ◌++◌, length, Option, Some, None, Ok, Err, ℤ, refl, sym, ap, ◌∙◌, subst, arith, length-append}
use Rattle.ss_code_instructions.proofs.Common.{act, after, after_bearer, bearer, bearer_code, cell_at, Code, Constant, core_at, did, eq-eqb, Expression, expression_of, Fails, Failure, FaultKind, Fetch, fetched, fit, Frame, height, if_ok, is_due, leaf, look, looked, looked_at, looked_code, MachineState, may_fault, member, member_value, Moved, onward, operand, operand_code, or_cell, or_zero, outcome_then, owner_value, Part, place, RunState, SetOwner, Site, stay, Store, turned, TypeError, Value, value, with_bearer, with_operand_value, with_owner}
use Rattle.std.specs.Prelude.{slice_get, Result as OkOr, if◌then◌else◌}
use Rattle.ss_code_instructions.specs.Instructions.{Bearer, Held, Instruction, Operand, Placed, Constant as AConstant, LookMember}
use Rattle.ss_code_instructions.proofs.Steps.{HasAt, has_front, has_back, Reaches, free, at, arrive}
use Rattle.ss_code_instructions.proofs.Parts.{Within, Leads, onwards, breaks, step_leads, did_leads, turned_then}
use Rattle.ss_code_instructions.proofs.Operands.{held, held_height, reads, one_join}
use Rattle.ss_code_instructions.proofs.Expressions.{evaluates}
use Rattle.ss_code_instructions.proofs.Looking.{owner_is, Found, bearer_join}

-- ## Operands that stay

pub top_cell : {A : Type 0} (h : ℕ) (v : A) (cells : List A) → length cells ≡ h → cell_at h (v ∷ cells) ≡ Some v
top_cell h v cells e = ap (λ (b : Bool). if b then Some v else cell_at h cells) (eq-eqb (length cells) h e)

pub leaf_stays : (e : Expression) (x : Operand) → leaf e ≡ Some x → stay x ≡ x
leaf_stays (Constant u) x q = let e : AConstant u ≡ x = cc in subst (λ x. stay x ≡ x) e refl
leaf_stays (Fetch y) x q = let e : Held y ≡ x = cc in subst (λ x. stay x ≡ x) e refl
leaf_stays _ x q = absurd cc

-- an operand that stays gives the value of its expression
pub stay_reads : (t : Site) (e : Expression) (v : Value) (s : Store) (cells : List Value) (go : Value → List Value → Moved) → length cells ≡ height t → value e s ≡ Ok v → with_operand_value (stay (operand t e)) s (held (leaf e) v cells) go ≡ go v (held (leaf e) v cells)
stay_reads t e v s cells go h q = by (leaf e) refl (reads t e v s cells go h q)
  where
    by : (o : Option Operand) → leaf e ≡ o → with_operand_value (or_cell (height t) o) s (held o v cells) go ≡ go v cells → with_operand_value (stay (or_cell (height t) o)) s (held o v cells) go ≡ go v (held o v cells)
    by (Some x) p r = ap (λ x. with_operand_value x s cells go) (leaf_stays e x p) ∙ r
    by None p r = ap (λ o. fit o (λ u. go u (v ∷ cells))) (top_cell (height t) v cells h)

-- ## Owners whose evaluation has no fault

-- such an owner needs no code, and gives something in any case
pub record Still (t : Site) (o : Option Expression) : Type 0 where
  pub empty : bearer_code t o ≡ []
  pub given : Store → Option Value
  pub gives : (s : Store) (cells : List Value) (go : Option Value → List Value → Moved) → with_bearer (bearer t o) s cells go ≡ go (given s) cells

pub still : (t : Site) (o : Option Expression) → may_fault o ≡ false → Still t o
still t None q = record { empty = refl; given = λ s. None; gives = λ s cells go. refl }
still t (Some (Constant v)) q = record { empty = refl; given = λ s. Some v; gives = λ s cells go. refl }
still t (Some (Fetch x)) q = record { empty = refl; given = λ s. Some (or_zero (fetched x s)); gives = λ s cells go. refl }
still t (Some _) q = absurd cc

-- an operation on a member and an owner looks at the member first
abbrev pub LooksFirst : {A : Type 0} → (set : ℕ) → (Value → Option Value → Store → OkOr A Failure) → Type 0
LooksFirst set op = (v : Value) (o : Option Value) (s : Store) (kind : FaultKind) → member set v s ≡ Err (Fails kind) → op v o s ≡ Err (Fails kind)

module _ (code : Code) (n : ℕ) where
  -- an operand that is looked at and stays, and what follows
  pub looked_join : {B : Type 0} (t : Site) (e : Expression) (make : Operand → Instruction) (check : Value → Store → OkOr ℤ Failure) → ((x : Operand) → is_due (make x) ≡ false) → ((x : Operand) (p : ℕ) (cells : List Value) (frames : List Frame) (s : Store) → act code t.line (make x) (core_at p cells frames s) ≡ with_operand_value x s cells (λ v below. did t.line (check v s) (λ _. onward below (core_at p cells frames s) s))) → (rest : List Placed) (k : B → RunState → MachineState) (go : Value → Part B) (p : ℕ) (cells : List Value) (frames : List Frame) (w : RunState) → length cells ≡ height t → HasAt code.places p (looked_code t true e make ++ rest) → Within code n w → ((v : Value) → value e w.store ≡ Ok v → HasAt code.places (p + length (looked_code t true e make)) rest → Reaches code (at (p + length (looked_code t true e make)) (held (leaf e) v cells) frames w) (arrive k frames (go v w))) → Reaches code (at p cells frames w) (arrive k frames (outcome_then (looked t.line (if_ok (value e w.store) (looked_at (λ x. check x w.store))) w) go))
  looked_join t e make check calm acts rest k go p cells frames w high has in_ f =
      let c : List Placed = operand_code t e in
      let look_ : Placed = place (after t e) (make (stay (operand t e))) in
      let front : List Placed = c ++ look_ ∷ [] in
      let end : p + length c + 1 ≡ p + length front = omega (arith, length-append c (look_ ∷ [])) in
      let h0 = has_front code.places p front rest has in
      let h1 = has_back code.places p front rest has in
      subst (λ o. Reaches code (at p cells frames w) (arrive k frames o)) (looks (value e w.store))
      (one_join code n t e (evaluates code n t e) (look_ ∷ []) k (λ v w. outcome_then (looked t.line (turned (λ (n : ℤ). v) (check v w.store)) w) go) p cells frames w high h0 in_ (λ v r h'.
      step_leads code look_ (core_at (p + length c) (held (leaf e) v cells) frames w.store) w _ _ h'.0 (calm (stay (operand t e)))
      (acts (stay (operand t e)) (p + length c) (held (leaf e) v cells) frames w.store
      ∙ stay_reads t e v w.store cells (λ x below. did t.line (check x w.store) (λ _. onward below (core_at (p + length c) (held (leaf e) v cells) frames w.store) w.store)) high r)
      (subst (λ z. Leads code w (did t.line (check v w.store) (λ _. onward (held (leaf e) v cells) (core_at (p + length c) (held (leaf e) v cells) frames w.store) w.store)) (arrive k frames z)) (turned_then t.line (check v w.store) (λ n. v) go w)
      (did_leads code t.line (check v w.store) _ w k frames (λ n. go v) (λ m z.
      onwards (subst (λ j. Reaches code (at j (held (leaf e) v cells) frames w) (arrive k frames (go v w))) (sym end) (f v r h1)))))))
    where
      looks : (r : OkOr Value Failure) → outcome_then (looked t.line r w) (λ v w. outcome_then (looked t.line (turned (λ (n : ℤ). v) (check v w.store)) w) go) ≡ outcome_then (looked t.line (if_ok r (looked_at (λ x. check x w.store))) w) go
      looks (Err (Fails kind)) = refl
      looks _ = refl

  pub member_owner_run : {A B : Type 0} (t : Site) (set : ℕ) (e : Expression) (o : SetOwner) (make : Operand → Bearer → Instruction) (op : Value → Option Value → Store → OkOr A Failure) (next : ℕ → List Value → List Frame → Store → List Value → A → Moved) (k : B → RunState → MachineState) (go : A → Part B) → LooksFirst set op → ((x : Operand) (y : Bearer) → is_due (make x y) ≡ false) → ((x : Operand) (y : Bearer) (p : ℕ) (cells : List Value) (frames : List Frame) (s : Store) → act code t.line (make x y) (core_at p cells frames s) ≡ with_bearer y s cells (λ u above. with_operand_value x s above (λ v below. did t.line (op v u s) (next p cells frames s below)))) → (p : ℕ) (cells : List Value) (frames : List Frame) (w : RunState) → length cells ≡ height t → HasAt code.places p (looked_code t (may_fault (expression_of o)) e (LookMember set) ++ with_owner (after t e) o (make (operand t e))) → Within code n w → ((q : ℕ) (cells0 : List Value) (a : A) → q + 1 ≡ p + length (looked_code t (may_fault (expression_of o)) e (LookMember set) ++ with_owner (after t e) o (make (operand t e))) → Leads code w (next q cells0 frames w.store cells a) (arrive k frames (go a w))) → Reaches code (at p cells frames w) (arrive k frames (outcome_then (look t.line (member_value set e) w) (λ v w. outcome_then (look t.line (owner_value o) w) (λ u w. outcome_then (look t.line (op v u) w) go))))
  member_owner_run {A} {B} t set e o make op next k go first calm acts p cells frames w high has in_ f = by (may_fault y) refl has f
    where
      y : Option Expression
      y = expression_of o

      c : List Placed
      c = operand_code t e

      last : Placed
      last = place (after_bearer (after t e) y) (make (operand t e) (bearer (after t e) y))

      -- the instruction itself
      works : (v : Value) (u : Option Value) (on_top : List Value → List Value) → value e w.store ≡ Ok v → Found (after t e) y w.store u on_top → (q : ℕ) → slice_get code.places q ≡ Some last → ((cells0 : List Value) (a : A) → Leads code w (next q cells0 frames w.store cells a) (arrive k frames (go a w))) → Reaches code (at q (on_top (held (leaf e) v cells)) frames w) (arrive k frames (outcome_then (looked t.line (op v u w.store) w) go))
      works v u on_top r found q h g =
          step_leads code last (core_at q (on_top (held (leaf e) v cells)) frames w.store) w _ _ h (calm (operand t e) (bearer (after t e) y))
          (acts (operand t e) (bearer (after t e) y) q (on_top (held (leaf e) v cells)) frames w.store
          ∙ found.reads (held (leaf e) v cells) (λ u above. with_operand_value (operand t e) w.store above (λ x below. did t.line (op x u w.store) (next q (on_top (held (leaf e) v cells)) frames w.store below))) (held_height t e v cells high)
          ∙ reads t e v w.store cells (λ x below. did t.line (op x u w.store) (next q (on_top (held (leaf e) v cells)) frames w.store below)) high r)
          (did_leads code t.line (op v u w.store) _ w k frames go (λ a m. g (on_top (held (leaf e) v cells)) a))

      -- from the owner on
      owned : (v : Value) → value e w.store ≡ Ok v → (q end : ℕ) → q + length (bearer_code (after t e) y) + 1 ≡ end → HasAt code.places q (bearer_code (after t e) y ++ last ∷ []) → ((j : ℕ) (cells0 : List Value) (a : A) → j + 1 ≡ end → Leads code w (next j cells0 frames w.store cells a) (arrive k frames (go a w))) → Reaches code (at q (held (leaf e) v cells) frames w) (arrive k frames (outcome_then (look t.line (owner_value o) w) (λ u w. outcome_then (look t.line (op v u) w) go)))
      owned v r q end len h g =
          subst (λ z. Reaches code (at q (held (leaf e) v cells) frames w) (arrive k frames (outcome_then (looked t.line z w) (λ u w. outcome_then (look t.line (op v u) w) go)))) (sym (owner_is o w.store))
          (bearer_join code n (after t e) y (last ∷ []) k (λ u w. outcome_then (look t.line (op v u) w) go) q (held (leaf e) v cells) frames w (held_height t e v cells high) h in_ (λ u on_top z found h'.
          works v u on_top r found (q + length (bearer_code (after t e) y)) h'.0 (λ cells0 a. g (q + length (bearer_code (after t e) y)) cells0 a len)))

      -- after the member was evaluated, where it is not looked at before
      unlooked : (v : Value) → value e w.store ≡ Ok v → may_fault y ≡ false → (m : OkOr ℤ Failure) → member set v w.store ≡ m → HasAt code.places (p + length c) (bearer_code (after t e) y ++ last ∷ []) → ((j : ℕ) (cells0 : List Value) (a : A) → j + 1 ≡ p + length c + length (bearer_code (after t e) y) + 1 → Leads code w (next j cells0 frames w.store cells a) (arrive k frames (go a w))) → Reaches code (at (p + length c) (held (leaf e) v cells) frames w) (arrive k frames (outcome_then (looked t.line (turned (λ n. v) m) w) (λ v w. outcome_then (look t.line (owner_value o) w) (λ u w. outcome_then (look t.line (op v u) w) go))))
      unlooked v r q (Ok x) z h g = owned v r (p + length c) _ refl h g
      unlooked v r q (Err TypeError) z h g = free
      unlooked v r q (Err (Fails kind)) z h g =
          let s = still (after t e) y q in
          let h' : HasAt code.places (p + length c) (last ∷ []) = subst (λ b. HasAt code.places (p + length c) (b ++ last ∷ [])) s.empty h in
          step_leads code last (core_at (p + length c) (held (leaf e) v cells) frames w.store) w _ _ h'.0 (calm (operand t e) (bearer (after t e) y))
          (acts (operand t e) (bearer (after t e) y) (p + length c) (held (leaf e) v cells) frames w.store
          ∙ s.gives w.store (held (leaf e) v cells) (λ u above. with_operand_value (operand t e) w.store above (λ x below. did t.line (op x u w.store) (next (p + length c) (held (leaf e) v cells) frames w.store below)))
          ∙ reads t e v w.store cells (λ x below. did t.line (op x (s.given w.store) w.store) (next (p + length c) (held (leaf e) v cells) frames w.store below)) high r
          ∙ ap (λ z. did t.line z (next (p + length c) (held (leaf e) v cells) frames w.store cells)) (first v (s.given w.store) w.store kind z))
          breaks

      member_then : (r : OkOr Value Failure) → outcome_then (looked t.line r w) (λ v w. outcome_then (look t.line (λ s. turned (λ n. v) (member set v s)) w) (λ v w. outcome_then (look t.line (owner_value o) w) (λ u w. outcome_then (look t.line (op v u) w) go))) ≡ outcome_then (looked t.line (if_ok r (looked_at (λ x. member set x w.store))) w) (λ v w. outcome_then (look t.line (owner_value o) w) (λ u w. outcome_then (look t.line (op v u) w) go))
      member_then (Err (Fails kind)) = refl
      member_then _ = refl

      by : (b : Bool) → may_fault y ≡ b → HasAt code.places p (looked_code t b e (LookMember set) ++ with_owner (after t e) o (make (operand t e))) → ((q : ℕ) (cells0 : List Value) (a : A) → q + 1 ≡ p + length (looked_code t b e (LookMember set) ++ with_owner (after t e) o (make (operand t e))) → Leads code w (next q cells0 frames w.store cells a) (arrive k frames (go a w))) → Reaches code (at p cells frames w) (arrive k frames (outcome_then (look t.line (member_value set e) w) (λ v w. outcome_then (look t.line (owner_value o) w) (λ u w. outcome_then (look t.line (op v u) w) go))))
      by false q h g =
          let rest = with_owner (after t e) o (make (operand t e)) in
          let len : p + length c + length (bearer_code (after t e) y) + 1 ≡ p + length (c ++ rest) = omega (arith, length-append c rest, length-append (bearer_code (after t e) y) (last ∷ [])) in
          subst (λ z. Reaches code (at p cells frames w) (arrive k frames z)) (member_then (value e w.store))
          (one_join code n t e (evaluates code n t e) rest k (λ v w. outcome_then (look t.line (λ s. turned (λ n. v) (member set v s)) w) (λ v w. outcome_then (look t.line (owner_value o) w) (λ u w. outcome_then (look t.line (op v u) w) go))) p cells frames w high h in_ (λ v r h'.
          unlooked v r q (member set v w.store) refl h' (λ j cells0 a m. g j cells0 a (m ∙ len))))
      by true q h g =
          let rest = with_owner (after t e) o (make (operand t e)) in
          let front : List Placed = looked_code t true e (LookMember set) in
          let len : p + length front + length (bearer_code (after t e) y) + 1 ≡ p + length (front ++ rest) = omega (arith, length-append front rest, length-append (bearer_code (after t e) y) (last ∷ [])) in
          looked_join t e (LookMember set) (member set) (λ x. refl) (λ x p cells frames s. refl) rest k (λ v w. outcome_then (look t.line (owner_value o) w) (λ u w. outcome_then (look t.line (op v u) w) go)) p cells frames w high h in_ (λ v r h1.
          owned v r (p + length front) (p + length (front ++ rest)) len h1 (λ j cells0 a s. g j cells0 a s))
