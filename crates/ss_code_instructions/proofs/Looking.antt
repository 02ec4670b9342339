-- Instructions that look at operands, and go on or jump.
use Rattle.std.proofs.Common.{◌≡◌, ℕ, ◌+◌, false, List, [], ◌∷◌, ◌++◌, length, Option, Some, None, Ok, Err, refl, sym, ap, ◌∙◌, subst, arith, length-append}
use Rattle.std.specs.Prelude.{Result as OkOr}
use Rattle.ss_code_instructions.proofs.Common.{act, after, after_bearer, Bearer, bearer, bearer_code, Code, core_at, did, Entity, Expression, expression_of, Fails, Failure, fit, Frame, height, if_ok, Instruction, is_due, leaf, Line, look, looked, MachineState, Moved, Operand, operand, operand_code, outcome_then, owner_value, Part, place, Placed, RunState, SetOwner, Site, Store, sure, TheSystem, To, turned, TypeError, Value, value, value_if_any, WentOn, with_bearer, with_operand, with_owner, with_values}
use Rattle.ss_code_instructions.proofs.Steps.{HasAt, Comes, Reaches, here, at, arrive}
use Rattle.ss_code_instructions.proofs.Parts.{Within, Leads, onwards, step_leads, did_leads, Lands, same, done, went, looks_then, turned_then, alike}
use Rattle.ss_code_instructions.proofs.Operands.{held, held_height, reads, reads_both, one_join, two_join}
use Rattle.ss_code_instructions.proofs.Expressions.{evaluates}

pub fit_did : {A : Type 0} (l : Line) (o : Option A) (go : A → Moved) → fit o go ≡ did l (sure o) go
fit_did l None go = refl
fit_did l (Some a) go = refl

-- ## Owners

pub owner_is : (o : SetOwner) (s : Store) → owner_value o s ≡ value_if_any (expression_of o) s
owner_is TheSystem s = refl
owner_is (Entity e) s = refl

-- what lies in cells once an owner was evaluated, and how it is read
pub record Found (t : Site) (o : Option Expression) (s : Store) (x : Option Value) (on_top : List Value → List Value) : Type 0 where
  pub reads : (cells : List Value) (go : Option Value → List Value → Moved) → length cells ≡ height t → with_bearer (bearer t o) s (on_top cells) go ≡ go x cells
  pub high : (cells : List Value) → length cells ≡ height t → length (on_top cells) ≡ height (after_bearer t o)

module _ (code : Code) (n : ℕ) where
  -- an owner, or the entity of a statistic, and what follows
  pub bearer_join : {B : Type 0} (t : Site) (o : Option Expression) (rest : List Placed) (k : B → RunState → MachineState) (go : Option Value → Part B) (p : ℕ) (cells : List Value) (frames : List Frame) (w : RunState) → length cells ≡ height t → HasAt code.places p (bearer_code t o ++ rest) → Within code n w → ((x : Option Value) (on_top : List Value → List Value) → value_if_any o w.store ≡ Ok x → Found t o w.store x on_top → HasAt code.places (p + length (bearer_code t o)) rest → Reaches code (at (p + length (bearer_code t o)) (on_top cells) frames w) (arrive k frames (go x w))) → Reaches code (at p cells frames w) (arrive k frames (outcome_then (look t.line (value_if_any o) w) go))
  bearer_join t None rest k go p cells frames w high has in_ f =
      let e : p ≡ p + 0 = omega arith in
      subst (λ q. Reaches code (at q cells frames w) (arrive k frames (go None w))) (sym e)
      (f None (λ c. c) refl (record { reads = λ cells go h. refl; high = λ cells h. h }) (subst (λ q. HasAt code.places q rest) e has))
  bearer_join t (Some e) rest k go p cells frames w high has in_ f =
      subst (λ o. Reaches code (at p cells frames w) (arrive k frames o)) (turned_then t.line (value e w.store) Some go w)
      (one_join code n t e (evaluates code n t e) rest k (λ v. go (Some v)) p cells frames w high has in_ (λ v q has'.
      f (Some v) (held (leaf e) v) (ap (turned Some) q)
      (record { reads = λ cells go h. reads t e v w.store cells (λ v below. go (Some v) below) h q; high = λ cells h. held_height t e v cells h }) has'))

  -- an owner, or the entity of a statistic, and an instruction that reads it
  pub bearer_lands : {B : Type 0} (t : Site) (o : Option Expression) (make : Bearer → Instruction) (land : B → ℕ → ℕ) (put : B → List Value → List Value) (go : ℕ → List Value → List Frame → Store → Option Value → List Value → Moved) (f : Option Value → Part B) → ((x : Bearer) → is_due (make x) ≡ false) → ((x : Bearer) (p : ℕ) (cells : List Value) (frames : List Frame) (s : Store) → act code t.line (make x) (core_at p cells frames s) ≡ with_bearer x s cells (go p cells frames s)) → ((v : Option Value) (p : ℕ) (cells cells0 : List Value) (frames : List Frame) (w : RunState) → length cells ≡ height t → Leads code w (go p cells0 frames w.store v cells) (arrive (λ b w'. at (land b (p + 1)) (put b cells) frames w') frames (f v w))) → Lands code n (height t) same (bearer_code t o ++ place (after_bearer t o) (make (bearer t o)) ∷ []) land put (λ w. outcome_then (look t.line (value_if_any o) w) f)
  bearer_lands {B} t o make land put go f calm acts leads = record {
    by = λ p cells frames w high has in_.
        let c : List Placed = bearer_code t o in
        let last : Placed = place (after_bearer t o) (make (bearer t o)) in
        let end : p + length c + 1 ≡ p + length (c ++ last ∷ []) = omega (arith, length-append c (last ∷ [])) in
        let ends : B → RunState → MachineState = λ b w'. at (land b (p + length (c ++ last ∷ []))) (put b cells) frames w' in
        bearer_join t o (last ∷ []) ends f p cells frames w high has in_ (λ v on_top q found has'.
        step_leads code last (core_at (p + length c) (on_top cells) frames w.store) w _ _ has'.0 (calm (bearer t o))
        (acts (bearer t o) (p + length c) (on_top cells) frames w.store ∙ found.reads cells (go (p + length c) (on_top cells) frames w.store) high)
        (subst (λ j. Leads code w (go (p + length c) (on_top cells) frames w.store v cells) (arrive (λ b w'. at (land b j) (put b cells) frames w') frames (f v w))) end
        (leads v (p + length c) cells (on_top cells) frames w high)));
  }

  -- ## Instructions that look and go on, or jump

  -- two operands
  pub two_lands : {A : Type 0} (t : Site) (a b : Expression) (make : (x y : Operand) → Instruction) (land : A → ℕ → ℕ) (f : Value → Value → Store → OkOr A Failure) (go : ℕ → List Value → List Frame → Store → Value → Value → List Value → Moved) → ((x y : Operand) → is_due (make x y) ≡ false) → ((x y : Operand) (p : ℕ) (cells : List Value) (frames : List Frame) (s : Store) → act code t.line (make x y) (core_at p cells frames s) ≡ with_values x y s cells (go p cells frames s)) → ((p : ℕ) (cells : List Value) (frames : List Frame) (s : Store) (v u : Value) (below : List Value) → go p cells frames s v u below ≡ did t.line (f v u s) (λ a. To (core_at (land a (p + 1)) below frames s))) → Lands code n (height t) same (operand_code t a ++ with_operand (after t a) b (make (operand t a))) land done (look t.line (λ s. if_ok (value a s) (λ x. if_ok (value b s) (λ y. f x y s))))
  two_lands t a b make land f go calm acts goes = record {
    by = λ p cells frames w high has in_.
        let ca = operand_code t a in
        let cb = operand_code (after t a) b in
        let x : Placed = place (after (after t a) b) (make (operand t a) (operand (after t a) b)) in
        let all = ca ++ (cb ++ x ∷ []) in
        let end : p + length ca + length cb + 1 ≡ p + length all = omega (arith, length-append ca (cb ++ x ∷ []), length-append cb (x ∷ [])) in
        subst (λ o. Reaches code (at p cells frames w) (arrive (λ a w'. at (land a (p + length all)) cells frames w') frames o)) (both_looks t.line (value a w.store) (value b) f w)
        (two_join code n t a b (evaluates code n t a) (evaluates code n (after t a) b) (x ∷ []) (λ a w'. at (land a (p + length all)) cells frames w') (λ v u. look t.line (f v u)) p cells frames w high has in_ (λ v u q r has'.
        step_leads code x (core_at (p + length ca + length cb) (held (leaf b) u (held (leaf a) v cells)) frames w.store) w _ _ has'.0 (calm (operand t a) (operand (after t a) b))
        (acts (operand t a) (operand (after t a) b) (p + length ca + length cb) (held (leaf b) u (held (leaf a) v cells)) frames w.store
        ∙ reads_both t a b v u w.store cells (go (p + length ca + length cb) (held (leaf b) u (held (leaf a) v cells)) frames w.store) high q r
        ∙ goes (p + length ca + length cb) (held (leaf b) u (held (leaf a) v cells)) frames w.store v u cells)
        (subst (λ o. Leads code w (did t.line (f v u w.store) (λ a. To (core_at (land a (p + length ca + length cb + 1)) cells frames w.store))) (arrive (λ a w'. at (land a (p + length all)) cells frames w') frames o)) (went (looked t.line (f v u w.store) w))
        (did_leads code t.line (f v u w.store) _ w (λ a w'. at (land a (p + length all)) cells frames w') frames WentOn (λ a r.
        onwards (subst (λ q. Reaches code (at (land a q) cells frames w) (Comes (at (land a (p + length all)) cells frames w))) (sym end) here))))));
  }
    where
      both_looks : {A : Type 0} (l : Line) (r : OkOr Value Failure) (g : Store → OkOr Value Failure) (f : Value → Value → Store → OkOr A Failure) (w : RunState) → outcome_then (looked l r w) (λ x w. outcome_then (look l g w) (λ y. look l (f x y))) ≡ looked l (if_ok r (λ x. if_ok (g w.store) (λ y. f x y w.store))) w
      both_looks l (Ok x) g f w = looks_then l (g w.store) (f x) w
      both_looks l (Err (Fails kind)) g f w = refl
      both_looks l (Err TypeError) g f w = refl

  -- an owner, and an instruction that looks at its set
  pub owner_lands : {A : Type 0} (t : Site) (o : SetOwner) (make : Bearer → Instruction) (land : A → ℕ → ℕ) (f : Option Value → Store → OkOr A Failure) (go : ℕ → List Value → List Frame → Store → Option Value → List Value → Moved) → ((x : Bearer) → is_due (make x) ≡ false) → ((x : Bearer) (p : ℕ) (cells : List Value) (frames : List Frame) (s : Store) → act code t.line (make x) (core_at p cells frames s) ≡ with_bearer x s cells (go p cells frames s)) → ((p : ℕ) (cells : List Value) (frames : List Frame) (s : Store) (v : Option Value) (below : List Value) → go p cells frames s v below ≡ did t.line (f v s) (λ a. To (core_at (land a (p + 1)) below frames s))) → Lands code n (height t) same (with_owner t o make) land done (look t.line (λ s. if_ok (owner_value o s) (λ v. f v s)))
  owner_lands t o make land f go calm acts goes =
      alike code n (height t) (λ w. looks_then t.line (value_if_any (expression_of o) w.store) f w ∙ ap (λ r. looked t.line (if_ok r (λ v. f v w.store)) w) (sym (owner_is o w.store)))
      (bearer_lands t (expression_of o) make land done go (λ v. look t.line (f v)) calm acts (λ v p cells cells0 frames w high.
      subst (λ m. Leads code w m (arrive (λ a w'. at (land a (p + 1)) cells frames w') frames (look t.line (f v) w))) (sym (goes p cells0 frames w.store v cells))
      (subst (λ o. Leads code w (did t.line (f v w.store) (λ a. To (core_at (land a (p + 1)) cells frames w.store))) (arrive (λ a w'. at (land a (p + 1)) cells frames w') frames o)) (went (looked t.line (f v w.store) w))
      (did_leads code t.line (f v w.store) _ w (λ a w'. at (land a (p + 1)) cells frames w') frames WentOn (λ a r. onwards here)))))
