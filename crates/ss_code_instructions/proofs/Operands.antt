-- What an instruction finds in its operands, and what it leaves at its target.
use Rattle.std.proofs.Common.{◌≡◌, ℕ, suc, ◌+◌, Bool, false, List, [], ◌∷◌, ◌++◌, length, Option, Some, None, Ok, Err, refl, sym, ap, ◌∙◌, subst, arith, length-append, ◌⊎◌, inl, inr, if◌then◌else◌}
use Rattle.std.proofs.lemmas.Bool.{eq-eqb, le-ltb}
use Rattle.std.specs.Prelude.{nat_lt, Result as OkOr}
use Rattle.ss_code_instructions.proofs.Common.{act, after, assigned_variable, change, Code, Constant, core_at, deliver, deliver_with, did, Expression, expression_code, expression_mode, Fails, Failure, FaultKind, Fetch, fetched, Frame, height, Held, Instruction, Into, is_due, leaf, lies_above, Line, look, looked, MachineState, Mode, Moved, next, Onto, onward, Operand, operand, operand_code, or_cell, or_in_cell, or_zero, outcome_then, Part, place, Placed, RunState, settle, settle_with, Site, Stays, Store, sure, Taken, Target, turned, TypeError, unless_leaf, Value, value, Variable, WentOn, where_fit, with_operand, with_operand_value, with_values, Written}
use Rattle.ss_code_instructions.specs.Instructions as i
use Rattle.ss_code_instructions.proofs.Steps.{HasAt, has_front, has_back, Comes, Reaches, here, free, reaches_on, at, arrive}
use Rattle.ss_code_instructions.proofs.Parts.{Within, Leads, step_leads, onwards, breaks, whatever, at_the_height, Runs, same, put_on}

-- ## Targets

-- the cells once a value went to a target
abbrev pub on : Target → Value → List Value → List Value
on (Into x) v cells = cells
on (Onto h) v cells = v ∷ cells

-- a new cell lies on top of so many
abbrev pub Tops : Target → ℕ → Type 0
Tops (Into x) h = Unit {0}
Tops (Onto k) h = h ≡ k

-- a value goes to a target, as a part of a program
abbrev pub put_part : Line → Target → Value → Part (Unit {0})
put_part l (Into x) v w = change l (assigned_variable x v) w
put_part l (Onto h) v w = WentOn tt w

abbrev pub put_then : Line → Target → Value → Part Value
put_then l to v w = outcome_then (put_part l to v w) (λ _. WentOn v)

-- a value that an instruction leaves at a target
pub delivers : (code : Code) (l : Line) (to : Target) (r : OkOr (Value × Store) Failure) (p : ℕ) (cells cells0 : List Value) (frames : List Frame) (w : RunState) → Tops to (length cells) → Leads code w (deliver_with l to r cells (core_at p cells0 frames w.store)) (arrive (λ v w'. at (p + 1) (on to v cells) frames w') frames (outcome_then (outcome_then (looked l r w) settle_with) (put_then l to)))
delivers code l to (Err (Fails kind)) p cells cells0 frames w h = breaks
delivers code l to (Err TypeError) p cells cells0 frames w h = whatever
delivers code l (Into x) (Ok b) p cells cells0 frames w h = written (assigned_variable x b.0 b.1)
  where
    written : (o : OkOr Store Failure) → Leads code w (did {A = Written} l (turned {B = Written} (λ t. record { cells = cells; store = t }) o) (λ q. onward q.cells (core_at p cells0 frames w.store) q.store)) (arrive (λ v w'. at (p + 1) cells frames w') frames (outcome_then (outcome_then (looked l o (record w { store = b.1 })) settle) (λ _. WentOn b.0)))
    written (Ok t) = onwards here
    written (Err (Fails kind)) = breaks
    written (Err TypeError) = whatever
delivers code l (Onto k) (Ok b) p cells cells0 frames w h =
    subst (λ t. Leads code w (did {A = Written} l (where_fit {A = Written} t (Ok (record { cells = b.0 ∷ cells; store = b.1 }))) (λ q. onward q.cells (core_at p cells0 frames w.store) q.store)) (Comes (at (p + 1) (b.0 ∷ cells) frames (record w { store = b.1 })))) (sym (eq-eqb (length cells) k h)) (onwards here)

-- where the store stays
pub computes : (code : Code) (l : Line) (to : Target) (r : OkOr Value Failure) (p : ℕ) (cells cells0 : List Value) (frames : List Frame) (w : RunState) → Tops to (length cells) → Leads code w (deliver l to r cells (core_at p cells0 frames w.store)) (arrive (λ v w'. at (p + 1) (on to v cells) frames w') frames (outcome_then (looked l r w) (put_then l to)))
computes code l to r p cells cells0 frames w h =
    subst (λ o. Leads code w (deliver l to r cells (core_at p cells0 frames w.store)) (arrive (λ v w'. at (p + 1) (on to v cells) frames w') frames (outcome_then o (put_then l to)))) (back r)
    (delivers code l to (turned {B = Value × Store} (λ v. (v, w.store)) r) p cells cells0 frames w h)
  where
    back : (r : OkOr Value Failure) → outcome_then (looked l (turned {B = Value × Store} (λ v. (v, w.store)) r) w) settle_with ≡ looked l r w
    back (Err (Fails kind)) = refl
    back _ = refl

-- ## Operands

-- the cells with the value of an operand, if it takes one
abbrev pub held : Option Operand → Value → List Value → List Value
held (Some x) v cells = cells
held None v cells = v ∷ cells

pub held_length : (o : Option Operand) (m : Mode) (v : Value) (cells : List Value) (ms : List Mode) → length cells ≡ length ms → length (held o v cells) ≡ length (or_in_cell o m ms)
held_length (Some x) m v cells ms e = e
held_length None m v cells ms e = ap suc e

pub held_height : (t : Site) (e : Expression) (v : Value) (cells : List Value) → length cells ≡ height t → length (held (leaf e) v cells) ≡ height (after t e)
held_height t e v cells h = held_length (leaf e) (expression_mode t.scope e) v cells t.cells h

pub sure_is : {A : Type 0} (o : Option A) (a : A) → sure o ≡ Ok a → o ≡ Some a
sure_is None a e = absurd cc
sure_is (Some b) a e = let q : b ≡ a = cc in ap Some q

-- an operand as it is comes of a constant or a variable
pub leaf_is : (e : Expression) (x : Operand) → leaf e ≡ Some x → ((v : Value) × (e ≡ Constant v)) ⊎ ((y : Variable) × (e ≡ Fetch y))
leaf_is (Constant u) x q = inl (u, refl)
leaf_is (Fetch y) x q = inr (y, refl)
leaf_is _ x q = absurd cc

-- a constant and a variable are read as they are
pub leaf_reads : (e : Expression) (x : Operand) (v : Value) (s : Store) → leaf e ≡ Some x → value e s ≡ Ok v → (cells : List Value) (go : Value → List Value → Moved) → with_operand_value x s cells go ≡ go v cells
leaf_reads (Constant u) x v s q r cells go =
    let e : i.Constant u ≡ x = cc in
    let p : u ≡ v = cc in
    subst (λ x. with_operand_value x s cells go ≡ go v cells) e (ap (λ u. go u cells) p)
leaf_reads (Fetch y) x v s q r cells go =
    let e : Held y ≡ x = cc in
    subst (λ x. with_operand_value x s cells go ≡ go v cells) e (ap (λ o. go (or_zero o) cells) (sure_is (fetched y s) v r))
leaf_reads _ x v s q _ cells go = absurd cc

-- an operand gives the value of its expression, and takes its cell off
pub reads : (t : Site) (e : Expression) (v : Value) (s : Store) (cells : List Value) (go : Value → List Value → Moved) → length cells ≡ height t → value e s ≡ Ok v → with_operand_value (operand t e) s (held (leaf e) v cells) go ≡ go v cells
reads t e v s cells go h q = by (leaf e) refl
  where
    by : (o : Option Operand) → leaf e ≡ o → with_operand_value (or_cell (height t) o) s (held o v cells) go ≡ go v cells
    by (Some x) p = leaf_reads e x v s p q cells go
    by None p = at_the_height (height t) cells (go v cells) h

-- two operands, of which the second may lie above the first
less_not : (n : ℕ) → nat_lt (suc n) n ≡ false
less_not n = le-ltb (suc n) n (omega arith)

-- a constant and a variable lie above nothing
pub leaf_low : (e : Expression) (x y : Operand) → leaf e ≡ Some x → lies_above x y ≡ false
leaf_low (Constant u) x y q = let e : i.Constant u ≡ x = cc in subst (λ x. lies_above x y ≡ false) e refl
leaf_low (Fetch z) x y q = let e : Held z ≡ x = cc in subst (λ x. lies_above x y ≡ false) e refl
leaf_low _ x y q = absurd cc

-- and takes no cell
never_taken : (e : Expression) (k : ℕ) → leaf e ≡ Some (Taken k) → ⊥
never_taken (Constant u) k q = cc
never_taken _ k q = cc

second_above : (h : ℕ) (e : Expression) (o : Option Operand) → leaf e ≡ o → lies_above (Taken h) (or_cell (suc h) o) ≡ false
second_above h e None q = less_not h
second_above h e (Some (i.Constant v)) q = refl
second_above h e (Some (Held x)) q = refl
second_above h e (Some (Taken k)) q = absurd (never_taken e k q)
second_above h e (Some (Stays k)) q = refl

pub not_above : (t : Site) (a b : Expression) → lies_above (operand t a) (operand (after t a) b) ≡ false
not_above t a b = by (leaf a) refl
  where
    by : (o : Option Operand) → leaf a ≡ o → lies_above (or_cell (height t) o) (or_cell (length (or_in_cell o (expression_mode t.scope a) t.cells)) (leaf b)) ≡ false
    by (Some x) q = leaf_low a x (or_cell (height t) (leaf b)) q
    by None q = second_above (height t) b (leaf b) refl

pub reads_both : (t : Site) (a b : Expression) (x y : Value) (s : Store) (cells : List Value) (go : Value → Value → List Value → Moved) → length cells ≡ height t → value a s ≡ Ok x → value b s ≡ Ok y → with_values (operand t a) (operand (after t a) b) s (held (leaf b) y (held (leaf a) x cells)) go ≡ go x y cells
reads_both t a b x y s cells go h p q =
    ap (λ (c : Bool). if c then with_operand_value (operand t a) s (held (leaf b) y (held (leaf a) x cells)) (λ v above. with_operand_value (operand (after t a) b) s above (λ w below. go v w below)) else with_operand_value (operand (after t a) b) s (held (leaf b) y (held (leaf a) x cells)) (λ w above. with_operand_value (operand t a) s above (λ v below. go v w below))) (not_above t a b)
    ∙ reads (after t a) b y s (held (leaf a) x cells) (λ w above. with_operand_value (operand t a) s above (λ v below. go v w below)) (held_height t a x cells h) q
    ∙ reads t a x s cells (λ v below. go v y below) h p

-- ## Evaluating operands

-- a look, and what follows where it gives a value
pub join_look : {A B : Type 0} {code : Code} (s : MachineState) (k : A → RunState → MachineState) (k' : B → RunState → MachineState) (frames : List Frame) (l : Line) (r : OkOr A Failure) (w : RunState) (f : A → Part B) → Reaches code s (arrive k frames (looked l r w)) → ((a : A) → r ≡ Ok a → Reaches code (k a w) (arrive k' frames (f a w))) → Reaches code s (arrive k' frames (outcome_then (looked l r w) f))
join_look s k k' frames l (Ok a) w f g h = reaches_on g (h a refl)
join_look s k k' frames l (Err (Fails kind)) w f g h = g
join_look s k k' frames l (Err TypeError) w f g h = free

-- a constant and a variable have no fault
leaf_fine : (e : Expression) (x : Operand) (s : Store) (kind : FaultKind) → leaf e ≡ Some x → value e s ≡ Err (Fails kind) → ⊥
leaf_fine (Constant u) x s kind q r = cc
leaf_fine (Fetch y) x s kind q r = by (fetched y s) r
  where
    by : (o : Option Value) → sure o ≡ Err (Fails kind) → ⊥
    by None r = cc
    by (Some v) r = cc
leaf_fine _ x s kind q _ = cc

module _ (code : Code) (n : ℕ) where
  -- the code of an operand evaluates its expression
  abbrev pub Evaluates : Site → Expression → Type 0
  Evaluates t e = Runs code n (height t) same (operand_code t e) (held (leaf e)) (look t.line (value e))

  pub leaf_runs : (t : Site) (e : Expression) (x : Operand) → leaf e ≡ Some x → Runs code n (height t) same [] (held (Some x)) (look t.line (value e))
  leaf_runs t e x q = record {
    by = λ place cells frames w high has in_.
        let p : place ≡ place + 0 = omega arith in
        subst (λ p. Reaches code (at place cells frames w) (arrive (λ v w'. at p cells frames w') frames (look t.line (value e) w))) p (comes place cells frames w (value e w.store) refl);
  }
    where
      comes : (place : ℕ) (cells : List Value) (frames : List Frame) (w : RunState) (r : OkOr Value Failure) → value e w.store ≡ r → Reaches code (at place cells frames w) (arrive (λ v w'. at place cells frames w') frames (looked t.line r w))
      comes place cells frames w (Ok v) p = here
      comes place cells frames w (Err (Fails kind)) p = absurd (leaf_fine e x w.store kind q p)
      comes place cells frames w (Err TypeError) p = free

  pub operand_runs : (t : Site) (e : Expression) → Runs code n (height t) same (expression_code t (next t) e) put_on (look t.line (value e)) → Evaluates t e
  operand_runs t e r = by (leaf e) refl
    where
      by : (o : Option Operand) → leaf e ≡ o → Runs code n (height t) same (unless_leaf o (expression_code t (next t) e)) (held o) (look t.line (value e))
      by (Some x) q = leaf_runs t e x q
      by None q = r

  -- an operand, and what follows
  pub one_join : {B : Type 0} (t : Site) (e : Expression) → Evaluates t e → (rest : List Placed) (k : B → RunState → MachineState) (go : Value → Part B) (place : ℕ) (cells : List Value) (frames : List Frame) (w : RunState) → length cells ≡ height t → HasAt code.places place (operand_code t e ++ rest) → Within code n w → ((v : Value) → value e w.store ≡ Ok v → HasAt code.places (place + length (operand_code t e)) rest → Reaches code (at (place + length (operand_code t e)) (held (leaf e) v cells) frames w) (arrive k frames (go v w))) → Reaches code (at place cells frames w) (arrive k frames (outcome_then (look t.line (value e) w) go))
  one_join t e r rest k go place cells frames w high has in_ f =
      join_look (at place cells frames w) (λ v w'. at (place + length (operand_code t e)) (held (leaf e) v cells) frames w') k frames t.line (value e w.store) w go
      (r.by place cells frames w high (has_front code.places place (operand_code t e) rest has) in_)
      (λ v q. f v q (has_back code.places place (operand_code t e) rest has))

  -- an operand, and an instruction that reads it
  pub read_runs : {B : Type 0} (t : Site) (e : Expression) → Evaluates t e → (make : Operand → Instruction) (put : B → List Value → List Value) (go : ℕ → List Value → List Frame → Store → Value → List Value → Moved) (f : Value → Part B) → ((x : Operand) → is_due (make x) ≡ false) → ((x : Operand) (p : ℕ) (cells : List Value) (frames : List Frame) (s : Store) → act code t.line (make x) (core_at p cells frames s) ≡ with_operand_value x s cells (go p cells frames s)) → ((v : Value) (p : ℕ) (cells cells0 : List Value) (frames : List Frame) (w : RunState) → length cells ≡ height t → Leads code w (go p cells0 frames w.store v cells) (arrive (λ b w'. at (p + 1) (put b cells) frames w') frames (f v w))) → Runs code n (height t) same (with_operand t e make) put (λ w. outcome_then (look t.line (value e) w) f)
  read_runs {B} t e r make put go f calm acts leads = record {
    by = λ p cells frames w high has in_.
        let c : List Placed = operand_code t e in
        let last : Placed = place (after t e) (make (operand t e)) in
        let end : p + length c + 1 ≡ p + length (c ++ last ∷ []) = omega (arith, length-append c (last ∷ [])) in
        let ends : B → RunState → MachineState = λ b w'. at (p + length (c ++ last ∷ [])) (put b cells) frames w' in
        one_join t e r (last ∷ []) ends f p cells frames w high has in_ (λ v found has'.
        step_leads code last (core_at (p + length c) (held (leaf e) v cells) frames w.store) w _ _ has'.0 (calm (operand t e))
        (acts (operand t e) (p + length c) (held (leaf e) v cells) frames w.store
        ∙ reads t e v w.store cells (go (p + length c) (held (leaf e) v cells) frames w.store) high found)
        (subst (λ j. Leads code w (go (p + length c) (held (leaf e) v cells) frames w.store v cells) (arrive (λ b w'. at j (put b cells) frames w') frames (f v w))) end
        (leads v (p + length c) cells (held (leaf e) v cells) frames w high)));
  }

  -- two operands, and what follows
  pub two_join : {B : Type 0} (t : Site) (a b : Expression) → Evaluates t a → Evaluates (after t a) b → (rest : List Placed) (k : B → RunState → MachineState) (go : Value → Value → Part B) (place : ℕ) (cells : List Value) (frames : List Frame) (w : RunState) → length cells ≡ height t → HasAt code.places place (operand_code t a ++ (operand_code (after t a) b ++ rest)) → Within code n w → ((x y : Value) → value a w.store ≡ Ok x → value b w.store ≡ Ok y → HasAt code.places (place + length (operand_code t a) + length (operand_code (after t a) b)) rest → Reaches code (at (place + length (operand_code t a) + length (operand_code (after t a) b)) (held (leaf b) y (held (leaf a) x cells)) frames w) (arrive k frames (go x y w))) → Reaches code (at place cells frames w) (arrive k frames (outcome_then (look t.line (value a) w) (λ x w. outcome_then (look t.line (value b) w) (go x))))
  two_join t a b ra rb rest k go place cells frames w high has in_ f =
      one_join t a ra (operand_code (after t a) b ++ rest) k (λ x w. outcome_then (look t.line (value b) w) (go x)) place cells frames w high has in_ (λ x p has'.
      one_join (after t a) b rb rest k (go x) (place + length (operand_code t a)) (held (leaf a) x cells) frames w (held_height t a x cells high) has' in_ (λ y q has''. f x y p q has''))
