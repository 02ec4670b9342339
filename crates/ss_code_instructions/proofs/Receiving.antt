-- The code of a place that takes what an instruction leaves: READ and CREATE.
use Rattle.std.proofs.Common.{◌≡◌, ℕ, ◌+◌, true, false, List, [], ◌∷◌, ◌++◌, length, Option, Some, None, Ok, Err, refl, sym, ap, ◌∙◌, subst, arith, length-append, ◌⊎◌, inl, inr}
use Rattle.std.specs.Prelude.{slice_get, Result as OkOr}
use Rattle.ss_code_instructions.proofs.Common.{above, act, after, assigned_attribute, class_at, Clock, Code, Constant, core_at, CountedClass, created, deliver_with, due, entity, entity_code, Expression, Fails, Failure, Fetch, fetched, Frame, get, Global, height, if_ok, InAttribute, InputTarget, Integer, is_due, is_single, leaf, Line, Local, looked, looked_at, MachineState, made_one, Mode, Moved, next, operand, or_cell, outcome_then, Part, Place, place, reads_code, RunState, settle_with, Site, Store, sure, to_place_code, ToAttribute, ToCount, ToVariable, TypeError, Value, value, value_given, Variable, WentOn, with_new, with_operand_value, with_values, write}
use Rattle.ss_code_instructions.specs.Instructions.{Instruction, Operand, Placed, Taken, Target as To}
use Rattle.ss_meaning.specs.Statements.{give_to, read_value, with_input, read_each}
use Rattle.ss_code_instructions.specs.Instructions as i
use Rattle.ss_code_instructions.proofs.Keeping.{Only, Says, made, fitting}
use Rattle.ss_code_instructions.proofs.Steps.{has_front, has_back, Reaches, at, arrive, join_known}
use Rattle.ss_code_instructions.proofs.Parts.{step_leads, at_the_height, Runs, same, done, put_on, went, seq, alike, none, turned_then}
use Rattle.ss_code_instructions.proofs.Operands.{on, Tops, put_then, delivers, held, held_height, leaf_is, leaf_reads, not_above}
use Rattle.ss_code_instructions.proofs.Members.{looked_join}
use Rattle.ss_code_instructions.proofs.Assigning.{variable_runs, count_taken}
use Rattle.ss_code_instructions.proofs.Attributes.{two_change}
use Rattle.ss_code_instructions.proofs.Changing.{by_order}

-- ## Operations that leave the variables, and what the program says

abbrev pub Alike : Store → Store → Type 0
Alike s u = (u.globals ≡ s.globals) × (u.locals ≡ s.locals) × Says s u

pub fetched_later : (y : Variable) (s u : Store) → Alike s u → fetched y u ≡ fetched y s
fetched_later (Global k) s u a = ap (λ vs. slice_get vs k) a.0
fetched_later (Local k) s u a = ap (λ vs. slice_get vs k) a.1

-- a constant and a variable have the same value where variables hold the same
pub leaf_later : (e : Expression) (x : Operand) (s u : Store) → leaf e ≡ Some x → Alike s u → value e u ≡ value e s
leaf_later e x s u q a = by (leaf_is e x q)
  where
    by : ((v : Value) × (e ≡ Constant v)) ⊎ ((y : Variable) × (e ≡ Fetch y)) → value e u ≡ value e s
    by (inl c) = ap (λ z. value z u) c.1 ∙ sym (ap (λ z. value z s) c.1)
    by (inr f) = ap (λ z. value z u) f.1 ∙ (ap sure (fetched_later f.0 s u a) ∙ sym (ap (λ z. value z s) f.1))

-- a part that leaves the variables, and what the program says
abbrev pub Quietly : Part Value → Type 0
Quietly m = (w w' : RunState) (z : Value) → m w ≡ WentOn z w' → Alike w.store w'.store

pub get_quietly : (l : Line) (f : Store → OkOr (Value × Store) Failure) → ((s : Store) → Only (λ (b : Value × Store). Alike s b.1) (f s)) → Quietly (get l f)
get_quietly l f h w w' z e = by (f w.store) (h w.store) e
  where
    by : (r : OkOr (Value × Store) Failure) → Only (λ (b : Value × Store). Alike w.store b.1) r → outcome_then (looked l r w) settle_with ≡ WentOn z w' → Alike w.store w'.store
    by (Ok b) q e = let p : record w { store = b.1 } ≡ w' = cc in subst (λ (v : RunState). Alike w.store v.store) p q
    by (Err (Fails kind)) q e = absurd cc
    by (Err TypeError) q e = absurd cc

pub read_quietly : (l : Line) (mode : Mode) → Quietly (get l (read_value mode))
read_quietly l mode = get_quietly l (read_value mode) (λ s. made (λ (b : Value × Store). Alike s b.1) (with_input s) (due (value_given mode s.world.input)) (λ g. (refl, refl, refl)))

pub made_quietly : (l : Line) (class : ℕ) → Quietly (get l (made_one class))
made_quietly l class =
    get_quietly l (made_one class) (λ s. fitting (λ (b : Value × Store). Alike s b.1) (is_single (class_at class s)) _ (made (λ (b : Value × Store). Alike s b.1) (with_new class s) (due (created s.world.heap class)) (λ b. (refl, refl, refl))))

-- an operand later, where variables hold the same
reads_later : (t : Site) (r : Expression) (v : Value) (s u : Store) (cells : List Value) (go : Value → List Value → Moved) → length cells ≡ height t → value r s ≡ Ok v → Alike s u → with_operand_value (operand t r) u (held (leaf r) v cells) go ≡ go v cells
reads_later t r v s u cells go h q a = by (leaf r) refl
  where
    by : (p : Option Operand) → leaf r ≡ p → with_operand_value (or_cell (height t) p) u (held p v cells) go ≡ go v cells
    by (Some x) e = leaf_reads r x v u e (leaf_later r x s u e a ∙ q) cells go
    by None e = at_the_height (height t) cells (go v cells) h

-- a reference, and above it the value that an instruction left
top_takes : (t : Site) (r : Expression) (v z : Value) (s u : Store) (cells : List Value) (go : Value → Value → List Value → Moved) → length cells ≡ height t → value r s ≡ Ok v → Alike s u → with_values (operand t r) (Taken (height (after t r))) u (z ∷ held (leaf r) v cells) go ≡ go v z cells
top_takes t r v z s u cells go h q a =
    by_order false (operand t r) (Taken (height (after t r))) u (z ∷ held (leaf r) v cells) go (not_above t r Clock)
    ∙ at_the_height (height (after t r)) (held (leaf r) v cells) (with_operand_value (operand t r) u (held (leaf r) v cells) (λ v below. go v z below)) (held_height t r v cells h)
    ∙ reads_later t r v s u cells (λ v below. go v z below) h q a

module _ (code : Code) (n : ℕ) where
  -- an instruction that gives a value, and may change the store
  pub get_runs : (t : Site) (to : To) (x : Instruction) (f : Store → OkOr (Value × Store) Failure) → Tops to (height t) → is_due x ≡ false → ((p : ℕ) (cells : List Value) (frames : List Frame) (s : Store) → act code t.line x (core_at p cells frames s) ≡ deliver_with t.line to (f s) cells (core_at p cells frames s)) → Runs code n (height t) same (place t x ∷ []) (on to) (λ w. outcome_then (get t.line f w) (put_then t.line to))
  get_runs t to x f tops calm acts = record {
    by = λ p cells frames w high has in_.
        step_leads code (place t x) (core_at p cells frames w.store) w _ _ has.0 calm (acts p cells frames w.store)
        (delivers code t.line to (f w.store) p cells cells frames w (subst (Tops to) (sym high) tops));
  }

  -- what such code does, at each site and target
  abbrev pub Sources : (source : Site → To → List Placed) → Line → Part Value → Type 0
  Sources source l m = (u : Site) (to : To) → u.line ≡ l → Tops to (height u) → Runs code n (height u) same (source u to) (on to) (λ w. outcome_then (m w) (put_then l to))

  to_count_runs : (t : Site) (mode : Mode) (c : CountedClass) (source : Site → To → List Placed) (m : Part Value) → Sources source t.line m → Runs code n (height t) same (to_place_code t (ToCount c) mode source) done (give_to t.line (ToCount c) m)
  to_count_runs t mode c source m r =
      seq code n (height t) {mid = put_on} (alike code n (height t) (λ w. went (m w)) (r t (next t) refl refl)) (λ v. count_taken code n t mode c v)

  to_attribute_runs : (t : Site) (mode : Mode) (class field : ℕ) (r : Expression) (source : Site → To → List Placed) (m : Part Value) → Quietly m → Sources source t.line m → Runs code n (height t) same (to_place_code t (ToAttribute class field r) mode source) done (give_to t.line (ToAttribute class field r) m)
  to_attribute_runs t mode class field r source m quiet runs = record {
    by = λ p cells frames w high has in_.
        let front : List Placed = entity_code t true class r in
        let s : List Placed = source (after t r) (next (after t r)) in
        let set_ : Placed = place (above (after t r) mode) (i.SetAttribute class field (operand t r) (Taken (height (after t r)))) in
        let last : List Placed = set_ ∷ [] in
        let end : p + length front + length s + 1 ≡ p + length (front ++ (s ++ last)) = omega (arith, length-append front (s ++ last), length-append s last) in
        let ends : Unit {0} → RunState → MachineState = λ o w'. at (p + length (front ++ (s ++ last))) cells frames w' in
        subst (λ o. Reaches code (at p cells frames w) (arrive ends frames o)) (turned_then t.line (if_ok (value r w.store) (looked_at (λ x. entity class x w.store))) (InAttribute class field) (λ q w. outcome_then (m w) (write t.line q)) w)
        (looked_join code n t r (i.LookEntity class) (entity class) (λ x. refl) (λ x p cells frames s. refl) (s ++ last) ends (λ v w. outcome_then (m w) (write t.line (InAttribute class field v))) p cells frames w high has in_ (λ v found has'.
        let q : ℕ = p + length front in
        let c1 : List Value = held (leaf r) v cells in
        join_known (at q c1 frames w) (λ z w'. at (q + length s) (z ∷ c1) frames w') ends frames (m w) (write t.line (InAttribute class field v))
        (subst (λ o. Reaches code (at q c1 frames w) (arrive (λ z w'. at (q + length s) (z ∷ c1) frames w') frames o)) (went (m w))
        ((runs (after t r) (next (after t r)) refl refl).by q c1 frames w (held_height t r v cells high) (has_front code.places q s last has') in_))
        (λ z w' gave k.
        subst (λ j. Reaches code (at (q + length s) (z ∷ c1) frames w') (arrive (λ o w'. at j cells frames w') frames (write t.line (InAttribute class field v) z w'))) end
        (two_change code n set_ (operand t r) (Taken (height (after t r))) (assigned_attribute class field) v z (q + length s) (z ∷ c1) cells frames w' refl refl (λ go. top_takes t r v z w.store w'.store cells go high found (quiet w w' z gave)) (has_back code.places q s last has').0))));
  }

  pub to_place_runs : (t : Site) (p : Place) (mode : Mode) (source : Site → To → List Placed) (m : Part Value) → Quietly m → Sources source t.line m → Runs code n (height t) same (to_place_code t p mode source) done (give_to t.line p m)
  to_place_runs t (ToVariable x) mode source m quiet r = variable_runs code n t x (source t) m (λ to tops. r t to refl tops)
  to_place_runs t (ToAttribute class field e) mode source m quiet r = to_attribute_runs t mode class field e source m quiet r
  to_place_runs t (ToCount c) mode source m quiet r = to_count_runs t mode c source m r

  -- ## READ and CREATE

  read_source : (l : Line) (mode : Mode) → Sources (λ u to. place u (i.Read mode to) ∷ []) l (get l (read_value mode))
  read_source l mode u to e tops =
      subst (λ k. Runs code n (height u) same (place u (i.Read mode to) ∷ []) (on to) (λ w. outcome_then (get k (read_value mode) w) (put_then k to))) e
      (get_runs u to (i.Read mode to) (read_value mode) tops refl (λ p cells frames s. refl))

  pub reads_run : (t : Site) (xs : List InputTarget) → Runs code n (height t) same (reads_code t xs) done (read_each t.line xs)
  reads_run t [] = none code n (height t) tt
  reads_run t (x ∷ xs) =
      seq code n (height t) {mid = λ v cells. cells}
      (to_place_runs t x.place x.mode (λ u to. place u (i.Read x.mode to) ∷ []) (get t.line (read_value x.mode)) (read_quietly t.line x.mode) (read_source t.line x.mode))
      (λ _. reads_run t xs)

  create_source : (l : Line) (class : ℕ) → Sources (λ u to. place u (i.Create class to) ∷ []) l (get l (made_one class))
  create_source l class u to e tops =
      subst (λ k. Runs code n (height u) same (place u (i.Create class to) ∷ []) (on to) (λ w. outcome_then (get k (made_one class) w) (put_then k to))) e
      (get_runs u to (i.Create class to) (made_one class) tops refl (λ p cells frames s. refl))

  pub create_runs : (t : Site) (class : ℕ) (p : Place) → Runs code n (height t) same (to_place_code t p Integer (λ u to. place u (i.Create class to) ∷ [])) done (give_to t.line p (get t.line (made_one class)))
  create_runs t class p = to_place_runs t p Integer (λ u to. place u (i.Create class to) ∷ []) (get t.line (made_one class)) (made_quietly t.line class) (create_source t.line class)
