-- The code that assigns attributes.
use Rattle.std.proofs.Common.{◌≡◌, ℕ, ◌+◌, Bool, true, false, not, List, [], ◌∷◌, ◌++◌, length, Some, Ok, Err, ℤ, refl, sym, ap, ◌∙◌, subst, arith, length-append, ◌⊎◌, inl, inr}
use Rattle.std.proofs.lemmas.Bool.{eqb-true, and_parts, false≢true}
use Rattle.std.specs.Prelude.{Result as OkOr, slice_get, ◌==◌, ◌&&◌, if◌then◌else◌}
use Rattle.ss_code_instructions.proofs.Common.{act, after, assigned_attribute, Attribute, attribute, Calculate, calculated, change, Code, Constant, Core, core_at, did, entity, entity_code, Expression, Fails, Failure, Faulted, FaultKind, Fetch, fetched, FigureOf, Frame, give_to, Global, height, Held, if_ok, InAttribute, is_due, leaf, let_code, lies_above, Line, Local, look, looked, looked_at, Mode, Moved, OfMember, OfSet, onward, Operand, operand, operand_code, or_zero, outcome_then, Part, place, Placed, RunState, settle, Signed, Site, Store, sure, TimeOf, ToAttribute, turned, TypeError, Unary, Value, value, Variable, with_cells, with_operand, with_operand_value, with_values, write}
use Rattle.ss_code_instructions.specs.Facts.{must_look, is_leaf, is_constant, same_variable, is_fetch_of, looks_first}
use Rattle.ss_code_instructions.specs.Instructions as i
use Rattle.ss_code_instructions.proofs.Steps.{HasAt, Reaches, here, free, at, left_to, arrive}
use Rattle.ss_code_instructions.proofs.Parts.{Within, onwards, breaks, step_leads, did_leads, Runs, same, done, turned_then}
use Rattle.ss_code_instructions.proofs.Operands.{held, held_height, sure_is, reads, reads_both, one_join}
use Rattle.ss_code_instructions.proofs.Expressions.{evaluates}
use Rattle.ss_code_instructions.proofs.Members.{looked_join}

-- ## A value whose evaluation begins with the look at the entity

variable_same : (x y : Variable) → same_variable x y ≡ true → x ≡ y
variable_same (Global k) (Global j) q = ap Global (eqb-true k j q)
variable_same (Global k) (Local j) q = absurd cc
variable_same (Local k) (Global j) q = absurd cc
variable_same (Local k) (Local j) q = ap Local (eqb-true k j q)

fetch_value : (x : Variable) (e : Expression) (v : Value) (s : Store) → is_fetch_of x e ≡ true → fetched x s ≡ Some v → value e s ≡ Ok v
fetch_value x (Fetch y) v s q f = ap sure (ap (λ z. fetched z s) (sym (variable_same x y q)) ∙ f)
fetch_value x _ v s q f = absurd cc

pub err_first : {A B : Type 0} (r : OkOr A Failure) (f : A → OkOr B Failure) (t : Failure) → r ≡ Err t → if_ok r f ≡ Err t
err_first r f t e = ap (λ r. if_ok r f) e

constant_value : (e : Expression) (s : Store) → is_constant e ≡ true → (c : Value) × (value e s ≡ Ok c)
constant_value (Constant c) s q = (c, refl)
constant_value _ s q = absurd cc

-- it fails as the look does
pub first_look : (class : ℕ) (x : Variable) (e : Expression) (v : Value) (s : Store) (t : Failure) → looks_first class x e ≡ true → fetched x s ≡ Some v → entity class v s ≡ Err t → value e s ≡ Err t
first_look class x (Attribute k field e) v s t q f h = by (λ q. first_look class x e v s t q f h) (is_leaf e) q
  where
    by : (looks_first class x e ≡ true → value e s ≡ Err t) → (b : Bool) → (if b then (k == class) && is_fetch_of x e else looks_first class x e) ≡ true → value (Attribute k field e) s ≡ Err t
    by inner false q = err_first (value e s) _ t (inner q)
    by inner true q =
        let p = and_parts (k == class) (is_fetch_of x e) q in
        ap (λ r. if_ok r (λ y. attribute k field y s)) (fetch_value x e v s p.1 f)
        ∙ ap (λ c. attribute c field v s) (eqb-true k class p.0)
        ∙ err_first (entity class v s) _ t h
first_look class x (OfSet query set e) v s t q f h = err_first (value e s) _ t (first_look class x e v s t q f h)
first_look class x (OfMember query set e) v s t q f h = err_first (value e s) _ t (first_look class x e v s t q f h)
first_look class x (TimeOf e) v s t q f h = err_first (value e s) _ t (first_look class x e v s t q f h)
first_look class x (FigureOf fold j e) v s t q f h = err_first (value e s) _ t (first_look class x e v s t q f h)
first_look class x (Signed sign e) v s t q f h = err_first (value e s) _ t (first_look class x e v s t q f h)
first_look class x (Unary op e) v s t q f h = err_first (value e s) _ t (first_look class x e v s t q f h)
first_look class x (Calculate op a b) v s t q f h = by (λ q. first_look class x a v s t q f h) (λ q. first_look class x b v s t q f h) (is_constant a) refl q
  where
    by : (looks_first class x a ≡ true → value a s ≡ Err t) → (looks_first class x b ≡ true → value b s ≡ Err t) → (c : Bool) → is_constant a ≡ c → (if c then looks_first class x b else looks_first class x a) ≡ true → value (Calculate op a b) s ≡ Err t
    by left right false i q = err_first (value a s) _ t (left q)
    by left right true i q =
        let c = constant_value a s i in
        ap (λ r. if_ok r (λ x. if_ok (value b s) (λ y. calculated op x y))) c.1
        ∙ err_first (value b s) _ t (right q)
first_look class x _ v s t q f h = absurd (false≢true q)

not_false : (b : Bool) → not b ≡ false → b ≡ true
not_false true q = refl
not_false false q = absurd cc

-- where a reference is not looked at before, the value is a constant or a variable, or fails as the look does
pub unlooked : (class : ℕ) (r e : Expression) (v : Value) (s : Store) (t : Failure) → must_look class r e ≡ false → value r s ≡ Ok v → entity class v s ≡ Err t → (value e s ≡ Err t) ⊎ (is_leaf e ≡ true)
unlooked class (Fetch x) e v s t q p h = by (is_leaf e) refl q
  where
    by : (b : Bool) → is_leaf e ≡ b → (if b then false else not (looks_first class x e)) ≡ false → (value e s ≡ Err t) ⊎ (is_leaf e ≡ true)
    by true i q = inr i
    by false i q = inl (first_look class x e v s t (not_false (looks_first class x e) q) (sure_is (fetched x s) v p) h)
unlooked class _ e v s t q p h = inr (not_false (is_leaf e) q)

-- a constant or a variable lies below no cell
pub low_constant : (x : Operand) (c : Value) → lies_above x (i.Constant c) ≡ false
low_constant (i.Constant v) c = refl
low_constant _ c = refl

pub low_held : (x : Operand) (y : Variable) → lies_above x (Held y) ≡ false
low_held (i.Constant v) y = refl
low_held _ y = refl

module _ (code : Code) (n : ℕ) where
  -- an instruction that changes the store by two operands
  pub two_change : (last : Placed) (x y : Operand) (f : Value → Value → Store → OkOr Store Failure) (v z : Value) (q : ℕ) (cells0 cells : List Value) (frames : List Frame) (w : RunState) → is_due last.instruction ≡ false → act code last.line last.instruction (core_at q cells0 frames w.store) ≡ with_values x y w.store cells0 (λ v z below. did last.line (f v z w.store) (λ u. onward below (core_at q cells0 frames w.store) u)) → ((go : Value → Value → List Value → Moved) → with_values x y w.store cells0 go ≡ go v z cells) → slice_get code.places q ≡ Some last → Reaches code (at q cells0 frames w) (arrive (λ o w'. at (q + 1) cells frames w') frames (change last.line (f v z) w))
  two_change last x y f v z q cells0 cells frames w calm acts takes has =
      step_leads code last (core_at q cells0 frames w.store) w _ _ has calm
      (acts ∙ takes (λ v z below. did last.line (f v z w.store) (λ u. onward below (core_at q cells0 frames w.store) u)))
      (did_leads code last.line (f v z w.store) (λ u. onward cells (core_at q cells0 frames w.store) u) w (λ o w'. at (q + 1) cells frames w') frames settle (λ u done_. onwards here))

  -- ## LET

  -- the value and the assignment, after the reference
  abbrev value_code : Site → (class field : ℕ) → (r e : Expression) → List Placed
  value_code t class field r e = with_operand (after t r) e (i.SetAttribute class field (operand t r))

  valued : (t : Site) (class field : ℕ) (r e : Expression) (v : Value) (q end : ℕ) (cells : List Value) (frames : List Frame) (w : RunState) → Within code n w → length cells ≡ height t → value r w.store ≡ Ok v → q + length (value_code t class field r e) ≡ end → HasAt code.places q (value_code t class field r e) → Reaches code (at q (held (leaf r) v cells) frames w) (arrive (λ o w'. at end cells frames w') frames (outcome_then (look t.line (value e) w) (write t.line (InAttribute class field v))))
  valued t class field r e v q end cells frames w in_ high p len has =
      let c : List Placed = operand_code (after t r) e in
      let last : Placed = place (after (after t r) e) (i.SetAttribute class field (operand t r) (operand (after t r) e)) in
      let ends : q + length c + 1 ≡ end = omega (arith, length-append c (last ∷ []), len) in
      one_join code n (after t r) e (evaluates code n (after t r) e) (last ∷ []) (λ o w'. at end cells frames w') (write t.line (InAttribute class field v)) q (held (leaf r) v cells) frames w (held_height t r v cells high) has in_ (λ z found has'.
      subst (λ j. Reaches code (at (q + length c) (held (leaf e) z (held (leaf r) v cells)) frames w) (arrive (λ o w'. at j cells frames w') frames (write t.line (InAttribute class field v) z w))) ends
      (two_change last (operand t r) (operand (after t r) e) (assigned_attribute class field) v z (q + length c) (held (leaf e) z (held (leaf r) v cells)) cells frames w refl refl (λ go. reads_both t r e v z w.store cells go high p found) has'.0))

  -- the assignment of a constant or a variable finds the fault of the reference
  leaf_faults : (t : Site) (us : List Mode) (class field : ℕ) (r : Expression) (y : Operand) (v z : Value) (kind : FaultKind) (q : ℕ) (cells : List Value) (frames : List Frame) (w : RunState) → length cells ≡ height t → value r w.store ≡ Ok v → entity class v w.store ≡ Err (Fails kind) → lies_above (operand t r) y ≡ false → ((cs : List Value) (go : Value → List Value → Moved) → with_operand_value y w.store cs go ≡ go z cs) → slice_get code.places q ≡ Some (place (with_cells t us) (i.SetAttribute class field (operand t r) y)) → Reaches code (at q (held (leaf r) v cells) frames w) (left_to (Faulted kind t.line) frames w)
  leaf_faults t us class field r y v z kind q cells frames w high p h low reads_y has =
      let h0 : List Value = held (leaf r) v cells in
      let c : Core = core_at q h0 frames w.store in
      let go : Value → Value → List Value → Moved = λ v z below. did t.line (assigned_attribute class field v z w.store) (λ u. onward below c u) in
      step_leads code (place (with_cells t us) (i.SetAttribute class field (operand t r) y)) c w _ _ has refl
      (ap (λ (b : Bool). if b then with_operand_value (operand t r) w.store h0 (λ v above. with_operand_value y w.store above (λ z below. go v z below)) else with_operand_value y w.store h0 (λ z above. with_operand_value (operand t r) w.store above (λ v below. go v z below))) low
      ∙ reads_y h0 (λ z above. with_operand_value (operand t r) w.store above (λ v below. go v z below))
      ∙ reads t r v w.store cells (λ v below. go v z below) high p
      ∙ ap (λ o. did t.line o (λ u. onward cells c u)) (err_first (entity class v w.store) _ (Fails kind) h))
      breaks

  valued_faults : (t : Site) (class field : ℕ) (r e : Expression) (v : Value) (kind : FaultKind) (q : ℕ) (cells : List Value) (frames : List Frame) (w : RunState) → length cells ≡ height t → value r w.store ≡ Ok v → entity class v w.store ≡ Err (Fails kind) → is_leaf e ≡ true → HasAt code.places q (value_code t class field r e) → Reaches code (at q (held (leaf r) v cells) frames w) (left_to (Faulted kind t.line) frames w)
  valued_faults t class field r (Constant c) v kind q cells frames w high p h leaf_ has =
      leaf_faults t (after (after t r) (Constant c)).cells class field r (i.Constant c) v c kind q cells frames w high p h (low_constant (operand t r) c) (λ cs go. refl) has.0
  valued_faults t class field r (Fetch y) v kind q cells frames w high p h leaf_ has =
      leaf_faults t (after (after t r) (Fetch y)).cells class field r (Held y) v (or_zero (fetched y w.store)) kind q cells frames w high p h (low_held (operand t r) y) (λ cs go. refl) has.0
  valued_faults t class field r _ v kind q cells frames w high p h leaf_ has = absurd (false≢true leaf_)

  -- the reference is evaluated, and looked at, before the value
  abbrev let_part : Line → (class field : ℕ) → Expression → Value → Part (Unit {0})
  let_part l class field e v w = outcome_then (looked l (entity class v w.store) w) (λ n w. outcome_then (look l (value e) w) (write l (InAttribute class field v)))

  spot_then : (l : Line) (class field : ℕ) (e : Expression) (r : OkOr Value Failure) (w : RunState) → outcome_then (looked l r w) (let_part l class field e) ≡ outcome_then (looked l (turned (InAttribute class field) (if_ok r (looked_at (λ x. entity class x w.store)))) w) (λ p w. outcome_then (look l (value e) w) (write l p))
  spot_then l class field e (Err (Fails kind)) w = refl
  spot_then l class field e (Err TypeError) w = refl
  spot_then l class field e (Ok v) w = by (entity class v w.store)
    where
      by : (m : OkOr ℤ Failure) → outcome_then (looked l m w) (λ n w. outcome_then (look l (value e) w) (write l (InAttribute class field v))) ≡ outcome_then (looked l (turned (InAttribute class field) (turned (λ n. v) m)) w) (λ p w. outcome_then (look l (value e) w) (write l p))
      by (Err (Fails kind)) = refl
      by _ = refl

  pub let_attribute_runs : (t : Site) (class field : ℕ) (r e : Expression) → Runs code n (height t) same (let_code t (ToAttribute class field r) e) done (give_to t.line (ToAttribute class field r) (look t.line (value e)))
  let_attribute_runs t class field r e = record { by = λ p cells frames w high has in_. choose p cells frames w high in_ (must_look class r e) refl has }
    where
      choose : (p : ℕ) (cells : List Value) (frames : List Frame) (w : RunState) → length cells ≡ height t → Within code n w → (b : Bool) → must_look class r e ≡ b → HasAt code.places p (entity_code t b class r ++ value_code t class field r e) → Reaches code (at p cells frames w) (arrive (λ o w'. at (p + length (entity_code t b class r ++ value_code t class field r e)) cells frames w') frames (give_to t.line (ToAttribute class field r) (look t.line (value e)) w))
      choose p cells frames w high in_ false q has =
          let c : List Placed = operand_code t r in
          let rest : List Placed = value_code t class field r e in
          let end : p + length c + length rest ≡ p + length (c ++ rest) = omega (arith, length-append c rest) in
          subst (λ o. Reaches code (at p cells frames w) (arrive (λ o w'. at (p + length (c ++ rest)) cells frames w') frames o)) (spot_then t.line class field e (value r w.store) w)
          (one_join code n t r (evaluates code n t r) rest (λ o w'. at (p + length (c ++ rest)) cells frames w') (let_part t.line class field e) p cells frames w high has in_ (λ v found has'.
          go v found (p + length c) (p + length (c ++ rest)) end has' (entity class v w.store) refl))
        where
          go : (v : Value) → value r w.store ≡ Ok v → (j end : ℕ) → j + length (value_code t class field r e) ≡ end → HasAt code.places j (value_code t class field r e) → (m : OkOr ℤ Failure) → entity class v w.store ≡ m → Reaches code (at j (held (leaf r) v cells) frames w) (arrive (λ o w'. at end cells frames w') frames (outcome_then (looked t.line m w) (λ n w. outcome_then (look t.line (value e) w) (write t.line (InAttribute class field v)))))
          go v found j end len h (Ok x) known = valued t class field r e v j end cells frames w in_ high found len h
          go v found j end len h (Err TypeError) known = free
          go v found j end len h (Err (Fails kind)) known = by (unlooked class r e v w.store (Fails kind) q found known)
            where
              by : (value e w.store ≡ Err (Fails kind)) ⊎ (is_leaf e ≡ true) → Reaches code (at j (held (leaf r) v cells) frames w) (left_to (Faulted kind t.line) frames w)
              by (inl f) =
                  subst (λ r'. Reaches code (at j (held (leaf r) v cells) frames w) (arrive (λ o w'. at end cells frames w') frames (outcome_then (looked t.line r' w) (write t.line (InAttribute class field v))))) f
                  (valued t class field r e v j end cells frames w in_ high found len h)
              by (inr f) = valued_faults t class field r e v kind j cells frames w high found known f h
      choose p cells frames w high in_ true q has =
          let front : List Placed = entity_code t true class r in
          let rest : List Placed = value_code t class field r e in
          let end : p + length front + length rest ≡ p + length (front ++ rest) = omega (arith, length-append front rest) in
          subst (λ o. Reaches code (at p cells frames w) (arrive (λ o w'. at (p + length (front ++ rest)) cells frames w') frames o)) (turned_then t.line (if_ok (value r w.store) (looked_at (λ x. entity class x w.store))) (InAttribute class field) (λ q w. outcome_then (look t.line (value e) w) (write t.line q)) w)
          (looked_join code n t r (i.LookEntity class) (entity class) (λ x. refl) (λ x p cells frames s. refl) rest (λ o w'. at (p + length (front ++ rest)) cells frames w') (λ v w. outcome_then (look t.line (value e) w) (write t.line (InAttribute class field v))) p cells frames w high has in_ (λ v found has'.
          valued t class field r e v (p + length front) (p + length (front ++ rest)) cells frames w in_ high found end has'))
