-- The code of ADD and SUBTRACT where an attribute is changed: the value lies below the reference.
use Rattle.std.proofs.Common.{◌≡◌, ℕ, suc, ◌+◌, Bool, true, false, List, [], ◌∷◌, ◌++◌, length, Option, Some, None, Ok, Err, ℤ, refl, sym, ap, ◌∙◌, subst, arith, length-append}
use Rattle.std.proofs.lemmas.Bool.{lt-ltb}
use Rattle.std.specs.Prelude.{nat_lt, Result as OkOr, if◌then◌else◌}
use Rattle.ss_code_instructions.proofs.Common.{after, attribute, calculated, change, change_by, change_code, changed_attribute, Code, Constant, entity, Expression, expression_mode, Fails, Failure, Fetch, height, Held, if_ok, leaf, lies_above, Line, look, looked, MachineState, Moved, Operand, operand, operand_code, operator_of, or_cell, or_in_cell, outcome_then, place, Placed, RunState, settle, Sign, Site, Store, Taken, ToAttribute, turned, TypeError, Value, with_operand_value, with_values, write}
use Rattle.ss_meaning.specs.Expressions.{looked_at, value, spot}
use Rattle.ss_meaning.specs.Places.{assigned_attribute, InAttribute, held as held_at}
use Rattle.ss_code_instructions.specs.Instructions as i
use Rattle.ss_code_instructions.proofs.Steps.{Reaches, at, arrive}
use Rattle.ss_code_instructions.proofs.Parts.{Runs, same, done}
use Rattle.ss_code_instructions.proofs.Operands.{held, held_height, leaf_reads, leaf_low, reads, one_join}
use Rattle.ss_code_instructions.proofs.Expressions.{evaluates}
use Rattle.ss_code_instructions.proofs.Attributes.{low_constant, low_held, err_first, two_change}

-- a cell lies above the one before it
pub next_above : (n : ℕ) → nat_lt n (suc n) ≡ true
next_above n = lt-ltb n (suc n) (omega arith)

-- a constant or a variable lies below no cell
pub under_none : (e : Expression) (x y : Operand) → leaf e ≡ Some y → lies_above x y ≡ false
under_none (Constant u) x y q = let e : i.Constant u ≡ y = cc in subst (λ y. lies_above x y ≡ false) e (low_constant x u)
under_none (Fetch z) x y q = let e : Held z ≡ y = cc in subst (λ y. lies_above x y ≡ false) e (low_held x z)
under_none _ x y q = absurd cc

-- which of two operands is read first
pub by_order : (k : Bool) (x y : Operand) (s : Store) (cs : List Value) (go : Value → Value → List Value → Moved) → lies_above x y ≡ k → with_values x y s cs go ≡ (if k then with_operand_value x s cs (λ v above. with_operand_value y s above (λ w below. go v w below)) else with_operand_value y s cs (λ w above. with_operand_value x s above (λ v below. go v w below)))
by_order k x y s cs go q =
    ap (λ (b : Bool). if b then with_operand_value x s cs (λ v above. with_operand_value y s above (λ w below. go v w below)) else with_operand_value y s cs (λ w above. with_operand_value x s above (λ v below. go v w below))) q

-- the value first, and then the reference
takes_over : (t : Site) (e r : Expression) (z v : Value) (s : Store) (cells : List Value) (go : Value → Value → List Value → Moved) → length cells ≡ height t → value e s ≡ Ok z → value r s ≡ Ok v → with_values (operand (after t e) r) (operand t e) s (held (leaf r) v (held (leaf e) z cells)) go ≡ go v z cells
takes_over t e r z v s cells go h q p = by (leaf r) refl (leaf e) refl
  where
    -- where the value is read first, and the reference after it
    value_first : lies_above (operand (after t e) r) (operand t e) ≡ false → ((go : Value → List Value → Moved) → with_operand_value (operand t e) s (held (leaf r) v (held (leaf e) z cells)) go ≡ go z (held (leaf r) v cells)) → ((go : Value → List Value → Moved) → with_operand_value (operand (after t e) r) s (held (leaf r) v cells) go ≡ go v cells) → with_values (operand (after t e) r) (operand t e) s (held (leaf r) v (held (leaf e) z cells)) go ≡ go v z cells
    value_first low one two =
        by_order false (operand (after t e) r) (operand t e) s (held (leaf r) v (held (leaf e) z cells)) go low
        ∙ one (λ w above. with_operand_value (operand (after t e) r) s above (λ v below. go v w below))
        ∙ two (λ v below. go v z below)

    by : (a : Option Operand) → leaf r ≡ a → (b : Option Operand) → leaf e ≡ b → with_values (operand (after t e) r) (operand t e) s (held (leaf r) v (held (leaf e) z cells)) go ≡ go v z cells
    by (Some x) f b g =
        let is : operand (after t e) r ≡ x = ap (or_cell (height (after t e))) f in
        let low : lies_above (operand (after t e) r) (operand t e) ≡ false = ap (λ k. lies_above k (operand t e)) is ∙ leaf_low r x (operand t e) f in
        let plain : (cs : List Value) → held (leaf r) v cs ≡ cs = λ cs. ap (λ o. held o v cs) f in
        value_first low
        (λ go. ap (λ cs. with_operand_value (operand t e) s cs go) (plain (held (leaf e) z cells)) ∙ reads t e z s cells go h q ∙ ap (go z) (sym (plain cells)))
        (λ go. ap (λ k. with_operand_value k s (held (leaf r) v cells) go) is ∙ leaf_reads r x v s f p (held (leaf r) v cells) go ∙ ap (go v) (plain cells))
    by None f (Some y) g =
        let is : operand t e ≡ y = ap (or_cell (height t)) g in
        let low : lies_above (operand (after t e) r) (operand t e) ≡ false = ap (lies_above (operand (after t e) r)) is ∙ under_none e (operand (after t e) r) y g in
        let plain : held (leaf e) z cells ≡ cells = ap (λ o. held o z cells) g in
        value_first low
        (λ go. ap (λ k. with_operand_value k s (held (leaf r) v (held (leaf e) z cells)) go) is ∙ leaf_reads e y z s g q (held (leaf r) v (held (leaf e) z cells)) go ∙ ap (λ cs. go z (held (leaf r) v cs)) plain)
        (λ go. ap (λ cs. with_operand_value (operand (after t e) r) s (held (leaf r) v cs) go) (sym plain) ∙ reads (after t e) r v s (held (leaf e) z cells) go (held_height t e z cells h) p ∙ ap (go v) plain)
    by None f None g =
        let higher : height (after t e) ≡ suc (height t) = ap (λ o. length (or_in_cell o (expression_mode t.scope e) t.cells)) g in
        let x_is : operand (after t e) r ≡ Taken (suc (height t)) = ap (or_cell (height (after t e))) f ∙ ap Taken higher in
        let y_is : operand t e ≡ Taken (height t) = ap (or_cell (height t)) g in
        let high : lies_above (operand (after t e) r) (operand t e) ≡ true = ap (λ k. lies_above k (operand t e)) x_is ∙ ap (lies_above (Taken (suc (height t)))) y_is ∙ next_above (height t) in
        by_order true (operand (after t e) r) (operand t e) s (held (leaf r) v (held (leaf e) z cells)) go high
        ∙ reads (after t e) r v s (held (leaf e) z cells) (λ v above. with_operand_value (operand t e) s above (λ w below. go v w below)) (held_height t e z cells h) p
        ∙ reads t e z s cells (λ w below. go v w below) h q

module _ (code : Code) (n : ℕ) where
  -- what the instruction does is what the meaning's look, sum and write do
  change_is : (l : Line) (sign : Sign) (class field : ℕ) (v z : Value) (w : RunState) (m : OkOr ℤ Failure) → entity class v w.store ≡ m → change l (changed_attribute sign class field v z) w ≡ outcome_then (looked l (turned (InAttribute class field) (turned (λ n. v) m)) w) (λ p w. outcome_then (look l (λ s. if_ok (held_at p s) (λ x. calculated (operator_of sign) x z)) w) (write l p))
  change_is l sign class field v z w (Err t) e =
      let lost : changed_attribute sign class field v z w.store ≡ Err t = err_first (attribute class field v w.store) _ t (err_first (entity class v w.store) _ t e) in
      ap (λ r. outcome_then (looked l r w) settle) lost ∙ fails t
    where
      fails : (t : Failure) → outcome_then (looked l (Err t) w) settle ≡ outcome_then (looked l (turned (InAttribute class field) (turned (λ (n : ℤ). v) (Err t))) w) (λ p w. outcome_then (look l (λ s. if_ok (held_at p s) (λ x. calculated (operator_of sign) x z)) w) (write l p))
      fails (Fails kind) = refl
      fails TypeError = refl
  change_is l sign class field v z w (Ok n) e = of (attribute class field v w.store)
    where
      sum : (r : OkOr Value Failure) → outcome_then (looked l (if_ok r (λ u. assigned_attribute class field v u w.store)) w) settle ≡ outcome_then (looked l r w) (write l (InAttribute class field v))
      sum (Err (Fails kind)) = refl
      sum _ = refl

      of : (a : OkOr Value Failure) → outcome_then (looked l (if_ok a (λ x. if_ok (calculated (operator_of sign) x z) (λ u. assigned_attribute class field v u w.store))) w) settle ≡ outcome_then (looked l (if_ok a (λ x. calculated (operator_of sign) x z)) w) (write l (InAttribute class field v))
      of (Ok x) = sum (calculated (operator_of sign) x z)
      of (Err (Fails kind)) = refl
      of (Err TypeError) = refl

  reference_then : (l : Line) (sign : Sign) (class field : ℕ) (z : Value) (w : RunState) (r : OkOr Value Failure) → outcome_then (looked l r w) (λ v. change l (changed_attribute sign class field v z)) ≡ outcome_then (looked l (turned (InAttribute class field) (if_ok r (looked_at (λ x. entity class x w.store)))) w) (λ p w. outcome_then (look l (λ s. if_ok (held_at p s) (λ x. calculated (operator_of sign) x z)) w) (write l p))
  reference_then l sign class field z w (Ok v) = change_is l sign class field v z w (entity class v w.store) refl
  reference_then l sign class field z w (Err (Fails kind)) = refl
  reference_then l sign class field z w (Err TypeError) = refl

  pub change_attribute_runs : (t : Site) (sign : Sign) (class field : ℕ) (r e : Expression) → Runs code n (height t) same (change_code t sign (ToAttribute class field r) e) done (change_by t.line sign (ToAttribute class field r) e)
  change_attribute_runs t sign class field r e = record {
    by = λ p cells frames w high has in_.
        let ce : List Placed = operand_code t e in
        let cr : List Placed = operand_code (after t e) r in
        let last : Placed = place (after (after t e) r) (i.ChangeAttribute sign class field (operand (after t e) r) (operand t e)) in
        let end : p + length ce + length cr + 1 ≡ p + length (ce ++ (cr ++ last ∷ [])) = omega (arith, length-append ce (cr ++ last ∷ []), length-append cr (last ∷ [])) in
        let ends : Unit {0} → RunState → MachineState = λ o w'. at (p + length (ce ++ (cr ++ last ∷ []))) cells frames w' in
        one_join code n t e (evaluates code n t e) (cr ++ last ∷ []) ends (λ z w. outcome_then (look t.line (spot (ToAttribute class field r)) w) (λ q w. outcome_then (look t.line (λ s. if_ok (held_at q s) (λ x. calculated (operator_of sign) x z)) w) (write t.line q))) p cells frames w high has in_ (λ z found_z has'.
        subst (λ o. Reaches code (at (p + length ce) (held (leaf e) z cells) frames w) (arrive ends frames o)) (reference_then t.line sign class field z w (value r w.store))
        (one_join code n (after t e) r (evaluates code n (after t e) r) (last ∷ []) ends (λ v. change t.line (changed_attribute sign class field v z)) (p + length ce) (held (leaf e) z cells) frames w (held_height t e z cells high) has' in_ (λ v found_v has''.
        subst (λ j. Reaches code (at (p + length ce + length cr) (held (leaf r) v (held (leaf e) z cells)) frames w) (arrive (λ o w'. at j cells frames w') frames (change t.line (changed_attribute sign class field v z) w))) end
        (two_change code n last (operand (after t e) r) (operand t e) (changed_attribute sign class field) v z (p + length ce + length cr) (held (leaf r) v (held (leaf e) z cells)) cells frames w refl refl (λ go. takes_over t e r z v w.store cells go high found_z found_v) has''.0))));
  }
