-- What a routine yields goes to places.
use Rattle.std.proofs.Common.{◌≡◌, ℕ, suc, ◌+◌, false, List, [], ◌∷◌, ◌++◌, length, Option, Some, None, Ok, Err, ℤ, refl, ap, ◌∙◌, subst, arith, length-append}
use Rattle.std.specs.Prelude.{Result as OkOr}
use Rattle.ss_code_instructions.proofs.Common.{assigned_attribute, change, Code, CountedClass, entity, Expression, Fails, Failure, if_ok, InAttribute, Integer, Line, looked, looked_at, MachineState, Mode, Moved, Operand, outcome_then, Place, Placed, RunState, settle, Store, Taken, ToAttribute, ToCount, ToVariable, turned, TypeError, Value, value, Variable, WentOn, with_operand_value, with_values, write}
use Rattle.ss_code_instructions.specs.Translation.{above, after, gives_code, height, leaf, operand, operand_code, or_cell, place, results_cells, Site, place_mode, with_results, give_code}
use Rattle.ss_meaning.specs.Statements.{give_to, give_each}
use Rattle.ss_code_instructions.specs.Instructions as i
use Rattle.ss_code_instructions.proofs.Steps.{Reaches, at, arrive}
use Rattle.ss_code_instructions.proofs.Parts.{at_the_height, Runs, done, put_on, seq, none, above as above_cells}
use Rattle.ss_code_instructions.proofs.Operands.{held, leaf_reads, leaf_low, one_join}
use Rattle.ss_code_instructions.proofs.Expressions.{evaluates}
use Rattle.ss_code_instructions.proofs.Assigning.{assigns, count_taken}
use Rattle.ss_code_instructions.proofs.Attributes.{err_first, two_change}
use Rattle.ss_code_instructions.proofs.Changing.{by_order}
use Rattle.ss_code_instructions.proofs.Stacked.{two_off}
use Rattle.ss_code_instructions.proofs.Assuming.{heap_on}

-- a value in the topmost cell, and a reference that was evaluated above it
under_takes : (t : Site) (m : Mode) (r : Expression) (v z : Value) (s : Store) (cells : List Value) (go : Value → Value → List Value → Moved) → length cells ≡ height t → value r s ≡ Ok v → with_values (operand (above t m) r) (Taken (height t)) s (held (leaf r) v (z ∷ cells)) go ≡ go v z cells
under_takes t m r v z s cells go h q = by (leaf r) refl
  where
    by : (o : Option Operand) → leaf r ≡ o → with_values (or_cell (suc (height t)) o) (Taken (height t)) s (held o v (z ∷ cells)) go ≡ go v z cells
    by (Some x) f =
        by_order false x (Taken (height t)) s (z ∷ cells) go (leaf_low r x (Taken (height t)) f)
        ∙ at_the_height (height t) cells (with_operand_value x s cells (λ v below. go v z below)) h
        ∙ leaf_reads r x v s f q cells (λ v below. go v z below)
    by None f = two_off (height t) v z s cells go h

-- the assignment of an attribute looks at the reference itself
given_attribute : (l : Line) (class field : ℕ) (z : Value) (r : OkOr Value Failure) (w : RunState) → outcome_then (looked l r w) (λ y. change l (assigned_attribute class field y z)) ≡ outcome_then (looked l (turned (InAttribute class field) (if_ok r (looked_at (λ x. entity class x w.store)))) w) (λ p w. outcome_then (WentOn z w) (write l p))
given_attribute l class field z (Err (Fails kind)) w = refl
given_attribute l class field z (Err TypeError) w = refl
given_attribute l class field z (Ok y) w = by (entity class y w.store) refl
  where
    by : (m : OkOr ℤ Failure) → entity class y w.store ≡ m → change l (assigned_attribute class field y z) w ≡ outcome_then (looked l (turned (InAttribute class field) (turned (λ (n : ℤ). y) m)) w) (λ p w. outcome_then (WentOn z w) (write l p))
    by (Ok n) e = refl
    by (Err (Fails kind)) e = ap (λ o. outcome_then (looked l o w) settle) (err_first (entity class y w.store) _ (Fails kind) e)
    by (Err TypeError) e = ap (λ o. outcome_then (looked l o w) settle) (err_first (entity class y w.store) _ TypeError e)

pub results_high : (t : Site) (ps : List Place) → length (results_cells t ps) ≡ length ps + height t
results_high t [] = let e : length t.cells ≡ 0 + length t.cells = omega arith in e
results_high t (p ∷ ps) =
    let e : suc (length ps + height t) ≡ suc (length ps) + height t = omega arith in
    ap suc (results_high t ps) ∙ e

module _ (code : Code) (n : ℕ) where
  give_variable : (t : Site) (x : Variable) (z : Value) → Runs code n (height t) (put_on z) (give_code t (ToVariable x)) done (give_to t.line (ToVariable x) (WentOn z))
  give_variable t x z = record {
    by = λ p cells frames w high has in_.
        assigns code (above t (place_mode t.scope (ToVariable x))) x (Taken (height t)) z p (z ∷ cells) cells frames w (λ go. at_the_height (height t) cells (go z cells) high) has.0;
  }

  give_count : (t : Site) (c : CountedClass) (z : Value) → Runs code n (height t) (put_on z) (give_code t (ToCount c)) done (give_to t.line (ToCount c) (WentOn z))
  give_count t c z = count_taken code n t Integer c z

  give_attribute : (t : Site) (class field : ℕ) (r : Expression) (z : Value) → Runs code n (height t) (put_on z) (give_code t (ToAttribute class field r)) done (give_to t.line (ToAttribute class field r) (WentOn z))
  give_attribute t class field r z = record {
    by = λ p cells frames w high has in_.
        let m : Mode = place_mode t.scope (ToAttribute class field r) in
        let u : Site = above t m in
        let c : List Placed = operand_code u r in
        let last : Placed = place (after u r) (i.SetAttribute class field (operand u r) (Taken (height t))) in
        let end : p + length c + 1 ≡ p + length (c ++ last ∷ []) = omega (arith, length-append c (last ∷ [])) in
        let ends : Unit {0} → RunState → MachineState = λ o w'. at (p + length (c ++ last ∷ [])) cells frames w' in
        subst (λ o. Reaches code (at p (z ∷ cells) frames w) (arrive ends frames o)) (given_attribute t.line class field z (value r w.store) w)
        (one_join code n u r (evaluates code n u r) (last ∷ []) ends (λ y. change t.line (assigned_attribute class field y z)) p (z ∷ cells) frames w (ap suc high) has in_ (λ y found has'.
        subst (λ j. Reaches code (at (p + length c) (held (leaf r) y (z ∷ cells)) frames w) (arrive (λ o w'. at j cells frames w') frames (change t.line (assigned_attribute class field y z) w))) end
        (two_change code n last (operand u r) (Taken (height t)) (assigned_attribute class field) y z (p + length c) (held (leaf r) y (z ∷ cells)) cells frames w refl refl (λ go. under_takes t m r y z w.store cells go high found) has'.0)));
  }

  give_run : (t : Site) (p : Place) (z : Value) → Runs code n (height t) (put_on z) (give_code t p) done (give_to t.line p (WentOn z))
  give_run t (ToVariable x) z = give_variable t x z
  give_run t (ToAttribute class field r) z = give_attribute t class field r z
  give_run t (ToCount c) z = give_count t c z

  -- as many values as places
  pub gives_run : (t : Site) (ps : List Place) (us : List Value) → length us ≡ length ps → Runs code n (height t) (heap_on us) (gives_code t ps) done (give_each t.line ps us)
  gives_run t [] [] e = none code n (height t) tt
  gives_run t [] (v ∷ us) e = absurd (omega (arith, e))
  gives_run t (p ∷ ps) [] e = absurd (omega (arith, e))
  gives_run t (p ∷ ps) (v ∷ us) e =
      seq code n (height t) {mid = λ o cells. us ++ cells}
      (above_cells code n (height t) (heap_on us) (length (results_cells t ps)) (λ cells high. omega (arith, length-append us cells, e, high, results_high t ps)) (give_run (with_results t ps) p v))
      (λ _. gives_run t ps us (omega (arith, e)))
