-- Values in cells, one above the other: how many they are, how they are read, and how they come off.
use Rattle.std.proofs.Common.{◌≡◌, ℕ, suc, ◌+◌, Bool, true, List, [], ◌∷◌, ◌++◌, length, Some, refl, sym, ap, ◌∙◌, arith, length-append, append-nil, if◌then◌else◌}
use Rattle.ss_code_instructions.proofs.Common.{after_values, at_height, cell_at, Expression, expression_mode, fit, height, Mode, Moved, ne_eqb, Site, Store, take_off, Taken, TakenOff, TypedScope, Value, value, values, values_cells, with_block, with_values}
use Rattle.ss_code_instructions.proofs.Keeping.{Only, each, made_from}
use Rattle.ss_code_instructions.proofs.Parts.{at_the_height, onto}
use Rattle.ss_code_instructions.proofs.Members.{top_cell}
use Rattle.ss_code_instructions.proofs.Changing.{next_above, by_order}

-- ## How many

pub onto_length : (vs cells : List Value) → length (onto vs cells) ≡ length vs + length cells
onto_length [] cells = let e : length cells ≡ 0 + length cells = omega arith in e
onto_length (v ∷ vs) cells =
    let e : length vs + suc (length cells) ≡ suc (length vs) + length cells = omega arith in
    onto_length vs (v ∷ cells) ∙ e

pub values_high : (s : TypedScope) (es : List Expression) (ms : List Mode) → length (values_cells s es ms) ≡ length es + length ms
values_high s [] ms = let e : length ms ≡ 0 + length ms = omega arith in e
values_high s (x ∷ es) ms =
    let e : length es + suc (length ms) ≡ suc (length es) + length ms = omega arith in
    values_high s es (expression_mode s x ∷ ms) ∙ e

-- expressions have as many values as they are
pub values_many : (es : List Expression) (s : Store) → Only (λ (vs : List Value). length es ≡ length vs) (values es s)
values_many [] s = refl
values_many (e ∷ es) s =
    each (λ (vs : List Value). suc (length es) ≡ length vs) (value e s) _ (λ v.
    made_from (λ (vs : List Value). suc (length es) ≡ length vs) (λ (vs : List Value). length es ≡ length vs) (λ vs. v ∷ vs) (values es s) (values_many es s) (λ vs q. ap suc q))

-- as high as the site after them
pub stacked_high : (t : Site) (es : List Expression) (vs cells : List Value) → length es ≡ length vs → length cells ≡ height t → length (onto vs cells) ≡ height (after_values t es)
stacked_high t es vs cells many high =
    let e : length vs + length cells ≡ length es + length t.cells = omega (arith, many, high) in
    onto_length vs cells ∙ (e ∙ sym (values_high t.scope es t.cells))

-- ## How they come off

take_onto : (vs cells them : List Value) (m k : ℕ) → m ≡ length vs + k → take_off m (onto vs cells) them ≡ take_off k cells (vs ++ them)
take_onto [] cells them m k e = let e' : m ≡ k = omega (arith, e) in ap (λ j. take_off j cells them) e'
take_onto (v ∷ vs) cells them m k e = take_onto vs (v ∷ cells) them m (suc k) (omega (arith, e))

pub take_them : (vs cells : List Value) (m : ℕ) → m ≡ length vs → take_off m (onto vs cells) [] ≡ Some (record { values = vs; below = cells })
take_them vs cells m e = take_onto vs cells [] m 0 (omega (arith, e)) ∙ ap (λ l. Some (record { values = l; below = cells })) (append-nil vs)

-- what was put in cells comes off them
pub block_takes : (vs cells : List Value) (m h : ℕ) (go : List Value → List Value → Moved) → m ≡ length vs → length cells ≡ h → with_block m h (onto vs cells) go ≡ go vs cells
block_takes vs cells m h go e high =
    ap (λ o. fit o (λ (b : TakenOff). at_height h b.below (go b.values b.below))) (take_them vs cells m e)
    ∙ at_the_height h cells (go vs cells) high

-- a cell that lies under others
pub under_cell : {A : Type 0} (more : List A) (h : ℕ) (v : A) (cells : List A) → length cells ≡ h → cell_at h (more ++ (v ∷ cells)) ≡ Some v
under_cell [] h v cells e = top_cell h v cells e
under_cell (u ∷ more) h v cells e =
    let q : length (more ++ (v ∷ cells)) ≡ h → ⊥ = λ f. omega (arith, e, f, length-append more (v ∷ cells)) in
    ap (λ (b : Bool). if b then Some u else cell_at h (more ++ (v ∷ cells))) (ne_eqb (length (more ++ (v ∷ cells))) h q) ∙ under_cell more h v cells e

-- the two topmost cells, the upper one first
pub two_off : (h : ℕ) (v z : Value) (s : Store) (cells : List Value) (go : Value → Value → List Value → Moved) → length cells ≡ h → with_values (Taken (suc h)) (Taken h) s (v ∷ z ∷ cells) go ≡ go v z cells
two_off h v z s cells go e =
    by_order true (Taken (suc h)) (Taken h) s (v ∷ z ∷ cells) go (next_above h)
    ∙ at_the_height (suc h) (z ∷ cells) (at_height h cells (go v z cells)) (ap suc e)
    ∙ at_the_height h cells (go v z cells) e
