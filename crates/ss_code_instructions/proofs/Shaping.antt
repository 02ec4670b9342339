-- The code of expressions, references and conditions has shape.
use Rattle.std.proofs.Common.{◌≡◌, ℕ, suc, ◌+◌, Bool, true, false, List, [], ◌∷◌, ◌++◌, length, Option, Some, None, refl, sym, ap, ◌∙◌, subst, arith}
use Rattle.ss_code_instructions.proofs.Common.{after, alternatives_code, Attribute, Calculate, ClassLayout, Clock, Code, Compare, Condition, condition_code, Constant, DataEnded, Empty, Entity, entity_code, Expression, expression_code, expression_mode, expression_of, Fetch, Figure, FigureOf, Global, Guard, guard_code, GuardKind, guards_code, Integer, leaf, lies_above, Line, Local, looked_code, may_fault, Member, member_code, Mode, negated_code, next, OfMember, OfSet, OfSystemSet, operand, operand_cells, operand_code, operator_of, option_map, or_cell, or_in_cell, or_integer, place, pos, Program, SetLayout, SetOwner, Signed, Site, slice_get, stay, Test, test_code, tests_code, TheSystem, TimeOf, Unary, unless_leaf, values_cells, values_code, Variable, Whole, with_operand, with_owner}
use Rattle.std.specs.List.{AllByRecursion as Every}
use Rattle.ss_code_instructions.specs.Instructions.{Bearer, Instruction, Operand, Placed, Taken, Target as To}
use Rattle.ss_code_instructions.specs.Shape.{AreFoundAt, IsAccepting, IsGivingBearer, IsGivingMode, IsSuited, modes_onto, AreGivingBy, AreGivingBoth, IsSetBearer as BearerFits}
use Rattle.ss_program.specs.WellTyped.{HasMode, IsTypedOwner, mode_at, TypedScope, field_mode, fields_of, owner_of_set, IsSet, HaveModes, IsTypedTest, IsTypedCondition}
use Rattle.ss_base.specs.declared.layout.Owner.{Owner}
use Rattle.ss_base.specs.declared.layout.Owner.TheVariants.{System, Class}
use Rattle.ss_base.specs.declared.words.GuardKind.TheVariants as guards
use Rattle.ss_meaning.proofs.Entities.{field_said}
use Rattle.ss_code_instructions.specs.Instructions as i
use Rattle.ss_code_instructions.proofs.Operands.{leaf_low, not_above}
use Rattle.ss_code_instructions.proofs.Changing.{next_above, under_none}
use Rattle.ss_code_instructions.proofs.Stacked.{under_cell}
use Rattle.ss_code_instructions.proofs.Suiting.{Shapes, seq, none, one, put_before, lead, moved}

-- ## What numbers name

-- a class that has an attribute is there
pub class_known : (p : Program) (class field : ℕ) (m : Mode) → field_mode p class field ≡ Some m → (modes : List Mode) × (fields_of p class ≡ Some modes)
class_known p class field m q =
    let there = field_said p class field m q in
    (there.class.fields, ap (option_map (λ (c : ClassLayout). c.fields)) there.there)

-- a set that has an owner is there
owned_set : (p : Program) (set : ℕ) (o : Owner) → owner_of_set p set ≡ Some o → IsSet p set
owned_set p set o q = by (slice_get p.layout.sets set) refl q
  where
    by : (s : Option SetLayout) → slice_get p.layout.sets set ≡ s → option_map (λ (t : SetLayout). t.owner) s ≡ Some o → IsSet p set
    by None g h = absurd cc
    by (Some t) g h = (t, g)

pub set_there : (s : TypedScope) (set : ℕ) (o : SetOwner) → IsTypedOwner s set o → IsSet s.program set
set_there s set TheSystem g = owned_set s.program set System g
set_there s set (Entity e) g = owned_set s.program set (Class g.0.0) g.0.1

-- ## Modes

-- the mode of an expression is the one that it has
pub mode_so : (s : TypedScope) (e : Expression) (m : Mode) → HasMode s e m → expression_mode s e ≡ m
mode_so s (Constant v) m h = h
mode_so s (Fetch x) m h = ap or_integer h
mode_so s (Attribute class field e) m h = ap or_integer h.0
mode_so s Clock m h = sym h
mode_so s _ m h = sym h.0

-- values that lie one above the other
pub values_so : (s : TypedScope) (es : List Expression) (ws ms : List Mode) → HaveModes s es ws → values_cells s es ms ≡ modes_onto ws ms
values_so s [] [] ms h = refl
values_so s [] (w ∷ ws) ms h = absurd h
values_so s (e ∷ es) [] ms h = absurd h
values_so s (e ∷ es) (w ∷ ws) ms h = ap (λ m. values_cells s es (m ∷ ms)) (mode_so s e w h.0) ∙ values_so s es ws (w ∷ ms) h.1

pub values_many : (s : TypedScope) (es : List Expression) (ws : List Mode) → HaveModes s es ws → length ws ≡ length es
values_many s [] [] h = refl
values_many s [] (w ∷ ws) h = absurd h
values_many s (e ∷ es) [] h = absurd h
values_many s (e ∷ es) (w ∷ ws) h = ap suc (values_many s es ws h.1)

module _ (p : Program) (code : Code) (ls : List Mode) (b : Bool) where
  -- ## Where code is

  abbrev pub here : TypedScope
  here = record { program = p; locals = ls; is_main = b }

  -- what an instruction is reported of variables
  abbrev pub view : TypedScope
  view = record { program = p; locals = ls; is_main = true }

  abbrev pub site : Line → List Mode → Site
  site l ms = record { scope = here; line = l; cells = ms }

  -- there is a place with these cells; and another one that is so many instructions on
  abbrev pub Onward : List Mode → ℕ → Type 0
  Onward ms q = AreFoundAt p code q ls ms

  abbrev pub Fork : (skip : ℕ) → List Mode → ℕ → Type 0
  Fork skip ms q = AreFoundAt p code q ls ms × AreFoundAt p code (q + skip) ls ms

  pub same_mode_at : (x : Variable) → mode_at view x ≡ mode_at here x
  same_mode_at (Global k) = refl
  same_mode_at (Local k) = refl

  -- ## Operands

  -- a value in the topmost cell
  pub cell_gives : (k m : Mode) (ms : List Mode) → k ≡ m → IsGivingMode view (Taken (length ms)) m (k ∷ ms) ms
  cell_gives k m ms e = (ap (λ n. n ∷ ms) e, refl)

  pub gives : (l : Line) (e : Expression) (m : Mode) (ms : List Mode) → HasMode here e m → IsGivingMode view (operand (site l ms) e) m (operand_cells (site l ms) e) ms
  gives l (Constant v) m ms h = (h, refl)
  gives l (Fetch x) m ms h = (same_mode_at x ∙ h, refl)
  gives l e m ms h = cell_gives (expression_mode here e) m ms (mode_so here e m h)

  -- a constant and a variable are read where they are
  pub leaf_gives : (l : Line) (e : Expression) (x : Operand) (m : Mode) (ms : List Mode) → leaf e ≡ Some x → HasMode here e m → IsGivingMode view x m ms ms
  leaf_gives l e x m ms q h =
      subst (λ o. IsGivingMode view (or_cell (length ms) o) m (or_in_cell o (expression_mode here e) ms) ms) q (gives l e m ms h)

  -- an operand that stays, under further cells
  pub stays : (l : Line) (e : Expression) (m : Mode) (more ms : List Mode) → HasMode here e m → IsGivingMode view (stay (operand (site l ms) e)) m (more ++ operand_cells (site l ms) e) (more ++ operand_cells (site l ms) e)
  stays l (Constant v) m more ms h = (h, refl)
  stays l (Fetch x) m more ms h = (same_mode_at x ∙ h, refl)
  stays l e m more ms h = (under_cell more (length ms) (expression_mode here e) ms refl ∙ ap Some (mode_so here e m h), refl)

  -- two operands that are read the second first, and the first first
  pub second_first : (x y : Operand) (m n : Mode) (ms mid rest : List Mode) → lies_above x y ≡ false → IsGivingMode view y n ms mid → IsGivingMode view x m mid rest → AreGivingBoth view x y m n ms rest
  second_first x y m n ms mid rest low gy gx = subst (λ z. AreGivingBy z view x y m n ms rest) (sym low) (mid, gy, gx)

  pub first_first : (x y : Operand) (m n : Mode) (ms mid rest : List Mode) → lies_above x y ≡ true → IsGivingMode view x m ms mid → IsGivingMode view y n mid rest → AreGivingBoth view x y m n ms rest
  first_first x y m n ms mid rest high gx gy = subst (λ z. AreGivingBy z view x y m n ms rest) (sym high) (mid, gx, gy)

  -- two expressions, and the instruction has them in their order
  pub both_gives : (l : Line) (a c : Expression) (m n : Mode) (ms : List Mode) → HasMode here a m → HasMode here c n → AreGivingBoth view (operand (site l ms) a) (operand (site l (operand_cells (site l ms) a)) c) m n (operand_cells (site l (operand_cells (site l ms) a)) c) ms
  both_gives l a c m n ms ha hc =
      second_first (operand (site l ms) a) (operand (site l (operand_cells (site l ms) a)) c) m n (operand_cells (site l (operand_cells (site l ms) a)) c) (operand_cells (site l ms) a) ms (not_above (site l ms) a c)
      (gives l c n (operand_cells (site l ms) a) hc) (gives l a m ms ha)

  -- an expression over a value in a cell, which the instruction has after it
  pub over_cell : (l : Line) (r : Expression) (k m n : Mode) (ms : List Mode) → k ≡ n → HasMode here r m → AreGivingBoth view (operand (site l (k ∷ ms)) r) (Taken (length ms)) m n (operand_cells (site l (k ∷ ms)) r) ms
  over_cell l r k m n ms e h = by (leaf r) refl
    where
      by : (o : Option Operand) → leaf r ≡ o → AreGivingBoth view (or_cell (length (k ∷ ms)) o) (Taken (length ms)) m n (or_in_cell o (expression_mode here r) (k ∷ ms)) ms
      by (Some x) q = second_first x (Taken (length ms)) m n (k ∷ ms) ms ms (leaf_low r x (Taken (length ms)) q) (cell_gives k n ms e) (leaf_gives l r x m ms q h)
      by None q =
          first_first (Taken (length (k ∷ ms))) (Taken (length ms)) m n (expression_mode here r ∷ (k ∷ ms)) (k ∷ ms) ms (next_above (length ms))
          (cell_gives (expression_mode here r) m (k ∷ ms) (mode_so here r m h)) (cell_gives k n ms e)

  -- two expressions, and the instruction has the later one first
  pub turned_gives : (l : Line) (e r : Expression) (m n : Mode) (ms : List Mode) → HasMode here e n → HasMode here r m → AreGivingBoth view (operand (site l (operand_cells (site l ms) e)) r) (operand (site l ms) e) m n (operand_cells (site l (operand_cells (site l ms) e)) r) ms
  turned_gives l e r m n ms he hr = by (leaf e) refl
    where
      by : (o : Option Operand) → leaf e ≡ o → AreGivingBoth view (operand (site l (or_in_cell o (expression_mode here e) ms)) r) (or_cell (length ms) o) m n (operand_cells (site l (or_in_cell o (expression_mode here e) ms)) r) ms
      by (Some y) q =
          second_first (operand (site l ms) r) y m n (operand_cells (site l ms) r) (operand_cells (site l ms) r) ms (under_none e (operand (site l ms) r) y q)
          (leaf_gives l e y n (operand_cells (site l ms) r) q he) (gives l r m ms hr)
      by None q = over_cell l r (expression_mode here e) m n ms (mode_so here e n he) hr

  -- ## Expressions

  abbrev pub InCell : Line → Expression → List Mode → Type 0
  InCell l e ms = Shapes p code (Onward ms) (expression_code (site l ms) (next (site l ms)) e) (Onward (expression_mode here e ∷ ms))

  -- the code of an operand, from that of an expression that goes in a cell
  leaf_shapes : (l : Line) (e : Expression) (ms : List Mode) → InCell l e ms → Shapes p code (Onward ms) (operand_code (site l ms) e) (Onward (operand_cells (site l ms) e))
  leaf_shapes l e ms r = by (leaf e)
    where
      by : (o : Option Operand) → Shapes p code (Onward ms) (unless_leaf o (expression_code (site l ms) (next (site l ms)) e)) (Onward (or_in_cell o (expression_mode here e) ms))
      by (Some x) = none p code (Onward ms)
      by None = r

  -- and an instruction that reads it
  leaf_then : (to : ℕ → Type 0) (l : Line) (e : Expression) (ms : List Mode) (make : Operand → Instruction) → InCell l e ms → ((q : ℕ) → to (q + 1) → IsSuited p code q ls (operand_cells (site l ms) e) (make (operand (site l ms) e))) → Shapes p code (Onward ms) (with_operand (site l ms) e make) to
  leaf_then to l e ms make r f = seq (leaf_shapes l e ms r) (one p code to (place (after (site l ms) e) (make (operand (site l ms) e))) f)

  -- a value of an expression's mode may go in a new cell
  in_cell : (e : Expression) (m : Mode) (ms : List Mode) → HasMode here e m → (expression_mode here e ∷ ms ≡ m ∷ ms) × (length ms ≡ length ms)
  in_cell e m ms h = (ap (λ n. n ∷ ms) (mode_so here e m h), refl)

  takes_number : (to : To) (m : Mode) (ms rest : List Mode) → m ≡ Integer → IsAccepting view to m ms rest → IsAccepting view to Integer ms rest
  takes_number to m ms rest e a = subst (λ n. IsAccepting view to n ms rest) e a

  pub expression_shapes : (l : Line) (e : Expression) (m : Mode) (ms rest : List Mode) (to : To) → HasMode here e m → IsAccepting view to m ms rest → Shapes p code (Onward ms) (expression_code (site l ms) to e) (Onward rest)
  expression_shapes l (Constant v) m ms rest to h a =
      one p code (Onward rest) (place (site l ms) (i.Move (i.Constant v) to)) (λ q end. (m, (ms, (h, refl), (rest, a, end))))
  expression_shapes l (Fetch x) m ms rest to h a =
      one p code (Onward rest) (place (site l ms) (i.Move (i.Held x) to)) (λ q end. (m, (ms, (same_mode_at x ∙ h, refl), (rest, a, end))))
  expression_shapes l (Attribute class field e) m ms rest to h a =
      leaf_then (Onward rest) l e ms (λ x. i.Attribute class field x to) (expression_shapes l e Integer ms (expression_mode here e ∷ ms) (next (site l ms)) h.1 (in_cell e Integer ms h.1)) (λ q end.
      (m, h.0, (ms, gives l e Integer ms h.1, (rest, a, end))))
  expression_shapes l (OfSystemSet query set) m ms rest to h a =
      one p code (Onward rest) (place (site l ms) (i.OfSet query set None to)) (λ q end. (h.1, (ms, refl, (rest, takes_number to m ms rest h.0 a, end))))
  expression_shapes l (OfSet query set e) m ms rest to h a =
      leaf_then (Onward rest) l e ms (λ x. i.OfSet query set (Some x) to) (expression_shapes l e Integer ms (expression_mode here e ∷ ms) (next (site l ms)) h.2 (in_cell e Integer ms h.2)) (λ q end.
      (h.1, (ms, gives l e Integer ms h.2, (rest, takes_number to m ms rest h.0 a, end))))
  expression_shapes l (OfMember query set e) m ms rest to h a =
      leaf_then (Onward rest) l e ms (λ x. i.OfMember query set x to) (expression_shapes l e Integer ms (expression_mode here e ∷ ms) (next (site l ms)) h.2 (in_cell e Integer ms h.2)) (λ q end.
      (h.1, (ms, gives l e Integer ms h.2, (rest, takes_number to m ms rest h.0 a, end))))
  expression_shapes l Clock m ms rest to h a =
      one p code (Onward rest) (place (site l ms) (i.Clock to)) (λ q end. (rest, takes_number to m ms rest h a, end))
  expression_shapes l (TimeOf e) m ms rest to h a =
      leaf_then (Onward rest) l e ms (λ x. i.TimeOf x to) (expression_shapes l e Integer ms (expression_mode here e ∷ ms) (next (site l ms)) h.1 (in_cell e Integer ms h.1)) (λ q end.
      (ms, gives l e Integer ms h.1, (rest, takes_number to m ms rest h.0 a, end)))
  expression_shapes l (Figure fold j) m ms rest to h a =
      one p code (Onward rest) (place (site l ms) (i.Figure fold j None to)) (λ q end. (h.1, (ms, refl, (rest, takes_number to m ms rest h.0 a, end))))
  expression_shapes l (FigureOf fold j e) m ms rest to h a =
      leaf_then (Onward rest) l e ms (λ x. i.Figure fold j (Some x) to) (expression_shapes l e Integer ms (expression_mode here e ∷ ms) (next (site l ms)) h.2 (in_cell e Integer ms h.2)) (λ q end.
      (h.1, (ms, gives l e Integer ms h.2, (rest, takes_number to m ms rest h.0 a, end))))
  expression_shapes l (Signed sign e) m ms rest to h a =
      leaf_then (Onward rest) l e ms (λ x. i.Calculate (operator_of sign) (i.Constant (Whole (pos 0))) x to) (expression_shapes l e Integer ms (expression_mode here e ∷ ms) (next (site l ms)) h.1 (in_cell e Integer ms h.1)) (λ q end.
      (ms, (ms, gives l e Integer ms h.1, (refl, refl)), (rest, takes_number to m ms rest h.0 a, end)))
  expression_shapes l (Unary op e) m ms rest to h a =
      leaf_then (Onward rest) l e ms (λ x. i.Unary op x to) (expression_shapes l e Integer ms (expression_mode here e ∷ ms) (next (site l ms)) h.1 (in_cell e Integer ms h.1)) (λ q end.
      (ms, gives l e Integer ms h.1, (rest, takes_number to m ms rest h.0 a, end)))
  expression_shapes l (Calculate op x y) m ms rest to h a =
      let mid : List Mode = operand_cells (site l ms) x in
      seq (leaf_shapes l x ms (expression_shapes l x Integer ms (expression_mode here x ∷ ms) (next (site l ms)) h.1 (in_cell x Integer ms h.1)))
      (leaf_then (Onward rest) l y mid (λ z. i.Calculate op (operand (site l ms) x) z to) (expression_shapes l y Integer mid (expression_mode here y ∷ mid) (next (site l mid)) h.2 (in_cell y Integer mid h.2)) (λ q end.
      (ms, both_gives l x y Integer Integer ms h.1 h.2, (rest, takes_number to m ms rest h.0 a, end))))

  -- an expression in a new cell
  pub cell_shapes : (l : Line) (e : Expression) (m : Mode) (ms : List Mode) → HasMode here e m → Shapes p code (Onward ms) (expression_code (site l ms) (next (site l ms)) e) (Onward (m ∷ ms))
  cell_shapes l e m ms h = expression_shapes l e m ms (m ∷ ms) (next (site l ms)) h (refl, refl)

  pub at_own_mode : (l : Line) (e : Expression) (m : Mode) (ms : List Mode) → HasMode here e m → InCell l e ms
  at_own_mode l e m ms h = expression_shapes l e m ms (expression_mode here e ∷ ms) (next (site l ms)) h (in_cell e m ms h)

  pub operand_shapes : (l : Line) (e : Expression) (m : Mode) (ms : List Mode) → HasMode here e m → Shapes p code (Onward ms) (operand_code (site l ms) e) (Onward (operand_cells (site l ms) e))
  operand_shapes l e m ms h = leaf_shapes l e ms (at_own_mode l e m ms h)

  -- an operand, and an instruction that reads it
  pub operand_then : (to : ℕ → Type 0) (l : Line) (e : Expression) (m : Mode) (ms : List Mode) (make : Operand → Instruction) → HasMode here e m → ((q : ℕ) → to (q + 1) → IsSuited p code q ls (operand_cells (site l ms) e) (make (operand (site l ms) e))) → Shapes p code (Onward ms) (with_operand (site l ms) e make) to
  operand_then to l e m ms make h f = leaf_then to l e ms make (at_own_mode l e m ms h) f

  -- values in cells, one above the other
  pub values_shapes : (l : Line) (es : List Expression) (ws ms : List Mode) → HaveModes here es ws → Shapes p code (Onward ms) (values_code (site l ms) es) (Onward (values_cells here es ms))
  values_shapes l [] [] ms h = none p code (Onward ms)
  values_shapes l [] (w ∷ ws) ms h = absurd h
  values_shapes l (e ∷ es) [] ms h = absurd h
  values_shapes l (e ∷ es) (w ∷ ws) ms h = seq (at_own_mode l e w ms h.0) (values_shapes l es ws (expression_mode here e ∷ ms) h.1)

  -- ## References

  -- a reference that may be looked at
  looked_shapes : (l : Line) (looked : Bool) (e : Expression) (ms : List Mode) (look : Operand → Instruction) → HasMode here e Integer → ((q : ℕ) → AreFoundAt p code (q + 1) ls (operand_cells (site l ms) e) → IsSuited p code q ls (operand_cells (site l ms) e) (look (stay (operand (site l ms) e)))) → Shapes p code (Onward ms) (looked_code (site l ms) looked e look) (Onward (operand_cells (site l ms) e))
  looked_shapes l false e ms look h f = operand_shapes l e Integer ms h
  looked_shapes l true e ms look h f = operand_then (Onward (operand_cells (site l ms) e)) l e Integer ms (λ x. look (stay x)) h f

  pub entity_shapes : (l : Line) (looked : Bool) (class : ℕ) (e : Expression) (ms : List Mode) → ((modes : List Mode) × (fields_of p class ≡ Some modes)) → HasMode here e Integer → Shapes p code (Onward ms) (entity_code (site l ms) looked class e) (Onward (operand_cells (site l ms) e))
  entity_shapes l looked class e ms known h =
      looked_shapes l looked e ms (i.LookEntity class) h (λ q end. (known, (operand_cells (site l ms) e, stays l e Integer [] ms h, end)))

  pub member_shapes : (l : Line) (looked : Bool) (set : ℕ) (e : Expression) (ms : List Mode) → IsSet p set → HasMode here e Integer → Shapes p code (Onward ms) (member_code (site l ms) looked set e) (Onward (operand_cells (site l ms) e))
  member_shapes l looked set e ms known h =
      looked_shapes l looked e ms (i.LookMember set) h (λ q end. (known, (operand_cells (site l ms) e, stays l e Integer [] ms h, end)))

  -- an owner, and an instruction that reads it
  pub owner_then : (to : ℕ → Type 0) (l : Line) (set : ℕ) (o : SetOwner) (ms : List Mode) (make : Bearer → Instruction) → IsTypedOwner here set o → ((x : Bearer) (cells : List Mode) (q : ℕ) → BearerFits p set x → IsGivingBearer view x cells ms → to (q + 1) → IsSuited p code q ls cells (make x)) → Shapes p code (Onward ms) (with_owner (site l ms) o make) to
  owner_then to l set TheSystem ms make g f = one p code to (place (site l ms) (make None)) (λ q end. f None ms q g refl end)
  owner_then to l set (Entity e) ms make g f =
      operand_then to l e Integer ms (λ x. make (Some x)) g.1 (λ q end. f (Some (operand (site l ms) e)) (operand_cells (site l ms) e) q g.0 (gives l e Integer ms g.1) end)

  -- ## Conditions

  -- where a piece begins, if it is known where it ends
  pub forked : (skip : ℕ) (ms : List Mode) (c : List Placed) → Shapes p code (Onward ms) c (Fork skip ms) → Shapes p code (Fork (length c + skip) ms) c (Fork skip ms)
  forked skip ms c r =
      lead p code (Onward ms) (Fork (length c + skip) ms) (Fork skip ms) c (λ q at end.
      let e : q + length c + skip ≡ q + (length c + skip) = omega arith in (at, moved p code e end.1)) r

  pub test_shapes : (l : Line) (ms : List Mode) (skip : ℕ) (t : Test) → IsTypedTest here t → Shapes p code (Onward ms) (test_code (site l ms) skip t) (Fork skip ms)
  test_shapes l ms skip (Compare relation a c) g =
      let mid : List Mode = operand_cells (site l ms) a in
      seq (operand_shapes l a g.0 ms g.1) (operand_then (Fork skip ms) l c g.0 mid (λ y. i.Unless relation (operand (site l ms) a) y skip) g.2 (λ q end. (g.0, (ms, both_gives l a c g.0 g.0 ms g.1 g.2, end))))
  test_shapes l ms skip (DataEnded negated) g = one p code (Fork skip ms) (place (site l ms) (i.UnlessEnded negated skip)) (λ q end. end)
  test_shapes l ms skip (Empty negated set o) g =
      owner_then (Fork skip ms) l set o ms (λ x. i.UnlessEmpty negated set x skip) g (λ x cells q fits reads end. (fits, (ms, reads, end)))
  test_shapes l ms skip (Member negated set e o) g =
      let mid : List Mode = operand_cells (site l ms) e in
      seq (member_shapes l (may_fault (expression_of o)) set e ms (set_there here set o g.1) g.0) (owner_then (Fork skip ms) l set o mid (λ x. i.UnlessMember negated set (operand (site l ms) e) x skip) g.1 (λ x cells q fits reads end.
      (fits, (mid, reads, (ms, gives l e Integer ms g.0, end)))))

  pub tests_shapes : (l : Line) (ms : List Mode) (skip : ℕ) (xs : List Test) → Every (IsTypedTest here) xs → Shapes p code (Onward ms) (tests_code (site l ms) skip xs) (Fork skip ms)
  tests_shapes l ms skip [] g = lead p code (Fork skip ms) (Onward ms) (Fork skip ms) [] (λ q at end. at.0) (none p code (Fork skip ms))
  tests_shapes l ms skip (x ∷ xs) g =
      let later : List Placed = tests_code (site l ms) skip xs in
      seq (test_shapes l ms (length later + skip) x g.0) (forked skip ms later (tests_shapes l ms skip xs g.1))

  pub alternatives_shapes : (l : Line) (ms : List Mode) (skip : ℕ) (xs : List Test) (others : List (List Test)) → Every (IsTypedTest here) xs → IsTypedCondition here others → Shapes p code (Onward ms) (alternatives_code (site l ms) skip xs others) (Fork skip ms)
  alternatives_shapes l ms skip xs [] g h = tests_shapes l ms skip xs g
  alternatives_shapes l ms skip xs (ys ∷ others) g h =
      let later : List Placed = alternatives_code (site l ms) skip ys others in
      seq (tests_shapes l ms 1 xs g)
      (put_before p code (Onward ms) (Fork skip ms) (place (site l ms) (i.Jump (length later))) later (λ q at end. end.0) (alternatives_shapes l ms skip ys others h.0 h.1))

  pub condition_shapes : (l : Line) (ms : List Mode) (skip : ℕ) (c : Condition) → IsTypedCondition here c → Shapes p code (Onward ms) (condition_code (site l ms) skip c) (Fork skip ms)
  condition_shapes l ms skip [] g = one p code (Fork skip ms) (place (site l ms) (i.Jump skip)) (λ q end. end.1)
  condition_shapes l ms skip (xs ∷ others) g = alternatives_shapes l ms skip xs others g.0 g.1

  -- a jump at which a condition holds that must not
  away : (l : Line) (ms : List Mode) (skip : ℕ) → Shapes p code (Fork 1 ms) (place (site l ms) (i.Jump skip) ∷ []) (Fork skip ms)
  away l ms skip =
      lead p code (λ q. AreFoundAt p code q ls ms × Fork skip ms (q + 1)) (Fork 1 ms) (Fork skip ms) (place (site l ms) (i.Jump skip) ∷ []) (λ q at end. (at.0, at.1.0))
      (put_before p code (Fork skip ms) (Fork skip ms) (place (site l ms) (i.Jump skip)) [] (λ q at end. at.1) (none p code (Fork skip ms)))

  pub negated_shapes : (l : Line) (ms : List Mode) (skip : ℕ) (c : Condition) → IsTypedCondition here c → Shapes p code (Onward ms) (negated_code (site l ms) skip c) (Fork skip ms)
  negated_shapes l ms skip c g = seq (condition_shapes l ms 1 c g) (away l ms skip)

  guard_shapes : (l : Line) (ms : List Mode) (skip : ℕ) (kind : GuardKind) (c : Condition) → IsTypedCondition here c → Shapes p code (Onward ms) (guard_code (site l ms) skip kind c) (Fork skip ms)
  guard_shapes l ms skip guards.While c g = condition_shapes l ms skip c g
  guard_shapes l ms skip guards.Until c g = negated_shapes l ms skip c g

  pub guards_shapes : (l : Line) (ms : List Mode) (skip : ℕ) (gs : List Guard) → Every (λ (g : Guard). IsTypedCondition here g.condition) gs → Shapes p code (Onward ms) (guards_code (site l ms) skip gs) (Fork skip ms)
  guards_shapes l ms skip [] h = lead p code (Fork skip ms) (Onward ms) (Fork skip ms) [] (λ q at end. at.0) (none p code (Fork skip ms))
  guards_shapes l ms skip (g ∷ gs) h =
      let later : List Placed = guards_code (site l ms) skip gs in
      seq (guard_shapes l ms (length later + skip) g.kind g.condition h.0) (forked skip ms later (guards_shapes l ms skip gs h.1))
