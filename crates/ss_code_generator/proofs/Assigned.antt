-- What the generator emits where something is assigned.
use Rattle.std.proofs.Common.{◌≡◌, ℕ, ◌≤◌, Bool, true, false, List, [], ◌∷◌, ◌++◌, Some, None, refl, sym, ap, ◌∙◌, subst, append-nil, if◌then◌else◌}
use Rattle.ss_code_generator.proofs.Common.{above, Address, after_place, Alpha, assignment, AttributeSpot, code_of, Expression, field_mode, Final, HasPrintModes, height, Integer, is_kept, IsAttribute, IsRunBy, IsSiteOperand, IsVariable, IsWatchedAs, landed_code, landing, Mode, mode_here, moving, next, OfAttribute, Place, place, place_code, Program, Site, storing, to_place_code, ToVariable, TypedScope, Variable, VariableSpot, watch}
use Rattle.ss_code_instructions.specs.Instructions.{Operand, Placed, Taken, Target, Into}
use Rattle.ss_code_instructions.specs.Instructions as i
use Rattle.ss_code_generator.proofs.Forms as forms
use Rattle.ss_code_generator.proofs.Modes.{has_field}

-- ## The parts of an assignment

-- a place is resolved, something leaves a value where it comes at first, and the rest is done
pub to_place_parts : (t : Site) (p : Place) (m : Mode) (source : Site → Target → List Placed) → place_code t p ++ (source (after_place t p) (landing (after_place t p) p) ++ landed_code t (after_place t p) p m) ≡ to_place_code t p m source
to_place_parts t (ToVariable x) m source = by (is_kept t x)
  where
    by : (b : Bool) → source t (if b then next t else Into x) ++ (if b then place (above t Integer) (i.Keep (Taken (height t)) x) ∷ [] else []) ≡ (if b then source t (next t) ++ place (above t Integer) (i.Keep (Taken (height t)) x) ∷ [] else source t (Into x))
    by true = refl
    by false = append-nil (source t (Into x))
to_place_parts t _ m source = refl

-- ## Variables

pub kept_at : (t u : Site) (x : Variable) (b : Bool) → t.scope ≡ u.scope → is_kept t x ≡ b → is_kept u x ≡ b
kept_at t u x b same e = sym (ap (λ (s : TypedScope). is_kept (record { scope = s; line = u.line; cells = u.cells }) x) same) ∙ e

-- a Move
pub move_runs : (f : Final) (t u : Site) (x : Variable) (y : Operand) (s : VariableSpot) (from : Address) → IsVariable t x s → s.watched ≡ None → t.scope ≡ u.scope → IsSiteOperand f u y from → mode_here (code_of f.program) f.constants (place u (assignment u x y)) y ≡ Some s.mode → height u ≤ f.depth → IsRunBy f (place u (assignment u x y)) (moving s.mode from s.address)
move_runs f t u x y s from v watched same at mode deep =
    let w : is_kept t x ≡ false = subst (IsWatchedAs (is_kept t x) x) watched v.watched in
    let e : assignment u x y ≡ i.Move y (Into x) = ap (λ (b : Bool). if b then i.Keep y x else i.Move y (Into x)) (kept_at t u x false same w) in
    record {
      carries = forms.moves (code_of f.program) f.constants (place u (assignment u x y)) s.mode from s.address (y, at, (mode, (Into x, v.at, e)));
      deep = deep;
      shown = subst (HasPrintModes f.prints u.cells) (sym e) tt;
    }

-- ## Attributes

-- where a statistic watches an attribute of a program that is well typed, that is a number
module _ (f : Final) (t u : Site) (class field : ℕ) (e : Expression) (s : AttributeSpot) (is : IsAttribute f t class field e s) (same : t.scope ≡ u.scope) (program : t.scope.program ≡ f.program) where
  noted_says : s.is_watched ≡ watch f.program.statistics (OfAttribute class field)
  noted_says = is.noted ∙ ap (λ (p : Program). watch p.statistics (OfAttribute class field)) program

  -- what is stored is stored in an attribute of its mode
  pub store_runs : (z y : Operand) (from : Address) (m : Mode) → field_mode f.program class field ≡ Some m → (m ≡ Alpha → watch f.program.statistics (OfAttribute class field) ≡ false) → IsSiteOperand f u z s.entity → IsSiteOperand f u y from → height u ≤ f.depth → IsRunBy f (place u (i.SetAttribute class field z y)) (storing m class field s.entity from s.is_watched)
  store_runs z y from m there plain entity at deep =
      let x : Placed = place u (i.SetAttribute class field z y) in
      record {
        carries = forms.stores (code_of f.program) f.constants x m class field s.entity from s.is_watched (λ off. sym noted_says ∙ off) plain
            (has_field f.program f.constants x class field m there, (z, entity, (y, at, refl)));
        deep = deep;
        shown = tt;
      }
