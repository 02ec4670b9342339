-- What the generator finds of a place that is assigned, and what it emits there.
use Rattle.std.proofs.Common.{◌≡◌, ℕ, ◌+◌, ◌<◌, ◌≤◌, ◌^◌, Bool, true, false, List, [], ◌∷◌, ◌++◌, Some, None, refl, sym, ap, ◌∙◌, subst, arith, append-nil, if◌then◌else◌}
use Rattle.ss_code_generator.proofs.Common.{above, Address, after, Alpha, AttributeSpot, code_of, CountedClass, entity_code, Expression, field_mode, Final, Generator, Global, HasAdded, HasGenerated, HasReadOperand, height, Integer, is_kept, IsAround, IsInteger, IsLocated, IsSiteOperand, IsSiteTarget, Leave, Line, Lined, Mode, mode_at, mode_here, moving, next, OfAttribute, on_line, Operand, operand, operand_code, or_integer, Place, place, Placed, Program, Site, Spot, stay, storing, Taken, ToAttribute, ToCount, ToVariable, TypedScope, VariableSpot, view_program, watch}
use Rattle.ss_code_generator.specs.Spots.{Assignment, HasAssigned, HasAssignedLanded, HasHeldMode, HasTargetRoom, IsSpot, IsTypedPlace, IsWatchedAs, landed_code, landing, IsAttribute, IsPlaceOf, assigned_code}
use Rattle.ss_code_instructions.specs.declared.instruction.Instruction.{Instruction as Running}
use Rattle.ss_code_instructions.specs.declared.instruction.Instruction.TheVariants as r
use Rattle.ss_code_instructions.specs.Instructions as i
use Rattle.ss_code_generator.specs.declared.generator.Site.{Site as Here}
use Rattle.ss_code_generator.specs.declared.targets.Spot.TheVariants as spots
use Rattle.ss_code_generator.proofs.Emitting.{grows_same, stands_above, adds_none, adds_then, adds_one, emits}
use Rattle.ss_code_generator.proofs.Operands.{operand_at, stays_at}
use Rattle.ss_code_generator.proofs.Modes.{on_top}
use Rattle.ss_code_generator.proofs.Watching.{text_unwatched, kept_integer}
use Rattle.ss_code_generator.proofs.Assigned.{kept_at, move_runs, store_runs}

-- ## What is found

pub program_at : {f : Final} {g : Generator} {here : Here} {t : Site} → IsAround f g → IsLocated f g here t → t.scope.program ≡ view_program g.program.now
program_at around located = located.program ∙ sym around.program

-- an attribute, whose entity was evaluated
abbrev pub MakesAttribute : (old new : Generator) → (before after : Lined) → Here → (Site → List Placed) → (class field : ℕ) → Expression → AttributeSpot → Type 0
MakesAttribute old new before after here c class field e s =
    HasGenerated old new before after here (λ f t (u : Unit {0}). IsInteger e t.scope) (λ t u. c t) (λ f t u. IsAttribute f t class field e s)

pub attribute_found : {old new : Generator} {p q : Lined} {here : Here} {class field : ℕ} {e : Expression} {s : AttributeSpot} → HasReadOperand old new p q here e (record { address = s.entity; cells = s.cells }) → s.class ≡ class → s.field ≡ field → s.mode ≡ or_integer (field_mode (view_program new.program.now) class field) → s.is_watched ≡ watch new.program.now.statistics.items (OfAttribute class field) → MakesAttribute old new p q here (λ t. operand_code t e) class field e s
attribute_found {class = class} {field = field} m is_class is_field mode noted = record {
  grows = m.grows;
  adds = λ f t u around located good. m.adds f t tt around located (Integer, good);
  more = λ f t u around located good.
      let program = program_at around located in
      record {
        class = is_class;
        field = is_field;
        mode = mode ∙ ap (λ (p : Program). or_integer (field_mode p class field)) (sym program);
        noted = noted ∙ ap (λ (p : Program). watch p.statistics (OfAttribute class field)) (sym program);
        entity = m.more f t tt around located (Integer, good);
      };
}

-- it is looked at, if it is to be
pub attribute_looked : {old new : Generator} {p q v : Lined} {here : Here} {class field : ℕ} {e : Expression} {s : AttributeSpot} (b : Bool) → MakesAttribute old new p q here (λ t. operand_code t e) class field e s → v ≡ q ++ (if b then on_line here.line (r.LookEntity s.class s.entity) ∷ [] else []) → MakesAttribute old new p v here (λ t. entity_code t b class e) class field e s
attribute_looked {e = e} {s = s} true m is = record {
  grows = m.grows;
  adds = λ f t u around located good.
      let there = m.more f t tt around located good in
      adds_then (m.adds f t tt around located good) (adds_one is located.line
      (record { carries = (stay (operand t e), stays_at f t (operand t e) s.entity there.entity.at, ap (λ k. i.LookEntity k (stay (operand t e))) (sym there.class)); deep = there.entity.deep; shown = tt }));
  more = m.more;
}
attribute_looked {q = q} false m is = record {
  grows = m.grows;
  adds = λ f t u around located good.
      let h = m.adds f t tt around located good in
      record { more = h.more; added = is ∙ append-nil q ∙ h.added; run = h.run };
  more = m.more;
}

-- ## Places that are found

pub count_spotted : {g : Generator} {p : Lined} {here : Here} (c : CountedClass) (s : Spot) → ((f : Final) (here : Here) (t : Site) → IsAround f g → IsLocated f g here t → IsSpot f t (ToCount c) s) → HasGenerated g g p p here (λ f t (u : Unit {0}). IsTypedPlace (ToCount c) t.scope) (λ t u. []) (λ f t u. IsSpot f t (ToCount c) s)
count_spotted {here = here} c s h = record {
  grows = grows_same;
  adds = λ f t u around located good. adds_none;
  more = λ f t u around located good. h f here t around located;
}

pub attribute_spotted : {old new : Generator} {p q : Lined} {here : Here} {c : Site → List Placed} {class field : ℕ} {e : Expression} {s : AttributeSpot} → MakesAttribute old new p q here c class field e s → HasGenerated old new p q here (λ f t (u : Unit {0}). IsTypedPlace (ToAttribute class field e) t.scope) (λ t u. c t) (λ f t u. IsSpot f t (ToAttribute class field e) (spots.Attribute s))
attribute_spotted m = record {
  grows = m.grows;
  adds = λ f t u around located good. m.adds f t tt around located good.1.1;
  more = λ f t u around located good. m.more f t tt around located good.1.1;
}

-- ## What an operand is given to

module _ {g : Generator} {p q : Lined} {here : Here} (from : Address) where
  -- a variable that no statistic watches
  moved_at_place : (s : VariableSpot) → s.watched ≡ None → q ≡ p ++ on_line here.line (moving s.mode from s.address) ∷ [] → (f : Final) (t u : Site) (y : Operand) (x : Place) (m : Mode) → IsPlaceOf t x s → t.scope ≡ u.scope → IsSiteOperand f u y from → HasHeldMode u.scope x m → mode_here (code_of f.program) f.constants (place u Leave) y ≡ Some m → IsLocated f g here u → HasAdded f p q (assigned_code t u x y)
  moved_at_place s watched is f t u y (ToVariable x) m v same at holds mode located =
      let same_mode : m ≡ s.mode = sym (v.mode ∙ ap (λ (k : TypedScope). or_integer (mode_at k x)) same ∙ ap or_integer holds) in
      adds_one is located.line (move_runs f t u x y s from v watched same at (mode ∙ ap Some same_mode) located.deep)
  moved_at_place s watched is f t u y _ m v same at holds mode located = absurd v

  pub moved_given : (s : VariableSpot) → s.watched ≡ None → q ≡ p ++ on_line here.line (moving s.mode from s.address) ∷ [] → HasAssigned g p q here from (λ f t x. IsPlaceOf t x s)
  moved_given s watched is =
      emits grows_same (λ f u x around located fits. moved_at_place s watched is f x.resolved u x.from x.place x.mode fits.0 fits.1 fits.2 fits.3 fits.4 located)

-- what goes to an attribute that was found
pub stored : {f : Final} {p q : Lined} {l : Line} (from : Address) {s : AttributeSpot} → q ≡ p ++ on_line l (storing s.mode s.class s.field s.entity from s.is_watched) ∷ [] → {g : Generator} → IsAround f g → {t : Site} (u : Site) {class field : ℕ} {e : Expression} (z y : Operand) {m : Mode} → IsAttribute f t class field e s → t.scope ≡ u.scope → IsSiteOperand f u z s.entity → IsSiteOperand f u y from → field_mode u.scope.program class field ≡ Some m → u.line ≡ l → u.scope.program ≡ f.program → height u ≤ f.depth → HasAdded f p q (place u (i.SetAttribute class field z y) ∷ [])
stored {f} {p} {q} {l} from {s} is around {t} u {class} {field} {e} z y {m} v same entity at holds line program deep =
    let mine : t.scope.program ≡ f.program = ap (λ (k : TypedScope). k.program) same ∙ program in
    let there : field_mode f.program class field ≡ Some m = ap (λ (k : Program). field_mode k class field) (sym program) ∙ holds in
    let mode : s.mode ≡ m = v.mode ∙ ap (λ (k : Program). or_integer (field_mode k class field)) mine ∙ ap or_integer there in
    let plain = λ (w : m ≡ Alpha). text_unwatched f.program class field (there ∙ ap Some w) f.program.statistics around.typed.statistics in
    let ins : storing s.mode s.class s.field s.entity from s.is_watched ≡ storing m class field s.entity from s.is_watched = cc (mode, v.class, v.field) in
    adds_one (is ∙ ap (λ (k : Running). p ++ on_line l k ∷ []) ins) line (store_runs f t u class field e s v same mine z y from m there plain entity at deep)

module _ {g : Generator} {p q : Lined} {here : Here} (from : Address) where
  stored_at_place : (s : AttributeSpot) → q ≡ p ++ on_line here.line (storing s.mode s.class s.field s.entity from s.is_watched) ∷ [] → (f : Final) (t u : Site) (y : Operand) (x : Place) (m : Mode) → IsSpot f t x (spots.Attribute s) → t.scope ≡ u.scope → IsSiteOperand f u y from → HasHeldMode u.scope x m → IsAround f g → IsLocated f g here u → HasAdded f p q (assigned_code t u x y)
  stored_at_place s is f t u y (ToAttribute class field e) m v same at holds around located =
      stored from is around u (operand t e) y v same (operand_at f t u (operand t e) s.entity (sym same) v.entity.at) at holds located.line located.program located.deep
  stored_at_place s is f t u y _ m v same at holds around located = absurd v

  pub attribute_given : (s : AttributeSpot) → q ≡ p ++ on_line here.line (storing s.mode s.class s.field s.entity from s.is_watched) ∷ [] → HasAssigned g p q here from (λ f t x. IsSpot f t x (spots.Attribute s))
  attribute_given s is =
      emits grows_same (λ f u x around located fits. stored_at_place s is f x.resolved u x.from x.place x.mode fits.0 fits.1 fits.2 fits.3 around located)

-- N. of a class: it is looked whether there are entities yet
module _ {g : Generator} {p q v : Lined} {here : Here} (from : Address) (class : ℕ) (s : VariableSpot) (is : q ≡ p ++ on_line here.line (r.LookCount class) ∷ []) (m : HasAssigned g q v here from (λ f t x. IsPlaceOf t x s)) where
  counted_at_place : (f : Final) (t u : Site) (y : Operand) (x : Place) (k : Mode) → IsSpot f t x (spots.Count class s) → t.scope ≡ u.scope → IsSiteOperand f u y from → HasHeldMode u.scope x k → mode_here (code_of f.program) f.constants (place u Leave) y ≡ Some k → IsAround f g → IsLocated f g here u → HasAdded f p v (assigned_code t u x y)
  counted_at_place f t u y (ToCount c) k h same at holds mode around located =
      let it : Assignment = record { resolved = t; place = ToVariable (Global c.variable); from = y; mode = k } in
      adds_then (adds_one is located.line (record { carries = ap i.LookCount (sym h.0); deep = located.deep; shown = tt })) (m.adds f u it around located (h.1, same, at, holds, mode))
  counted_at_place f t u y _ k h same at holds mode around located = absurd h

  pub count_given : HasAssigned g p v here from (λ f t x. IsSpot f t x (spots.Count class s))
  count_given =
      emits grows_same (λ f u x around located fits. counted_at_place f x.resolved u x.from x.place x.mode fits.0 fits.1 fits.2 fits.3 fits.4 around located)

-- ## What a value is given to that lies where it comes at first

-- whether the value comes into a cell
abbrev pub ComesToCell : Spot → Type 0
ComesToCell (spots.Variable s) = (k : ℕ) × (s.watched ≡ Some k)
ComesToCell (spots.Attribute s) = Unit {0}
ComesToCell (spots.Count class s) = Unit {0}

module _ {g : Generator} {p q : Lined} {here higher : Here} (from : Address) (s : Spot) (line : higher.line ≡ here.line) (up : here.height + 1 < 2 ^ 64 → higher.height ≡ here.height + 1) (m : HasAssigned g p q higher from (λ f t x. IsSpot f t x s)) where
  given_higher : (f : Final) (t u : Site) (x : Place) (k : Mode) → IsSpot f t x s → t.scope ≡ u.scope → IsSiteTarget f u (next u) from → height u < f.depth → HasHeldMode u.scope x k → IsAround f g → IsLocated f g here u → HasAdded f p q (assigned_code t (above u k) x (Taken (height u)))
  given_higher f t u x k v same at low holds around located =
      let high : height (above u k) ≡ height u + 1 = omega arith in
      let on = stands_above 1 around.small located line up refl refl high low in
      let it : Assignment = record { resolved = t; place = x; from = Taken (height u); mode = k } in
      m.adds f (above u k) it around on (v, same, at, holds, on_top (height u) k u.cells refl)

taken_at_place : {g : Generator} {p q : Lined} {here higher : Here} (from : Address) (s : Spot) → higher.line ≡ here.line → (here.height + 1 < 2 ^ 64 → higher.height ≡ here.height + 1) → HasAssigned g p q higher from (λ f t x. IsSpot f t x s) → ComesToCell s → (f : Final) (t u : Site) (x : Place) (k : Mode) → IsSpot f t x s → t.scope ≡ u.scope → IsSiteTarget f u (landing u x) from → HasTargetRoom f (landing u x) → HasHeldMode u.scope x k → IsAround f g → IsLocated f g here u → HasAdded f p q (landed_code t u x k)
taken_at_place from (spots.Variable s) line up m cell f t u (ToVariable x) k v same at room holds around located =
    let w = subst (IsWatchedAs (is_kept t x) x) cell.1 v.watched in
    let kept : is_kept u x ≡ true = kept_at t u x true same w.0 in
    let integer : mode_at u.scope x ≡ Some Integer = kept_integer f.program around.typed u.scope located.program x kept in
    let low : height u < f.depth = rw kept at room in
    rw kept (rw kept at (given_higher from (spots.Variable s) line up m f t u (ToVariable x) Integer v same (rw kept at at) low integer around located))
taken_at_place from (spots.Attribute s) line up m cell f t u (ToAttribute class field e) k v same at room holds around located =
    given_higher from (spots.Attribute s) line up m f t u (ToAttribute class field e) k v same at room holds around located
taken_at_place from (spots.Count class s) line up m cell f t u (ToCount c) k v same at room holds around located =
    given_higher from (spots.Count class s) line up m f t u (ToCount c) k v same at room holds around located
taken_at_place from _ line up m cell f t u _ k v same at room holds around located = absurd v

pub taken : {g : Generator} {p q : Lined} {here higher : Here} (from : Address) (s : Spot) → higher.line ≡ here.line → (here.height + 1 < 2 ^ 64 → higher.height ≡ here.height + 1) → HasAssigned g p q higher from (λ f t x. IsSpot f t x s) → ComesToCell s → HasAssignedLanded g p q here from (λ f t x. IsSpot f t x s)
taken from s line up m cell =
    emits grows_same (λ f u x around located fits. taken_at_place from s line up m cell f x.resolved u x.place x.mode fits.0 fits.1 fits.2 fits.3 fits.4 around located)
