-- Modes of operands, where they are found.
use Rattle.std.proofs.Common.{◌≡◌, ℕ, ◌<◌, Bool, true, false, List, [], ◌∷◌, length, Option, Some, None, refl, sym, ap, ◌∙◌, arith, if◌then◌else◌}
use Rattle.std.proofs.lemmas.Bool.{eqb-true, eq-eqb, ne_eqb}
use Rattle.std.specs.Prelude.{slice_get, ◌==◌}
use Rattle.std.specs.Option.{option_map, option_and_then}
use Rattle.ss_code_generator.proofs.Common.{above, after, code_of, expression_mode, field_mode, Final, Generator, Global, HasGrown, HasMode, height, Held, Instruction, IsAround, IsLocated, Local, Mode, mode_at, Operand, operand, or_integer, place, Placed, scope_for_modes, Site, Stays, Taken, TypedScope, Value, Variable, view_program}
use Rattle.ss_code_instructions.specs.Carried.{mode_here, HasFieldMode}
use Rattle.ss_program.specs.Program.{Expression, Program, Constant, Fetch, Attribute}
use Rattle.ss_base.specs.declared.layout.ClassLayout.{ClassLayout}
use Rattle.ss_world.specs.State.{modes_in}
use Rattle.ss_code_instructions.specs.States.{cell_at}
use Rattle.ss_code_instructions.proofs.Shaping.{mode_so}
use Rattle.ss_code_generator.specs.declared.generator.Site.{Site as Here}

-- ## What the definition's facts say of a program that is well typed

pub same_some : {A : Type 0} {a b : A} → Some a ≡ Some b → a ≡ b
same_some e = cc

-- an attribute is one of the layout, as the code has it
fields_agree : (o : Option ClassLayout) (field : ℕ) (m : Mode) → option_and_then (λ (modes : List Mode). slice_get modes field) (option_map (λ (c : ClassLayout). c.fields) o) ≡ Some m → slice_get (modes_in o) field ≡ Some m
fields_agree None field m h = absurd cc
fields_agree (Some c) field m h = h

pub has_field : (p : Program) (constants : List Value) (x : Placed) (class field : ℕ) (m : Mode) → field_mode p class field ≡ Some m → HasFieldMode (code_of p) constants x m class field
has_field p constants x class field m h = fields_agree (slice_get p.layout.classes class) field m h

-- modes go by the program and the local variables alone
pub mode_by : (s : TypedScope) (p : Program) (locals : List Mode) (e : Expression) → s.program ≡ p → s.locals ≡ locals → expression_mode s e ≡ expression_mode (record { program = p; locals = locals; is_main = false }) e
mode_by s p locals (Constant v) q l = refl
mode_by s p locals (Fetch (Global k)) q l = ap (λ (r : Program). or_integer (slice_get r.globals k)) q
mode_by s p locals (Fetch (Local k)) q l = ap (λ (ms : List Mode). or_integer (slice_get ms k)) l
mode_by s p locals (Attribute class field e) q l = ap (λ (r : Program). or_integer (field_mode r class field)) q
mode_by s p locals _ q l = refl

-- the mode that the generator found, before it went on
pub mode_found : {f : Final} {old new : Generator} {here : Here} {t : Site} (e : Expression) {n m : Mode} → HasGrown old new → m ≡ expression_mode (scope_for_modes old.program.now old.locals.items) e → IsAround f new → IsLocated f new here t → HasMode t.scope e n → n ≡ m
mode_found {old = old} {t = t} e {n} g is around located h =
    let program : t.scope.program ≡ view_program old.program.now = located.program ∙ sym around.program ∙ ap view_program g.program in
    sym (mode_so t.scope e n h) ∙ mode_by t.scope (view_program old.program.now) old.locals.items e program (located.locals ∙ g.locals) ∙ sym is

-- ## Cells

-- the topmost cell
pub on_top : {A : Type 0} (h : ℕ) (v : A) (below : List A) → length below ≡ h → cell_at h (v ∷ below) ≡ Some v
on_top h v below e = ap (λ (b : Bool). if b then Some v else cell_at h below) (eq-eqb (length below) h e)

-- a cell that there is lies below so many
pub cell_within : {A : Type 0} (h : ℕ) (v : A) (cells : List A) → cell_at h cells ≡ Some v → h < length cells
cell_within h v [] e = absurd cc
cell_within {A} h v (x ∷ below) e = by (length below == h) refl e (cell_within h v below)
  where
    by : (b : Bool) → (length below == h) ≡ b → (if b then Some x else cell_at h below) ≡ Some v → (cell_at h below ≡ Some v → h < length below) → h < length (x ∷ below)
    by true q e lower = let same : length below ≡ h = eqb-true (length below) h q in omega (arith, same)
    by false q e lower = let l = lower e in omega (arith, l)

-- and stays where it is below further ones
pub cell_under : {A : Type 0} (h : ℕ) (v x : A) (cells : List A) → cell_at h cells ≡ Some v → cell_at h (x ∷ cells) ≡ Some v
cell_under h v x cells e =
    let lower = cell_within h v cells e in
    ap (λ (b : Bool). if b then Some x else cell_at h cells) (ne_eqb (length cells) h (λ q. omega (arith, lower, q))) ∙ e

-- ## Operands

module _ (f : Final) where
  -- a variable has its mode wherever it is found
  pub held_mode : (t : Site) (x : Variable) (m : Mode) (make : Instruction) → t.scope.program ≡ f.program → mode_at t.scope x ≡ Some m → mode_here (code_of f.program) f.constants (place t make) (Held x) ≡ Some m
  held_mode t (Global k) m make p h = sym (ap (λ (q : Program). slice_get q.globals k) p) ∙ h
  held_mode t (Local k) m make p h = h

  -- an operand has the mode of its expression, directly after it was computed
  pub operand_mode : (t : Site) (e : Expression) (m : Mode) (make : Instruction) → t.scope.program ≡ f.program → HasMode t.scope e m → mode_here (code_of f.program) f.constants (place (after t e) make) (operand t e) ≡ Some m
  operand_mode t (Constant v) m make p h = ap Some h
  operand_mode t (Fetch x) m make p h = held_mode t x m make p h
  operand_mode t e m make p h = on_top (height t) _ t.cells refl ∙ ap Some (mode_so t.scope e m h)

  -- it has that mode under a further cell too
  pub mode_under : (u : Site) (y : Operand) (m n : Mode) (make other : Instruction) → mode_here (code_of f.program) f.constants (place u make) y ≡ Some m → mode_here (code_of f.program) f.constants (place (above u n) other) y ≡ Some m
  mode_under u (Taken k) m n make other h = cell_under k m n u.cells h
  mode_under u (Stays k) m n make other h = cell_under k m n u.cells h
  mode_under u (Held (Global k)) m n make other h = h
  mode_under u _ m n make other h = h

  -- and after a further operand
  pub mode_after : (u : Site) (e : Expression) (y : Operand) (m : Mode) (make other : Instruction) → mode_here (code_of f.program) f.constants (place u make) y ≡ Some m → mode_here (code_of f.program) f.constants (place (after u e) other) y ≡ Some m
  mode_after u (Constant v) (Held (Global k)) m make other h = h
  mode_after u (Constant v) _ m make other h = h
  mode_after u (Fetch x) (Held (Global k)) m make other h = h
  mode_after u (Fetch x) _ m make other h = h
  mode_after u e y m make other h = mode_under u y m _ make other h
