-- What the generator emits for each form of an expression.
use Rattle.std.proofs.Common.{◌≡◌, ℕ, ◌+◌, ◌<◌, ◌^◌, List, [], ◌∷◌, ◌++◌, length, get_or, take, Some, None, refl, sym, ap, ◌∙◌, arith}
use Rattle.ss_code_generator.proofs.Common.{Address, after, asking_set, calculating, code_of, Constant, fetching, field_mode, Final, Generator, Global, HasGenerated, HasGrown, HasMode, HasNoMore, HasPrintModes, HasReadOperand, height, Held, Instruction, Integer, IsAround, IsLocated, IsSiteOperand, IsSiteTarget, Lined, Local, Mode, mode_at, moving, on_line, Operand, operand, or_integer, place, Placed, pos, SetQuery, Site, slice_get, take_all, take_more, Target, Value, Variable, view_expression, view_program, Whole, with_operand}
use Rattle.std.proofs.lemmas.List.Sums.{fold-append}
use Rattle.ss_code_generator.specs.Calculations.{with_operations, HasEmittedExpression, HasOperated}
use Rattle.ss_code_instructions.specs.Carried.{HasOperand, HasTarget, Is, IsCarriedOut, IsInFrame, IsVariableAt, RunningLines}
use Rattle.ss_program.specs.Program.{Expression, Program, Constant as AConstant, Fetch, Attribute, OfSystemSet, OfSet, Figure}
use Rattle.ss_base.specs.Layout.{mode_of}
use Rattle.ss_program.specs.declared.expression.Operation.{Operation}
use Rattle.ss_program.specs.declared.expression.Fold.{Fold}
use Rattle.ss_program.specs.Views.{with_operation}
use Rattle.ss_code_instructions.specs.declared.instruction.Instruction.{Instruction as Running}
use Rattle.ss_code_instructions.specs.declared.instruction.Instruction.TheVariants as r
use Rattle.ss_code_instructions.specs.Instructions as i
use Rattle.ss_code_generator.specs.declared.expressions.Operand.{Operand as Read}
use Rattle.ss_code_generator.specs.declared.generator.Site.{Site as Here}
use Rattle.ss_code_pieces.specs.Preamble.{mode_in}
use Rattle.ss_code_generator.proofs.Emitting.{grows_same, grows_then, adds_then, adds_one, makes_later, emits_one, emits}
use Rattle.ss_code_generator.proofs.Forms as forms
use Rattle.ss_code_generator.proofs.Modes.{held_mode, has_field}
use Rattle.ss_code_generator.proofs.Operands.{cell_reads_at, read_stands, one_read}

-- ## Forms without an operand

pub constant_emitted : {old new : Generator} {p q : Lined} {here : Here} (to : Address) (v : Value) (from : Address) → HasGrown old new → ((f : Final) (t : Site) → IsAround f new → IsSiteOperand f t (Constant v) from) → q ≡ p ++ on_line here.line (moving (mode_of v) from to) ∷ [] → HasEmittedExpression old new p q here to (AConstant v)
constant_emitted to v from grows at is =
    emits_one (λ t x. i.Move (Constant v) x) (moving (mode_of v) from to) grows is (λ f t x around located fits.
    (forms.moves (code_of f.program) f.constants (place t (i.Move (Constant v) x)) (mode_of v) from to (Constant v, at f t around, (refl, (x, fits.0, refl))), tt))

pub fetch_emitted : {g : Generator} {p q : Lined} {here : Here} (to : Address) (x : Variable) {m : Mode} (from : Address) → IsVariableAt x from → ((f : Final) (t : Site) (here : Here) → IsAround f g → IsLocated f g here t → or_integer (mode_at t.scope x) ≡ m) → q ≡ p ++ on_line here.line (moving m from to) ∷ [] → HasEmittedExpression g g p q here to (Fetch x)
fetch_emitted {here = here} to x {m} from at mode is =
    emits_one (λ t y. i.Move (Held x) y) (moving m from to) grows_same is (λ f t y around located fits.
    let held = held_mode f t x fits.1.0 (i.Move (Held x) y) located.program fits.1.1 ∙ ap Some (sym (ap or_integer fits.1.1) ∙ mode f t here around located) in
    (forms.moves (code_of f.program) f.constants (place t (i.Move (Held x) y)) m from to (Held x, at, (held, (y, fits.0, refl))), tt))

pub system_set_emitted : {g : Generator} {p q : Lined} {here : Here} (to : Address) (query : SetQuery) (set : ℕ) (zero : Address) → ((f : Final) (t : Site) → IsAround f g → IsSiteOperand f t (Constant (Whole (pos 0))) zero) → q ≡ p ++ on_line here.line (asking_set query set zero to) ∷ [] → HasEmittedExpression g g p q here to (OfSystemSet query set)
system_set_emitted to query set zero at is =
    emits_one (λ t x. i.OfSet query set None x) (asking_set query set zero to) grows_same is (λ f t x around located fits.
    (forms.asks_set (code_of f.program) f.constants (place t (i.OfSet query set None x)) query set zero to (None, at f t around, (x, fits.0, refl)), tt))

pub figure_emitted : {g : Generator} {p q : Lined} {here : Here} (to : Address) (fold' : Fold) (k : ℕ) (zero : Address) → ((f : Final) (t : Site) → IsAround f g → IsSiteOperand f t (Constant (Whole (pos 0))) zero) → q ≡ p ++ on_line here.line (r.Figure k zero to fold') ∷ [] → HasEmittedExpression g g p q here to (Figure fold' k)
figure_emitted to fold' k zero at is = emits_one (λ t x. i.Figure fold' k None x) (r.Figure k zero to fold') grows_same is (λ f t x around located fits. ((None, at f t around, (x, fits.0, refl)), tt))

-- ## Forms with one operand

-- the operand, and an instruction that carries out what follows
pub one_emitted : {old new : Generator} {p q s : Lined} {here : Here} (to : Address) {e : Expression} {o : Read} {Fit : Final → Site → Target → Type 0} (make : Target → Operand → Instruction) (y : Running) → HasReadOperand old new p q here e o → s ≡ q ++ on_line here.line y ∷ [] → ((f : Final) (t : Site) (x : Target) → Fit f t x → IsSiteTarget f t x to × HasMode t.scope e Integer) → ((f : Final) (t : Site) (u : Placed) → IsAround f new → HasOperand (code_of f.program) f.constants u o.address (λ z. HasTarget (code_of f.program) f.constants u to (λ x. Is (code_of f.program) f.constants u (make x z))) → IsCarriedOut (code_of f.program) f.constants u y) → ((prints : List RunningLines) (cells : List Mode) (x : Target) (z : Operand) → HasPrintModes prints cells (make x z)) → HasGenerated old new p s here Fit (λ t x. with_operand t e (make x)) HasNoMore
one_emitted to {e} make y m is fits suits shown =
    one_read (λ t x. make x) y grows_same m is (λ f t x h. (Integer, (fits f t x h).1)) (λ f t x around located h read.
    (suits f t (place (after t e) (make x (operand t e))) around (operand t e, read.at, (x, (fits f t x h).0, refl)), shown f.prints (after t e).cells x (operand t e))) (λ f t x read. tt)

pub attribute_emitted : {old new : Generator} {p q s : Lined} {here : Here} (to : Address) {e : Expression} {o : Read} (class field : ℕ) {n : Mode} → HasReadOperand old new p q here e o → ((f : Final) (t : Site) (here : Here) → IsAround f new → IsLocated f new here t → or_integer (field_mode t.scope.program class field) ≡ n) → s ≡ q ++ on_line here.line (fetching n class field o.address to) ∷ [] → HasEmittedExpression old new p s here to (Attribute class field e)
attribute_emitted {here = here} to {e} {o} class field {n} m mode is =
    one_read (λ t x y. i.Attribute class field y x) (fetching n class field o.address to) grows_same m is (λ f t x h. (Integer, h.1.1.1)) (λ f t x around located h read.
    let there = sym (ap (λ (p : Program). field_mode p class field) located.program) ∙ h.1.1.0 ∙ ap Some (sym (ap or_integer h.1.1.0) ∙ mode f t here around located) in
    let u : Placed = place (after t e) (i.Attribute class field (operand t e) x) in
    (forms.fetches (code_of f.program) f.constants u n class field o.address to (has_field f.program f.constants u class field n there, (operand t e, read.at, (x, h.0, refl))), tt)) (λ f t x read. tt)

-- ## Operations, worked off from left to right

-- an operation on a number that is there
pub operation_emitted : {old new : Generator} {p q s : Lined} {here higher : Here} {left right : Read} (to : Address) (op : Operation) → higher.line ≡ here.line → (here.height + left.cells < 2 ^ 64 → higher.height ≡ here.height + left.cells) → HasReadOperand old new p q higher (view_expression op.operand) right → s ≡ q ++ on_line here.line (calculating op.operator left.address right.address to) ∷ [] → HasOperated old new p s here left to op
operation_emitted {left = left} {right} to op line above m is =
    emits m.grows (λ f t x around located fits.
    let b : Expression = view_expression op.operand in
    let u : Site = after t x.left in
    let there = read_stands around located fits.0 line above in
    let read = m.more f u tt around there (Integer, fits.2) in
    let ins : Instruction = i.Calculate op.operator (operand t x.left) (operand u b) x.to in
    let c = forms.calculates (code_of f.program) f.constants (place (after u b) ins) op.operator left.address right.address to (operand t x.left, fits.0.at, (operand u b, read.at, (x.to, fits.1, refl))) in
    adds_then (m.adds f u tt around there (Integer, fits.2)) (adds_one is located.line (record { carries = c; deep = read.deep; shown = tt })))

-- one operation more, whose result goes to a target
pub more_emitted : {old mid new : Generator} {p q s : Lined} {here : Here} {e : Expression} (o : Operation) {left : Read} {to : Address} → HasReadOperand old mid p q here e left → HasOperated mid new q s here left to o → HasEmittedExpression old new p s here to (with_operation e o)
more_emitted {e = e} o m n =
    emits (grows_then m.grows n.grows) (λ f t x around located fits.
    let m' = makes_later n.grows m in
    adds_then (m'.adds f t tt around located (Integer, fits.1.1.1)) (n.adds f t (record { left = e; to = x }) around located (m'.more f t tt around located (Integer, fits.1.1.1), fits.0, fits.1.1.2)))

-- one operation more, whose result goes into the next cell
pub next_reads : {old mid cell new : Generator} {p q s : Lined} {here : Here} {e : Expression} (o : Operation) {left : Read} {a : Address} → HasReadOperand old mid p q here e left → HasGrown mid cell → IsInFrame (length cell.locals.items + here.height) a → here.height < cell.deepest → HasOperated cell new q s here left a o → HasReadOperand old new p s here (with_operation e o) (record { address = a; cells = 1 })
next_reads o m grows at room n = cell_reads_at refl n.grows at room (more_emitted o (makes_later grows m) n)

-- operations so far, with the next one, and all of them, of which this is the last one
pub folded_taken : (e : Expression) (os : List Operation) (i : ℕ) (o : Operation) → i < length os → o ≡ get_or os i o → with_operations e (take (i + 1) os) ≡ with_operation (with_operations e (take i os)) o
folded_taken e os i o lt is = ap (with_operations e) (take_more os i o lt ∙ ap (λ (x : Operation). take i os ++ x ∷ []) (sym is)) ∙ fold-append with_operation e (take i os) (o ∷ [])

pub folded_last : (e : Expression) (os : List Operation) (i j : ℕ) (o : Operation) → length os ≡ i + 1 → j ≡ i → o ≡ get_or os j o → with_operations e os ≡ with_operation (with_operations e (take i os)) o
folded_last e os i j o long same is = ap (with_operations e) (sym (take_all (i + 1) os (omega (arith, long)))) ∙ folded_taken e os i o (omega (arith, long)) (is ∙ ap (λ k. get_or os k o) same)

-- ## Modes that the generator knows

pub field_known : {g : Generator} (class field : ℕ) {n : Mode} → n ≡ or_integer (field_mode (view_program g.program.now) class field) → (f : Final) (t : Site) (here : Here) → IsAround f g → IsLocated f g here t → or_integer (field_mode t.scope.program class field) ≡ n
field_known class field e f t here around located = ap (λ (p : Program). or_integer (field_mode p class field)) (located.program ∙ sym around.program) ∙ sym e

pub variable_known : {g : Generator} (x : Variable) {n : Mode} → n ≡ or_integer (mode_in g.program.now.globals.items g.locals.items x) → (f : Final) (t : Site) (here : Here) → IsAround f g → IsLocated f g here t → or_integer (mode_at t.scope x) ≡ n
variable_known (Global k) e f t here around located = ap (λ (p : Program). or_integer (slice_get p.globals k)) (located.program ∙ sym around.program) ∙ sym e
variable_known (Local k) e f t here around located = ap (λ (l : List Mode). or_integer (slice_get l k)) located.locals ∙ sym e
