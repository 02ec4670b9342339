-- LET, ADD and SUBTRACT, and what takes a value that an instruction leaves.
use Rattle.std.proofs.Common.{◌≡◌, ℕ, ◌+◌, ◌<◌, ◌≤◌, ◌^◌, Bool, false, List, [], ◌∷◌, ◌++◌, length, Some, refl, sym, ap, ◌∙◌, subst, arith, if◌then◌else◌}
use Rattle.ss_code_generator.proofs.Common.{Address, AttributeSpot, calculating, CanTakeMode, CountedClass, Generator, Global, HasMode, Held, Instruction, Integer, IsCarriedOut, IsInFrame, IsTypedStatement, Leave, Lined, Mode, mode_at, mode_here, must_look, OfAttribute, on_line, operator_of, Placed, RunningLines, Sign, Spot, storing, Taken, Target, TypedScope, Variable, VariableSpot, watch}
use Rattle.ss_code_generator.specs.Emitted.{Final, HasAdded, HasEmitted, HasGenerated, HasGrown, HasPrintModes, HasReadOperand, IsAround, IsInteger, IsLocated, IsSiteOperand, IsSiteTarget, HasNoMore}
use Rattle.ss_code_generator.specs.Spots.{Assignment, HasAssigned, HasAssignedLanded, HasHeldMode, HasTargetRoom, IsSpot, IsTypedPlace, IsVariable, IsWatchedAs, landed_code, landing, spot_cells, Taking, Changed, place_variable, IsHeldBy, spot_code, assigned_code}
use Rattle.ss_code_instructions.specs.Translation.{above, after, after_place, code_of, entity_code, expression_code, height, is_kept, operand, operand_code, or_integer, place, place_code, Site, to_place_code, with_operand, place_mode, let_code, change_code, give_code}
use Rattle.ss_program.specs.Program.{Expression, Place, Program, ToAttribute, ToCount, ToVariable, Let, Change}
use Rattle.ss_code_instructions.specs.declared.instruction.Instruction.{Instruction as Running}
use Rattle.ss_code_instructions.specs.declared.instruction.Instruction.TheVariants as r
use Rattle.ss_code_instructions.specs.Instructions as i
use Rattle.ss_code_generator.specs.declared.expressions.Operand.{Operand as Read}
use Rattle.ss_code_generator.specs.declared.generator.Site.{Site as Here}
use Rattle.ss_code_generator.specs.declared.targets.Spot.TheVariants as spots
use Rattle.ss_code_generator.proofs.Emitting.{around_old, grows_then, stands_old, stands_above, makes_later, adds_then, adds_one, adds_same, emits}
use Rattle.ss_code_generator.proofs.Forms as forms
use Rattle.ss_code_generator.proofs.Modes.{same_some, on_top, operand_mode, mode_after}
use Rattle.ss_code_generator.proofs.Operands.{read_stands, cell_at_site}
use Rattle.ss_code_generator.proofs.Watching.{count_integer}
use Rattle.ss_code_generator.proofs.Assigned.{to_place_parts}
use Rattle.ss_code_generator.proofs.Spotted.{MakesAttribute, stored}

-- ## LET

abbrev pub LetsVariable : (old new : Generator) → (before after : Lined) → Here → Expression → VariableSpot → Type 0
LetsVariable old new before after here e s =
    HasGenerated old new before after here (λ f t (x : Variable). IsVariable t x s × IsTypedStatement t.scope (Let here.line (ToVariable x) e)) (λ t x. let_code t (ToVariable x) e) HasNoMore

-- and one that is watched
pub let_kept : {old new : Generator} {p q v : Lined} {here : Here} {e : Expression} {o : Read} {s : VariableSpot} {k : ℕ} → s.watched ≡ Some k → HasReadOperand old new p q here e o → v ≡ q ++ on_line here.line (r.Keep o.address k) ∷ [] → LetsVariable old new p v here e s
let_kept {e = e} watched m is =
    emits m.grows (λ f t x around located fits.
    let w = subst (IsWatchedAs (is_kept t x) x) watched fits.0.watched in
    let read = m.more f t tt around located (fits.1.0, fits.1.2) in
    let code : with_operand t e (λ y. i.Keep y x) ≡ let_code t (ToVariable x) e =
    sym (ap (λ (b : Bool). if b then with_operand t e (λ y. i.Keep y x) else expression_code t (i.Into x) e) w.0) in
    adds_same code
    (adds_then (m.adds f t tt around located (fits.1.0, fits.1.2)) (adds_one is located.line (record { carries = (operand t e, read.at, ap (i.Keep (operand t e)) w.1); deep = read.deep; shown = tt }))))

pub let_of_variable : {old new : Generator} {p q : Lined} {here : Here} {x : Variable} (e : Expression) {s : VariableSpot} → ((f : Final) (here : Here) (t : Site) → IsAround f old → IsLocated f old here t → IsVariable t x s) → LetsVariable old new p q here e s → HasEmitted old new p q here (λ k. IsTypedStatement k (Let here.line (ToVariable x) e)) (λ t. let_code t (ToVariable x) e)
let_of_variable {here = here} {x} e h m = emits m.grows (λ f t u around located good. m.adds f t x around located (h f here t (around_old m.grows around) (stands_old m.grows located), good))

pub let_of_count : {old new : Generator} {p q v : Lined} {here higher : Here} (c : CountedClass) {e : Expression} {o : Read} (s : Spot) → ((f : Final) (here : Here) (t : Site) → IsAround f old → IsLocated f old here t → IsSpot f t (ToCount c) s) → HasReadOperand old new p q here e o → higher.line ≡ here.line → (here.height + o.cells < 2 ^ 64 → higher.height ≡ here.height + o.cells) → HasAssigned new q v higher o.address (λ f t x. IsSpot f t x s) → HasEmitted old new p v here (λ k. IsTypedStatement k (Let here.line (ToCount c) e)) (λ t. let_code t (ToCount c) e)
let_of_count {here = here} c {e} s h m line up n =
    emits m.grows (λ f t u around located good.
    let number : HasMode t.scope e Integer = subst (HasMode t.scope e) good.1.0 good.2 in
    let read = m.more f t tt around located (good.0, good.2) in
    let there = read_stands around located read line up in
    let held : mode_at t.scope (Global c.variable) ≡ Some Integer = count_integer f.program around.typed t.scope located.program c good.1.1 in
    let it : Assignment = record { resolved = t; place = ToCount c; from = operand t e; mode = Integer } in
    let spot = h f here t (around_old m.grows around) (stands_old m.grows located) in
    adds_then (m.adds f t tt around located (good.0, good.2)) (n.adds f (after t e) it around there (spot, refl, read.at, held, operand_mode f t e Integer Leave located.program number)))

pub let_of_attribute : {old mid new : Generator} {p v w z : Lined} {here higher : Here} {class field : ℕ} {of e : Expression} {s : AttributeSpot} {right : Read} → MakesAttribute old mid p v here (λ t. entity_code t (must_look class of e) class of) class field of s → higher.line ≡ here.line → (here.height + s.cells < 2 ^ 64 → higher.height ≡ here.height + s.cells) → HasReadOperand mid new v w higher e right → z ≡ w ++ on_line here.line (storing s.mode s.class s.field s.entity right.address s.is_watched) ∷ [] → HasEmitted old new p z here (λ k. IsTypedStatement k (Let here.line (ToAttribute class field of) e)) (λ t. let_code t (ToAttribute class field of) e)
let_of_attribute {of = of} {e = e} {right = right} a line up n is =
    emits (grows_then a.grows n.grows) (λ f t u around located good.
    let a' = makes_later n.grows a in
    let spot = a'.more f t tt around located good.1.1 in
    let t1 : Site = after t of in
    let on = read_stands around located spot.entity line up in
    let read = n.more f t1 tt around on (good.0, good.2) in
    adds_then (a'.adds f t tt around located good.1.1) (adds_then (n.adds f t1 tt around on (good.0, good.2))
    (stored right.address is around (after t1 e) (operand t of) (operand t1 e) spot refl spot.entity.at read.at good.1.0 located.line located.program read.deep)))

-- ## ADD and SUBTRACT

change_parts : (t : Site) (sign : Sign) (p : Place) (x : Variable) (e : Expression) → place_variable p ≡ Some x → with_operand t e (λ y. i.Calculate (operator_of sign) (Held x) y (landing t p)) ++ landed_code t t p Integer ≡ change_code t sign p e
change_parts t sign (ToVariable z) x e h = rw (← same_some h) (to_place_parts t (ToVariable z) Integer (λ u to. with_operand u e (λ y. i.Calculate (operator_of sign) (Held z) y to)))
change_parts t sign (ToAttribute class field of) x e h = absurd cc
change_parts t sign (ToCount c) x e h = rw (← same_some h) refl

abbrev pub ChangesVariable : (old new : Generator) → (before after : Lined) → Here → Sign → Expression → Spot → VariableSpot → Type 0
ChangesVariable old new before after here sign e s variable =
    HasGenerated old new before after here (λ f t (c : Changed). IsSpot f t c.place s × IsVariable t c.variable variable × IsHeldBy c × IsInteger e t.scope × HasHeldMode t.scope c.place Integer) (λ t c. change_code t sign c.place e) HasNoMore

-- where a value lands
abbrev pub Lands : Generator → Here → Spot → Address → Type 0
Lands g here s to = (f : Final) (t u : Site) (x : Place) → IsAround f g → IsLocated f g here u → t.scope ≡ u.scope → IsSpot f t x s → IsSiteTarget f u (landing u x) to × HasTargetRoom f (landing u x)

pub variable_changed : {old mid new : Generator} {p q v w : Lined} {here : Here} (sign : Sign) {e : Expression} {by : Read} (to : Address) (s : Spot) (variable : VariableSpot) → HasReadOperand old mid p q here e by → HasGrown mid new → Lands new here s to → v ≡ q ++ on_line here.line (calculating (operator_of sign) variable.address by.address to) ∷ [] → HasAssignedLanded new v w here to (λ f t x. IsSpot f t x s) → ChangesVariable old new p w here sign e s variable
variable_changed sign {e} {by} to s variable m g land is n =
    emits (grows_then m.grows g) (λ f t c around located fits.
    let m' = makes_later g m in
    let read = m'.more f t tt around located (Integer, fits.3) in
    let at = land f t t c.place around located refl fits.0 in
    let lands : Target = landing t c.place in
    let ins : Instruction = i.Calculate (operator_of sign) (Held c.variable) (operand t e) lands in
    let carries = forms.calculates (code_of f.program) f.constants (place (after t e) ins) (operator_of sign) variable.address by.address to (Held c.variable, fits.1.at, (operand t e, read.at, (lands, at.0, refl))) in
    let it : Taking = record { resolved = t; place = c.place; mode = Integer } in
    adds_same (change_parts t sign c.place c.variable e fits.2)
    (adds_then (adds_then (m'.adds f t tt around located (Integer, fits.3)) (adds_one is located.line (record { carries = carries; deep = read.deep; shown = tt })))
    (n.adds f t it around located (fits.0, refl, at.0, at.1, fits.4))))

pub change_of_variable : {old new : Generator} {p q : Lined} {here : Here} (sign : Sign) {x : Variable} (e : Expression) {s : VariableSpot} → ((f : Final) (here : Here) (t : Site) → IsAround f old → IsLocated f old here t → IsVariable t x s) → ChangesVariable old new p q here sign e (spots.Variable s) s → HasEmitted old new p q here (λ k. IsTypedStatement k (Change here.line sign (ToVariable x) e)) (λ t. change_code t sign (ToVariable x) e)
change_of_variable {here = here} sign {x} e h m =
    emits m.grows (λ f t u around located good.
    let v = h f here t (around_old m.grows around) (stands_old m.grows located) in
    m.adds f t (record { place = ToVariable x; variable = x }) around located (v, v, refl, good.1, good.0.0))

pub change_of_count : {old new : Generator} {p q : Lined} {here : Here} (sign : Sign) (c : CountedClass) (e : Expression) {class : ℕ} {s : VariableSpot} → class ≡ c.class → ((f : Final) (here : Here) (t : Site) → IsAround f old → IsLocated f old here t → IsVariable t (Global c.variable) s) → ChangesVariable old new p q here sign e (spots.Count class s) s → HasEmitted old new p q here (λ k. IsTypedStatement k (Change here.line sign (ToCount c) e)) (λ t. change_code t sign (ToCount c) e)
change_of_count {here = here} sign c e is_class h m =
    emits m.grows (λ f t u around located good.
    let v = h f here t (around_old m.grows around) (stands_old m.grows located) in
    let it : Changed = record { place = ToCount c; variable = Global c.variable } in
    m.adds f t it around located ((is_class, v), v, refl, good.1, count_integer f.program around.typed t.scope located.program c good.0.1))

pub attribute_changed : {old mid new : Generator} {p q v w : Lined} {here higher : Here} (sign : Sign) {class field : ℕ} {of e : Expression} {by : Read} {s : AttributeSpot} → HasReadOperand old mid p q here e by → higher.line ≡ here.line → (here.height + by.cells < 2 ^ 64 → higher.height ≡ here.height + by.cells) → MakesAttribute mid new q v higher (λ t. operand_code t of) class field of s → w ≡ v ++ on_line here.line (r.ChangeAttribute s.class s.field s.entity by.address sign s.is_watched) ∷ [] → HasEmitted old new p w here (λ k. IsTypedStatement k (Change here.line sign (ToAttribute class field of) e)) (λ t. change_code t sign (ToAttribute class field of) e)
attribute_changed sign {class} {field} {of} {e} {s = s} m line up a is =
    emits (grows_then m.grows a.grows) (λ f t u around located good.
    let m' = makes_later a.grows m in
    let read = m'.more f t tt around located (Integer, good.1) in
    let t1 : Site = after t e in
    let on = read_stands around located read line up in
    let spot = a.more f t1 tt around on good.0.1 in
    let same : i.ChangeAttribute sign class field (operand t1 of) (operand t e) ≡ i.ChangeAttribute sign s.class s.field (operand t1 of) (operand t e) = cc (spot.class, spot.field) in
    let notes : s.is_watched ≡ false → watch f.program.statistics (OfAttribute s.class s.field) ≡ false = λ (off : s.is_watched ≡ false).
    ap (λ (k : ℕ). watch f.program.statistics (OfAttribute k s.field)) spot.class ∙ ap (λ (k : ℕ). watch f.program.statistics (OfAttribute class k)) spot.field
    ∙ sym (ap (λ (k : Program). watch k.statistics (OfAttribute class field)) located.program) ∙ sym spot.noted ∙ off in
    adds_then (m'.adds f t tt around located (Integer, good.1)) (adds_then (a.adds f t1 tt around on good.0.1)
    (adds_one is located.line (record { carries = (notes, (operand t1 of, spot.entity.at, (operand t e, read.at, same))); deep = spot.entity.deep; shown = tt }))))

-- ## A place that takes what an instruction leaves

-- the site where a place was resolved
pub spot_high : (f : Final) (t : Site) (x : Place) (s : Spot) → IsSpot f t x s → height t ≤ f.depth → (height (after_place t x) ≡ height t + spot_cells s) × (height (after_place t x) ≤ f.depth)
spot_high f t (ToVariable x) (spots.Variable s) h deep = (omega arith, deep)
spot_high f t (ToAttribute class field e) (spots.Attribute s) h deep = (h.entity.high, h.entity.deep)
spot_high f t (ToCount c) (spots.Count class s) h deep = (omega arith, deep)
spot_high f t _ _ h deep = absurd h

pub spot_stands : {f : Final} {g : Generator} {here higher : Here} {t : Site} (x : Place) (s : Spot) → IsAround f g → IsLocated f g here t → IsSpot f t x s → higher.line ≡ here.line → (here.height + spot_cells s < 2 ^ 64 → higher.height ≡ here.height + spot_cells s) → IsLocated f g higher (after_place t x)
spot_stands {f} {t = t} x s around located is line up =
    let h = spot_high f t x s is located.deep in
    stands_above (spot_cells s) around.small located line up refl refl h.0 h.1

-- what a place holds that takes a mode
pub holds_mode : {f : Final} {g : Generator} {here : Here} {t : Site} (x : Place) (m : Mode) → IsAround f g → IsLocated f g here t → CanTakeMode t.scope x m → HasHeldMode t.scope x m
holds_mode {f} {t = t} (ToCount c) m around located takes = count_integer f.program around.typed t.scope located.program c takes.1 ∙ ap Some (sym takes.0)
holds_mode _ m around located takes = takes.0

abbrev pub MakesSpot : (old new : Generator) → (before after : Lined) → Here → (Site → List Placed) → Place → Spot → Type 0
MakesSpot old new before after here c x s =
    HasGenerated old new before after here (λ f t (u : Unit {0}). IsTypedPlace x t.scope) (λ t u. c t) (λ f t u. IsSpot f t x s)

-- a place whose value comes of this code
pub to_place_by : {old mid new : Generator} {p q v w : Lined} {here higher : Here} (x : Place) (m : Mode) (s : Spot) (to : Address) (Good : TypedScope → Type 0) (source : Site → Target → List Placed) → MakesSpot old mid p q here (λ t. place_code t x) x s → higher.line ≡ here.line → (here.height + spot_cells s < 2 ^ 64 → higher.height ≡ here.height + spot_cells s) → HasGrown mid new → Lands new higher s to → ((k : TypedScope) → Good k → CanTakeMode k x m) → ((f : Final) (u : Site) (z : Target) → IsAround f new → IsLocated f new higher u → IsSiteTarget f u z to → Good u.scope → HasAdded f q v (source u z)) → HasAssignedLanded new v w higher to (λ f t z. IsSpot f t z s) → HasEmitted old new p w here Good (λ t. to_place_code t x m source)
to_place_by x m s to Good source l line up g land takes leaves n =
    emits (grows_then l.grows g) (λ f t u around located good.
    let l' = makes_later g l in
    let can = takes t.scope good in
    let spot = l'.more f t tt around located (m, can) in
    let t1 : Site = after_place t x in
    let on = spot_stands x s around located spot line up in
    let at = land f t t1 x around on refl spot in
    let it : Taking = record { resolved = t; place = x; mode = m } in
    adds_same (to_place_parts t x m source)
    (adds_then (l'.adds f t tt around located (m, can)) (adds_then (leaves f t1 (landing t1 x) around on at.0 good)
    (n.adds f t1 it around on (spot, refl, at.0, at.1, holds_mode x m around located can)))))

-- of one instruction
pub to_place_made : {old mid new : Generator} {p q v w : Lined} {here higher : Here} (x : Place) (m : Mode) (s : Spot) (to : Address) (y : Running) (make : Target → Instruction) → MakesSpot old mid p q here (λ t. place_code t x) x s → higher.line ≡ here.line → (here.height + spot_cells s < 2 ^ 64 → higher.height ≡ here.height + spot_cells s) → HasGrown mid new → Lands new higher s to → ((f : Final) (u : Site) (z : Target) → IsSiteTarget f u z to → IsCarriedOut (code_of f.program) f.constants (place u (make z)) y) → ((prints : List RunningLines) (cells : List Mode) (z : Target) → HasPrintModes prints cells (make z)) → v ≡ q ++ on_line here.line y ∷ [] → HasAssignedLanded new v w higher to (λ f t z. IsSpot f t z s) → HasEmitted old new p w here (λ k. CanTakeMode k x m) (λ t. to_place_code t x m (λ u z. place u (make z) ∷ []))
to_place_made x m s to y make l line up g land carries shown is n =
    to_place_by x m s to (λ k. CanTakeMode k x m) (λ u z. place u (make z) ∷ []) l line up g land (λ k h. h) (λ f u z around on at good.
    adds_one is (on.line ∙ line) (record { carries = carries f u z at; deep = on.deep; shown = shown f.prints u.cells z })) n

-- ## A place that takes the value in the topmost cell

abbrev given_cell : Site → Place → Site
given_cell t x = above t (place_mode t.scope x)

give_parts : (t : Site) (x : Place) → spot_code (given_cell t x) x ++ assigned_code (given_cell t x) (after_place (given_cell t x) x) x (Taken (height t)) ≡ give_code t x
give_parts t (ToVariable x) = refl
give_parts t _ = refl

place_mode_is : (t : Site) (x : Place) (m : Mode) → CanTakeMode t.scope x m → place_mode t.scope x ≡ m
place_mode_is t (ToCount c) m h = sym h.0
place_mode_is t _ m h = ap or_integer h.0

given_mode : (f : Final) (t : Site) (x : Place) → mode_here (code_of f.program) f.constants (place (after_place (given_cell t x) x) Leave) (Taken (height t)) ≡ Some (place_mode t.scope x)
given_mode f t (ToVariable x) = on_top (height t) (place_mode t.scope (ToVariable x)) t.cells refl
given_mode f t (ToAttribute class field e) =
    let m : Mode = place_mode t.scope (ToAttribute class field e) in
    mode_after f (above t m) e (Taken (height t)) m Leave Leave (on_top (height t) m t.cells refl)
given_mode f t (ToCount c) = on_top (height t) Integer t.cells refl

pub given_made : {old mid new : Generator} {p q v : Lined} {here one higher : Here} (x : Place) (s : Spot) (from : Address) → HasGrown old mid → IsInFrame (length mid.locals.items + here.height) from → here.height < mid.deepest → one.line ≡ here.line → (here.height + 1 < 2 ^ 64 → one.height ≡ here.height + 1) → MakesSpot mid new p q one (λ t. spot_code t x) x s → higher.line ≡ one.line → (one.height + spot_cells s < 2 ^ 64 → higher.height ≡ one.height + spot_cells s) → HasAssigned new q v higher from (λ f t z. IsSpot f t z s) → HasEmitted old new p v here (IsTypedPlace x) (λ t. give_code t x)
given_made x s from g cell room line up l line_2 up_2 n =
    emits (grows_then g l.grows) (λ f t u around located good.
    let m : Mode = place_mode t.scope x in
    let w : Site = given_cell t x in
    let mine = around_old l.grows around in
    let there = stands_old l.grows located in
    let high : height w ≡ height t + 1 = omega arith in
    let deep : height w ≤ f.depth = omega (arith, high, there.high, room, mine.depth) in
    let on = stands_above 1 around.small located line up refl refl high deep in
    let spot = l.more f w tt around on good in
    let on_2 = spot_stands x s around on spot line_2 up_2 in
    let takes : CanTakeMode t.scope x m = subst (CanTakeMode t.scope x) (sym (place_mode_is t x good.0 good.1)) good.1 in
    let at : IsSiteOperand f (after_place w x) (Taken (height t)) from = cell_at_site there cell in
    let it : Assignment = record { resolved = w; place = x; from = Taken (height t); mode = m } in
    adds_same (give_parts t x)
    (adds_then (l.adds f w tt around on good) (n.adds f (after_place w x) it around on_2 (spot, refl, at, holds_mode x m around located takes, given_mode f t x))))
