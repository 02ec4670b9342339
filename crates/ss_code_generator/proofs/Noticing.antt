-- What the generator emits for notices and statistics.
use Rattle.std.proofs.Common.{◌≡◌, ◌≢◌, ℕ, zero, suc, ◌+◌, ◌-◌, ◌<◌, ◌≤◌, ◌^◌, Bool, true, false, List, [], ◌∷◌, ◌++◌, length, take, Option, Some, None, refl, sym, ap, ◌∙◌, arith, below_more, append_assoc, append-nil, if◌then◌else◌}
use Rattle.ss_code_generator.proofs.Common.{Address, AreNumbers, Assignment, AttributeSpot, Final, Generator, HasAdded, HasAssigned, HasAssignedLanded, HasBorne, HasEmitted, HasGenerated, HasGrown, HasHeldMode, HasNoMore, HasPrintModes, HasReadOperand, HasTargetRoom, Held, Instruction, Integer, IsAround, IsInFrame, IsLocated, IsRunBy, IsSiteOperand, IsSiteTarget, IsSpot, IsTyped, landing, Lined, Mode, OfAttribute, on_line, Operand, Placed, Spot, spot_cells, Statistic, Stays, storing, Taken, Taking, Target, true≢false, values_high, VariableSpot, watch}
use Rattle.std.specs.List.{AllByRecursion as Every}
use Rattle.ss_code_instructions.specs.Translation.{code_of, above, after, after_bearer, after_place, after_values, bearer, bearer_code, entity_code, height, is_kept, next, operand, place, place_code, restarts_code, Site, stay, values_code, with_operand, forget, when_code, notice_code, schedule_new_code, schedule_code}
use Rattle.ss_program.specs.Program.{Expression, Place, Program, Restart, ToAttribute, ToCount, ToVariable, When, ScheduleNew, Schedule}
use Rattle.ss_program.specs.WellTyped.{HasMode, IsTypedRestart, IsTypedStatement, TypedScope, IsTypedWhen, AreTypedGiven}
use Rattle.ss_code_instructions.specs.declared.instruction.Instruction.{Instruction as Running}
use Rattle.ss_code_instructions.specs.declared.instruction.Instruction.TheVariants as r
use Rattle.ss_code_instructions.specs.Instructions as i
use Rattle.ss_code_instructions.specs.Carried.{HasOperand, HasTarget, Is, IsCarriedOut, RunningLines}
use Rattle.ss_code_instructions.specs.Machine.{Code}
use Rattle.ss_base.specs.declared.value.Value.{Value}
use Rattle.ss_code_generator.specs.declared.expressions.Operand.{Operand as Read}
use Rattle.ss_code_generator.specs.declared.generator.Site.{Site as Here}
use Rattle.ss_code_generator.specs.declared.targets.Spot.TheVariants as spots
use Rattle.ss_code_generator.specs.Notices.{any_watched, named_at, named_code, HasNamed}
use Rattle.ss_code_generator.proofs.Emitting.{around_old, grows_same, grows_then, stands_old, stands_above, makes_later, adds_then, adds_one, adds_same, emits}
use Rattle.ss_code_generator.proofs.Modes.{on_top}
use Rattle.ss_code_generator.proofs.Operands.{read_stands, number_at, cell_at_site, operand_at, stays_at, one_read}
use Rattle.ss_code_generator.proofs.Spotted.{stored}
use Rattle.ss_code_generator.proofs.Called.{each_fits}
use Rattle.ss_code_generator.proofs.Pushing.{values_stand}
use Rattle.ss_code_generator.proofs.Letting.{MakesSpot, Lands, spot_stands, holds_mode}

-- ## One operand, and an instruction that leaves something in the next cell

pub cell_works : {old mid new : Generator} {p q v : Lined} {here : Here} {e : Expression} {o : Read} {to : Address} {Fit : Final → Site → Unit {0} → Type 0} (make : Target → Operand → Instruction) (y : Running) → HasGrown old mid → IsInFrame (length mid.locals.items + here.height) to → HasReadOperand mid new p q here e o → v ≡ q ++ on_line here.line y ∷ [] → ((f : Final) (t : Site) (u : Unit {0}) → Fit f t u → IsTyped e t.scope) → ((code : Code) (constants : List Value) (x : Placed) → HasOperand code constants x o.address (λ y. HasTarget code constants x to (λ z. Is code constants x (make z y))) → IsCarriedOut code constants x y) → ((prints : List RunningLines) (cells : List Mode) (z : Target) (y : Operand) → HasPrintModes prints cells (make z y)) → HasGenerated old new p v here Fit (λ t u. with_operand t e (make (next t))) HasNoMore
cell_works {e = e} make y g cell m is typed carries shown =
    one_read (λ t u. make (next t)) y g m is typed (λ f t u around located good read.
    let ins : Instruction = make (next t) (operand t e) in
    (carries (code_of f.program) f.constants (place (after t e) ins) (operand t e, read.at, (next t, cell_at_site (stands_old m.grows located) cell, refl)), shown f.prints (after t e).cells (next t) (operand t e))) (λ f t u read. tt)

-- ## What a notice is given, and its time

pub values_timed : {old mid new : Generator} {p q v : Lined} {here higher : Here} (es : List Expression) (w : When) → HasEmitted old mid p q here (λ s. Every (λ e. IsTyped e s) es) (λ t. values_code t es) → here.height + length es ≤ mid.deepest → higher.line ≡ here.line → (here.height + length es < 2 ^ 64 → higher.height ≡ here.height + length es) → HasEmitted mid new q v higher (λ s. IsTypedWhen s w) (λ t. when_code t w) → HasEmitted old new p v here (λ s. Every (λ e. IsTyped e s) es × IsTypedWhen s w) (λ t. values_code t es ++ when_code (after_values t es) w)
values_timed es w m room line up n =
    emits (grows_then m.grows n.grows) (λ f t u around located good.
    adds_then ((makes_later n.grows m).adds f t tt around located good.0) (n.adds f (after_values t es) tt around (values_stand es n.grows room line up around located) good.1))

-- the frame has room for one cell more than the values take
pub room_above : (h n higher d e : ℕ) → h + n ≤ d → (h + n < 2 ^ 64 → higher ≡ h + n) → d ≤ e → higher < e → e < 2 ^ 64 → h + n < e
room_above h n higher d e room up grows low fits =
    let is : higher ≡ h + n = up (omega (arith, room, grows, fits)) in
    omega (arith, is, low)

-- values of the modes of attributes are typed
pub given_typed : (s : TypedScope) (class : ℕ) (es : List Expression) → AreTypedGiven s class es → Every (λ e. IsTyped e s) es
given_typed s class es h = each_fits (HasMode s) es (take (length es) h.1.0) h.1.2

-- none of the first attributes is watched
unwatched_below : (ss : List Statistic) (class given : ℕ) → any_watched ss class given ≡ false → (field : ℕ) → field < given → watch ss (OfAttribute class field) ≡ false
unwatched_below ss class zero h field low = absurd (omega (arith, low))
unwatched_below ss class (suc k) h field low = by (any_watched ss class k) refl h (unwatched_below ss class k)
  where
    by : (b : Bool) → any_watched ss class k ≡ b → (if b then true else watch ss (OfAttribute class k)) ≡ false → (any_watched ss class k ≡ false → (field : ℕ) → field < k → watch ss (OfAttribute class field) ≡ false) → watch ss (OfAttribute class field) ≡ false
    by true e h rest = absurd (true≢false h)
    by false e h rest = below_more (λ (j : ℕ). watch ss (OfAttribute class j) ≡ false) k (rest e) h field (omega (arith, low))

pub notes_given : {f : Final} {g : Generator} {here : Here} {t : Site} {noted : Bool} (class given : ℕ) → IsAround f g → IsLocated f g here t → noted ≡ any_watched g.program.now.statistics.items class given → noted ≡ false → (field : ℕ) → field < given → watch f.program.statistics (OfAttribute class field) ≡ false
notes_given {g = g} class given around located is off field low =
    sym (ap (λ (p : Program). watch p.statistics (OfAttribute class field)) around.program) ∙ unwatched_below g.program.now.statistics.items class given (sym is ∙ off) field low

-- ## A new notice goes to its place

named_in_variable : {g : Generator} {p q : Lined} {here : Here} (from : Address) (s : VariableSpot) → HasAssignedLanded g p q here from (λ f t x. IsSpot f t x (spots.Variable s)) → (f : Final) (t u : Site) (x : Place) → IsSpot f t x (spots.Variable s) → t.scope ≡ u.scope → IsSiteTarget f u (landing u x) from → HasTargetRoom f (landing u x) → HasHeldMode u.scope x Integer → IsAround f g → IsLocated f g here u → HasAdded f p q (named_code t u x)
named_in_variable from s m f t u (ToVariable x) v same at room holds around located =
    let it : Taking = record { resolved = t; place = ToVariable x; mode = Integer } in
    m.adds f u it around located (v, same, at, room, holds)
named_in_variable from s m f t u _ v same at room holds around located = absurd v

pub variable_named : {g : Generator} {p q : Lined} {here : Here} (from : Address) (s : VariableSpot) → HasAssignedLanded g p q here from (λ f t x. IsSpot f t x (spots.Variable s)) → HasNamed g p q here from (λ f t x. IsSpot f t x (spots.Variable s))
variable_named from s m = emits grows_same (λ f u x around located fits. named_in_variable from s m f x.resolved u x.place fits.0 fits.1 fits.2 fits.3 fits.4 around located)

named_in_attribute : {g : Generator} {p q : Lined} {here : Here} (from : Address) (s : AttributeSpot) → q ≡ p ++ on_line here.line (storing s.mode s.class s.field s.entity from s.is_watched) ∷ [] → (f : Final) (t u : Site) (x : Place) → IsSpot f t x (spots.Attribute s) → t.scope ≡ u.scope → IsSiteTarget f u (landing u x) from → HasTargetRoom f (landing u x) → HasHeldMode u.scope x Integer → IsAround f g → IsLocated f g here u → HasAdded f p q (named_code t u x)
named_in_attribute from s is f t u (ToAttribute class field e) v same at room holds around located =
    let w : Site = above u Integer in
    let entity : IsSiteOperand f w (stay (operand t e)) s.entity = stays_at f w (operand t e) s.entity (operand_at f t w (operand t e) s.entity (sym same) v.entity.at) in
    stored from is around w (stay (operand t e)) (Stays (height u)) v same entity at holds located.line located.program room
named_in_attribute from s is f t u _ v same at room holds around located = absurd v

pub attribute_named : {g : Generator} {p q : Lined} {here : Here} (from : Address) (s : AttributeSpot) → q ≡ p ++ on_line here.line (storing s.mode s.class s.field s.entity from s.is_watched) ∷ [] → HasNamed g p q here from (λ f t x. IsSpot f t x (spots.Attribute s))
attribute_named from s is = emits grows_same (λ f u x around located fits. named_in_attribute from s is f x.resolved u x.place fits.0 fits.1 fits.2 fits.3 fits.4 around located)

named_in_count : {g : Generator} {p q : Lined} {here higher : Here} (from : Address) (class : ℕ) (s : VariableSpot) → higher.line ≡ here.line → (here.height + 1 < 2 ^ 64 → higher.height ≡ here.height + 1) → HasAssigned g p q higher from (λ f t x. IsSpot f t x (spots.Count class s)) → (f : Final) (t u : Site) (x : Place) → IsSpot f t x (spots.Count class s) → t.scope ≡ u.scope → IsSiteTarget f u (landing u x) from → HasTargetRoom f (landing u x) → HasHeldMode u.scope x Integer → IsAround f g → IsLocated f g here u → HasAdded f p q (named_code t u x)
named_in_count from class s line up m f t u (ToCount c) v same at room holds around located =
    let w : Site = above u Integer in
    let high : height w ≡ height u + 1 = omega arith in
    let on = stands_above 1 around.small located line up refl refl high room in
    let it : Assignment = record { resolved = t; place = ToCount c; from = Stays (height u); mode = Integer } in
    m.adds f w it around on (v, same, at, holds, on_top (height u) Integer u.cells refl)
named_in_count from class s line up m f t u _ v same at room holds around located = absurd v

pub count_named : {g : Generator} {p q : Lined} {here higher : Here} (from : Address) (class : ℕ) (s : VariableSpot) → higher.line ≡ here.line → (here.height + 1 < 2 ^ 64 → higher.height ≡ here.height + 1) → HasAssigned g p q higher from (λ f t x. IsSpot f t x (spots.Count class s)) → HasNamed g p q here from (λ f t x. IsSpot f t x (spots.Count class s))
count_named from class s line up m = emits grows_same (λ f u x around located fits. named_in_count from class s line up m f x.resolved u x.place fits.0 fits.1 fits.2 fits.3 fits.4 around located)

-- ## SCHEDULE A

-- where a notice is filed, and what its own number lies in
abbrev notice_from : (u : Site) → Place → Operand
notice_from u (ToVariable x) = Held x
notice_from u (ToAttribute class field e) = Taken (height u)
notice_from u (ToCount c) = Taken (height u)

abbrev notice_site : (u : Site) → Place → Site
notice_site u (ToVariable x) = u
notice_site u (ToAttribute class field e) = above u Integer
notice_site u (ToCount c) = above u Integer

notice_line : (u : Site) (x : Place) → (notice_site u x).line ≡ u.line
notice_line u (ToVariable x) = refl
notice_line u _ = refl

-- the code of a notice in parts, where its time lies above the place that was resolved
notice_parts : (f : Final) (t u : Site) (class : ℕ) (x : Place) (s : Spot) (make : Target → Placed) → IsSpot f t x s → (make (landing u x) ∷ []) ++ (named_code t u x ++ (place (notice_site u x) (i.FileNotice class (notice_from u x) (Taken (height (after_place t x)))) ∷ forget (after_place t x) (spot_cells s))) ≡ notice_code t u class x make
notice_parts f t u class (ToVariable x) (spots.Variable s) make h = by (is_kept u x)
  where
    by : (b : Bool) → (make (if b then next u else i.Into x) ∷ []) ++ ((if b then place (above u Integer) (i.Keep (Taken (height u)) x) ∷ [] else []) ++ (place u (i.FileNotice class (Held x) (Taken (height t))) ∷ [])) ≡ (if b then (make (next u) ∷ []) ++ (place (above u Integer) (i.Keep (Taken (height u)) x) ∷ []) else make (i.Into x) ∷ []) ++ place u (i.FileNotice class (Held x) (Taken (height t))) ∷ []
    by true = refl
    by false = refl
notice_parts f t u class (ToAttribute c field e) (spots.Attribute s) make h =
    let v : Site = above u Integer in
    let cells : s.cells ≡ height (after t e) - height t = omega (arith, h.entity.high) in
    ap (λ (k : ℕ). make (next u) ∷ (place v (i.SetAttribute c field (stay (operand t e)) (Stays (height u))) ∷ (place v (i.FileNotice class (Taken (height u)) (Taken (height (after t e)))) ∷ forget (after t e) k))) cells
notice_parts f t u class (ToCount c) (spots.Count k s) make h = refl
notice_parts f t u class _ _ make h = absurd h

-- a notice is filed
notice_files : (f : Final) (t u : Site) (x : Place) (s : Spot) (to time : Address) (class h : ℕ) → IsSpot f t x s → IsSiteTarget f u (landing u x) to → HasTargetRoom f (landing u x) → IsInFrame (length u.scope.locals + h) time → height u ≤ f.depth → IsRunBy f (place (notice_site u x) (i.FileNotice class (notice_from u x) (Taken h))) (r.FileNotice class (named_at s to) time)
notice_files f t u (ToVariable x) (spots.Variable s) to time class h v at room there deep = record { carries = (Held x, v.at, (Taken h, there, refl)); deep = deep; shown = tt }
notice_files f t u (ToAttribute c field e) (spots.Attribute s) to time class h v at room there deep = record { carries = (Taken (height u), at, (Taken h, there, refl)); deep = room; shown = tt }
notice_files f t u (ToCount c) (spots.Count k s) to time class h v at room there deep = record { carries = (Taken (height u), at, (Taken h, there, refl)); deep = room; shown = tt }
notice_files f t u _ _ to time class h v at room there deep = absurd v

pub schedule_new_made : {old g1 g2 g3 new : Generator} {p q v w z y end : Lined} {here one higher : Here} (class : ℕ) (x : Place) (given : List Expression) (when : When) (s : Spot) {time : Address} (to : Address) {cell : ℕ} {noted : Bool} → MakesSpot old g1 p q here (λ t. place_code t x) x s → one.line ≡ here.line → (here.height + spot_cells s < 2 ^ 64 → one.height ≡ here.height + spot_cells s) → HasEmitted g1 g2 q v one (λ k. Every (λ e. IsTyped e k) given × IsTypedWhen k when) (λ t. values_code t given ++ when_code (after_values t given) when) → (g2.deepest < 2 ^ 64 → one.height + length given < g2.deepest) → HasGrown g2 g3 → IsInFrame (length g3.locals.items + one.height) time → higher.line ≡ one.line → (one.height + 1 < 2 ^ 64 → higher.height ≡ one.height + 1) → HasGrown g3 new → Lands new higher s to → w ≡ v ++ on_line here.line (r.MakeNotice class cell (length given) to noted) ∷ [] → cell ≡ length new.locals.items + one.height → noted ≡ any_watched new.program.now.statistics.items class (length given) → HasNamed new w z higher to (λ f t k. IsSpot f t k s) → y ≡ z ++ on_line here.line (r.FileNotice class (named_at s to) time) ∷ [] → HasEmitted new new y end one (λ k. Unit {0}) (λ u. forget u (spot_cells s)) → HasEmitted old new p end here (λ k. IsTypedStatement k (ScheduleNew here.line class x given when)) (λ t. schedule_new_code t class x given when)
schedule_new_made {g2 = g2} class x given when s to l line up n room gc timed line_2 up_2 gr land made is_cell is_noted names filed k =
    emits (grows_then l.grows (grows_then n.grows (grows_then gc gr))) (λ f t u around located good.
    let later = grows_then gc gr in
    let l' = makes_later (grows_then n.grows later) l in
    let depth = (around_old later around).depth in
    let spot = l'.more f t tt around located (Integer, good.1) in
    let t1 : Site = after_place t x in
    let t2 : Site = after_values t1 given in
    let t3 : Site = above t2 Integer in
    let top : Site = above t1 Integer in
    let on = spot_stands x s around located spot line up in
    let values = (makes_later later n).adds f t1 tt around on (given_typed t.scope class given good.0, good.2) in
    let within : g2.deepest < 2 ^ 64 = omega (arith, depth, around.small) in
    let low : height t1 + length given < f.depth = omega (arith, on.high, room within, depth) in
    let high : height top ≡ height t1 + 1 = omega arith in
    let higher = stands_above 1 around.small on line_2 up_2 refl refl high (omega (arith, high, low)) in
    let at = land f t top x around higher refl spot in
    let long : height t2 ≡ length given + height t1 = values_high t1.scope given t1.cells in
    let deep : height t3 ≤ f.depth = omega (arith, long, low) in
    let notes = notes_given class (length given) around on is_noted in
    let make : Target → Placed = λ (j : Target). place t3 (i.MakeNotice class (height t1) (length given) j) in
    let named = names.adds f top (record { resolved = t; place = x; mode = Integer }) around higher (spot, refl, at.0, at.1, holds_mode x Integer around located good.1) in
    let files = notice_files f t top x s to _ class (height t1) spot at.0 at.1 (cell_at_site (stands_old gr on) timed) higher.deep in
    let rest : List Placed = (make (landing top x) ∷ []) ++ (named_code t top x ++ (place (notice_site top x) (i.FileNotice class (notice_from top x) (Taken (height t1))) ∷ forget t1 (spot_cells s))) in
    adds_same (ap (λ (c : List Placed). place_code t x ++ c) (append_assoc (values_code t1 given) (when_code t2 when) rest ∙ ap (λ (c : List Placed). values_code t1 given ++ (when_code t2 when ++ c)) (notice_parts f t top class x s make spot)))
    (adds_then (l'.adds f t tt around located (Integer, good.1)) (adds_then values
    (adds_then (adds_one made located.line (record { carries = (notes, (height t1, number_at on is_cell, (landing top x, at.0, refl))); deep = deep; shown = tt }))
    (adds_then named (adds_then (adds_one filed (notice_line top x ∙ located.line) files) (k.adds f t1 tt around on tt)))))))

-- ## SCHEDULE THE

pub schedule_made : {old g1 new : Generator} {p q v w z : Lined} {here one : Here} (class : ℕ) {e : Expression} {o : Read} (given : List Expression) (when : When) {cell : ℕ} {noted : Bool} → HasReadOperand old g1 p q here e o → v ≡ q ++ on_line here.line (r.LookEntity class o.address) ∷ [] → one.line ≡ here.line → (here.height + o.cells < 2 ^ 64 → one.height ≡ here.height + o.cells) → HasEmitted g1 new v w one (λ k. Every (λ e. IsTyped e k) given × IsTypedWhen k when) (λ t. values_code t given ++ when_code (after_values t given) when) → (new.deepest < 2 ^ 64 → one.height + length given < new.deepest) → cell ≡ length new.locals.items + one.height → noted ≡ any_watched new.program.now.statistics.items class (length given) → z ≡ w ++ on_line here.line (r.Reschedule class o.address cell (length given) noted) ∷ [] → HasEmitted old new p z here (λ k. IsTypedStatement k (Schedule here.line class e given when)) (λ t. schedule_code t class e given when)
schedule_made {new = new} class {e} {o} given when m look line up n room is_cell is_noted made =
    emits (grows_then m.grows n.grows) (λ f t u around located good.
    let m' = makes_later n.grows m in
    let read = m'.more f t tt around located (Integer, good.1) in
    let t1 : Site = after t e in
    let t2 : Site = after_values t1 given in
    let on = read_stands around located read line up in
    let within : new.deepest < 2 ^ 64 = omega (arith, around.depth, around.small) in
    let low : height t1 + length given < f.depth = omega (arith, on.high, room within, around.depth) in
    let long : height t2 ≡ length given + height t1 = values_high t1.scope given t1.cells in
    let deep : height (above t2 Integer) ≤ f.depth = omega (arith, long, low) in
    let notes = notes_given class (length given) around on is_noted in
    let last : Placed = place (above t2 Integer) (i.Reschedule class (operand t e) (height t1) (length given)) in
    adds_same (ap (λ (c : List Placed). entity_code t true class e ++ c) (append_assoc (values_code t1 given) (when_code t2 when) (last ∷ [])))
    (adds_then (adds_then (m'.adds f t tt around located (Integer, good.1))
    (adds_one look located.line (record { carries = (stay (operand t e), stays_at f t (operand t e) o.address read.at, refl); deep = read.deep; shown = tt })))
    (adds_then (n.adds f t1 tt around on (given_typed t.scope class given good.0, good.2))
    (adds_one made located.line (record { carries = (notes, (operand t e, read.at, (height t1, number_at on is_cell, refl))); deep = deep; shown = tt })))))

-- ## RESET

restart_numbers : (s : TypedScope) (k : ℕ) (e : Option Expression) → IsTypedRestart s k e → AreNumbers e s
restart_numbers s k None h = tt
restart_numbers s k (Some e) h = h.1

pub restarted : {old new : Generator} {p q v : Lined} {here : Here} (x : Restart) {o : Read} → HasBorne old new p q here x.of o → v ≡ q ++ on_line here.line (r.Reset x.statistic o.address) ∷ [] → HasEmitted old new p v here (λ s. IsTypedRestart s x.statistic x.of) (λ t. restarts_code t (x ∷ []))
restarted x m is =
    emits m.grows (λ f t u around located good.
    let numbers = restart_numbers t.scope x.statistic x.of good in
    let read = m.more f t tt around located numbers in
    let last : Placed = place (after_bearer t x.of) (i.Reset x.statistic (bearer t x.of)) in
    adds_same (sym (append-nil (bearer_code t x.of ++ last ∷ [])))
    (adds_then (m.adds f t tt around located numbers) (adds_one is located.line (record { carries = (bearer t x.of, read.at, refl); deep = read.deep; shown = tt }))))
