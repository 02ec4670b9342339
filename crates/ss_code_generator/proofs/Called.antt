-- CALL, and statements of one operand.
use Rattle.std.proofs.Common.{◌≡◌, ℕ, zero, suc, ◌+◌, ◌-◌, ◌<◌, ◌≤◌, ◌^◌, List, [], ◌∷◌, ◌++◌, length, drop, Some, refl, sym, ap, ◌∙◌, arith, append_assoc, append-nil, length-drop}
use Rattle.ss_code_generator.proofs.Common.{Expression, Final, Generator, HasEmitted, HasGenerated, HasNoMore, HasPrintModes, HasReadOperand, Integer, IsAround, IsTyped, IsTypedPlace, Line, Lined, Mode, on_line, Operand, Place, Placed, slice_get, values_high}
use Rattle.std.specs.List.{AllZip, AllByRecursion as Every}
use Rattle.ss_code_instructions.specs.Carried.{IsCarriedOut, HasOperand, Is, RunningLines}
use Rattle.ss_code_instructions.specs.Machine.{Code}
use Rattle.ss_base.specs.declared.value.Value.{Value}
use Rattle.ss_code_instructions.specs.Translation.{after, after_values, code_of, height, operand, place, Site, values_code, with_operand, with_results, give_code, gives_code}
use Rattle.ss_program.specs.WellTyped.{CanTakeMode, HasMode, IsTypedStatement, TypedScope}
use Rattle.ss_program.specs.Program as p
use Rattle.ss_code_instructions.specs.declared.instruction.Instruction.{Instruction as Running}
use Rattle.ss_code_instructions.specs.declared.instruction.Instruction.TheVariants as r
use Rattle.ss_code_instructions.specs.Instructions as i
use Rattle.ss_meaning.proofs.Lists.{every_get}
use Rattle.ss_code_generator.specs.declared.expressions.Operand.{Operand as Read}
use Rattle.ss_code_generator.specs.declared.generator.Site.{Site as Here}
use Rattle.ss_code_generator.proofs.Emitting.{around_old, grows_same, grows_then, stands_old, stands_above, adds_then, adds_one, adds_same, emits}
use Rattle.ss_code_generator.proofs.Operands.{number_at, one_read}

-- ## What is yielded

-- the code of the first so many
abbrev pub gives_front : Site → (count : ℕ) → List Place → List Placed
gives_front t zero ps = []
gives_front t (suc n) [] = []
gives_front t (suc n) (p ∷ ps) = give_code (with_results t ps) p ++ gives_front t n ps

front_all : (t : Site) (ps : List Place) → gives_front t (length ps) ps ≡ gives_code t ps
front_all t [] = refl
front_all t (p ∷ ps) = ap (λ (c : List Placed). give_code (with_results t ps) p ++ c) (front_all t ps)

front_more : (t : Site) (ps : List Place) (k : ℕ) (p : Place) → slice_get ps k ≡ Some p → gives_front t (suc k) ps ≡ gives_front t k ps ++ give_code (with_results t (drop (suc k) ps)) p
front_more t [] k p e = absurd (none e)
  where
    none : slice_get [] k ≡ Some p → ⊥
    none q = cc
front_more t (q ∷ ps) zero p e =
    let same : q ≡ p = cc in
    append-nil (give_code (with_results t ps) q) ∙ ap (give_code (with_results t ps)) same
front_more t (q ∷ ps) (suc k) p e =
    ap (λ (c : List Placed). give_code (with_results t ps) q ++ c) (front_more t ps k p e)
    ∙ sym (append_assoc (give_code (with_results t ps) q) (gives_front t k ps) (give_code (with_results t (drop (suc k) ps)) p))

results_high : (t : Site) (ps : List Place) → height (with_results t ps) ≡ height t + length ps
results_high t [] = omega arith
results_high t (p ∷ ps) = omega (arith, results_high t ps)

abbrev pub GoodPlaces : List Place → TypedScope → Type 0
GoodPlaces ps s = Every (λ (p : Place). IsTypedPlace p s) ps

-- one place more, where the frame has room for all
pub gives_more : {g0 g1 g2 : Generator} {x y z : Lined} {here lower : Here} (ps : List Place) (k : ℕ) {count : ℕ} {p : Place} → slice_get ps k ≡ Some p → count ≡ length ps → k < count → lower.line ≡ here.line → (here.height + (count - 1 - k) < 2 ^ 64 → lower.height ≡ here.height + (count - 1 - k)) → ((f : Final) → IsAround f g1 → here.height + count ≤ f.depth) → HasEmitted g0 g1 x y here (GoodPlaces ps) (λ t. gives_front t k ps) → HasEmitted g1 g2 y z lower (IsTypedPlace p) (λ t. give_code t p) → HasEmitted g0 g2 x z here (GoodPlaces ps) (λ t. gives_front t (k + 1) ps)
gives_more {g1 = g1} ps k {count} {p} is all below line up room m n =
    emits (grows_then m.grows n.grows) (λ f t u around located good.
    let mine = around_old n.grows around in
    let v : Site = with_results t (drop (suc k) ps) in
    let tall : height v ≡ height t + (count - 1 - k) = omega (arith, results_high t (drop (suc k) ps), length-drop (suc k) ps, all, below) in
    let deep : height v ≤ f.depth = omega (arith, tall, located.high, room f mine, below) in
    let there = stands_above (count - 1 - k) around.small located line up refl refl tall deep in
    let next : suc k ≡ k + 1 = omega arith in
    adds_same (sym (front_more t ps k p is) ∙ ap (λ n. gives_front t n ps) next)
    (adds_then (m.adds f t tt mine (stands_old n.grows located) good) (n.adds f v tt around there (every_get (λ (p : Place). IsTypedPlace p t.scope) ps k p good is))))

pub gives_all : {g0 g1 : Generator} {x y : Lined} {here : Here} (ps : List Place) {n : ℕ} → n ≡ length ps → HasEmitted g0 g1 x y here (GoodPlaces ps) (λ t. gives_front t n ps) → HasEmitted g0 g1 x y here (GoodPlaces ps) (λ t. gives_code t ps)
gives_all ps e m = emits m.grows (λ f t u around located good. adds_same (ap (λ k. gives_front t k ps) e ∙ front_all t ps) (m.adds f t tt around located good))

-- ## CALL

-- things that fit modes, one by one, have a mode each
pub each_fits : {A : Type 0} (P : A → Mode → Type 0) (xs : List A) (ms : List Mode) → AllZip P xs ms → Every (λ (x : A). (m : Mode) × P x m) xs
each_fits P [] [] h = tt
each_fits P (x ∷ xs) (m ∷ ms) h = ((m, h.0), each_fits P xs ms h.1)
each_fits P _ _ h = absurd h

pub called : {g0 g1 g2 : Generator} {x y z w : Lined} {here : Here} (l : Line) (routine : ℕ) {cell : ℕ} (es : List Expression) (ps : List Place) → HasEmitted g0 g1 x y here (λ s. Every (λ (e : Expression). IsTyped e s) es) (λ t. values_code t es) → here.height + length es ≤ g1.deepest → cell ≡ length g1.locals.items + here.height → z ≡ y ++ on_line here.line (r.Call routine cell) ∷ [] → HasEmitted g1 g2 z w here (GoodPlaces ps) (λ t. gives_code t ps) → HasEmitted g0 g2 x w here (λ s. IsTypedStatement s (p.Call l routine es ps)) (λ t. values_code t es ++ place (after_values t es) (i.Call routine (height t)) ∷ gives_code t ps)
called l routine es ps m room at is n =
    emits (grows_then m.grows n.grows) (λ f t u around located good.
    let mine = around_old n.grows around in
    let there = stands_old n.grows located in
    let good' : IsTypedStatement t.scope (p.Call l routine es ps) = good in
    let v : Site = after_values t es in
    let long : height v ≡ length es + height t = values_high t.scope es t.cells in
    let deep : height v ≤ f.depth = omega (arith, long, located.high, room, mine.depth) in
    adds_then (m.adds f t tt mine there (each_fits (HasMode t.scope) es good'.0.given good'.2))
    (adds_then (adds_one is located.line (record { carries = (height t, number_at there at, refl); deep = deep; shown = tt }))
    (n.adds f t tt around located (each_fits (CanTakeMode t.scope) ps good'.0.yielding good'.3))))

-- ## One operand

-- an operand, and an instruction of its address alone
pub of_one : {g0 g1 : Generator} {x y z : Lined} {here : Here} {e : Expression} {o : Read} {Fit : Final → Site → Unit {0} → Type 0} (make : Operand → i.Instruction) (run : Running) → HasReadOperand g0 g1 x y here e o → z ≡ y ++ on_line here.line run ∷ [] → ((f : Final) (t : Site) (u : Unit {0}) → Fit f t u → HasMode t.scope e Integer) → ((code : Code) (constants : List Value) (x : Placed) → HasOperand code constants x o.address (λ y. Is code constants x (make y)) → IsCarriedOut code constants x run) → ((prints : List RunningLines) (cells : List Mode) (y : Operand) → HasPrintModes prints cells (make y)) → HasGenerated g0 g1 x z here Fit (λ t u. with_operand t e make) HasNoMore
of_one {e = e} make run m is fits carries shown =
    one_read (λ t u. make) run grows_same m is (λ f t u good. (Integer, fits f t u good)) (λ f t u around located good read.
    (carries (code_of f.program) f.constants (place (after t e) (make (operand t e))) (operand t e, read.at, refl), shown f.prints (after t e).cells (operand t e))) (λ f t u read. tt)
