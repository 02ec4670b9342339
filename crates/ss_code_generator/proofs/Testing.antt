-- What the generator emits for conditions.
use Rattle.std.proofs.Common.{◌≡◌, ℕ, ◌+◌, ◌<◌, ◌^◌, Bool, List, [], ◌∷◌, ◌++◌, length, Option, Some, refl, sym, ap, ◌∙◌, subst, arith, append_assoc, length-append}
use Rattle.ss_code_generator.proofs.Common.{AreNumbers, comparing, expression_of, Final, Generator, HasAdded, HasBorne, HasEmitted, HasEmittedAround, HasGenerated, HasMode, HasNoMore, HasReadOperand, Instruction, IsAround, IsLocated, IsTyped, IsTypedCondition, IsTypedOwner, IsTypedPhrase, IsTypedTest, Lined, Mode, no_code, on_line, Placed, Relation, TypedScope}
use Rattle.ss_code_instructions.specs.Translation.{after, after_bearer, bearer, bearer_code, code_of, condition_code, guards_code, operand, operand_code, phrases_code, place, Site, test_code, tests_code, negated_code, guard_code, phrase_code}
use Rattle.ss_program.specs.Program.{Entity, Expression, Guard, Phrase, SetOwner, TheSystem, Test, Compare, Empty, Condition}
use Rattle.std.specs.List.{AllByRecursion as Every}
use Rattle.ss_code_instructions.specs.declared.instruction.Instruction.TheVariants as r
use Rattle.ss_code_instructions.specs.Instructions as i
use Rattle.ss_code_generator.specs.declared.expressions.Operand.{Operand as Read}
use Rattle.ss_code_generator.specs.declared.generator.Site.{Site as Here}
use Rattle.ss_code_generator.proofs.Emitting.{around_old, grows_then, stands_old, adds_then, adds_one, adds_apart, adds_same, piece_long, makes_later, emits}
use Rattle.ss_code_generator.proofs.Forms as forms
use Rattle.ss_code_generator.proofs.Modes.{operand_mode, mode_after}
use Rattle.ss_code_generator.proofs.Operands.{read_stands}

-- the owner of a set is a number
pub owner_number : (s : TypedScope) (set : ℕ) (o : SetOwner) → IsTypedOwner s set o → AreNumbers (expression_of o) s
owner_number s set TheSystem h = tt
owner_number s set (Entity e) h = h.1

-- ## Tests

-- two values are compared
pub compared : {old mid new : Generator} {p q s v : Lined} {here higher : Here} (skip : ℕ) (relation : Relation) {a b : Expression} {left right : Read} {m : Mode} → HasReadOperand old mid p q here a left → higher.line ≡ here.line → (here.height + left.cells < 2 ^ 64 → higher.height ≡ here.height + left.cells) → HasReadOperand mid new q s higher b right → ((f : Final) (t : Site) (n : Mode) → IsAround f new → IsLocated f new here t → HasMode t.scope a n → n ≡ m) → v ≡ s ++ on_line here.line (comparing m relation left.address right.address skip) ∷ [] → HasEmitted old new p v here (λ k. IsTypedTest k (Compare relation a b)) (λ t. test_code t skip (Compare relation a b))
compared skip relation {a} {b} {left} {right} {m} ra line above rb mode is =
    emits (grows_then ra.grows rb.grows) (λ f t u around located good.
    let t1 : Site = after t a in
    let t2 : Site = after t1 b in
    let a_there = makes_later rb.grows ra in
    let read_a = a_there.more f t tt around located (good.0, good.1) in
    let above_a = read_stands around located read_a line above in
    let read_b = rb.more f t1 tt around above_a (good.0, good.2) in
    let ins : Instruction = i.Unless relation (operand t a) (operand t1 b) skip in
    let same = mode f t good.0 around located good.1 in
    let mode_a = mode_after f t1 b (operand t a) good.0 ins ins (operand_mode f t a good.0 ins located.program good.1) ∙ ap Some same in
    let mode_b = operand_mode f t1 b good.0 ins located.program good.2 ∙ ap Some same in
    let c = forms.compares (code_of f.program) f.constants (place t2 ins) m relation left.address right.address skip (operand t a, read_a.at, (operand t1 b, read_b.at, (mode_a, mode_b, refl))) in
    adds_then (a_there.adds f t tt around located (good.0, good.1))
    (adds_then (rb.adds f t1 tt around above_a (good.0, good.2)) (adds_one is located.line (record { carries = c; deep = read_b.deep; shown = tt }))))

-- whether a set has no member
pub emptiness_tested : {old new : Generator} {p q v : Lined} {here : Here} (skip : ℕ) (negated : Bool) (set : ℕ) (o : SetOwner) {owner : Read} → HasBorne old new p q here (expression_of o) owner → v ≡ q ++ on_line here.line (r.UnlessEmpty set owner.address skip negated) ∷ [] → HasEmitted old new p v here (λ k. IsTypedTest k (Empty negated set o)) (λ t. test_code t skip (Empty negated set o))
emptiness_tested skip negated set o m is =
    emits m.grows (λ f t u around located good.
    let number = owner_number t.scope set o good in
    let read = m.more f t tt around located number in
    adds_then (m.adds f t tt around located number) (adds_one is located.line (record { carries = (bearer t (expression_of o), read.at, refl); deep = read.deep; shown = tt })))

-- ## Pieces that are made from the end

-- A piece comes before another one, by whose length it may go. The first is made last
pub before_made : {I : Type 0} {old mid new : Generator} {front back whole : Lined} {here : Here} {Front : Final → Site → Unit {0} → Type 0} {Back Fit : Final → Site → I → Type 0} {c : Site → Unit {0} → List Placed} {d e : Site → I → List Placed} → HasGenerated old mid no_code back here Back d HasNoMore → HasGenerated mid new no_code front here Front c HasNoMore → whole ≡ front ++ back → ((f : Final) (t : Site) (x : I) → Fit f t x → Front f t tt × Back f t x) → ((t : Site) (x : I) → length back ≡ length (d t x) → c t tt ++ d t x ≡ e t x) → HasGenerated old new no_code whole here Fit e HasNoMore
before_made m n is fits same =
    emits (grows_then m.grows n.grows) (λ f t x around located good.
    let both = fits f t x good in
    let h = (makes_later n.grows m).adds f t x around located both.1 in
    adds_same (same t x (piece_long h)) (adds_apart is (n.adds f t tt around located both.0) h))

-- what was made, for another code that is the same at each site at which the generator may be, where other things fit
pub emits_where : {I : Type 0} {old new : Generator} {p q : Lined} {here : Here} {Fit Other : Final → Site → I → Type 0} {c d : Site → I → List Placed} → ((f : Final) (t : Site) (x : I) → Other f t x → Fit f t x) → ((f : Final) (t : Site) (x : I) → IsAround f new → IsLocated f new here t → c t x ≡ d t x) → HasGenerated old new p q here Fit c HasNoMore → HasGenerated old new p q here Other d HasNoMore
emits_where fits same m = emits m.grows (λ f t x around located other. adds_same (same f t x around located) (m.adds f t x around located (fits f t x other)))

-- ## One thing more, before those that follow

pub tests_step : {old mid new : Generator} {rest front whole : Lined} {here : Here} (skip : ℕ) {past : ℕ} (x : Test) (xs : List Test) → HasEmitted old mid no_code rest here (λ s. Every (IsTypedTest s) xs) (λ t. tests_code t skip xs) → HasEmitted mid new no_code front here (λ s. IsTypedTest s x) (λ t. test_code t past x) → past ≡ length rest + skip → whole ≡ front ++ rest → HasEmitted old new no_code whole here (λ s. Every (IsTypedTest s) (x ∷ xs)) (λ t. tests_code t skip (x ∷ xs))
tests_step skip x xs m n long is = before_made m n is (λ f t u good. good) (λ t u same. ap (λ k. test_code t k x ++ tests_code t skip xs) (long ∙ ap (λ k. k + skip) same))

-- a piece, and a jump after it
pub then_jumps : {old new : Generator} {front both : Lined} {here : Here} {Fit : Final → Site → Unit {0} → Type 0} {c : Site → Unit {0} → List Placed} (skip : ℕ) → HasGenerated old new no_code front here Fit c HasNoMore → both ≡ front ++ on_line here.line (r.Jump skip) ∷ [] → HasGenerated old new no_code both here Fit (λ t u. c t u ++ place t (i.Jump skip) ∷ []) HasNoMore
then_jumps skip m is = emits m.grows (λ f t u around located good. adds_then (m.adds f t u around located good) (adds_one is located.line (record { carries = refl; deep = located.deep; shown = tt })))

pub alternatives_step : {old mid new : Generator} {rest front both whole : Lined} {here : Here} (skip : ℕ) {past : ℕ} (xs ys : List Test) (others : List (List Test)) → HasEmitted old mid no_code rest here (λ s. IsTypedCondition s (ys ∷ others)) (λ t. condition_code t skip (ys ∷ others)) → HasEmitted mid new no_code front here (λ s. Every (IsTypedTest s) xs) (λ t. tests_code t 1 xs) → past ≡ length rest → both ≡ front ++ on_line here.line (r.Jump past) ∷ [] → whole ≡ both ++ rest → HasEmitted old new no_code whole here (λ s. IsTypedCondition s (xs ∷ (ys ∷ others))) (λ t. condition_code t skip (xs ∷ (ys ∷ others)))
alternatives_step skip {past} xs ys others m n long both_is is =
    before_made m (then_jumps past n both_is) is (λ f t u good. (good.0, good.1)) (λ t u same.
    let code : List Placed = condition_code t skip (ys ∷ others) in
    append_assoc (tests_code t 1 xs) _ code ∙ ap (λ k. tests_code t 1 xs ++ (place t (i.Jump k) ∷ code)) (long ∙ same))

pub guards_step : {old mid new : Generator} {rest front whole inner : Lined} {here : Here} (more : ℕ) {past : ℕ} (g : Guard) (gs : List Guard) → HasEmittedAround old mid no_code rest here inner (λ s. Every (λ g. IsTypedCondition s g.condition) gs) (λ t b. guards_code t (length b + more) gs ++ b) → HasEmitted mid new no_code front here (λ s. IsTypedCondition s g.condition) (λ t. guard_code t past g.kind g.condition) → past ≡ length rest + more → whole ≡ front ++ rest → HasEmittedAround old new no_code whole here inner (λ s. Every (λ g. IsTypedCondition s g.condition) (g ∷ gs)) (λ t b. guards_code t (length b + more) (g ∷ gs) ++ b)
guards_step more {past} g gs m n long is =
    before_made m n is (λ f t b fits. (fits.1.0, (fits.0, fits.1.1))) (λ t b same.
    let others : List Placed = guards_code t (length b + more) gs in
    let there : past ≡ length others + (length b + more) = omega (arith, long, same, length-append others b) in
    ap (λ k. guard_code t k g.kind g.condition ++ (others ++ b)) there ∙ sym (append_assoc (guard_code t (length others + (length b + more)) g.kind g.condition) others b))

pub phrases_step : {old mid new : Generator} {rest front whole inner : Lined} {here : Here} {past : ℕ} (x : Phrase) (xs : List Phrase) → HasEmittedAround old mid no_code rest here inner (λ s. Every (IsTypedPhrase s) xs) (λ t b. phrases_code t xs b) → HasEmitted mid new no_code front here (λ s. IsTypedCondition s x.condition) (λ t. phrase_code t past x.kind x.condition) → past ≡ length rest → whole ≡ front ++ rest → HasEmittedAround old new no_code whole here inner (λ s. Every (IsTypedPhrase s) (x ∷ xs)) (λ t b. phrases_code t (x ∷ xs) b)
phrases_step x xs m n long is = before_made m n is (λ f t b fits. (fits.1.0, (fits.0, fits.1.1))) (λ t b same. ap (λ k. phrase_code t k x.kind x.condition ++ phrases_code t xs b) (long ∙ same))
