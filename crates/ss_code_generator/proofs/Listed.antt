-- Code of a list of things, with one of them more.
use Rattle.std.proofs.Common.{◌≡◌, ℕ, ◌+◌, ◌-◌, ◌<◌, ◌≤◌, List, [], ◌∷◌, ◌++◌, length, drop, get_or, refl, ap, sym, ◌∙◌, arith, append_assoc, append-nil}
use Rattle.ss_code_generator.proofs.Common.{after_bearer, bearer, bearer_code, CountedClass, creates_code, drop_more, Generator, HasEmitted, InputTarget, Lined, on_line, place, reads_code, Restart, restarts_code, Site, to_place_code, TypedScope}
use Rattle.std.specs.List.{AllByRecursion as Every}
use Rattle.ss_code_instructions.specs.Instructions.{Placed, Read, CreateAll, Reset}
use Rattle.ss_code_instructions.specs.declared.instruction.Instruction.TheVariants.{CreateAll as CreatesAll}
use Rattle.ss_code_generator.specs.declared.generator.Site.{Site as Here}
use Rattle.ss_code_generator.proofs.Emitting.{grows_then, makes_later, adds_then, adds_one, adds_same, emits}

-- what is so of all things, with one of them more
pub every_split : {A : Type 0} (P : A → Type 0) (xs : List A) (x : A) → Every P (xs ++ x ∷ []) → Every P xs × P x
every_split P [] x h = (tt, h.0)
every_split P (y ∷ xs) x h = let k = every_split P xs x h.1 in ((h.0, k.0), k.1)

-- code of things that all find the same cells: each thing's own, one after the other
pub listed_more : {A : Type 0} (P : A → TypedScope → Type 0) (own : Site → A → List Placed) (all : Site → List A → List Placed) → ((t : Site) (xs : List A) (x : A) → all t (xs ++ x ∷ []) ≡ all t xs ++ own t x) → {old mid new : Generator} {p q r : Lined} {here : Here} (xs : List A) (x : A) → HasEmitted old mid p q here (λ s. Every (λ y. P y s) xs) (λ t. all t xs) → HasEmitted mid new q r here (P x) (λ t. own t x) → HasEmitted old new p r here (λ s. Every (λ y. P y s) (xs ++ x ∷ [])) (λ t. all t (xs ++ x ∷ []))
listed_more {A} P own all joined xs x m n =
    emits (grows_then m.grows n.grows) (λ f t u around located good.
    let both = every_split (λ (y : A). P y t.scope) xs x good in
    adds_same (sym (joined t xs x)) (adds_then ((makes_later n.grows m).adds f t tt around located both.0) (n.adds f t tt around located both.1)))

-- such lists: the code of the first, and that of the rest
rows_more : {A : Type 0} (one : A → List Placed) (all : List A → List Placed) → all [] ≡ [] → ((x : A) (xs : List A) → all (x ∷ xs) ≡ one x ++ all xs) → (xs : List A) (x : A) → all (xs ++ x ∷ []) ≡ all xs ++ one x
rows_more one all none first [] x = first x [] ∙ ap (λ (c : List Placed). one x ++ c) none ∙ append-nil (one x) ∙ sym (ap (λ (c : List Placed). c ++ one x) none)
rows_more one all none first (y ∷ xs) x =
    first y (xs ++ x ∷ []) ∙ ap (λ (c : List Placed). one y ++ c) (rows_more one all none first xs x) ∙ sym (append_assoc (one y) (all xs) (one x)) ∙ sym (ap (λ (c : List Placed). c ++ one x) (first y xs))

pub reads_more : (t : Site) (xs : List InputTarget) (x : InputTarget) → reads_code t (xs ++ x ∷ []) ≡ reads_code t xs ++ to_place_code t x.place x.mode (λ u to. place u (Read x.mode to) ∷ [])
reads_more t xs x = rows_more (λ (x : InputTarget). to_place_code t x.place x.mode (λ u to. place u (Read x.mode to) ∷ [])) (reads_code t) refl (λ x xs. refl) xs x

pub creates_more : (t : Site) (xs : List CountedClass) (x : CountedClass) → creates_code t (xs ++ x ∷ []) ≡ creates_code t xs ++ place t (CreateAll x) ∷ []
creates_more t xs x = rows_more (λ (x : CountedClass). place t (CreateAll x) ∷ []) (creates_code t) refl (λ x xs. refl) xs x

pub restarts_more : (t : Site) (xs : List Restart) (x : Restart) → restarts_code t (xs ++ x ∷ []) ≡ restarts_code t xs ++ restarts_code t (x ∷ [])
restarts_more t xs x =
    rows_more (λ (x : Restart). restarts_code t (x ∷ [])) (restarts_code t) refl (λ x xs.
    ap (λ (c : List Placed). c ++ restarts_code t xs) (sym (append-nil (bearer_code t x.of ++ place (after_bearer t x.of) (Reset x.statistic (bearer t x.of)) ∷ [])))) xs x

-- an instruction for each class
pub creates_step : {g : Generator} {p q v : Lined} {here : Here} (xs : List CountedClass) (x : CountedClass) → HasEmitted g g p q here (λ s. Unit {0}) (λ t. creates_code t xs) → v ≡ q ++ on_line here.line (CreatesAll x.class x.variable) ∷ [] → HasEmitted g g p v here (λ s. Unit {0}) (λ t. creates_code t (xs ++ x ∷ []))
creates_step xs x m is =
    emits m.grows (λ f t u around located good.
    adds_same (sym (creates_more t xs x)) (adds_then (m.adds f t tt around located tt) (adds_one is located.line (record { carries = refl; deep = located.deep; shown = tt }))))

-- ## The next item of a loop

-- the item before a place, of a loop that goes back
pub next_before : {A : Type 0} (xs : List A) (i : ℕ) (x : A) → 0 < i → i ≤ length xs → x ≡ get_or xs (i - 1) x → drop (i - 1) xs ≡ x ∷ drop i xs
next_before {A} xs i x some within is =
    let low : i - 1 < length xs = omega arith in
    let up : i - 1 + 1 ≡ i = omega arith in
    drop_more xs (i - 1) x low ∙ ap (λ (y : A). y ∷ drop (i - 1 + 1) xs) (sym is) ∙ ap (λ (k : ℕ). x ∷ drop k xs) up
