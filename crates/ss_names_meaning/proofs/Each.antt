-- Steps for each item of a list.
use Rattle.std.proofs.Common.{◌≡◌, ℕ, zero, suc, ◌+◌, ◌<◌, List, [], ◌∷◌, ◌++◌, length, get_or, take, map, Option, Some, None, refl, sym, ap, subst, ◌∙◌, arith}
use Rattle.std.proofs.lemmas.List.{get_or-map, length-map, map-append, take_more}
use Rattle.ss_names_meaning.specs.declared.error.ResolveError.{ResolveError}
use Rattle.ss_names_meaning.specs.declared.error.ResolveError.TheVariants.{Memory, Unresolved}
use Rattle.ss_names_meaning.specs.Answers.{◌>>=◌, each, HasFailed}

-- one more item in front
abbrev pub cons_of : {B : Type 0} → Option B → Option (List B) → Option (List B)
cons_of r q = r >>= λ y. q >>= λ ys. Some (y ∷ ys)

cons_more : {B : Type 0} (r : Option B) (q p : Option (List B)) (bs : List B) (b : B) →
    cons_of r q ≡ Some bs → ((ys : List B) → q ≡ Some ys → p ≡ Some (ys ++ b ∷ [])) → cons_of r p ≡ Some (bs ++ b ∷ [])
cons_more None q p bs b e h = absurd cc
cons_more (Some y) None p bs b e h = absurd cc
cons_more (Some y) (Some ys) p bs b e h =
    let k : p ≡ Some (ys ++ b ∷ []) = h ys refl in
    let made : bs ≡ y ∷ ys = cc in
    rw (k, made) refl

pub each_more : {A B : Type 0} (step : A → Option B) (ts : List A) (a : A) (bs : List B) (b : B) →
    each step ts ≡ Some bs → step a ≡ Some b → each step (ts ++ a ∷ []) ≡ Some (bs ++ b ∷ [])
unfolding each
each_more step [] a bs b e h =
    let none : bs ≡ [] = cc in
    rw (none, h) refl
each_more step (x ∷ xs) a bs b e h = cons_more (step x) (each step xs) (each step (xs ++ a ∷ [])) bs b e (λ ys k. each_more step xs a ys b k h)

pub cons_none : {B : Type 0} (r : Option B) → cons_of r None ≡ None
cons_none None = refl
cons_none (Some y) = refl

-- a call gave a value for an item
pub each_next : {X A B Y : Type 0} (step : A → Option B) (v : X → A) (view : Y → B) (xs : List X) (i : ℕ) (x : X) (old new : List Y) (y : Y) →
    i < length xs → x ≡ get_or xs i x → new ≡ old ++ y ∷ [] →
    each step (map v (take i xs)) ≡ Some (map view old) → step (v x) ≡ Some (view y) → each step (map v (take (i + 1) xs)) ≡ Some (map view new)
each_next step v view xs i x old new y lt is e h g =
    let taken : map v (take (i + 1) xs) ≡ map v (take i xs) ++ v x ∷ [] =
    ap (map v) (take_more xs i x lt) ∙ map-append v (take i xs) (get_or xs i x ∷ []) ∙ ap (λ z. map v (take i xs) ++ v z ∷ []) (sym is) in
    let made : map view new ≡ map view old ++ view y ∷ [] = ap (map view) e ∙ map-append view old (y ∷ []) in
    rw (taken, made) (each_more step (map v (take i xs)) (v x) (map view old) (view y) h g)

pub no_items : {A B Y : Type 0} (step : A → Option B) (view : Y → B) (ys : List Y) → ys ≡ [] → each step [] ≡ Some (map view ys)
unfolding each
no_items step view ys e = rw e refl

-- ---- items that are seen as they are

pub no_plain_items : {A B : Type 0} (step : A → Option B) (ys : List B) → ys ≡ [] → each step [] ≡ Some ys
unfolding each
no_plain_items step ys e = rw e refl

each_plain_none : {A B : Type 0} (step : A → Option B) (xs : List A) (i : ℕ) (d : A) →
    i < length xs → step (get_or xs i d) ≡ None → each step xs ≡ None
unfolding each
each_plain_none step [] i d lt h = absurd (omega (arith, lt))
each_plain_none step (x ∷ xs) zero d lt h = rw h refl
each_plain_none step (x ∷ xs) (suc i) d lt h = rw (each_plain_none step xs i d (omega (arith, lt)) h) (cons_none (step x))

-- of the item at a place
pub each_at_fails : {A B : Type 0} (step : A → Option B) (xs : List A) (i : ℕ) (d : A) (e : ResolveError) →
    i < length xs → HasFailed e (step (get_or xs i d)) → HasFailed e (each step xs)
each_at_fails step xs i d Memory lt h = tt
each_at_fails step xs i d Unresolved lt h = each_plain_none step xs i d lt h

pub each_at_next : {A B : Type 0} (step : A → Option B) (xs : List A) (i : ℕ) (d : A) (old new : List B) (y : B) →
    i < length xs → new ≡ old ++ y ∷ [] →
    each step (take i xs) ≡ Some old → step (get_or xs i d) ≡ Some y → each step (take (i + 1) xs) ≡ Some new
each_at_next step xs i d old new y lt e h g = rw (take_more xs i d lt, e) (each_more step (take i xs) (get_or xs i d) old y h g)

-- a call failed for an item that is seen as another
pub each_fails : {X A B : Type 0} (step : A → Option B) (v : X → A) (xs : List X) (i : ℕ) (x : X) (e : ResolveError) →
    i < length xs → x ≡ get_or xs i x → HasFailed e (step (v x)) → HasFailed e (each step (map v xs))
each_fails step v xs i x e lt is h =
    each_at_fails step (map v xs) i (v x) e (subst (λ n. i < n) (sym (length-map xs v)) lt) (subst (λ y. HasFailed e (step y)) (ap v is ∙ sym (get_or-map v xs i x (v x) lt)) h)

-- ---- results that are seen through a view

pub each_made_next : {A B Y : Type 0} (step : A → Option B) (view : Y → B) (xs : List A) (i : ℕ) (x : A) (old new : List Y) (y : Y) →
    i < length xs → x ≡ get_or xs i x → new ≡ old ++ y ∷ [] →
    each step (take i xs) ≡ Some (map view old) → step x ≡ Some (view y) → each step (take (i + 1) xs) ≡ Some (map view new)
each_made_next step view xs i x old new y lt is e h g =
    let taken : take (i + 1) xs ≡ take i xs ++ x ∷ [] = take_more xs i x lt ∙ ap (λ z. take i xs ++ z ∷ []) (sym is) in
    let made : map view new ≡ map view old ++ view y ∷ [] = ap (map view) e ∙ map-append view old (y ∷ []) in
    rw (taken, made) (each_more step (take i xs) x (map view old) (view y) h g)
