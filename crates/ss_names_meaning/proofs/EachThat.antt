-- Steps for each item of a list that passes a test, and for lists with more after them.
use Rattle.std.proofs.Common.{◌≡◌, ℕ, zero, suc, ◌+◌, ◌<◌, Bool, true, false, cond, List, [], ◌∷◌, ◌++◌, length, get_or, take, Option, Some, None, refl, sym, ap, subst, ◌∙◌, arith}
use Rattle.std.specs.List.{filter}
use Rattle.std.proofs.lemmas.List.{append-nil}
use Rattle.std.proofs.lemmas.List.Elements.{filter_more}
use Rattle.ss_names_meaning.specs.declared.error.ResolveError.{ResolveError}
use Rattle.ss_names_meaning.specs.declared.error.ResolveError.TheVariants.{Memory, Unresolved}
use Rattle.ss_names_meaning.specs.Answers.{each, HasFailed}
use Rattle.ss_names_meaning.proofs.Each.{cons_none, cons_of, each_more}

-- a list without a result has none with more after it
front_of : {B : Type 0} (r : Option B) (q p : Option (List B)) → cons_of r q ≡ None → (q ≡ None → p ≡ None) → cons_of r p ≡ None
front_of None q p h f = refl
front_of (Some y) None p h f = rw (f refl) refl
front_of (Some y) (Some ys) p h f = absurd cc

pub front_none : {A B : Type 0} (step : A → Option B) (xs ys : List A) → each step xs ≡ None → each step (xs ++ ys) ≡ None
unfolding each
front_none step [] ys h = absurd cc
front_none step (x ∷ xs) ys h = front_of (step x) (each step xs) (each step (xs ++ ys)) h (λ k. front_none step xs ys k)

pub last_none : {A B : Type 0} (step : A → Option B) (xs : List A) (a : A) → step a ≡ None → each step (xs ++ a ∷ []) ≡ None
unfolding each
last_none step [] a h = rw h refl
last_none step (x ∷ xs) a h = rw (last_none step xs a h) (cons_none (step x))

-- ---- the items that pass a test

skip_none : {A B : Type 0} (step : A → Option B) (b : Bool) (x : A) (xs : List A) → each step xs ≡ None → each step (cond b (x ∷ xs) xs) ≡ None
unfolding each
skip_none step true x xs h = rw h (cons_none (step x))
skip_none step false x xs h = h

passed_none : {A B : Type 0} (step : A → Option B) (p : A → Bool) (xs : List A) (i : ℕ) (d : A) →
    i < length xs → p (get_or xs i d) ≡ true → step (get_or xs i d) ≡ None → each step (filter p xs) ≡ None
unfolding each
passed_none step p [] i d lt t h = absurd (omega (arith, lt))
passed_none step p (x ∷ xs) zero d lt t h = rw (t, h) refl
passed_none step p (x ∷ xs) (suc i) d lt t h = skip_none step (p x) x (filter p xs) (passed_none step p xs i d (omega (arith, lt)) t h)

pub passed_fail : {A B : Type 0} (step : A → Option B) (p : A → Bool) (xs : List A) (i : ℕ) (x : A) (e : ResolveError) →
    i < length xs → x ≡ get_or xs i x → p x ≡ true → HasFailed e (step x) → HasFailed e (each step (filter p xs))
passed_fail step p xs i x Memory lt is t h = tt
passed_fail step p xs i x Unresolved lt is t h =
    passed_none step p xs i x lt (subst (λ y. p y ≡ true) is t) (subst (λ y. step y ≡ None) is h)

pub passed_next : {A B : Type 0} (step : A → Option B) (p : A → Bool) (xs : List A) (i : ℕ) (x : A) (old new : List B) (y : B) →
    i < length xs → x ≡ get_or xs i x → p x ≡ true → new ≡ old ++ y ∷ [] →
    each step (filter p (take i xs)) ≡ Some old → step x ≡ Some y → each step (filter p (take (i + 1) xs)) ≡ Some new
passed_next step p xs i x old new y lt is t e h g =
    let more : filter p (take (i + 1) xs) ≡ filter p (take i xs) ++ x ∷ [] =
    filter_more p xs i x lt ∙ ap (λ z. filter p (take i xs) ++ cond (p z) (z ∷ []) []) (sym is) ∙ ap (λ b. filter p (take i xs) ++ cond b (x ∷ []) []) t in
    rw (more, e) (each_more step (filter p (take i xs)) x old y h g)

pub passed_over : {A B : Type 0} (step : A → Option B) (p : A → Bool) (xs : List A) (i : ℕ) (x : A) (old : List B) →
    i < length xs → x ≡ get_or xs i x → p x ≡ false →
    each step (filter p (take i xs)) ≡ Some old → each step (filter p (take (i + 1) xs)) ≡ Some old
passed_over step p xs i x old lt is t h =
    let more : filter p (take (i + 1) xs) ≡ filter p (take i xs) ++ [] =
    filter_more p xs i x lt ∙ ap (λ z. filter p (take i xs) ++ cond (p z) (z ∷ []) []) (sym is) ∙ ap (λ b. filter p (take i xs) ++ cond b (x ∷ []) []) t in
    rw (more, append-nil (filter p (take i xs))) h
