-- Lists whose elements all are so.
use Rattle.std.proofs.Common.{◌≡◌, ℕ, zero, suc, Bool, true, false, List, [], ◌∷◌, ◌++◌, Some, refl, subst}
use Rattle.std.specs.Prelude.{slice_get, slice_set, filter, replicate, cond}
use Rattle.std.specs.List.{AllByRecursion as Every}

pub every_get : {A : Type 0} (P : A → Type 0) (xs : List A) (i : ℕ) (a : A) → Every P xs → slice_get xs i ≡ Some a → P a
every_get P [] i a h q = absurd cc
every_get P (x ∷ xs) zero a h q = let same : x ≡ a = cc in subst P same h.0
every_get P (x ∷ xs) (suc i) a h q = every_get P xs i a h.1 q

pub every_set : {A : Type 0} (P : A → Type 0) (xs : List A) (i : ℕ) (a : A) → Every P xs → P a → Every P (slice_set xs i a)
every_set P [] i a h p = h
every_set P (x ∷ xs) zero a h p = (p, h.1)
every_set P (x ∷ xs) (suc i) a h p = (h.0, every_set P xs i a h.1 p)

pub every_both : {A : Type 0} (P : A → Type 0) (xs ys : List A) → Every P xs → Every P ys → Every P (xs ++ ys)
every_both P [] ys h g = g
every_both P (x ∷ xs) ys h g = (h.0, every_both P xs ys h.1 g)

pub every_replicate : {A : Type 0} (P : A → Type 0) (n : ℕ) (a : A) → P a → Every P (replicate n a)
every_replicate P zero a p = tt
every_replicate P (suc n) a p = (p, every_replicate P n a p)

pub every_weaker : {A : Type 0} (P Q : A → Type 0) (xs : List A) → Every P xs → ((a : A) → P a → Q a) → Every Q xs
every_weaker P Q [] h g = tt
every_weaker P Q (x ∷ xs) h g = (g x h.0, every_weaker P Q xs h.1 g)

-- what a filter leaves is so, and passes its test
pub every_filter : {A : Type 0} (P Q : A → Type 0) (test : A → Bool) (xs : List A) → Every P xs → ((a : A) → P a → test a ≡ true → Q a) → Every Q (filter test xs)
every_filter P Q test [] h g = tt
every_filter P Q test (x ∷ xs) h g = by (test x) refl (every_filter P Q test xs h.1 g)
  where
    by : (b : Bool) → test x ≡ b → Every Q (filter test xs) → Every Q (cond b (x ∷ filter test xs) (filter test xs))
    by true q later = (g x h.0 q, later)
    by false q later = later
