-- The entries of a list, and how many numbers have a place once one is noted or gone.
use Rattle.std.proofs.Common.{◌≡◌, ℕ, zero, suc, ◌+◌, ◌<◌, ◌≤◌, List, [], ◌∷◌, ◌++◌, length, slice_get, slice_set, Some, None, refl, arith}
pub use Rattle.std.proofs.lemmas.List.{length-set as length_set}
pub use Rattle.std.proofs.lemmas.Option.{slice_get_within as get_inside}
use Rattle.ss_records_blocks.specs.declared.store.BlockPlace.{BlockPlace}
use Rattle.ss_records_blocks.specs.Places.{Numbers, living_count}

pub get_there : {A : Type 0} (xs : List A) (s : ℕ) → s < length xs → (t : A) × (slice_get xs s ≡ Some t)
get_there [] s h = absurd (omega (arith, h))
get_there (x ∷ xs) zero h = (x, refl)
get_there (x ∷ xs) (suc s) h = get_there xs s (omega (arith, h))

-- the entries of a list, once it goes on
pub get_front : {A : Type 0} (xs ys : List A) (i : ℕ) → i < length xs → slice_get (xs ++ ys) i ≡ slice_get xs i
get_front [] ys i h = absurd (omega (arith, h))
get_front (x ∷ xs) ys zero h = refl
get_front (x ∷ xs) ys (suc i) h = get_front xs ys i (omega (arith, h))

pub get_end : {A : Type 0} (xs : List A) (x : A) → slice_get (xs ++ x ∷ []) (length xs) ≡ Some x
get_end [] x = refl
get_end (y ∷ ys) x = get_end ys x

pub living_push : (d : Numbers) (q : BlockPlace) → living_count (d ++ Some q ∷ []) ≡ living_count d + 1
living_push [] q = omega arith
living_push (None ∷ ps) q = living_push ps q
living_push (Some p ∷ ps) q = omega (arith, living_push ps q)

pub living_bound : (d : Numbers) → living_count d ≤ length d
living_bound [] = omega arith
living_bound (None ∷ ps) = omega (arith, living_bound ps)
living_bound (Some p ∷ ps) = omega (arith, living_bound ps)

pub living_gone : (d : Numbers) (i : ℕ) (p : BlockPlace) → slice_get d i ≡ Some (Some p) → living_count (slice_set d i None) + 1 ≡ living_count d
living_gone [] i p h = cc
living_gone (None ∷ ps) zero p h = cc
living_gone (Some q ∷ ps) zero p h = omega arith
living_gone (None ∷ ps) (suc i) p h = living_gone ps i p h
living_gone (Some q ∷ ps) (suc i) p h = omega (arith, living_gone ps i p h)
