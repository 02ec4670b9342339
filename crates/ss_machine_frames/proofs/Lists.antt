-- Items of lists that are cut and written to.
use Rattle.std.proofs.Common.{◌≡◌, ◌≢◌, ℕ, zero, suc, ◌+◌, ◌-◌, ◌<◌, ◌≤◌, List, [], ◌∷◌, ◌++◌, length, take, drop, Some, refl, ap, arith}
use Rattle.std.specs.Prelude.{slice_get, slice_set, ℤ}
pub use Rattle.std.proofs.lemmas.List.{length-set as set_length}
use Rattle.ss_machine_frames.specs.Rows.{TwoRows, AreGrown}

pub set_same : {A : Type 0} (xs : List A) (i : ℕ) (v : A) → i < length xs → slice_get (slice_set xs i v) i ≡ Some v
set_same [] i v h = absurd (omega (arith, h))
set_same (x ∷ xs) zero v h = refl
set_same (x ∷ xs) (suc i) v h = set_same xs i v (omega (arith, h))

pub set_other : {A : Type 0} (xs : List A) (i j : ℕ) (v : A) → j ≢ i → slice_get (slice_set xs i v) j ≡ slice_get xs j
set_other [] i j v h = refl
set_other (x ∷ xs) zero zero v h = absurd (h refl)
set_other (x ∷ xs) zero (suc j) v h = refl
set_other (x ∷ xs) (suc i) zero v h = refl
set_other (x ∷ xs) (suc i) (suc j) v h = set_other xs i j v (λ e. h (ap suc e))

pub get_take : {A : Type 0} (xs : List A) (n j : ℕ) → j < n → slice_get (take n xs) j ≡ slice_get xs j
get_take xs zero j h = absurd (omega (arith, h))
get_take [] (suc n) j h = refl
get_take (x ∷ xs) (suc n) zero h = refl
get_take (x ∷ xs) (suc n) (suc j) h = get_take xs n j (omega (arith, h))

pub get_drop : {A : Type 0} (xs : List A) (n j k : ℕ) → k ≡ n + j → slice_get (drop n xs) j ≡ slice_get xs k
get_drop [] zero j k e = refl
get_drop [] (suc n) j k e = refl
get_drop (x ∷ xs) zero j k e = let q : j ≡ k = omega (arith, e) in ap (slice_get (x ∷ xs)) q
get_drop (x ∷ xs) (suc n) j zero e = absurd (omega (arith, e))
get_drop (x ∷ xs) (suc n) j (suc k) e = get_drop xs n j k (omega (arith, e))

-- so many of the items have gone down, and those that are still to go lie where they lay
pub record GoingDown {A : Type 0} (old new : List A) (from to done : ℕ) : Type 0 where
  pub long : length new ≡ length old
  pub moved : (i : ℕ) → i < done → slice_get new (to + i) ≡ slice_get old (from + i)
  pub below : (j : ℕ) → j < to → slice_get new j ≡ slice_get old j
  pub ahead : (j : ℕ) → to + done ≤ j → slice_get new j ≡ slice_get old j

-- ## One place more

-- rows with one place more
abbrev pub one_longer : TwoRows → ℤ → List ℕ → TwoRows
one_longer r z t = record { numbers = r.numbers ++ z ∷ []; texts = r.texts ++ t ∷ [] }

-- the rows are of one length, and have grown
pub record GrownEven (old new : TwoRows) : Type 0 where
  pub grown : AreGrown old new
  pub even : length new.texts ≡ length new.numbers
