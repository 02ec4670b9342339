-- Steps that may have no result, and what a call gives for them.
use Rattle.std.specs.Prelude.{◌≡◌, ℕ, zero, suc, Bool, List, [], ◌∷◌, ◌++◌, Option, Some, None, Result, Ok, Err, if◌then◌else◌}
use Rattle.ss_names_meaning.specs.declared.error.ResolveError.{ResolveError}
use Rattle.ss_names_meaning.specs.declared.error.ResolveError.TheVariants.{Memory, Unresolved}

-- one step after the other
infixl 10 ◌>>=◌
abbrev pub ◌>>=◌ : {A B : Type 0} → Option A → (A → Option B) → Option B
(Some x) >>= next = next x
None >>= next = None

-- what is made of the result of a step, and of the results of two or three, one after the other
abbrev pub of_one : {A B : Type 0} → Option A → (A → B) → Option B
of_one x make = x >>= λ a. Some (make a)

abbrev pub of_two : {A B C : Type 0} → Option A → Option B → (A → B → C) → Option C
of_two x y make = x >>= λ a. of_one y (make a)

abbrev pub of_three : {A B C D : Type 0} → Option A → Option B → Option C → (A → B → C → D) → Option D
of_three x y z make = x >>= λ a. of_two y z (make a)

-- the results of a step for each item of a list
unfoldable pub each : {A B : Type 0} → (A → Option B) → List A → Option (List B)
each step [] = Some []
each step (x ∷ xs) = of_two (step x) (each step xs) (λ y ys. y ∷ ys)

-- the result of a step for an option
abbrev pub if_there : {A B : Type 0} → (A → Option B) → Option A → Option (Option B)
if_there step None = Some None
if_there step (Some x) = of_one (step x) Some

-- a value, if a test holds
abbrev pub where_holds : {A : Type 0} → Bool → A → Option A
where_holds b x = if b then Some x else None

-- the numbers below a bound
unfoldable pub upto : ℕ → List ℕ
upto zero = []
upto (suc n) = upto n ++ n ∷ []

-- a call that is to find a result failed: there is none, or memory was refused
abbrev pub HasFailed : {Y : Type 0} → ResolveError → Option Y → Type 0
HasFailed Memory found = Unit {0}
HasFailed Unresolved found = found ≡ None

-- a call gives the result, as seen by this view, unless memory is refused
abbrev pub HasGiven : {X Y : Type 0} → (X → Y) → Result X ResolveError → Option Y → Type 0
HasGiven view (Ok x) found = found ≡ Some (view x)
HasGiven view (Err e) found = HasFailed e found
