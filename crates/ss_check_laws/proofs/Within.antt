-- Steps that may have no result, and results of at most so many nodes.
use Rattle.std.proofs.Common.{◌≡◌, ℕ, ◌≤◌, Bool, true, false, List, [], ◌∷◌, length, Option, Some, None, sum_by, subst, arith}
use Rattle.ss_check_laws.proofs.Common.{option_map_or, sum_by-cons}
use Rattle.ss_program.specs.Nodes.{total, option_nodes}
use Rattle.ss_names_meaning.specs.Answers.{◌>>=◌, each, if_there, where_holds}

-- a result has at most so many nodes, if there is one
pub record Within {A : Type 0} (nodes : A → ℕ) (n : ℕ) (found : Option A) : Type 0 where
  pub small : option_nodes nodes found ≤ n

pub at_most : {A : Type 0} (k : A → ℕ) (n : ℕ) (r : Option A) (x : A) → Within k n r → r ≡ Some x → k x ≤ n
at_most k n r x h e = (subst (Within k n) e h).small

pub so : {A : Type 0} {k l : A → ℕ} {n m : ℕ} {r : Option A} → Within k n r → ((x : A) → k x ≤ n → l x ≤ m) → Within l m r
so {r = None} h f = omega arith
so {r = Some x} h f = record { small = f x h.small }

-- one step after the other
pub followed : {A B : Type 0} {m : A → ℕ} {k : B → ℕ} {a n : ℕ} {r : Option A} {f : A → Option B} → Within m a r → ((x : A) → m x ≤ a → Within k n (f x)) → Within k n (r >>= f)
followed {r = None} h g = omega arith
followed {r = Some x} h g = g x h.small

-- a step after a look-up, whose result has no nodes
pub looked : {A B : Type 0} {k : B → ℕ} {n : ℕ} {f : A → Option B} (r : Option A) → ((x : A) → Within k n (f x)) → Within k n (r >>= f)
looked None g = omega arith
looked (Some x) g = g x

-- a step on what may be there
pub there_within : {A B : Type 0} {m : A → ℕ} {k : B → ℕ} {f : A → Option B} (r : Option A) → ((x : A) → Within k (m x) (f x)) → Within k (option_nodes m r) (r >>= f)
there_within None g = omega arith
there_within (Some x) g = g x

pub where_small : {A : Type 0} {k : A → ℕ} {n : ℕ} (b : Bool) (x : A) → k x ≤ n → Within k n (where_holds b x)
where_small true x h = record { small = h }
where_small false x h = omega arith

-- a step on what a test lets through
pub held : {A B : Type 0} {k : B → ℕ} {n : ℕ} (b : Bool) (x : A) (f : A → Option B) → Within k n (f x) → Within k n (where_holds b x >>= f)
held true x f h = h
held false x f h = omega arith

pub there_small : {A B : Type 0} {m : A → ℕ} {k : B → ℕ} {step : A → Option B} → ((a : A) → Within k (m a) (step a)) → (x : Option A) → Within (option_nodes k) (option_map_or m x 0) (if_there step x)
there_small h None = omega arith
there_small h (Some x) = followed (h x) (λ y p. omega arith)

pub each_small : {A B : Type 0} {m : A → ℕ} {k : B → ℕ} {step : A → Option B} → ((a : A) → Within k (m a) (step a)) → (xs : List A) → Within (total k) (sum_by m xs) (each step xs)
unfolding each
each_small h [] = omega arith
each_small {m = m} h (x ∷ xs) = followed (h x) (λ y p. followed (each_small h xs) (λ ys q. omega (arith, sum_by-cons m x xs)))

-- as many results as items
pub each_as_many : {A B : Type 0} (step : A → Option B) (xs : List A) → Within length (length xs) (each step xs)
unfolding each
each_as_many step [] = omega arith
each_as_many step (x ∷ xs) = looked (step x) (λ y. followed (each_as_many step xs) (λ ys p. omega arith))
