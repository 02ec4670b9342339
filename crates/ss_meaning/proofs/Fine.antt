-- Operations that give a value, which is so, or a fault of the run.
use Rattle.std.proofs.Common.{◌≡◌, Bool, true, false, Option, Some, None, Ok, Err, refl}
use Rattle.ss_meaning.proofs.Common.{and_then, due, Fails, Failure, FaultKind, if_ok, Result, sure, turned, TypeError, unless_fault, where_fit}

-- there is a value, which is so, or a fault of the run
abbrev pub Fine : {A : Type 0} → (A → Type 0) → Result A Failure → Type 0
Fine P (Ok a) = P a
Fine P (Err (Fails k)) = Unit {0}
Fine P (Err TypeError) = ⊥

-- a result has P, or is a fault
abbrev pub Sane : {A : Type 0} → (A → Type 0) → Result A FaultKind → Type 0
Sane P (Ok a) = P a
Sane P (Err k) = Unit {0}

abbrev pub There : {A : Type 0} → (A → Type 0) → Option A → Type 0
There P (Some a) = P a
There P None = ⊥

abbrev pub Any : {A : Type 0} → A → Type 0
Any a = Unit {0}

pub fine_then : {A B : Type 0} {P : A → Type 0} (Q : B → Type 0) (r : Result A Failure) (f : A → Result B Failure) → Fine P r → ((a : A) → P a → Fine Q (f a)) → Fine Q (if_ok r f)
fine_then Q (Ok a) f h g = g a h
fine_then Q (Err (Fails k)) f h g = tt
fine_then Q (Err TypeError) f h g = absurd h

pub fine_turned : {A B : Type 0} {P : A → Type 0} (Q : B → Type 0) (f : A → B) (r : Result A Failure) → Fine P r → ((a : A) → P a → Q (f a)) → Fine Q (turned f r)
fine_turned Q f (Ok a) h g = g a h
fine_turned Q f (Err (Fails k)) h g = tt
fine_turned Q f (Err TypeError) h g = absurd h

pub fine_weaker : {A : Type 0} {P : A → Type 0} (Q : A → Type 0) (r : Result A Failure) → Fine P r → ((a : A) → P a → Q a) → Fine Q r
fine_weaker Q (Ok a) h g = g a h
fine_weaker Q (Err (Fails k)) h g = tt
fine_weaker Q (Err TypeError) h g = absurd h

pub due_fine : {A : Type 0} (P : A → Type 0) (r : Result A FaultKind) → Sane P r → Fine P (due r)
due_fine P (Ok a) h = h
due_fine P (Err k) h = tt

pub any_due : {A : Type 0} (r : Result A FaultKind) → Fine Any (due r)
any_due (Ok a) = tt
any_due (Err k) = tt

pub sure_fine : {A : Type 0} (P : A → Type 0) (o : Option A) → There P o → Fine P (sure o)
sure_fine P (Some a) h = h
sure_fine P None h = absurd h

pub fit_fine : {A : Type 0} (P : A → Type 0) (b : Bool) (r : Result A Failure) → b ≡ true → Fine P r → Fine P (where_fit b r)
fit_fine P true r q h = h
fit_fine P false r q h = absurd cc

pub unless_fine : {A : Type 0} (P : A → Type 0) (b : Bool) (k : FaultKind) (r : Result A Failure) → (b ≡ false → Fine P r) → Fine P (unless_fault b k r)
unless_fine P true k r h = tt
unless_fine P false k r h = h refl

pub sane_then : {A B : Type 0} {P : A → Type 0} (Q : B → Type 0) (r : Result A FaultKind) (f : A → Result B FaultKind) → Sane P r → ((a : A) → P a → Sane Q (f a)) → Sane Q (and_then r f)
sane_then Q (Ok a) f h g = g a h
sane_then Q (Err k) f h g = tt
