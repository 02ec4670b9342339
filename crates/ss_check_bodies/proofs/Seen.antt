-- Answers of calls, seen through a view.
use Rattle.std.proofs.Common.{◌≡◌, Bool, true, false, Option, Some, None, Result, Ok, Err, ap, subst, inl, inr}
use Rattle.ss_check_bodies.proofs.Common.{fails_then, Memory, ResolveError, Unresolved, Vec}
use Rattle.ss_names_meaning.specs.Answers.{◌>>=◌, HasFailed, HasGiven, where_holds}
use Rattle.ss_check_bodies.specs.Results.{IsMadeAfter, IsMadeOfBoth}

-- ---- another view

abbrev each_seen : {A B : Type 0} → (A → B) → Option A → Option B
each_seen view None = None
each_seen view (Some x) = Some (view x)

seen : {A B : Type 0} (view : A → B) (r : Result A ResolveError) (found : Option A) → HasGiven (λ x. x) r found → HasGiven view r (each_seen view found)
seen view (Ok y) found h = ap (each_seen view) h
seen view (Err Memory) found h = tt
seen view (Err Unresolved) found h = ap (each_seen view) h

pub where_seen : {A B : Type 0} (view : A → B) (b : Bool) (x : A) (r : Result A ResolveError) →
    HasGiven (λ z. z) r (where_holds b x) → HasGiven view r (where_holds b (view x))
where_seen view true x r h = seen view r (Some x) h
where_seen view false x r h = seen view r None h

-- what was made next
pub next_made : {B Y : Type 0} (w : B → Y) (r : Result B ResolveError) (found : Option Y) (q : B) → HasGiven w r found → r ≡ Ok q → found ≡ Some (w q)
next_made w r found q h e = subst (λ z. HasGiven w z found) e h

-- what was made next failed
pub next_failed : {B Y : Type 0} (w : B → Y) (r : Result B ResolveError) (found : Option Y) (e : ResolveError) → HasGiven w r found → r ≡ Err e → HasFailed e found
next_failed w r found e h is = subst (λ z. HasGiven w z found) is h

-- one of two that were made failed
pub both_fail : {A B X Y Z : Type 0} (view : A → X) (w : B → Y) (first : Result A ResolveError) (next : Result B ResolveError) (p : Option X) (q : Option Y) (k : X → Y → Option Z) (e : ResolveError) →
    HasGiven view first p → HasGiven w next q → IsMadeOfBoth first next (Err e) → HasFailed e (p >>= λ x. q >>= λ y. k x y)
both_fail view w first next p q k e h g (inl is) = fails_then p (λ x. q >>= λ y. k x y) e (next_failed view first p e h is)
both_fail view w first next p q k e h g (inr z) = rw (next_made view first p z.0 h z.1) (fails_then q (λ y. k (view z.0) y) e (next_failed w next q e g z.2))

-- what was to follow failed
pub after_failed : {A X : Type 0} (view : A → X) (made : Vec A) (next : Result A ResolveError) (p : Option X) (e : ResolveError) → HasGiven view next p → IsMadeAfter made next (Err e) → HasFailed e p
after_failed view made next p Memory h after = tt
after_failed view made next p Unresolved h after = next_failed view next p Unresolved h after
