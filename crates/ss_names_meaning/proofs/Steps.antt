-- One step after the other.
use Rattle.std.proofs.Common.{◌≡◌, Option, Result, refl, sym, subst}
use Rattle.std.specs.Prelude.{IsErrAnd}
use Rattle.std.proofs.lemmas.Result.{err_from_is_err_and}
use Rattle.ss_names_meaning.specs.declared.error.ResolveError.{ResolveError}
use Rattle.ss_names_meaning.specs.declared.error.ResolveError.TheVariants.{Memory, Unresolved}
use Rattle.ss_names_meaning.specs.Answers.{◌>>=◌, HasFailed, HasGiven}

-- the exit of a `?`
pub failed : {X Y : Type 0} (view : X → Y) (r : Result X ResolveError) (e : ResolveError) (found : Option Y) →
    IsErrAnd r (λ f. f ≡ e) → HasFailed e found → HasGiven view r found
failed view r e found h k =
    let p = err_from_is_err_and r h in
    subst (λ z. HasGiven view z found) (sym p.1) (subst (λ z. HasFailed z found) (sym p.2) k)

-- the first step failed
pub fails_then : {A B : Type 0} (r : Option A) (next : A → Option B) (e : ResolveError) → HasFailed e r → HasFailed e (r >>= next)
fails_then r next Memory h = tt
fails_then r next Unresolved h = rw h refl
