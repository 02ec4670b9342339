-- The exit of a `?`, where the error reports why a program is refused.
use Rattle.std.proofs.Common.{◌≡◌, Option, Result, sym, subst}
use Rattle.std.specs.Prelude.{IfErr, IsErrAnd}
use Rattle.std.proofs.lemmas.Result.{err_from_is_err_and}

-- this error reports what the callee's error reports
pub refused_so : {X E B : Type 0} (Says : E → Option B → Type 0) (r : Result X E) (e : E) (found wanted : Option B) →
    IsErrAnd r (λ f. f ≡ e) → Says e found → found ≡ wanted → IfErr r (λ f. Says f wanted)
refused_so Says r e found wanted h k s =
    let p = err_from_is_err_and r h in
    subst (λ z. IfErr z (λ f. Says f wanted)) (sym p.1) (subst (λ z. Says z wanted) (sym p.2) (subst (λ z. Says e z) s k))
