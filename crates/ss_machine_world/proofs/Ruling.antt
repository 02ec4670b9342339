-- Filing by the discipline of a set.
use Rattle.std.proofs.Common.{◌≡◌, ℕ, ℤ, Some, Ok, Err, refl, ap, sym, ◌∙◌, subst}
use Rattle.std.specs.Prelude.{slice_get, MatchResult, Result as OkOr}
use Rattle.ss_machine_world.proofs.Common.{Discipline, FaultKind, filed, HasRearranged, Seen, State}

got : {A : Type 0} {x y : A} → Some x ≡ Some y → x ≡ y
got e = cc

pub ruled_by : (e : Seen) (set : ℕ) (o x : ℤ) (k d : Discipline) (h : State) (r : OkOr (Unit {0}) FaultKind) → slice_get e.disciplines set ≡ Some k → slice_get e.disciplines set ≡ Some d → MatchResult r (λ _. filed e.heap k set o x ≡ Ok h) (λ f. (filed e.heap k set o x ≡ Err f) × (h ≡ e.heap)) → HasRearranged (λ h. filed h d set o x) e (record e { heap = h }) r
ruled_by e set o x k d h (Ok u) here has done = (subst (λ (k : Discipline). filed e.heap k set o x ≡ Ok h) (got (sym here ∙ has)) done, refl)
ruled_by e set o x k d h (Err f) here has done =
    (subst (λ (k : Discipline). filed e.heap k set o x ≡ Err f) (got (sym here ∙ has)) done.0, ap (λ (h : State). record e { heap = h }) done.1)
