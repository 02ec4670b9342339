-- How often a reader failed.
use Rattle.std.proofs.Common.{◌≡◌, ◌∙◌, ℕ, Result, Ok, Err, ap, subst, sym, arith}
use Rattle.ss_base.specs.Failures.{HasRisen, HasRisenBy}
use Rattle.ss_input.specs.declared.source.Missed.{Missed}
use Rattle.ss_input.proofs.Common.{failures_after, Fault, Input}

not_less : {A : Type 0} (answer : Result A Missed) (count : ℕ) → HasRisenBy 0 count (failures_after answer count)
not_less (Ok value) count = omega arith
not_less (Err (Fault kind)) count = omega arith
not_less (Err Input) count = omega arith

-- the count never falls
pub never_falls : {A : Type 0} (answer : Result A Missed) (old new : ℕ) → new ≡ failures_after answer old → HasRisenBy 0 old new
never_falls answer old new e = subst (HasRisenBy 0 old) (sym e) (not_less answer old)

-- an error of the reader is counted
pub failed_once : {A : Type 0} (answer : Result A Missed) (old new : ℕ) → answer ≡ Err Input → new ≡ failures_after answer old → HasRisen old new
failed_once answer old new is e = subst (HasRisen old) (sym (e ∙ ap (λ a. failures_after a old) is)) (omega arith)
