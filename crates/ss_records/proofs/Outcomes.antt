-- The answer of a call that gives no value, and the state that it leaves.
use Rattle.std.proofs.Common.{◌≡◌, Result, Ok, Err, sym, ap, ◌∙◌}
use Rattle.ss_records.proofs.Common.{FaultKind, MatchResult, State}
use Rattle.ss_records.specs.Commands.{answer_without_value, done_with_state, answer_or_fault, state_in}

pub outcome : (r : Result (Unit {0}) FaultKind) (f : Result State FaultKind) (s t : State) → MatchResult r (λ _. f ≡ Ok t) (λ e. (f ≡ Err e) × (t ≡ s)) → (answer_without_value r ≡ answer_or_fault (done_with_state f)) × (t ≡ state_in s (done_with_state f))
outcome (Ok u) f s t h = (ap (λ z. answer_or_fault (done_with_state z)) (sym h), ap (λ z. state_in s (done_with_state z)) (sym h))
outcome (Err e) f s t h = (ap (λ z. answer_or_fault (done_with_state z)) (sym h.0), h.1 ∙ ap (λ z. state_in s (done_with_state z)) (sym h.0))
