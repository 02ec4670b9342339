-- One entry more, after some.
use Rattle.std.proofs.Common.{◌≡◌, ap, ◌∙◌}

pub one_further : {T E : Type 0} (step : T → E → T) {from before after : T} (e : E) → before ≡ from → after ≡ step before e → after ≡ step from e
one_further step e b a = a ∙ ap (λ t. step t e) b
