-- Operations that are alike.
use Rattle.std.proofs.Common.{◌≡◌, Ok, Err, ◌∙◌}
use Rattle.std.specs.Prelude.{Result as OkOr}
use Rattle.ss_machine_world.proofs.Common.{Failure, FaultKind, HasChanged, Seen, Store, with_seen}

pub changes_alike : (f g : Store → OkOr Store Failure) (old new : Seen) (r : OkOr (Unit {0}) FaultKind) → ((s : Store) → f (with_seen s old) ≡ g (with_seen s old)) → HasChanged g old new r → HasChanged f old new r
changes_alike f g old new (Ok u) alike d = λ s right. alike s ∙ d s (λ wrong. right (alike s ∙ wrong))
changes_alike f g old new (Err k) alike d = (λ s right. alike s ∙ d.0 s (λ wrong. right (alike s ∙ wrong)), d.1)
