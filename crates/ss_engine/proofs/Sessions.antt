-- Sessions with the same parts.
use Rattle.std.proofs.Common.{◌≡◌, ap, ◌∙◌}
use Rattle.ss_picture.specs.Sending.{SinkState}
use Rattle.ss_engine.proofs.Common.{Session, Source}
use Rattle.ss_machine.specs.Held.{Held}

abbrev built : {R W : Type 0} → Held → Source R → SinkState W → Session R W
built m s k = record { machine = m; source = s; sink = k }

-- a session is the same as another where its machine, its source and its sink are
pub session_same : {R W : Type 0} (a b : Session R W) → a.machine ≡ b.machine → a.source ≡ b.source → a.sink ≡ b.sink → a ≡ b
session_same a b m s k =
    ap (λ x. built x a.source a.sink) m ∙ ap (λ x. built b.machine x a.sink) s ∙ ap (λ x. built b.machine b.source x) k
