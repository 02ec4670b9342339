-- Steps of a reading, one after the other.
use Rattle.std.specs.Prelude.{◌≡◌, ◌⊎◌, [], ◌∷◌, ◌++◌, Result, Ok, Err}
use Rattle.std.specs.Global.{Vec}
use Rattle.ss_parse_expressions.specs.declared.failure.ParseFailure.{ParseFailure}
use Rattle.ss_parse_expressions.specs.declared.failure.ParseFailure.TheVariants.{Memory}

-- what was read first together with what was read next, unless that failed
abbrev pub ArePaired : {A B : Type 0} → A → Result B ParseFailure → Result (A × B) ParseFailure → Type 0
ArePaired first next (Ok p) = (p.0 ≡ first) × (next ≡ Ok p.1)
ArePaired first next (Err e) = next ≡ Err e

-- what was read before with what was read next at its end, together with what follows that, unless it failed or memory ran out
abbrev pub AreJoined : {A B : Type 0} → Vec A → Result (A × B) ParseFailure → Result (Vec A × B) ParseFailure → Type 0
AreJoined before next (Ok p) = (x : _) × (next ≡ Ok (x, p.1)) × (p.0.items ≡ before.items ++ x ∷ [])
AreJoined before next (Err e) = (e ≡ Memory) ⊎ (next ≡ Err e)
