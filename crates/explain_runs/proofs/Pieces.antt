-- A run in pieces.
use Rattle.std.proofs.Common.{◌≡◌, ℕ, ◌+◌, ◌-◌, ◌^◌, ◌≤◌, ◌<◌, min, refl, arith}
use Rattle.ss_engine.specs.Sessions.{last_stop}
use Rattle.ss_machine.specs.Held.{kept_after}
use Rattle.ss_machine.specs.declared.stop.Stop.{Stop}
use Rattle.ss_machine.specs.declared.stop.Stop.TheVariants.{Ended, Fault, Paused, Memory, Output, Input, Failed}

-- why a session is stopped says how its last run stopped
pub kept_stop : (stop : Stop) → last_stop (kept_after stop) ≡ stop
kept_stop Ended = refl
kept_stop (Fault kind line) = refl
kept_stop Paused = refl
kept_stop Memory = refl
kept_stop Output = refl
kept_stop Input = refl
kept_stop Failed = refl

-- no more than all ticks are used
pub within : (u v t count : ℕ) → u + t ≤ count → v ≤ u + t → v ≤ count
within u v t count few more = omega (arith, few, more)

-- a piece that pauses uses a tick at least
pub one_used : (i u v t count : ℕ) → i < count → count < 2 ^ 64 → i ≤ u → 0 < t → v ≡ min (u + t) (2 ^ 64 - 1) → i + 1 ≤ v
one_used i u v t count more fits h some e = omega (arith, more, fits, h, some, e)
