-- A machine of which something is asked, so that nothing changes.
use Rattle.std.proofs.Common.{ℕ, Option}
use Rattle.ss_machine.proofs.Common.{Generated, Here, situated, State, Stop}
use Rattle.ss_machine.specs.Held.{Held}

-- a machine of these parts, as it is seen
abbrev pub held_at : Generated → Here → (used : ℕ) → Option Stop → State → Held
held_at code here used stopped s = record { code = code; at = situated here s; used = used; steps = s.steps; stopped = stopped }
