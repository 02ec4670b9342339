use Rattle.std.proofs.Common.{◌≡◌, ◌≤◌, take}
use Rattle.ss_base.specs.Values.{without_end_blanks}
use Rattle.ss_base.proofs.alpha.trimmed.Given as goal

abbrev pub invariant-loop-i : goal.invariant-loop-i
invariant-loop-i l = record { within : l.end ≤ l.i; same : take l.end l.bytes ≡ without_end_blanks (take l.i l.bytes) }
