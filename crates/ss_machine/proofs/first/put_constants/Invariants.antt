use Rattle.std.proofs.Common.{◌≡◌, drop}
use Rattle.ss_machine.specs.Beginning.{values_laid}
use Rattle.ss_machine.proofs.first.put_constants.Given as goal

-- the constants that come after what lies there make all of them
abbrev pub invariant-loop-constant : goal.invariant-loop-constant
invariant-loop-constant l = values_laid l.rows (drop l.constant-index l.constants) ≡ values_laid l.initial.rows l.constants
