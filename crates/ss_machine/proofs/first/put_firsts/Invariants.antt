use Rattle.std.proofs.Common.{◌≡◌, drop}
use Rattle.ss_machine.specs.Beginning.{firsts_laid}
use Rattle.ss_machine.proofs.first.put_firsts.Given as goal

-- first values of the modes that are left, after what lies there, make those of all modes
abbrev pub invariant-loop-mode : goal.invariant-loop-mode
invariant-loop-mode l = firsts_laid l.rows (drop l.mode-index l.modes) ≡ firsts_laid l.initial.rows l.modes
