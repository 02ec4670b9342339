use Rattle.std.proofs.Common.{◌≡◌, ◌++◌, take, drop}
use Rattle.ss_base.specs.Room.{before_zero}
use Rattle.ss_base.proofs.alpha.used.Given as goal

abbrev pub invariant-loop-i : goal.invariant-loop-i
invariant-loop-i l = before_zero l.room ≡ take l.i l.room ++ before_zero (drop l.i l.room)
