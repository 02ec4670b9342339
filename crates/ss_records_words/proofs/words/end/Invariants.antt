use Rattle.std.proofs.Common.{◌≡◌, ◌++◌, take, drop}
use Rattle.ss_base.specs.Room.{before_zero}
use Rattle.ss_records_words.proofs.words.end.Given as goal

abbrev pub invariant-loop-i : goal.invariant-loop-i
invariant-loop-i l = before_zero l.bytes ≡ take l.i l.bytes ++ before_zero (drop l.i l.bytes)
