use Rattle.std.proofs.Common.{◌≡◌, ◌-◌, ◌++◌, take, replicate}
use Rattle.ss_base.specs.Names.{in_capitals}
use Rattle.ss_base.proofs.spelling.Spelling.in_capitals.Given as goal

abbrev pub invariant-capitals : goal.invariant-capitals
invariant-capitals l = l.room ≡ in_capitals (take l.i l.bytes) ++ replicate (34 - l.i) 0
