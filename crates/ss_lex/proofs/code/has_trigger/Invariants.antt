use Rattle.std.proofs.Common.{◌≡◌, length}
use Rattle.ss_lex.proofs.Common.{has_trigger, pieces}
use Rattle.ss_lex.proofs.code.has_trigger.Given as goal

abbrev pub invariant-pieces : goal.invariant-pieces
invariant-pieces l = has_trigger (pieces l.rest) ≡ has_trigger (pieces l.bytes)

abbrev pub decreases-pieces : goal.decreases-pieces
decreases-pieces l = length l.rest
