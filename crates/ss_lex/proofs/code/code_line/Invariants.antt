use Rattle.std.proofs.Common.{length}
use Rattle.ss_lex.specs.Reading.{IsReadUpTo}
use Rattle.ss_lex.proofs.code.code_line.Given as goal

abbrev pub invariant-pieces : goal.invariant-pieces
invariant-pieces l = IsReadUpTo l.bytes l.start l.line.0 l.left l.initial.tokens l.tokens l.rest l.at l.due

abbrev pub decreases-pieces : goal.decreases-pieces
decreases-pieces l = length l.rest
