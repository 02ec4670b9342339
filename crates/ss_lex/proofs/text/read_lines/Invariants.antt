use Rattle.std.proofs.Common.{length}
use Rattle.ss_lex.specs.Reading.{IsTextReadTo}
use Rattle.ss_lex.proofs.text.read_lines.Given as goal

abbrev pub invariant-lines : goal.invariant-lines
invariant-lines l = IsTextReadTo l.text l.rest l.start l.line l.due l.count l.tokens

abbrev pub decreases-lines : goal.decreases-lines
decreases-lines l = length l.rest
