use Rattle.std.proofs.Common.{◌≡◌, length}
use Rattle.ss_parse.proofs.Common.{begins_more, begins_name, rows, skip_separator, with_front}
use Rattle.ss_parse.specs.ReadPreambles.{statistic, found}
use Rattle.ss_parse.proofs.reading.preambles.found.Given as goal

abbrev pub invariant-more : goal.invariant-more
invariant-more l = with_front l.all.items (rows (begins_more begins_name) (λ r. statistic (skip_separator r)) l.rest) ≡ found l.tokens

abbrev pub decreases-more : goal.decreases-more
decreases-more l = length l.rest
