use Rattle.std.proofs.Common.{◌≡◌, length, map, None}
use Rattle.ss_parse.proofs.Common.{view_preamble, with_front}
use Rattle.ss_parse.specs.ReadPreambles.{preambles}
use Rattle.ss_parse.proofs.reading.preambles.preamble_statements.Given as goal

abbrev pub invariant-more : goal.invariant-more
invariant-more l = with_front (map view_preamble l.all.items) (preambles l.group l.rest) ≡ preambles None l.tokens

abbrev pub decreases-more : goal.decreases-more
decreases-more l = length l.rest
