use Rattle.std.proofs.Common.{◌≡◌, length, map}
use Rattle.ss_parse.proofs.Common.{begins_more, rows, skip_separator, view_clause, with_front}
use Rattle.ss_parse.specs.ReadPreambles.{clause, begins_clause, clause_list}
use Rattle.ss_parse.proofs.reading.preambles.clause_list.Given as goal

abbrev pub invariant-more : goal.invariant-more
invariant-more l = with_front (map view_clause l.all.items) (rows (begins_more begins_clause) (λ r. clause (skip_separator r)) l.rest) ≡ clause_list l.tokens

abbrev pub decreases-more : goal.decreases-more
decreases-more l = length l.rest
