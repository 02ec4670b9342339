use Rattle.std.proofs.Common.{◌≡◌, length, map}
use Rattle.ss_parse_expressions.proofs.Common.{begins_phrase, phrase_in, phrases_in, rows, skip_comma, view_phrase_tree}
use Rattle.ss_parse_expressions.proofs.Rows.{with_front}
use Rattle.ss_parse_expressions.proofs.heads.phrases.Given as goal

abbrev pub invariant-more : goal.invariant-more
invariant-more l = with_front (map view_phrase_tree l.all.items) (rows (λ ts. begins_phrase (skip_comma ts)) (λ r. phrase_in l.room (skip_comma r)) l.rest) ≡ phrases_in l.room l.tokens

abbrev pub decreases-more : goal.decreases-more
decreases-more l = length l.rest
