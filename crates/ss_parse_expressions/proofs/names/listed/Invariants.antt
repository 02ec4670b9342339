use Rattle.std.proofs.Common.{◌≡◌, length}
use Rattle.ss_parse_expressions.proofs.Common.{begins_more, begins_name, list_of, name_in_token, past_article, rows, skip_separator, taken}
use Rattle.ss_parse_expressions.proofs.Rows.{with_front}
use Rattle.ss_parse_expressions.proofs.names.listed.Given as goal

abbrev pub invariant-more : goal.invariant-more
invariant-more l = with_front l.all.items (rows (begins_more (λ ts. begins_name (past_article l.articles ts))) (λ r. taken name_in_token (past_article l.articles (skip_separator r))) l.rest) ≡ list_of (λ ts. begins_name (past_article l.articles ts)) (λ ts. taken name_in_token (past_article l.articles ts)) l.tokens

abbrev pub decreases-more : goal.decreases-more
decreases-more l = length l.rest
