use Rattle.std.proofs.Common.{◌≡◌, length, map}
use Rattle.ss_parse_expressions.proofs.Common.{rows, skip_comma, view_guard_tree}
use Rattle.ss_parse_expressions.specs.ReadHeads.{begins_guard, guard_in, further_guards}
use Rattle.ss_parse_expressions.proofs.Rows.{with_front}
use Rattle.ss_parse_expressions.proofs.heads.guards.Given as goal

abbrev pub invariant-more : goal.invariant-more
invariant-more l = with_front (map view_guard_tree l.all.items) (rows (λ ts. begins_guard (skip_comma ts)) (λ r. guard_in l.room (skip_comma r)) l.rest) ≡ further_guards l.room (view_guard_tree l.fn.first) l.tokens

abbrev pub decreases-more : goal.decreases-more
decreases-more l = length l.rest
