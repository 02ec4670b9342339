use Rattle.std.proofs.Common.{◌≡◌, length, map}
use Rattle.ss_parse_expressions.proofs.Common.{begins_more, begins_target, rows, skip_separator, target_in, targets_in, view_named}
use Rattle.ss_parse_expressions.proofs.Rows.{with_front}
use Rattle.ss_parse_expressions.proofs.places.targets.Given as goal

abbrev pub invariant-more : goal.invariant-more
invariant-more l = with_front (map view_named l.all.items) (rows (begins_more begins_target) (λ r. target_in l.room (skip_separator r)) l.rest) ≡ targets_in l.room l.tokens

abbrev pub decreases-more : goal.decreases-more
decreases-more l = length l.rest
