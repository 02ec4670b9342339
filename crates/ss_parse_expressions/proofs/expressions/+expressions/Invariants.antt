use Rattle.std.proofs.Common.{◌≡◌, ◌+◌, ◌*◌, length, map}
use Rattle.ss_parse_expressions.proofs.Common.{begins, begins_more, rows, skip, skip_separator, view_expression_tree, view_term}
use Rattle.ss_parse_expressions.specs.ReadExpressions.{star, begins_sign, begins_sum, arguments_with, factor_with, further_factors_with, signed_term_with, further_terms_with, sum_in}
use Rattle.ss_parse_expressions.proofs.Rows.{with_front}
use Rattle.ss_parse_expressions.proofs.expressions.+expressions.Given as goal

abbrev pub decreases-sum : goal.decreases-sum
decreases-sum l = 16 * l.room

abbrev pub decreases-sums : goal.decreases-sums
decreases-sums l = 16 * l.room + 1

abbrev pub decreases-enclosed : goal.decreases-enclosed
decreases-enclosed l = 16 * l.room + 2

abbrev pub decreases-subscripts : goal.decreases-subscripts
decreases-subscripts l = 16 * l.room + 3

abbrev pub decreases-parenthesised : goal.decreases-parenthesised
decreases-parenthesised l = 16 * l.room + 4

abbrev pub decreases-call : goal.decreases-call
decreases-call l = 16 * l.room + 5

abbrev pub decreases-named : goal.decreases-named
decreases-named l = 16 * l.room + 6

abbrev pub decreases-factor_in_words : goal.decreases-factor_in_words
decreases-factor_in_words l = 16 * l.room + 7

abbrev pub decreases-factor : goal.decreases-factor
decreases-factor l = 16 * l.room + 8

abbrev pub decreases-further_factors : goal.decreases-further_factors
decreases-further_factors l = 16 * l.room + 9

abbrev pub decreases-term : goal.decreases-term
decreases-term l = 16 * l.room + 10

abbrev pub decreases-signed_term : goal.decreases-signed_term
decreases-signed_term l = 16 * l.room + 11

abbrev pub decreases-further_terms : goal.decreases-further_terms
decreases-further_terms l = 16 * l.room + 12

abbrev pub decreases-first_term : goal.decreases-first_term
decreases-first_term l = 16 * l.room + 13

abbrev pub invariant-sums-more : goal.invariant-sums-more
invariant-sums-more l = with_front (map view_expression_tree l.all.items) (rows (begins_more begins_sum) (λ r. sum_in l.room (skip_separator r)) l.rest) ≡ arguments_with (sum_in l.room) l.tokens

abbrev pub decreases-sums-more : goal.decreases-sums-more
decreases-sums-more l = length l.rest

abbrev pub invariant-further_factors-more : goal.invariant-further_factors-more
invariant-further_factors-more l = with_front (map view_expression_tree l.all.items) (rows (begins star) (λ r. factor_with (sum_in l.room) (skip star r)) l.rest) ≡ further_factors_with (sum_in l.room) l.tokens

abbrev pub decreases-further_factors-more : goal.decreases-further_factors-more
decreases-further_factors-more l = length l.rest

abbrev pub invariant-further_terms-more : goal.invariant-further_terms-more
invariant-further_terms-more l = with_front (map view_term l.all.items) (rows begins_sign (signed_term_with (sum_in l.room)) l.rest) ≡ further_terms_with (sum_in l.room) l.tokens

abbrev pub decreases-further_terms-more : goal.decreases-further_terms-more
decreases-further_terms-more l = length l.rest
