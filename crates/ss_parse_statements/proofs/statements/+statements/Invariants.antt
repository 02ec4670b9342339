use Rattle.std.proofs.Common.{◌≡◌, ◌+◌, ◌*◌, length, map}
use Rattle.ss_parse_statements.proofs.Common.{view_statement_tree, with_front}
use Rattle.ss_parse_expressions.specs.Reading.{rows, skip_comma}
use Rattle.ss_parse_statements.specs.ReadStatements.{begins_statement, statement_in, statements_in}
use Rattle.ss_parse_statements.proofs.statements.+statements.Given as goal

abbrev pub decreases-statements : goal.decreases-statements
decreases-statements l = 16 * l.room + 1

abbrev pub decreases-otherwise : goal.decreases-otherwise
decreases-otherwise l = 16 * l.room + 2

abbrev pub decreases-branches : goal.decreases-branches
decreases-branches l = 16 * l.room + 3

abbrev pub decreases-do_body : goal.decreases-do_body
decreases-do_body l = 16 * l.room + 3

abbrev pub decreases-governed : goal.decreases-governed
decreases-governed l = 16 * l.room + 3

abbrev pub decreases-body : goal.decreases-body
decreases-body l = 16 * l.room + 4

abbrev pub decreases-loop_form : goal.decreases-loop_form
decreases-loop_form l = 16 * l.room + 5

abbrev pub decreases-outcome_and_branches : goal.decreases-outcome_and_branches
decreases-outcome_and_branches l = 16 * l.room + 4

abbrev pub decreases-find_if_form : goal.decreases-find_if_form
decreases-find_if_form l = 16 * l.room + 5

abbrev pub decreases-find_form : goal.decreases-find_form
decreases-find_form l = 16 * l.room + 6

abbrev pub decreases-if_form : goal.decreases-if_form
decreases-if_form l = 16 * l.room + 4

abbrev pub decreases-for_form : goal.decreases-for_form
decreases-for_form l = 16 * l.room + 7

abbrev pub decreases-guarded_form : goal.decreases-guarded_form
decreases-guarded_form l = 16 * l.room + 6

abbrev pub decreases-nested_form : goal.decreases-nested_form
decreases-nested_form l = 16 * l.room + 8

abbrev pub decreases-statement : goal.decreases-statement
decreases-statement l = 16 * l.room + 0

abbrev pub invariant-statements-more : goal.invariant-statements-more
invariant-statements-more l = with_front (map view_statement_tree l.all.items) (rows begins_statement (λ r. statement_in l.room (skip_comma r)) l.rest) ≡ statements_in l.room l.tokens

abbrev pub decreases-statements-more : goal.decreases-statements-more
decreases-statements-more l = length l.rest
