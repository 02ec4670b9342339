use Rattle.std.proofs.Common.{◌≡◌, length, map}
use Rattle.ss_lex.specs.declared.word.Word.TheVariants as words
use Rattle.ss_parse_expressions.proofs.Common.{begins, conjunction_in, rows, skip, test_in, view_test_tree, word}
use Rattle.ss_parse_expressions.proofs.Rows.{with_front}
use Rattle.ss_parse_expressions.proofs.conditions.conjunction.Given as goal

abbrev pub invariant-more : goal.invariant-more
invariant-more l = with_front (map view_test_tree l.all.items) (rows (begins (word words.And)) (λ r. test_in l.room (skip (word words.And) r)) l.rest) ≡ conjunction_in l.room l.tokens

abbrev pub decreases-more : goal.decreases-more
decreases-more l = length l.rest
