use Rattle.std.proofs.Common.{◌≡◌, length, map}
use Rattle.ss_lex.specs.declared.word.Word.TheVariants as words
use Rattle.ss_parse_expressions.proofs.Common.{begins, condition_in, conjunction_in, rows, skip, view_conjunction_tree, word}
use Rattle.ss_parse_expressions.proofs.Rows.{with_front}
use Rattle.ss_parse_expressions.proofs.conditions.condition.Given as goal

abbrev pub invariant-more : goal.invariant-more
invariant-more l = with_front (map view_conjunction_tree l.all.items) (rows (begins (word words.Or)) (λ r. conjunction_in l.room (skip (word words.Or) r)) l.rest) ≡ condition_in l.room l.tokens

abbrev pub decreases-more : goal.decreases-more
decreases-more l = length l.rest
