use Rattle.std.proofs.Common.{◌≡◌, length, map}
use Rattle.ss_lex.specs.declared.word.Word.TheVariants as words
use Rattle.ss_parse.proofs.Common.{begins, definition, definitions, rows, view_definition, with_front, word}
use Rattle.ss_parse.proofs.reading.programs.definitions.Given as goal

abbrev pub invariant-more : goal.invariant-more
invariant-more l = with_front (map view_definition l.all.items) (rows (begins (word words.Define)) definition l.rest) ≡ definitions l.tokens

abbrev pub decreases-more : goal.decreases-more
decreases-more l = length l.rest
