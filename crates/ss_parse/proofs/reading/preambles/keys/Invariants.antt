use Rattle.std.proofs.Common.{◌≡◌, length}
use Rattle.ss_lex.specs.declared.word.Word.TheVariants as words
use Rattle.ss_parse.proofs.Common.{begins_noisy, rows, with_front, word}
use Rattle.ss_parse.specs.ReadPreambles.{then_key, keys}
use Rattle.ss_parse.proofs.reading.preambles.keys.Given as goal

abbrev pub invariant-more : goal.invariant-more
invariant-more l = with_front l.all.items (rows (begins_noisy (word words.Then)) then_key l.rest) ≡ keys l.tokens

abbrev pub decreases-more : goal.decreases-more
decreases-more l = length l.rest
