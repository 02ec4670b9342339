use Rattle.std.proofs.Common.{◌≡◌, drop}
use Rattle.ss_lex.specs.Words.{number_from}
use Rattle.ss_lex.proofs.words.number.Given as goal

abbrev pub invariant-digits : goal.invariant-digits
invariant-digits l = number_from l.n (drop l.b-index l.digits) ≡ number_from 0 l.digits
