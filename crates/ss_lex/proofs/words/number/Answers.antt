use Rattle.std.proofs.Common.{◌≡◌, arith, true, nat_lt}
use Rattle.ss_lex.specs.Words.{number_from, largest_number}
use Rattle.ss_lex.proofs.Numbers.{too_large}
use Rattle.ss_lex.proofs.words.number.Goals as goal

pub returns-then-n : goal.returns-then-n
returns-then-n c =
    let test : nat_lt largest_number (number_from 0 c.args.digits.now) ≡ true = too_large c.args.digits.now c.digits.n c.digits.b-index c.digits-test.true c.digits.invariant (omega arith) in
    rw test
