use Rattle.std.proofs.Common.{sym, ◌∙◌, ◌≡◌, take, arith}
use Rattle.ss_lex.specs.Words.{without_end_periods}
use Rattle.ss_lex.proofs.Periods.{one_less, none_dropped}
use Rattle.ss_lex.proofs.words.without_end_periods.Goals as goal
use Rattle.ss_lex.proofs.words.without_end_periods.Goals.{then-periods-test+else-word-end-eq46, else-periods-test}

pub periods-preserved : goal.periods-preserved
periods-preserved c = record { in_range = omega arith; same = one_less c.args.word.now c.periods.end (omega arith) (omega arith) c.if-word-end-eq46.true ∙ c.periods.invariant.same }

pub returns : goal.returns
returns c =
    let same = c.periods.invariant.same in
    let all : without_end_periods (take c.periods.end c.args.word.now) ≡ take c.periods.end c.args.word.now = elim c.periods-test.branch [
      | then-periods-test+else-word-end-eq46 w ↦ none_dropped c.args.word.now c.periods.end (omega arith) (omega arith) w.if-word-end-eq46.false
      | else-periods-test w ↦ (let z : c.periods.end ≡ 0 = omega arith in rw z)
    ] in
    sym all ∙ same
