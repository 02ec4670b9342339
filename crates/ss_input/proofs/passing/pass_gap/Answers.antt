use Rattle.std.proofs.Common.{rules, arith, ◌≡◌, ◌+◌, [], subst, ◌∙◌}
use Rattle.ss_input.proofs.Common.{HasPassed, is_separator, is_word_byte, IsGapPassed, IsNextWanted}
use Rattle.ss_input.proofs.Asked.{unasked_then}
use Rattle.ss_input.proofs.Passages.{gap_more, gap_stays}
use Rattle.ss_input.proofs.passing.pass_gap.Goals as goal

pub returns-then-not-branch-clause-passed : goal.returns-then-not-branch-clause-passed
returns-then-not-branch-clause-passed g c count e =
    let same : c.loop-count.count ≡ count = cc in
    let none : HasPassed g.R.FaultyRead.remaining c.loop-count.block c.pass_separator.new.block [] × IsNextWanted is_word_byte c.pass_separator.new.block = search rules in
    let passed = gap_stays g.R.FaultyRead.remaining c.args.block.now c.loop-count.block c.pass_separator.new.block c.args.before c.loop-count.count c.loop-count.invariant.passed none.0 in
    (subst (λ n. IsGapPassed g.R.FaultyRead.remaining c.args.block.now c.pass_separator.new.block c.args.before n) same passed, omega (arith, same, c.loop-count-test.true), none.1)

pub loop-count-preserved : goal.loop-count-preserved
loop-count-preserved g c = record {
  passed = gap_more g.R.FaultyRead.remaining c.args.block.now c.loop-count.block c.pass_separator.new.block c.args.before c.loop-count.count c.loop-count.invariant.passed (search rules);
  end = λ h. c.pass_separator.ensures.end (c.loop-count.invariant.end h);
  unfailed = search rules;
  unasked = unasked_then is_separator c.args.block.now c.loop-count.block c.pass_separator.new.block c.loop-count.invariant.unasked c.pass_separator.ensures.unasked;
}

pub returns-then-branch-clause-too_many : goal.returns-then-branch-clause-too_many
returns-then-branch-clause-too_many g c e =
    let at_end : c.loop-count.count ≡ 1048576 = omega (arith, c.loop-count.auto.count, c.loop-count.auto.count-end, c.loop-count-test.false, c.requires) in
    let passed = gap_more g.R.FaultyRead.remaining c.args.block.now c.loop-count.block c.pass_separator-2.new.block c.args.before c.loop-count.count c.loop-count.invariant.passed (search rules) in
    subst (λ n. IsGapPassed g.R.FaultyRead.remaining c.args.block.now c.pass_separator-2.new.block c.args.before (n + 1)) at_end passed

pub returns-else-branch-clause-passed : goal.returns-else-branch-clause-passed
returns-else-branch-clause-passed g c count e =
    let at_end : c.loop-count.count ≡ 1048576 = omega (arith, c.loop-count.auto.count, c.loop-count.auto.count-end, c.loop-count-test.false, c.requires) in
    let same : 1048576 ≡ count = cc in
    let none : HasPassed g.R.FaultyRead.remaining c.loop-count.block c.pass_separator-2.new.block [] × IsNextWanted is_word_byte c.pass_separator-2.new.block = search rules in
    let passed = gap_stays g.R.FaultyRead.remaining c.args.block.now c.loop-count.block c.pass_separator-2.new.block c.args.before c.loop-count.count c.loop-count.invariant.passed none.0 in
    (subst (λ n. IsGapPassed g.R.FaultyRead.remaining c.args.block.now c.pass_separator-2.new.block c.args.before n) (at_end ∙ same) passed, omega (arith, same), none.1)
