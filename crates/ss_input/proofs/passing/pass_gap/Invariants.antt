use Rattle.std.proofs.Common.{◌≡◌}
use Rattle.ss_input.proofs.Common.{is_separator, IsEndKnown, IsEnough, IsGapPassed, IsUnasked}
use Rattle.ss_input.proofs.passing.pass_gap.Given as goal

abbrev pub invariant-loop-count : goal.invariant-loop-count
invariant-loop-count g l = record {
  passed : IsGapPassed g.R.FaultyRead.remaining l.fn.block l.block l.before l.count;
  end : IsEndKnown g.R.FaultyRead.remaining l.fn.block → IsEndKnown g.R.FaultyRead.remaining l.block;
  unfailed : g.R.Faulty.faults l.block.reader ≡ g.R.Faulty.faults l.fn.block.reader;
  unasked : IsEnough is_separator l.fn.block → IsUnasked is_separator l.fn.block l.block;
}
