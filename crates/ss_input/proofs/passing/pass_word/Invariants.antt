use Rattle.std.proofs.Common.{◌≡◌, length, take}
use Rattle.ss_input.proofs.Common.{is_word_byte, IsEndKnown, IsEnough, IsUnasked, IsWordPassed}
use Rattle.ss_input.proofs.passing.pass_word.Given as goal

abbrev pub invariant-loop-count : goal.invariant-loop-count
invariant-loop-count g l = record {
  passed : IsWordPassed g.R.FaultyRead.remaining l.fn.block l.block (take l.count l.word);
  size : length l.word ≡ 64;
  end : IsEndKnown g.R.FaultyRead.remaining l.fn.block → IsEndKnown g.R.FaultyRead.remaining l.block;
  unfailed : g.R.Faulty.faults l.block.reader ≡ g.R.Faulty.faults l.fn.block.reader;
  unasked : IsEnough is_word_byte l.fn.block → IsUnasked is_word_byte l.fn.block l.block;
}
