use Rattle.std.proofs.Common.{◌≡◌, ◌≤◌, ◌<◌, true, length, take}
use Rattle.ss_input.proofs.Common.{digits_from, is_digit, list_all}
use Rattle.ss_input.proofs.number.leading_number.Given as goal

abbrev pub invariant-loop-count : goal.invariant-loop-count
invariant-loop-count l = record {
  long : l.count ≤ length l.bytes;
  digits : list_all is_digit (take l.count l.bytes) ≡ true;
  value : l.value ≡ digits_from 0 (take l.count l.bytes);
  small : l.value < 1000000000000000000;
}
