use Rattle.std.proofs.Common.{◌≡◌, take, min, true}
use Rattle.ss_input.proofs.Common.{cap, digits_from, is_digit, list_all}
use Rattle.ss_input.proofs.number.digits.Given as goal

abbrev pub invariant-loop-byte : goal.invariant-loop-byte
invariant-loop-byte l = record {
  all : list_all is_digit (take l.byte-index l.bytes) ≡ true;
  value : l.value ≡ min (digits_from 0 (take l.byte-index l.bytes)) cap;
}
