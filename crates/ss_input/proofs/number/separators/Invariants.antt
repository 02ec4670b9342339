use Rattle.std.proofs.Common.{◌≡◌, true, take}
use Rattle.ss_input.proofs.Common.{is_separator, list_all}
use Rattle.ss_input.proofs.number.separators.Given as goal

abbrev pub invariant-loop-count : goal.invariant-loop-count
invariant-loop-count l = record {
  all : list_all is_separator (take l.count l.bytes) ≡ true;
}
