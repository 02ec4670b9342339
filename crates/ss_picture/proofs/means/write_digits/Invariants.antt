use Rattle.std.proofs.Common.{◌≡◌, ◌≤◌, ◌++◌, length, drop}
use Rattle.ss_picture.specs.Numerals.{last_digits}
use Rattle.ss_picture.proofs.means.write_digits.Given as goal

abbrev pub invariant-loop-end : goal.invariant-loop-end
invariant-loop-end l = record {
  within : l.end ≤ length l.place;
  digits : last_digits l.end l.left ++ drop l.end l.place ≡ last_digits (length l.initial.place) l.number;
}

abbrev pub decreases-loop-end : goal.decreases-loop-end
decreases-loop-end l = l.end
