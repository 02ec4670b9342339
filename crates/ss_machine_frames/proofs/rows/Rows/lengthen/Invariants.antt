use Rattle.std.proofs.Common.{◌≤◌, ◌-◌, length}
use Rattle.ss_machine_frames.proofs.Lists.{GrownEven}
use Rattle.ss_machine_frames.proofs.rows.Rows.lengthen.Given as goal

abbrev pub invariant-loop-self : goal.invariant-loop-self
invariant-loop-self l =
    record {
      grown : GrownEven l.fn.self l.self;
      most : length l.fn.self.numbers ≤ l.count → length l.self.numbers ≤ l.count;
    }

abbrev pub decreases-loop-self : goal.decreases-loop-self
decreases-loop-self l = l.count - length l.self.numbers
