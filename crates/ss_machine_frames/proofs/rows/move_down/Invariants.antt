use Rattle.ss_machine_frames.proofs.Lists.{GoingDown}
use Rattle.ss_machine_frames.proofs.rows.move_down.Given as goal

abbrev pub invariant-loop-i : goal.invariant-loop-i
invariant-loop-i g l = GoingDown l.fn.row l.row l.from l.to l.i
