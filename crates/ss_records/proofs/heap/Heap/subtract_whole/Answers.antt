use Rattle.std.proofs.lemmas.Int.{to_z-of_z}
use Rattle.ss_records.proofs.heap.Heap.subtract_whole.Goals as goal

pub returns-clause-done : goal.returns-clause-done
returns-clause-done c = let fr = c.ranges.r in let fn = c.ranges.n in rw (← c.self.view_is) (simp (c.start.ensures, to_z-of_z) at c.change_whole.ensures.done)
