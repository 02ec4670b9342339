use Rattle.std.proofs.lemmas.Int.{to_z-of_z}
use Rattle.ss_records.proofs.heap.Heap.file_after.Goals as goal

pub returns-clause-done : goal.returns-clause-done
returns-clause-done c = let fo = c.ranges.o in let fx = c.ranges.x in let fy = c.ranges.y in rw (← c.self.view_is) (simp (c.start.ensures, to_z-of_z) at c.file_beside.ensures.done)
