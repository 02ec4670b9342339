use Rattle.std.proofs.lemmas.Int.{to_z-of_z}
use Rattle.ss_records.proofs.heap.Heap.file_last.Goals as goal

pub returns-clause-done : goal.returns-clause-done
returns-clause-done c = let fo = c.ranges.o in let fx = c.ranges.x in rw (← c.self.view_is) (simp to_z-of_z at c.file_end.ensures.done)
