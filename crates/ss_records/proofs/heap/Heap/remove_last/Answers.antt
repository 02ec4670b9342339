use Rattle.std.proofs.lemmas.Int.{to_z-of_z}
use Rattle.ss_records.proofs.heap.Heap.remove_last.Goals as goal

pub returns-clause-done : goal.returns-clause-done
returns-clause-done c = let fo = c.ranges.o in rw (← c.self.view_is) (simp to_z-of_z at c.remove_end.ensures.done)
