use Rattle.std.proofs.lemmas.Int.{to_z-of_z}
use Rattle.ss_records.proofs.heap.Heap.count.Goals as goal

pub returns-clause-value : goal.returns-clause-value
returns-clause-value c = let fits = c.ranges.o in rw (← c.self.view_is) (simp to_z-of_z at c.count.ensures.value)

pub returns-clause-same : goal.returns-clause-same
returns-clause-same c = rw (← c.self.view_is) c.count.ensures.same
