use Rattle.std.proofs.lemmas.Int.{to_z-of_z}
use Rattle.ss_records.proofs.heap.Heap.last.Goals as goal

pub returns-clause-value : goal.returns-clause-value
returns-clause-value c = let fits = c.ranges.o in rw (← c.self.view_is) (simp (c.start.ensures, to_z-of_z) at c.end.ensures.value)

pub returns-clause-same : goal.returns-clause-same
returns-clause-same c = rw (← c.self.view_is) (rw c.start.ensures at c.end.ensures.same)
