use Rattle.std.proofs.lemmas.Int.{to_z-of_z}
use Rattle.ss_records.proofs.heap.Heap.first_past.Goals as goal

pub returns-clause-found : goal.returns-clause-found
returns-clause-found c = let fo = c.ranges.o in let fn = c.ranges.own in rw (← c.self.view_is) (simp (c.start.ensures, to_z-of_z) at c.first_past.ensures.found)

pub returns-clause-same : goal.returns-clause-same
returns-clause-same c = rw (← c.self.view_is) (rw c.start.ensures at c.first_past.ensures.same)

pub returns-clause-touches : goal.returns-clause-touches
returns-clause-touches c = let fo = c.ranges.o in let fn = c.ranges.own in rw (← c.self.view_is) (simp (c.start.ensures, to_z-of_z) at c.first_past.ensures.touches)
