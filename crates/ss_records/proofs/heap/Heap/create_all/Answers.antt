use Rattle.std.proofs.lemmas.Int.{to_z-of_z}
use Rattle.ss_records.proofs.heap.Heap.create_all.Goals as goal

pub returns-clause-done : goal.returns-clause-done
returns-clause-done c = let fits = c.ranges.n in rw (← c.self.view_is) (simp (c.start.ensures, to_z-of_z) at c.create_all.ensures.done)

pub returns-clause-links : goal.returns-clause-links
returns-clause-links c = let fits = c.ranges.n in rw (← c.self.view_is) (simp (c.start.ensures, to_z-of_z) at c.create_all.ensures.links)
