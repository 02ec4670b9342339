use Rattle.std.proofs.lemmas.Int.{to_z-of_z}
use Rattle.ss_records.proofs.heap.Heap.skim.Goals as goal

pub returns-clause-found : goal.returns-clause-found
returns-clause-found c = let fx = c.ranges.x in rw (← c.self.view_is) (simp (c.start.ensures, to_z-of_z) at c.skim.ensures.found)

pub returns-clause-same : goal.returns-clause-same
returns-clause-same c = rw (← c.self.view_is) (rw c.start.ensures at c.skim.ensures.same)
