use Rattle.std.proofs.lemmas.Int.{to_z-of_z}
use Rattle.ss_records.proofs.heap.Heap.destroy.Goals as goal

pub returns-clause-done : goal.returns-clause-done
returns-clause-done c = let fits = c.ranges.r in rw (← c.self.view_is) (simp (c.start.ensures, to_z-of_z) at c.destroy.ensures.done)

pub returns-clause-looked : goal.returns-clause-looked
returns-clause-looked c = rw (← c.self.view_is) (rw c.start.ensures at c.destroy.ensures.looked)
