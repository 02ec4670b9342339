use Rattle.std.proofs.lemmas.Int.{to_z-of_z}
use Rattle.ss_records.proofs.heap.Heap.may_destroy.Goals as goal

pub returns-clause-value : goal.returns-clause-value
returns-clause-value c = let fits = c.ranges.r in rw (← c.self.view_is) (simp (c.start.ensures, to_z-of_z) at c.may_destroy.ensures.value)

pub returns-clause-same : goal.returns-clause-same
returns-clause-same c = rw (← c.self.view_is) (rw c.start.ensures at c.may_destroy.ensures.same)

pub returns-clause-looked : goal.returns-clause-looked
returns-clause-looked c = rw (← c.self.view_is) (rw c.start.ensures at c.may_destroy.ensures.looked)
