use Rattle.std.proofs.lemmas.Int.{to_z-of_z}
use Rattle.ss_records.proofs.heap.Heap.set_text.Goals as goal

pub returns-clause-done : goal.returns-clause-done
returns-clause-done c = let fits = c.ranges.r in rw (← c.self.view_is) (simp (c.start.ensures, to_z-of_z) at c.set_value.ensures.done)
