use Rattle.std.proofs.lemmas.Int.{to_z-of_z}
use Rattle.ss_records.proofs.heap.Heap.set_time_a.Goals as goal

pub returns-clause-done : goal.returns-clause-done
returns-clause-done c = let fits = c.ranges.r in let fit = c.ranges.t in rw (← c.self.view_is) (simp (c.start.ensures, to_z-of_z) at c.set_time.ensures.done)
