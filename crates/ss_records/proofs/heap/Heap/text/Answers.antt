use Rattle.std.proofs.lemmas.Int.{to_z-of_z}
use Rattle.ss_records.proofs.heap.Heap.text.Goals as goal

pub returns : goal.returns
returns c = let fits = c.ranges.r in rw (← c.self.view_is) (simp to_z-of_z at c.text.ensures)
