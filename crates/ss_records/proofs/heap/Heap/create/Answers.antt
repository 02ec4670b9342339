use Rattle.ss_records.proofs.heap.Heap.create.Goals as goal

pub returns-clause-done : goal.returns-clause-done
returns-clause-done c = rw (← c.self.view_is) (rw c.start.ensures at c.create.ensures.done)

pub returns-clause-links : goal.returns-clause-links
returns-clause-links c = rw (← c.self.view_is) (rw c.start.ensures at c.create.ensures.links)
