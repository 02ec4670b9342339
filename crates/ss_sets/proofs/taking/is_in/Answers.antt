use Rattle.std.proofs.lemmas.Int.{to_z-of_z}
use Rattle.ss_sets.proofs.taking.is_in.Goals as goal

pub returns-clause-value : goal.returns-clause-value
returns-clause-value c = let fo = c.ranges.o in let fx = c.ranges.x in simp to_z-of_z at c.is_in.ensures.value
