use Rattle.std.proofs.Common.{◌≡◌, drop}
use Rattle.ss_world.specs.Disciplines.{ranks_after}
use Rattle.ss_sets.proofs.ranking.ranks_after.Given as goal

abbrev pub invariant-loop-key : goal.invariant-loop-key
invariant-loop-key l = ranks_after l.heap.state l.class (drop l.key-index l.keys) l.y l.x ≡ ranks_after l.heap.state l.class l.keys l.y l.x
