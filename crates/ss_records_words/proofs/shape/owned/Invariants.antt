use Rattle.std.proofs.Common.{◌≡◌, ◌+◌, drop, ◌≤◌}
use Rattle.ss_records_words.specs.Shape.{owned_by, count_sets}
use Rattle.ss_records_words.proofs.shape.owned.Given as goal

abbrev pub invariant-loop-set : goal.invariant-loop-set
invariant-loop-set l = record { done : l.count + count_sets (owned_by l.owner) (drop l.set-index l.sets) ≡ count_sets (owned_by l.owner) l.sets; bound : l.count ≤ l.set-index }
