use Rattle.std.proofs.Common.{◌≡◌, ◌+◌, drop, ◌≤◌}
use Rattle.ss_records_words.specs.Shape.{joins, count_sets}
use Rattle.ss_records_words.proofs.shape.joining.Given as goal

abbrev pub invariant-loop-set : goal.invariant-loop-set
invariant-loop-set l = record { done : l.count + count_sets (joins l.class) (drop l.set-index l.sets) ≡ count_sets (joins l.class) l.sets; bound : l.count ≤ l.set-index }
