use Rattle.std.proofs.Common.{◌≤◌, List, [], length, drop}
use Rattle.ss_machine_world.proofs.Common.{AreSaid, AreSaidFrom, PlainLayout, Statistic}
use Rattle.ss_machine_world.proofs.class.note_ranks.Given as goal

abbrev pub invariant-loop-rank : goal.invariant-loop-rank
invariant-loop-rank l = record {
  within : l.rank ≤ length l.notices;
  said : (p : PlainLayout) (ss : List Statistic) → AreSaid p [] ss l.initial.classes → AreSaidFrom l.rank p (drop l.rank l.notices) ss l.classes;
}

abbrev pub decreases-loop-rank : goal.decreases-loop-rank
decreases-loop-rank l = l.rank
