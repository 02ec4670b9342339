use Rattle.std.proofs.Common.{◌≡◌, ◌+◌, ◌-◌, ◌≤◌, ◌∷◌}
use Rattle.ss_sets.proofs.Common.{before_where, is_after, member_class, owned, ranks_after}
use Rattle.ss_sets.proofs.Walking.{Reached}
use Rattle.ss_sets.proofs.ranking.walk.Given as goal

-- x passes the members before this one
abbrev pub invariant-loop-y : goal.invariant-loop-y
invariant-loop-y l =
    let st = l.fn.heap.state in
    record {
      same : l.heap.state ≡ st;
      since : l.fn.heap.total ≤ l.heap.total;
      reached : Reached st l.set l.o (λ y. ranks_after st (member_class st.layout l.set) (l.rank.key ∷ l.others) y l.rank.x) l.fn.heap.total l.heap.total l.y;
    }

abbrev pub decreases-loop-y : goal.decreases-loop-y
decreases-loop-y l =
    let st = l.fn.heap.state in
    l.fn.heap.total + 2 + before_where (is_after st (member_class st.layout l.set) (l.rank.key ∷ l.others) l.rank.x) (owned st l.set l.o) - l.heap.total
