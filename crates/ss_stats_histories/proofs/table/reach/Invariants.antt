use Rattle.std.proofs.Common.{◌≡◌, ℕ, ◌+◌, ◌-◌, vec_len}
use Rattle.ss_stats_histories.specs.Places.{row_at}
use Rattle.ss_stats_histories.proofs.table.reach.Given as goal

abbrev pub invariant-loop-alloc : goal.invariant-loop-alloc
invariant-loop-alloc l = (k : ℕ) → row_at l.rows.items k ≡ row_at l.initial.rows.items k

abbrev pub decreases-loop-alloc : goal.decreases-loop-alloc
decreases-loop-alloc l = (l.key + 1) - vec_len l.rows
