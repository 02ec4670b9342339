use Rattle.std.proofs.Common.{◌≡◌, ℕ, ◌+◌, ◌-◌, vec_len}
use Rattle.ss_stats_histories.specs.Places.{table_cell}
use Rattle.ss_stats_histories.proofs.table.reach_table.Given as goal

abbrev pub invariant-loop-alloc : goal.invariant-loop-alloc
invariant-loop-alloc l = (j k : ℕ) → table_cell l.tables.items j k ≡ table_cell l.initial.tables.items j k

abbrev pub decreases-loop-alloc : goal.decreases-loop-alloc
decreases-loop-alloc l = (l.key + 1) - vec_len l.tables
