use Rattle.std.proofs.Common.{◌≡◌, pos, ◌≤ℤ◌, ◌+ℤ◌}
use Rattle.ss_stats_histories.proofs.Common.{at_start, begun_in, column_of, is_up_to}
use Rattle.ss_stats_histories.proofs.kept.Kept.begin_all.Given as goal

abbrev pub invariant-loop-entity : goal.invariant-loop-entity
invariant-loop-entity l =
    (l.self.statistic ≡ l.initial.self.statistic) ×
    (column_of l.self.rows ≡ begun_in (is_up_to l.entity) (at_start l.initial.self.statistic.weighting l.now) (column_of l.initial.self.rows)) ×
    (l.count ≤ℤ (l.entity +ℤ pos l.self.room)) ×
    (pos 0 ≤ℤ l.entity) × (pos 1 ≤ℤ l.count → l.entity ≤ℤ l.count) × (l.count ≤ℤ pos 0 → l.entity ≤ℤ pos 0)
