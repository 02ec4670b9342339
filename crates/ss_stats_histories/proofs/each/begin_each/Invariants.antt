use Rattle.std.proofs.Common.{◌≡◌, ℕ, ◌≤◌, ◌<◌, ◌++◌, length, map, pos, take, drop, get_or, int_eq, All}
use Rattle.ss_stats_histories.proofs.Common.{begun_shown, HasRoom, IsKeptUntil, Recorded, shown}
use Rattle.ss_stats_histories.proofs.each.begin_each.Given as goal

abbrev pub invariant-loop-place : goal.invariant-loop-place
invariant-loop-place l =
    (map shown l.kept ≡ map (begun_shown l.layout l.whose (int_eq l.entity) l.now) (take l.place (map shown l.initial.kept)) ++ drop l.place (map shown l.initial.kept)) ×
    ((k : ℕ) (d : Recorded) → l.place ≤ k → k < length l.kept → HasRoom l.layout l.whose (pos 1) (get_or l.kept k d)) × All (IsKeptUntil l.now) l.kept
