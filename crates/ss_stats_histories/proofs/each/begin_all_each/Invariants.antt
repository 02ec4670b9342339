use Rattle.std.proofs.Common.{◌≡◌, ℕ, ◌≤◌, ◌<◌, ◌++◌, length, map, take, drop, get_or, All}
use Rattle.ss_stats_histories.proofs.Common.{begun_shown, HasRoom, is_up_to, IsKeptUntil, Recorded, shown}
use Rattle.ss_stats_histories.proofs.each.begin_all_each.Given as goal

abbrev pub invariant-loop-place : goal.invariant-loop-place
invariant-loop-place l =
    (map shown l.kept ≡ map (begun_shown l.layout l.whose (is_up_to l.count) l.now) (take l.place (map shown l.initial.kept)) ++ drop l.place (map shown l.initial.kept)) ×
    ((k : ℕ) (d : Recorded) → l.place ≤ k → k < length l.kept → HasRoom l.layout l.whose l.count (get_or l.kept k d)) × All (IsKeptUntil l.now) l.kept
