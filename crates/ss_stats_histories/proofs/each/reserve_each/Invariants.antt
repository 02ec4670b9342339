use Rattle.std.proofs.Common.{◌≡◌, ℕ, ◌<◌, map, get_or}
use Rattle.ss_stats_histories.proofs.Common.{bare, HasRoom, Recorded}
use Rattle.ss_stats_histories.proofs.each.reserve_each.Given as goal

abbrev pub invariant-loop-place : goal.invariant-loop-place
invariant-loop-place l =
    (map bare l.kept ≡ map bare l.initial.kept) × ((k : ℕ) (d : Recorded) → k < l.place → HasRoom l.layout l.whose l.count (get_or l.kept k d))
