use Rattle.std.proofs.Common.{◌≡◌, ◌++◌, map, take, drop, All}
use Rattle.ss_stats_histories.specs.Each.{shown, IsKeptUntil, ended_shown}
use Rattle.ss_stats_histories.proofs.each.end_each.Given as goal

abbrev pub invariant-loop-place : goal.invariant-loop-place
invariant-loop-place l =
    (map shown l.kept ≡ map (ended_shown l.layout l.whose l.entity) (take l.place (map shown l.initial.kept)) ++ drop l.place (map shown l.initial.kept)) ×
    All (IsKeptUntil l.latest) l.kept
