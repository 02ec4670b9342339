use Rattle.std.proofs.Common.{◌≡◌, map, take}
use Rattle.ss_stats_histories.specs.Each.{shown, refused_at, first_at}
use Rattle.ss_stats_histories.proofs.each.first_refused.Given as goal

abbrev pub invariant-loop-place : goal.invariant-loop-place
invariant-loop-place l = l.found ≡ first_at (refused_at l.entity (map shown l.kept)) (take l.place-index l.places)
