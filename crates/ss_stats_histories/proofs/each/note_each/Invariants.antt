use Rattle.std.proofs.Common.{◌≡◌, map, fold, take}
use Rattle.std.specs.List.{All}
use Rattle.ss_stats_histories.specs.Each.{shown, IsKeptUntil, noted_one, changed_at}
use Rattle.ss_stats_histories.proofs.each.note_each.Given as goal

abbrev pub invariant-loop-place : goal.invariant-loop-place
invariant-loop-place l =
    (map shown l.kept ≡ fold (changed_at (noted_one l.entity l.now l.value)) (map shown l.initial.kept) (take l.place-index l.places)) × All (IsKeptUntil l.now) l.kept
