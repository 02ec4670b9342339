use Rattle.std.proofs.Common.{◌≡◌, ◌<◌, length, map, get_or, to_z, of_z, w64, sym, ap, subst, ◌∙◌, arith}
use Rattle.std.proofs.lemmas.List.Elements.{All-set}
use Rattle.std.proofs.lemmas.List.Sums.{fold_more}
use Rattle.ss_stats_histories.proofs.Common.{changed_at, column_of, IsKeptUntil, IsUntil, noted_one, shown}
use Rattle.ss_stats_histories.proofs.Columns.{until_noted, one_changed}
use Rattle.ss_stats_histories.proofs.each.note_each.Goals as goal

pub loop-place-preserved : goal.loop-place-preserved
loop-place-preserved c =
    let ks = c.loop-place.kept in
    let i = c.loop-place.place-index in
    let d = c.index-kept-place.result in
    let j = get_or c.args.places.now i 0 in
    let x = to_z w64 (of_z w64 c.args.entity) in
    let now = to_z w64 (of_z w64 c.args.now) in
    let v = to_z w64 (of_z w64 c.args.value) in
    let lt : i < length c.args.places.now = omega arith in
    let within : j < length ks = omega (arith, c.requires.within i 0 lt, c.loop-place.auto.kept) in
    let one : shown c.note.new.self ≡ noted_one x now v (shown (get_or ks j d)) = λ t. (c.note.ensures.statistic t, c.note.ensures.column t) in (
      one_changed shown (noted_one x now v) ks j c.note.new.self d within one ∙ ap (λ zs. changed_at (noted_one x now v) zs j) c.loop-place.invariant.0 ∙
          sym (fold_more (changed_at (noted_one x now v)) (map shown c.args.kept.now) c.args.places.now i 0 lt),
      All-set (IsKeptUntil now) ks j c.note.new.self (subst (IsUntil now) (sym c.note.ensures.column) (until_noted now v x (column_of (get_or ks j d).rows) (c.loop-place.invariant.1 j d within))) c.loop-place.invariant.1,
    )
