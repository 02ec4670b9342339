use Rattle.std.proofs.Common.{◌<◌, length, map, to_z, of_z, w64, arith}
use Rattle.std.proofs.lemmas.List.Elements.{All-set}
use Rattle.ss_stats_histories.specs.Each.{shown, IsKeptUntil, ended_shown}
use Rattle.ss_stats_histories.proofs.Columns.{one_further}
use Rattle.ss_stats_histories.proofs.each.end_each.Goals as goal

pub loop-place-preserved : goal.loop-place-preserved
loop-place-preserved c =
    let ks = c.loop-place.kept in
    let j = c.loop-place.place in
    let x = to_z w64 (of_z w64 c.args.entity) in
    let latest = to_z w64 (of_z w64 c.args.latest) in
    let within : j < length ks = omega (arith, c.loop-place.auto.kept) in (
      one_further shown (ended_shown c.args.layout.now c.args.whose x) (map shown c.args.kept.now) ks j c.end_one.new.kept _ c.loop-place.invariant.0 within c.end_one.ensures.shown,
      All-set (IsKeptUntil latest) ks j c.end_one.new.kept c.end_one.ensures.until c.loop-place.invariant.1,
    )
