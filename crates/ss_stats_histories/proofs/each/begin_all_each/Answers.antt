use Rattle.std.proofs.Common.{◌<◌, length, map, to_z, of_z, w64, arith}
use Rattle.std.proofs.lemmas.List.Elements.{All-set}
use Rattle.ss_stats_histories.proofs.Common.{begun_shown, HasRoom, is_up_to, IsKeptUntil, shown}
use Rattle.ss_stats_histories.proofs.Columns.{one_further, from_on}
use Rattle.ss_stats_histories.proofs.each.begin_all_each.Goals as goal

pub loop-place-preserved : goal.loop-place-preserved
loop-place-preserved c =
    let ks = c.loop-place.kept in
    let j = c.loop-place.place in
    let l = c.args.layout.now in
    let n = to_z w64 (of_z w64 c.args.count) in
    let now = to_z w64 (of_z w64 c.args.now) in
    let within : j < length ks = omega (arith, c.loop-place.auto.kept) in (
      one_further shown (begun_shown l c.args.whose (is_up_to n) now) (map shown c.args.kept.now) ks j c.begin_all_one.new.kept _ c.loop-place.invariant.0 within c.begin_all_one.ensures.shown,
      from_on (HasRoom l c.args.whose n) ks j c.begin_all_one.new.kept c.loop-place.invariant.1,
      All-set (IsKeptUntil now) ks j c.begin_all_one.new.kept c.begin_all_one.ensures.until c.loop-place.invariant.2,
    )
