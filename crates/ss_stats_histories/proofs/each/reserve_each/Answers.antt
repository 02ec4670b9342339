use Rattle.std.proofs.Common.{◌<◌, length, to_z, of_z, w64, ◌∙◌, arith}
use Rattle.std.proofs.Math.Seq.{map-set_same}
use Rattle.ss_stats_histories.specs.Each.{bare, HasRoom}
use Rattle.ss_stats_histories.proofs.Columns.{so_far}
use Rattle.ss_stats_histories.proofs.each.reserve_each.Goals as goal

pub returns-in_err-reserve_one-clause-bare : goal.returns-in_err-reserve_one-clause-bare
returns-in_err-reserve_one-clause-bare c =
    map-set_same bare c.loop-place.kept c.loop-place.place c.reserve_one.new.kept _ c.reserve_one.ensures.bare ∙ c.loop-place.invariant.0

pub loop-place-preserved : goal.loop-place-preserved
loop-place-preserved c =
    let ks = c.loop-place.kept in
    let j = c.loop-place.place in
    let within : j < length ks = omega (arith, c.loop-place.auto.kept) in (
      map-set_same bare ks j c.reserve_one.new.kept _ c.reserve_one.ensures.bare ∙ c.loop-place.invariant.0,
      so_far (HasRoom c.args.layout.now c.args.whose (to_z w64 (of_z w64 c.args.count))) ks j c.reserve_one.new.kept c.loop-place.invariant.1 c.in_ok-reserve_one.ensures.room within,
    )
