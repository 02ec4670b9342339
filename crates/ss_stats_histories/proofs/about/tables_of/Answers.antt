use Rattle.std.proofs.Common.{arith}
use Rattle.ss_stats_histories.specs.Places.{is_about}
use Rattle.ss_stats_histories.proofs.Places.{next_place}
use Rattle.ss_stats_histories.proofs.about.tables_of.Goals as goal

pub loop-place-preserved : goal.loop-place-preserved
loop-place-preserved c s =
    next_place (is_about s) c.args.statistics.now c.loop-place.place _ _ _ (omega arith) (c.loop-place.invariant s) (c.in_ok-add.ensures s)
