use Rattle.std.proofs.Common.{ℕ, ◌+◌, ap, ◌∙◌, arith}
use Rattle.ss_stats_histories.proofs.Unstarted.{statistic_more, row_more}
use Rattle.ss_stats_histories.proofs.each.none_started.Goals as goal

pub loop-statistic-preserved : goal.loop-statistic-preserved
loop-statistic-preserved c =
    let ks = c.loop-statistic.kept.items in
    let ns = c.push_reserved.new.self.items in
    let i = c.loop-statistic.statistic-index in
    record {
      statistics = statistic_more ks ns c.new.result c.args.statistics.now i _ c.loop-statistic-test.true c.new.ensures.statistic c.push_reserved.ensures.items c.loop-statistic.invariant.statistics;
      rows = row_more ks ns c.new.result c.args.statistics.now i c.new.result.statistic c.loop-statistic-test.true c.new.ensures.rows c.push_reserved.ensures.items c.loop-statistic.invariant.rows;
      len = c.push_reserved.ensures.len ∙ ap (λ (n : ℕ). n + 1) c.loop-statistic.invariant.len;
      room = omega (arith, c.loop-statistic.invariant.room, c.push_reserved.ensures.capacity);
    }
