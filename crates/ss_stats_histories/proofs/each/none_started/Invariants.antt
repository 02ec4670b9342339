use Rattle.std.proofs.Common.{◌≡◌, ◌≤◌, length, map, take}
use Rattle.ss_stats_histories.specs.Records.{statistics_of, rows_of, none_in}
use Rattle.ss_stats_histories.proofs.each.none_started.Given as goal

abbrev pub invariant-loop-statistic : goal.invariant-loop-statistic
invariant-loop-statistic l =
    record {
      statistics : statistics_of l.kept.items ≡ take l.statistic-index l.statistics;
      rows : rows_of l.kept.items ≡ map none_in (take l.statistic-index l.statistics);
      len : l.kept.len ≡ l.statistic-index;
      room : length l.statistics ≤ l.kept.cap;
    }
