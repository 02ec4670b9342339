use Rattle.std.proofs.Common.{[]}
use Rattle.ss_stats.specs.History.{Accumulate}
use Rattle.ss_stats_histories.proofs.ghost_history.GhostHistory.accumulate.Given as goal

abbrev pub ghost-become_history : goal.ghost-become_history
ghost-become_history a = Accumulate (record { moment = a.now; value = a.value }) []
