use Rattle.ss_stats.specs.History.{restarted}
use Rattle.ss_stats_histories.proofs.ghost_history.GhostHistory.restart.Given as goal

abbrev pub ghost-become_history : goal.ghost-become_history
ghost-become_history a = restarted a.self.now.history a.now a.value
