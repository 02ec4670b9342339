use Rattle.ss_stats.specs.History.{with_noted_value}
use Rattle.ss_stats_histories.proofs.ghost_history.GhostHistory.note.Given as goal

abbrev pub ghost-become_history : goal.ghost-become_history
ghost-become_history a = with_noted_value a.self.now.history a.now a.value
