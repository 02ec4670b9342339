use Rattle.std.proofs.Common.{◌≡◌, ◌≤◌, length, take}
use Rattle.ss_lex.specs.Words.{without_end_periods}
use Rattle.ss_lex.proofs.words.without_end_periods.Given as goal

abbrev pub invariant-periods : goal.invariant-periods
invariant-periods l = record { in_range : l.end ≤ length l.word; same : without_end_periods (take l.end l.word) ≡ without_end_periods l.word }

abbrev pub decreases-periods : goal.decreases-periods
decreases-periods l = l.end
