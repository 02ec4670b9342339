use Rattle.std.proofs.Common.{◌≡◌, true, drop, if◌then◌else◌}
use Rattle.ss_code_instructions.specs.Facts.{watch}
use Rattle.ss_code_pieces.proofs.facts.is_watched.Given as goal

abbrev pub invariant-loop-statistic : goal.invariant-loop-statistic
invariant-loop-statistic l = (if l.watched then true else watch (drop l.statistic-index l.statistics) l.subject) ≡ watch l.statistics l.subject
