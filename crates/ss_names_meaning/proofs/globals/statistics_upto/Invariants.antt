use Rattle.std.proofs.Common.{◌≡◌, Some}
use Rattle.ss_names_meaning.specs.Answers.{each, upto}
use Rattle.ss_names_meaning.specs.Layouts.{resolved_statistic}
use Rattle.ss_names_meaning.proofs.globals.statistics_upto.Given as goal

abbrev pub invariant-loop-number : goal.invariant-loop-number
invariant-loop-number l = each (resolved_statistic l.names) (upto l.number) ≡ Some l.resolved.items
