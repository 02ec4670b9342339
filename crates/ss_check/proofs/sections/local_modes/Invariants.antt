use Rattle.std.proofs.Common.{◌≡◌, Some}
use Rattle.ss_names_meaning.specs.Answers.{each, upto}
use Rattle.ss_names_scopes.specs.Scopes.{local_mode}
use Rattle.ss_check.proofs.sections.local_modes.Given as goal

abbrev pub invariant-loop-number : goal.invariant-loop-number
invariant-loop-number l = each (local_mode l.locals) (upto l.number) ≡ Some l.resolved.items
