use Rattle.std.proofs.Common.{◌≡◌, Some}
use Rattle.ss_names_meaning.specs.Answers.{each, upto}
use Rattle.ss_names_meaning.specs.Layouts.{class_layout}
use Rattle.ss_names_meaning.proofs.layouts.classes_laid.Given as goal

abbrev pub invariant-loop-number : goal.invariant-loop-number
invariant-loop-number l = each (class_layout l.names) (upto l.number) ≡ Some l.resolved.items
