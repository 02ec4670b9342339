use Rattle.std.proofs.Common.{◌≡◌, take, Some}
use Rattle.ss_names_meaning.specs.Answers.{each}
use Rattle.ss_names_meaning.specs.Layouts.{discipline}
use Rattle.ss_names_meaning.proofs.ranking.disciplines_of.Given as goal

abbrev pub invariant-loop-tree : goal.invariant-loop-tree
invariant-loop-tree l = each (discipline l.names) (take l.tree-index l.trees) ≡ Some l.resolved.items
