use Rattle.std.proofs.Common.{◌≡◌, take, Some}
use Rattle.ss_names_meaning.specs.Answers.{each}
use Rattle.ss_names_meaning.specs.Layouts.{set_layout}
use Rattle.ss_names_meaning.proofs.layouts.sets_laid.Given as goal

abbrev pub invariant-loop-tree : goal.invariant-loop-tree
invariant-loop-tree l = each set_layout (take l.tree-index l.trees) ≡ Some l.resolved.items
