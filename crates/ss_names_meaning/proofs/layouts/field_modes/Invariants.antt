use Rattle.std.proofs.Common.{◌≡◌, take, Some}
use Rattle.ss_names_meaning.specs.Answers.{each}
use Rattle.ss_names.specs.Table.{mode_of_attribute}
use Rattle.ss_names_meaning.proofs.layouts.field_modes.Given as goal

abbrev pub invariant-loop-tree : goal.invariant-loop-tree
invariant-loop-tree l = each (mode_of_attribute l.names) (take l.tree-index l.trees) ≡ Some l.resolved.items
