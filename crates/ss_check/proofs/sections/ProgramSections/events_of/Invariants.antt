use Rattle.std.proofs.Common.{◌≡◌, map, take, Some}
use Rattle.ss_program.specs.View.{view_event}
use Rattle.ss_names_meaning.specs.Answers.{each}
use Rattle.ss_names_meaning.specs.Resolved.{event_from}
use Rattle.ss_check.specs.View.{parts_in, table_of_sections}
use Rattle.ss_check.proofs.sections.ProgramSections.events_of.Given as goal

abbrev pub invariant-loop-tree : goal.invariant-loop-tree
invariant-loop-tree l = each (event_from (table_of_sections l.self) (parts_in l.self)) (take l.tree-index l.trees) ≡ Some (map view_event l.resolved.items)
