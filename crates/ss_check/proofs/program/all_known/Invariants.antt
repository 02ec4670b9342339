use Rattle.std.proofs.Common.{◌≡◌, map, take}
use Rattle.std.specs.List.{list_all}
use Rattle.ss_tree.specs.View.{view_section}
use Rattle.ss_names_meaning.specs.Resolved.{is_known}
use Rattle.ss_check.proofs.program.all_known.Given as goal

abbrev pub invariant-loop-section : goal.invariant-loop-section
invariant-loop-section l = l.all ≡ list_all (is_known l.names) (map view_section (take l.section-index l.sections))
