use Rattle.std.proofs.Common.{◌≡◌, ◌++◌, map, take}
use Rattle.ss_names_declarations.proofs.Common.{flat_map_from, in_section, view_section}
use Rattle.ss_names_declarations.proofs.declarations.add_sections.Given as goal

abbrev pub invariant-loop-number : goal.invariant-loop-number
invariant-loop-number l = l.out.items ≡ l.initial.out.items ++ flat_map_from in_section 0 (map view_section (take l.number l.sections))
