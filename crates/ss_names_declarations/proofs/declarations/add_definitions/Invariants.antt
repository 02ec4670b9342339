use Rattle.std.proofs.Common.{◌≡◌, ◌++◌, map, take}
use Rattle.ss_names_declarations.proofs.Common.{flat_map, in_definition, view_definition}
use Rattle.ss_names_declarations.proofs.declarations.add_definitions.Given as goal

abbrev pub invariant-loop-definition : goal.invariant-loop-definition
invariant-loop-definition l = l.out.items ≡ l.initial.out.items ++ flat_map (in_definition l.section) (map view_definition (take l.definition-index l.definitions))
