use Rattle.std.proofs.Common.{◌≡◌, ◌++◌, map, take}
use Rattle.ss_names_uses.proofs.Common.{flat_map, in_local_definition, view_definition}
use Rattle.ss_names_uses.proofs.sections.add_definitions.Given as goal

abbrev pub invariant-loop-definition : goal.invariant-loop-definition
invariant-loop-definition l = l.into.items ≡ l.initial.into.items ++ flat_map in_local_definition (map view_definition (take l.definition-index l.definitions))
