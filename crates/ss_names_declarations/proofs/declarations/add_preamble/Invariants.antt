use Rattle.std.proofs.Common.{◌≡◌, ◌++◌, map, take}
use Rattle.ss_names_declarations.proofs.Common.{flat_map_from, in_preamble_statement, view_preamble}
use Rattle.ss_names_declarations.proofs.declarations.add_preamble.Given as goal

abbrev pub invariant-loop-number : goal.invariant-loop-number
invariant-loop-number l = l.out.items ≡ l.initial.out.items ++ flat_map_from in_preamble_statement 0 (map view_preamble (take l.number l.preamble))
