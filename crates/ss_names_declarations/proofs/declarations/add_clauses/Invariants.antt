use Rattle.std.proofs.Common.{◌≡◌, ◌++◌, map, take}
use Rattle.ss_names_declarations.proofs.Common.{flat_map, in_clause, view_clause}
use Rattle.ss_names_declarations.proofs.declarations.add_clauses.Given as goal

abbrev pub invariant-loop-clause : goal.invariant-loop-clause
invariant-loop-clause l = l.out.items ≡ l.initial.out.items ++ flat_map (in_clause l.line l.class) (map view_clause (take l.clause-index l.clauses))
