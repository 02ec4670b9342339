use Rattle.std.proofs.Common.{◌≡◌, map, take, Some}
use Rattle.ss_check_bodies.proofs.Common.{each, scope_in, view_expression_tree, view_term}
use Rattle.ss_check_bodies.specs.Results.{factor, further_term, operation_seen}
use Rattle.ss_check_bodies.proofs.resolver.Resolver.+resolving.Given as goal

abbrev pub invariant-resolve_factors-loop-tree : goal.invariant-resolve_factors-loop-tree
invariant-resolve_factors-loop-tree l = each (factor (scope_in l.self)) (map view_expression_tree (take l.tree-index l.trees)) ≡ Some (map operation_seen l.operations.items)

abbrev pub invariant-resolve_terms-loop-tree : goal.invariant-resolve_terms-loop-tree
invariant-resolve_terms-loop-tree l = each (further_term (scope_in l.self)) (map view_term (take l.tree-index l.trees)) ≡ Some (map operation_seen l.operations.items)
