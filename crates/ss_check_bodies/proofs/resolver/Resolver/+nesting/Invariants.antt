use Rattle.std.proofs.Common.{◌≡◌, map, take, Some}
use Rattle.ss_check_bodies.proofs.Common.{each, scope_in}
use Rattle.ss_tree.specs.View.{view_statement_tree}
use Rattle.ss_program.specs.View.{view_statement as view_resolved}
use Rattle.ss_names_meaning.specs.Statements.{statement}
use Rattle.ss_check_bodies.proofs.resolver.Resolver.+nesting.Given as goal

abbrev pub invariant-resolve_body-loop-tree : goal.invariant-resolve_body-loop-tree
invariant-resolve_body-loop-tree l = each (statement (scope_in l.self)) (map view_statement_tree (take l.tree-index l.trees)) ≡ Some (map view_resolved l.resolved.items)
