use Rattle.std.proofs.Common.{◌≡◌, map, take, Some}
use Rattle.ss_check_bodies.proofs.Common.{each, scope_in}
use Rattle.ss_check_bodies.proofs.resolver.Resolver.resolve_each.Given as goal

abbrev pub invariant-loop-tree : goal.invariant-loop-tree
invariant-loop-tree g l = each (g.T.FromTree.meaning (scope_in l.self)) (map g.T.FromTree.tree_seen (take l.tree-index l.trees)) ≡ Some (map g.T.FromTree.seen l.resolved.items)
