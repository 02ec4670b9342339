use Rattle.ss_check_bodies.proofs.Common.{each_fails, each_next, failed, no_items}
use Rattle.ss_check_bodies.proofs.Seen.{after_failed, next_made}
use Rattle.ss_check_bodies.proofs.resolver.Resolver.resolve_each.Goals as goal

pub loop-tree-init : goal.loop-tree-init
loop-tree-init g c = no_items _ _ c.new-resolved.result.items c.new-resolved.ensures.items

pub returns-in_err-resolved : goal.returns-in_err-resolved
returns-in_err-resolved g c =
    failed _ c.from_residual.result c.in_err-resolved.field-0.0 _ c.from_residual.ensures.1
    (each_fails _ _ c.args.trees.now c.loop-tree.tree-index c.tree-item.result c.in_err-resolved.field-0.0 c.loop-tree-test.true c.tree-item.is (after_failed _ c.loop-tree.resolved _ _ c.in_err-resolved.field-0.0 c.from_tree.ensures c.in_err-resolved.ensures))

pub loop-tree-preserved : goal.loop-tree-preserved
loop-tree-preserved g c =
    each_next _ _ _ c.args.trees.now c.loop-tree.tree-index c.tree-item.result c.loop-tree.resolved.items c.in_ok-resolved.resolved.items c.in_ok-resolved.ensures.0 c.loop-tree-test.true c.tree-item.is c.in_ok-resolved.ensures.2 c.loop-tree.invariant (next_made _ _ _ _ c.from_tree.ensures c.in_ok-resolved.ensures.1)
