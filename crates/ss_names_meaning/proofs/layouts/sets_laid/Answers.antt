use Rattle.ss_names_meaning.specs.Layouts.{set_layout}
use Rattle.ss_names_meaning.proofs.Each.{each_at_fails, each_at_next, no_plain_items}
use Rattle.ss_names_meaning.proofs.Steps.{failed}
use Rattle.ss_names_meaning.proofs.layouts.sets_laid.Goals as goal

pub loop-tree-init : goal.loop-tree-init
loop-tree-init c = no_plain_items set_layout c.new-resolved.result.items c.new-resolved.ensures.items

pub returns-in_err-one : goal.returns-in_err-one
returns-in_err-one c =
    failed _ c.from_residual.result c.in_err-one.field-0.0 _ c.from_residual.ensures.1
    (each_at_fails set_layout c.args.trees.now c.loop-tree.tree-index _ c.in_err-one.field-0.0 c.loop-tree-test.true c.in_err-one.ensures)

pub loop-tree-preserved : goal.loop-tree-preserved
loop-tree-preserved c =
    each_at_next set_layout c.args.trees.now c.loop-tree.tree-index _ c.loop-tree.resolved.items c.push.new.self.items c.in_ok-one.one c.loop-tree-test.true c.in_ok-push.ensures.items c.loop-tree.invariant c.in_ok-one.ensures
