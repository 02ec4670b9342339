use Rattle.std.proofs.Common.{◌≡◌, Some, subst}
use Rattle.ss_names_meaning.specs.Answers.{HasFailed}
use Rattle.ss_names_meaning.proofs.Each.{each_at_fails, each_at_next, no_plain_items}
use Rattle.ss_names_meaning.proofs.Steps.{failed}
use Rattle.ss_names.specs.Table.{mode_of_attribute}
use Rattle.ss_names_meaning.proofs.layouts.field_modes.Goals as goal

pub loop-tree-init : goal.loop-tree-init
loop-tree-init c = no_plain_items (mode_of_attribute c.args.names.now) c.new-resolved.result.items c.new-resolved.ensures.items

pub returns-in_err-one : goal.returns-in_err-one
returns-in_err-one c =
    failed _ c.from_residual.result c.in_err-one.field-0.0 _ c.from_residual.ensures.1
    (each_at_fails (mode_of_attribute c.args.names.now) c.args.trees.now c.loop-tree.tree-index c.tree-item.result c.in_err-one.field-0.0 c.loop-tree-test.true
    (subst (λ n. HasFailed c.in_err-one.field-0.0 (mode_of_attribute c.args.names.now n)) c.tree-item.is c.in_err-one.ensures))

pub loop-tree-preserved : goal.loop-tree-preserved
loop-tree-preserved c =
    each_at_next (mode_of_attribute c.args.names.now) c.args.trees.now c.loop-tree.tree-index c.tree-item.result c.loop-tree.resolved.items c.push.new.self.items c.in_ok-one.one c.loop-tree-test.true c.in_ok-push.ensures.items c.loop-tree.invariant
    (subst (λ n. mode_of_attribute c.args.names.now n ≡ Some c.in_ok-one.one) c.tree-item.is c.in_ok-one.ensures)
