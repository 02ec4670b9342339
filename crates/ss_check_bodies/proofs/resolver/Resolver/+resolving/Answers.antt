use Rattle.std.proofs.Common.{refl, subst}
use Rattle.ss_program.specs.View.{view_expression as view_resolved}
use Rattle.ss_check_bodies.proofs.Common.{each_fails, each_next, expression, failed, fails_then, HasGiven, no_items, scope_in, view_expression_tree, view_term}
use Rattle.ss_check_bodies.specs.Results.{factor, further_term, operation_seen}
use Rattle.ss_check_bodies.proofs.Trees.{call_is, product_is, sum_is, further_fails, further_made, subscript_is, subscripts_none, one_is, not_one, two_is, less_than_two, more_than_two}
use Rattle.ss_check_bodies.proofs.resolver.Resolver.+resolving.Goals as goal
use Rattle.std.specs.Option.{option_map}

pub resolve_expression-returns-in_err-further-in-Product : goal.resolve_expression-returns-in_err-further-in-Product
resolve_expression-returns-in_err-further-in-Product t c =
    failed view_resolved c.from_residual-in_err-further-in-Product.result c.in_err-further-in-Product.field-0.0 _ c.from_residual-in_err-further-in-Product.ensures.1
    (rw (product_is (scope_in c.args.self.now) c.args.tree.now c.in-Product.first c.in-Product.further c.deref-in-Product-2.result.now c.in-Product.is c.deref-in-Product-2.ensures.value)
    (further_fails _ _ (view_resolved c.in_ok-first-in-Product.first) c.in_err-further-in-Product.field-0.0 (rw (← c.deref-in-Product.ensures) c.in_ok-first-in-Product.ensures) c.in_err-further-in-Product.ensures))

pub resolve_expression-returns-in_err-further-in-Sum : goal.resolve_expression-returns-in_err-further-in-Sum
resolve_expression-returns-in_err-further-in-Sum t c =
    failed view_resolved c.from_residual-in_err-further-in-Sum.result c.in_err-further-in-Sum.field-0.0 _ c.from_residual-in_err-further-in-Sum.ensures.1
    (rw (sum_is (scope_in c.args.self.now) c.args.tree.now c.in-Sum.first c.in-Sum.further c.deref-in-Sum-2.result.now c.in-Sum.is c.deref-in-Sum-2.ensures.value)
    (further_fails _ _ (view_resolved c.in_ok-first-in-Sum.first) c.in_err-further-in-Sum.field-0.0 (rw (← c.deref-in-Sum.ensures) c.in_ok-first-in-Sum.ensures) c.in_err-further-in-Sum.ensures))

pub resolve_expression-returns-in-Call : goal.resolve_expression-returns-in-Call
resolve_expression-returns-in-Call t c =
    subst (λ e. HasGiven view_resolved c.resolve_call.result (expression (scope_in c.args.self.now) e)) (call_is c.args.tree.now c.in-Call.function c.in-Call.arguments c.deref-in-Call.result.now c.in-Call.is c.deref-in-Call.ensures.value) c.resolve_call.ensures

pub resolve_expression-returns-in_ok-further-in-Product : goal.resolve_expression-returns-in_ok-further-in-Product
resolve_expression-returns-in_ok-further-in-Product t c =
    rw (product_is (scope_in c.args.self.now) c.args.tree.now c.in-Product.first c.in-Product.further c.deref-in-Product-2.result.now c.in-Product.is c.deref-in-Product-2.ensures.value)
    (further_made _ _ c.in_ok-first-in-Product-2.first c.in_ok-further-in-Product.further (rw (c.in_ok-first-in-Product-2.ensures.ok, ← c.deref-in-Product.ensures) c.in_ok-first-in-Product.ensures) c.in_ok-further-in-Product.ensures)

pub resolve_expression-returns-in_ok-further-in-Sum : goal.resolve_expression-returns-in_ok-further-in-Sum
resolve_expression-returns-in_ok-further-in-Sum t c =
    rw (sum_is (scope_in c.args.self.now) c.args.tree.now c.in-Sum.first c.in-Sum.further c.deref-in-Sum-2.result.now c.in-Sum.is c.deref-in-Sum-2.ensures.value)
    (further_made _ _ c.in_ok-first-in-Sum-2.first c.in_ok-further-in-Sum.further (rw (c.in_ok-first-in-Sum-2.ensures.ok, ← c.deref-in-Sum.ensures) c.in_ok-first-in-Sum.ensures) c.in_ok-further-in-Sum.ensures)

pub resolve_factors-loop-tree-init : goal.resolve_factors-loop-tree-init
resolve_factors-loop-tree-init t c = no_items (factor (scope_in c.args.self.now)) operation_seen c.new-operations.result.items c.new-operations.ensures.items

pub resolve_factors-returns-in_err-operand : goal.resolve_factors-returns-in_err-operand
resolve_factors-returns-in_err-operand t c =
    failed _ c.from_residual.result c.in_err-operand.field-0.0 _ c.from_residual.ensures.1
    (each_fails (factor (scope_in c.args.self.now)) view_expression_tree c.args.trees.now c.loop-tree.tree-index c.tree-item.result c.in_err-operand.field-0.0 c.loop-tree-test.true c.tree-item.is (fails_then _ _ c.in_err-operand.field-0.0 c.in_err-operand.ensures))

pub resolve_factors-loop-tree-preserved : goal.resolve_factors-loop-tree-preserved
resolve_factors-loop-tree-preserved t c =
    each_next (factor (scope_in c.args.self.now)) view_expression_tree operation_seen c.args.trees.now c.loop-tree.tree-index c.tree-item.result c.loop-tree.operations.items c.push.new.self.items _ c.loop-tree-test.true c.tree-item.is c.in_ok-push.ensures.items c.loop-tree.invariant
    (rw c.in_ok-operand.ensures refl)

pub resolve_one-returns-in-len1 : goal.resolve_one-returns-in-len1
resolve_one-returns-in-len1 t c =
    subst (λ o. HasGiven view_resolved c.resolve_expression.result o) (one_is (scope_in c.args.self.now) c.args.arguments.now c.only-item.result c.in-len1.len_at_least c.in-len1.len_below c.only-item.is) c.resolve_expression.ensures

pub resolve_one-returns-in-len2-up : goal.resolve_one-returns-in-len2-up
resolve_one-returns-in-len2-up t c = not_one (scope_in c.args.self.now) c.args.arguments.now c.in-len2-up.len_at_least

pub resolve_subscript-returns-in_err-entity-in-len1 : goal.resolve_subscript-returns-in_err-entity-in-len1
resolve_subscript-returns-in_err-entity-in-len1 t c =
    failed (option_map view_resolved) c.from_residual.result c.in_err-entity-in-len1.field-0.0 _ c.from_residual.ensures.1
    (rw (subscript_is (scope_in c.args.self.now) c.args.subscripts.now c.only-item.result c.in-len1.len_at_least c.in-len1.len_below c.only-item.is)
    (fails_then _ _ c.in_err-entity-in-len1.field-0.0 c.in_err-entity-in-len1.ensures))

pub resolve_subscript-returns-in_ok-entity-in-len1 : goal.resolve_subscript-returns-in_ok-entity-in-len1
resolve_subscript-returns-in_ok-entity-in-len1 t c =
    rw (subscript_is (scope_in c.args.self.now) c.args.subscripts.now c.only-item.result c.in-len1.len_at_least c.in-len1.len_below c.only-item.is, c.in_ok-entity-in-len1.ensures) refl

pub resolve_subscript-returns-in-len2-up : goal.resolve_subscript-returns-in-len2-up
resolve_subscript-returns-in-len2-up t c = subscripts_none (scope_in c.args.self.now) c.args.subscripts.now c.in-len2-up.len_at_least

pub resolve_terms-loop-tree-init : goal.resolve_terms-loop-tree-init
resolve_terms-loop-tree-init t c = no_items (further_term (scope_in c.args.self.now)) operation_seen c.new-operations.result.items c.new-operations.ensures.items

pub resolve_terms-returns-in_err-operand : goal.resolve_terms-returns-in_err-operand
resolve_terms-returns-in_err-operand t c =
    failed _ c.from_residual.result c.in_err-operand.field-0.0 _ c.from_residual.ensures.1
    (each_fails (further_term (scope_in c.args.self.now)) view_term c.args.trees.now c.loop-tree.tree-index c.tree-item.result c.in_err-operand.field-0.0 c.loop-tree-test.true c.tree-item.is (fails_then _ _ c.in_err-operand.field-0.0 c.in_err-operand.ensures))

pub resolve_terms-loop-tree-preserved : goal.resolve_terms-loop-tree-preserved
resolve_terms-loop-tree-preserved t c =
    each_next (further_term (scope_in c.args.self.now)) view_term operation_seen c.args.trees.now c.loop-tree.tree-index c.tree-item.result c.loop-tree.operations.items c.push.new.self.items _ c.loop-tree-test.true c.tree-item.is c.in_ok-push.ensures.items c.loop-tree.invariant
    (rw (c.in_ok-operand.ensures, c.resolved_operator.ensures) refl)

pub resolve_two-returns-in_err-left-in-len2 : goal.resolve_two-returns-in_err-left-in-len2
resolve_two-returns-in_err-left-in-len2 t c =
    failed _ c.from_residual.result c.in_err-left-in-len2.field-0.0 _ c.from_residual.ensures.1
    (rw (two_is (scope_in c.args.self.now) c.args.arguments.now c.left-item.result c.right-item.result c.in-len2.len_at_least c.in-len2.len_below c.left-item.is c.right-item.is)
    (fails_then _ _ c.in_err-left-in-len2.field-0.0 c.in_err-left-in-len2.ensures))

pub resolve_two-returns-in_err-right-in-len2 : goal.resolve_two-returns-in_err-right-in-len2
resolve_two-returns-in_err-right-in-len2 t c =
    failed _ c.from_residual-in_err-right-in-len2.result c.in_err-right-in-len2.field-0.0 _ c.from_residual-in_err-right-in-len2.ensures.1
    (rw (two_is (scope_in c.args.self.now) c.args.arguments.now c.left-item.result c.right-item.result c.in-len2.len_at_least c.in-len2.len_below c.left-item.is c.right-item.is, c.in_ok-left-in-len2.ensures)
    (fails_then _ _ c.in_err-right-in-len2.field-0.0 c.in_err-right-in-len2.ensures))

pub resolve_two-returns-in-len1 : goal.resolve_two-returns-in-len1
resolve_two-returns-in-len1 t c = less_than_two (scope_in c.args.self.now) c.args.arguments.now c.in-len1.len_below

pub resolve_two-returns-in_ok-right-in-len2 : goal.resolve_two-returns-in_ok-right-in-len2
resolve_two-returns-in_ok-right-in-len2 t c =
    rw (two_is (scope_in c.args.self.now) c.args.arguments.now c.left-item.result c.right-item.result c.in-len2.len_at_least c.in-len2.len_below c.left-item.is c.right-item.is, c.in_ok-left-in-len2.ensures, c.in_ok-right-in-len2.ensures, c.in_ok-left-in-len2-2.ensures.ok) refl

pub resolve_two-returns-in-len3-up : goal.resolve_two-returns-in-len3-up
resolve_two-returns-in-len3-up t c = more_than_two (scope_in c.args.self.now) c.args.arguments.now c.in-len3-up.len_at_least
