use Rattle.ss_program.specs.View.{view_body, view_statement as view_resolved}
use Rattle.ss_tree.specs.View.{view_statement_tree}
use Rattle.ss_names_meaning.specs.Statements.{statement}
use Rattle.ss_check_bodies.proofs.Common.{each_next, failed, fails_then, no_items, scope_in}
use Rattle.ss_check_bodies.proofs.Nested.{if_is, loop_is, find_if_is, statements_fail, statements_made}
use Rattle.ss_check_bodies.proofs.Seen.{after_failed, both_fail, next_made}
use Rattle.ss_check_bodies.proofs.resolver.Resolver.+nesting.Goals as goal

pub resolve_statement-returns-in_err-then-in-If : goal.resolve_statement-returns-in_err-then-in-If
resolve_statement-returns-in_err-then-in-If t c =
    failed view_resolved c.from_residual.result c.in_err-then-in-If.field-0.0 _ c.from_residual.ensures.1
    (rw (if_is (scope_in c.args.self.now) c.args.tree.now c.in-If.line c.in-If.condition c.in-If.then c.in-If.otherwise c.deref.result.now c.deref-in-If.result.now c.in-If.is c.deref.ensures.value c.deref-in-If.ensures.value) (both_fail (λ v. view_body v.items) (λ v. view_body v.items) _ _ _ _ _ c.in_err-then-in-If.field-0.0 c.resolve_body-first.ensures c.resolve_body.ensures c.in_err-then-in-If.ensures))

pub resolve_statement-returns-in_ok-then-in-If : goal.resolve_statement-returns-in_ok-then-in-If
resolve_statement-returns-in_ok-then-in-If t c =
    rw (if_is (scope_in c.args.self.now) c.args.tree.now c.in-If.line c.in-If.condition c.in-If.then c.in-If.otherwise c.deref.result.now c.deref-in-If.result.now c.in-If.is c.deref.ensures.value c.deref-in-If.ensures.value, next_made (λ v. view_body v.items) _ _ _ c.resolve_body-first.ensures c.in_ok-then-in-If.ensures.0, next_made (λ v. view_body v.items) _ _ _ c.resolve_body.ensures c.in_ok-then-in-If.ensures.1)
    c.resolve_if.ensures

pub resolve_statement-returns-in_err-then-in-FindIf : goal.resolve_statement-returns-in_err-then-in-FindIf
resolve_statement-returns-in_err-then-in-FindIf t c =
    failed view_resolved c.from_residual-in_err-then-in-FindIf.result c.in_err-then-in-FindIf.field-0.0 _ c.from_residual-in_err-then-in-FindIf.ensures.1
    (rw (find_if_is (scope_in c.args.self.now) c.args.tree.now c.in-FindIf.line c.in-FindIf.head c.in-FindIf.outcome c.in-FindIf.then c.in-FindIf.otherwise c.deref-in-FindIf.result.now c.deref-in-FindIf-2.result.now c.in-FindIf.is c.deref-in-FindIf.ensures.value c.deref-in-FindIf-2.ensures.value) (both_fail (λ v. view_body v.items) (λ v. view_body v.items) _ _ _ _ _ c.in_err-then-in-FindIf.field-0.0 c.resolve_body-first-in-FindIf.ensures c.resolve_body-in-FindIf.ensures c.in_err-then-in-FindIf.ensures))

pub resolve_statement-returns-in_ok-then-in-FindIf : goal.resolve_statement-returns-in_ok-then-in-FindIf
resolve_statement-returns-in_ok-then-in-FindIf t c =
    rw (find_if_is (scope_in c.args.self.now) c.args.tree.now c.in-FindIf.line c.in-FindIf.head c.in-FindIf.outcome c.in-FindIf.then c.in-FindIf.otherwise c.deref-in-FindIf.result.now c.deref-in-FindIf-2.result.now c.in-FindIf.is c.deref-in-FindIf.ensures.value c.deref-in-FindIf-2.ensures.value, next_made (λ v. view_body v.items) _ _ _ c.resolve_body-first-in-FindIf.ensures c.in_ok-then-in-FindIf.ensures.0, next_made (λ v. view_body v.items) _ _ _ c.resolve_body-in-FindIf.ensures c.in_ok-then-in-FindIf.ensures.1)
    c.resolve_find_by.ensures

pub resolve_statement-returns-in_err-first-in-Loop : goal.resolve_statement-returns-in_err-first-in-Loop
resolve_statement-returns-in_err-first-in-Loop t c =
    failed view_resolved c.from_residual-in_err-first-in-Loop.result c.in_err-first-in-Loop.field-0.0 _ c.from_residual-in_err-first-in-Loop.ensures.1
    (rw (loop_is (scope_in c.args.self.now) c.args.tree.now c.in-Loop.line c.in-Loop.head c.in-Loop.body c.deref-in-Loop.result.now c.in-Loop.is c.deref-in-Loop.ensures.value) (fails_then _ _ c.in_err-first-in-Loop.field-0.0 c.in_err-first-in-Loop.ensures))

pub resolve_statement-returns-in_ok-first-in-Loop : goal.resolve_statement-returns-in_ok-first-in-Loop
resolve_statement-returns-in_ok-first-in-Loop t c =
    rw (loop_is (scope_in c.args.self.now) c.args.tree.now c.in-Loop.line c.in-Loop.head c.in-Loop.body c.deref-in-Loop.result.now c.in-Loop.is c.deref-in-Loop.ensures.value, c.in_ok-first-in-Loop.ensures)
    c.resolve_loop.ensures

pub resolve_body-loop-tree-init : goal.resolve_body-loop-tree-init
resolve_body-loop-tree-init t c = no_items (statement (scope_in c.args.self.now)) view_resolved c.new-resolved.result.items c.new-resolved.ensures.items

pub resolve_body-returns : goal.resolve_body-returns
resolve_body-returns t c = statements_made (scope_in c.args.self.now) c.args.trees.now c.loop-tree.tree-index c.loop-tree.resolved.items c.loop-tree-test.false c.loop-tree.invariant

pub resolve_body-returns-in_err-resolved : goal.resolve_body-returns-in_err-resolved
resolve_body-returns-in_err-resolved t c =
    failed _ c.from_residual.result c.in_err-resolved.field-0.0 _ c.from_residual.ensures.1
    (statements_fail (scope_in c.args.self.now) c.args.trees.now c.loop-tree.tree-index c.tree-item.result c.in_err-resolved.field-0.0 c.loop-tree-test.true c.tree-item.is (after_failed view_resolved c.loop-tree.resolved _ _ c.in_err-resolved.field-0.0 c.resolve_statement.ensures c.in_err-resolved.ensures))

pub resolve_body-loop-tree-preserved : goal.resolve_body-loop-tree-preserved
resolve_body-loop-tree-preserved t c =
    each_next (statement (scope_in c.args.self.now)) view_statement_tree view_resolved c.args.trees.now c.loop-tree.tree-index c.tree-item.result c.loop-tree.resolved.items c.in_ok-resolved.resolved.items c.in_ok-resolved.ensures.0 c.loop-tree-test.true c.tree-item.is c.in_ok-resolved.ensures.2 c.loop-tree.invariant (next_made view_resolved _ _ _ c.resolve_statement.ensures c.in_ok-resolved.ensures.1)
