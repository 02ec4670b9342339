use Rattle.std.proofs.Common.{sym, ap, ◌∙◌, Some, arith}
use Rattle.std.proofs.lemmas.Bool.{eqb-true}
use Rattle.ss_lex.proofs.CodeLines.{stepped, read_none, read_more, read_fault, read_cut, read_all}
use Rattle.ss_lex.proofs.code.code_line.Goals as goal

pub pieces-init : goal.pieces-init
pieces-init c = read_none c.args.bytes.now c.args.start c.args.line.0 c.args.left c.args.tokens.now

pub returns-in-Some-clause-err : goal.returns-in-Some-clause-err
returns-in-Some-clause-err c =
    λ _. read_fault _ _ _ _ _ _ _ _ _ _ _ _ c.pieces.invariant (stepped _ _ _ c.pieces-test.ensures c.step-meaning.ensures) (sym c.in-Some.ensures) ∙ ap (λ e. Some e) (sym c.fault_refusal.ensures)

pub overflow_sub-at : goal.overflow_sub-at
overflow_sub-at c =
    omega (arith, (stepped _ _ _ c.pieces-test.ensures c.step-meaning.ensures).less)

pub overflow_add-at : goal.overflow_add-at
overflow_add-at c =
    omega (arith, (stepped _ _ _ c.pieces-test.ensures c.step-meaning.ensures).less, c.pieces.invariant.place)

pub pieces-smaller : goal.pieces-smaller
pieces-smaller c =
    (stepped _ _ _ c.pieces-test.ensures c.step-meaning.ensures).less

pub pieces-preserved : goal.pieces-preserved
pieces-preserved c =
    read_more _ _ _ _ _ _ _ _ _ _ _ _ _ c.pieces.invariant (stepped _ _ _ c.pieces-test.ensures c.step-meaning.ensures) (sym c.fault_in.ensures ∙ c.in_default.is) c.in_ok-due.ensures.tokens c.in_ok-due.ensures.due

pub returns-then-due-left-clause-err : goal.returns-then-due-left-clause-err
returns-then-due-left-clause-err c = λ _. read_cut _ _ _ _ _ _ _ _ _ c.pieces.invariant (eqb-true _ 0 (sym c.pieces-test.ensures)) c.if-due-left.true

pub returns-clause-ok : goal.returns-clause-ok
returns-clause-ok c = read_all _ _ _ _ _ _ _ _ _ c.pieces.invariant (eqb-true _ 0 (sym c.pieces-test.ensures)) c.if-due-left.false
