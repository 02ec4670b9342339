use Rattle.std.proofs.Common.{sym, ap, ◌∙◌}
use Rattle.ss_lex.proofs.Common.{eqb-true, has_trigger}
use Rattle.ss_lex.proofs.CodeLines.{trigger_step, trigger_next, none_left}
use Rattle.ss_lex.proofs.code.has_trigger.Goals as goal

pub returns-then-is_trigger : goal.returns-then-is_trigger
returns-then-is_trigger c =
    let s = trigger_step _ _ _ c.pieces-test.ensures c.trigger_step-is_trigger.ensures in
    sym (trigger_next _ _ _ s.0 (sym s.1 ∙ c.if-is_trigger.true)) ∙ c.pieces.invariant

pub pieces-smaller : goal.pieces-smaller
pieces-smaller c =
    (trigger_step _ _ _ c.pieces-test.ensures c.trigger_step-is_trigger.ensures).0.less

pub pieces-preserved : goal.pieces-preserved
pieces-preserved c =
    let s = trigger_step _ _ _ c.pieces-test.ensures c.trigger_step-is_trigger.ensures in
    sym (trigger_next _ _ _ s.0 (sym s.1 ∙ c.if-is_trigger.false)) ∙ c.pieces.invariant

pub returns : goal.returns
returns c = ap has_trigger (sym (none_left c.pieces.rest.now (eqb-true _ 0 (sym c.pieces-test.ensures)))) ∙ c.pieces.invariant
