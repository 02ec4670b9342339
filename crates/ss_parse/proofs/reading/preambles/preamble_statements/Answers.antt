use Rattle.std.proofs.Common.{sym, ◌∙◌}
use Rattle.ss_parse.proofs.Common.{err_from_is_err_and, view_preamble}
use Rattle.ss_parse.proofs.WholePreambles.{preamble_shrinks, preamble_grows, preamble_ends, preamble_breaks}
use Rattle.ss_parse.proofs.reading.preambles.preamble_statements.Goals as goal

pub more-preserved : goal.more-preserved
more-preserved c = preamble_grows view_preamble _ _ c.in_ok-next.next _ _ _ _ _ c.in_ok-push.ensures.items (sym c.begins_preamble.ensures ∙ c.more-test.true) c.in_ok-next.ensures c.group_after-group.ensures c.more.invariant

pub more-smaller : goal.more-smaller
more-smaller c = preamble_shrinks _ _ _ _ c.in_ok-next.ensures

pub returns : goal.returns
returns c = preamble_ends view_preamble _ _ _ _ (sym c.begins_preamble.ensures ∙ c.more-test.false) c.more.invariant

pub returns-in_err-next : goal.returns-in_err-next
returns-in_err-next c =
    let p = err_from_is_err_and c.from_residual.result c.from_residual.ensures.1 in
    rw (p.1, p.2) (preamble_breaks view_preamble _ _ _ _ _ (sym c.begins_preamble.ensures ∙ c.more-test.true) c.in_err-next.ensures c.more.invariant)
