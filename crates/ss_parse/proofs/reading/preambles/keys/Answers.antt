use Rattle.std.proofs.Common.{sym, ◌∙◌}
use Rattle.ss_parse.proofs.Common.{breaks_plain, err_from_is_err_and, grows_plain, is_done_plain}
use Rattle.ss_parse.proofs.Orders.{keys_loop, then_key_read, then_key_no_rank, then_key_no_name}
use Rattle.ss_parse.proofs.reading.preambles.keys.Goals as goal

pub more-preserved : goal.more-preserved
more-preserved c = grows_plain keys_loop _ _ _ _ _ _ c.in_ok-push.ensures.items (sym c.begins_noisy.ensures ∙ c.more-test.true) (then_key_read _ _ _ _ _ c.in_ok-high-2.ensures c.in_ok-name.ensures c.after_first-rest-in-more.ensures) c.more.invariant

pub more-smaller : goal.more-smaller
more-smaller c = keys_loop.shrinks _ _ _ (sym c.begins_noisy.ensures ∙ c.more-test.true) (then_key_read _ _ _ _ _ c.in_ok-high-2.ensures c.in_ok-name.ensures c.after_first-rest-in-more.ensures)

pub returns : goal.returns
returns c = is_done_plain keys_loop _ _ _ (sym c.begins_noisy.ensures ∙ c.more-test.false) c.more.invariant

pub returns-in_err-high-2 : goal.returns-in_err-high-2
returns-in_err-high-2 c =
    let p = err_from_is_err_and c.from_residual-in_err-high-2.result c.from_residual-in_err-high-2.ensures.1 in
    rw (p.1, p.2) (breaks_plain keys_loop _ _ _ _ (sym c.begins_noisy.ensures ∙ c.more-test.true) (then_key_no_rank _ _ c.in_err-high-2.ensures) c.more.invariant)

pub returns-in_err-name : goal.returns-in_err-name
returns-in_err-name c =
    let p = err_from_is_err_and c.from_residual-in_err-name.result c.from_residual-in_err-name.ensures.1 in
    rw (p.1, p.2) (breaks_plain keys_loop _ _ _ _ (sym c.begins_noisy.ensures ∙ c.more-test.true) (then_key_no_name _ _ _ _ c.in_ok-high-2.ensures c.in_err-name.ensures) c.more.invariant)
