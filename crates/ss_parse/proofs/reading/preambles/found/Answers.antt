use Rattle.std.proofs.Common.{sym, ◌∙◌}
use Rattle.ss_parse.proofs.Common.{breaks_plain, err_from_is_err_and, grows_plain, is_done_plain}
use Rattle.ss_parse.proofs.Statistics.{found_loop, statistic_read, statistic_no_kind}
use Rattle.ss_parse.proofs.reading.preambles.found.Goals as goal

pub more-preserved : goal.more-preserved
more-preserved c = grows_plain found_loop _ _ _ _ _ _ c.in_ok-push.ensures.items (sym c.begins_more_names.ensures ∙ c.more-test.true) (statistic_read _ _ _ _ _ _ c.skip_separator-from.ensures c.in_ok-name.ensures c.after_first-in-more.ensures c.in_ok-kind-2.ensures) c.more.invariant

pub more-smaller : goal.more-smaller
more-smaller c = found_loop.shrinks _ _ _ (sym c.begins_more_names.ensures ∙ c.more-test.true) (statistic_read _ _ _ _ _ _ c.skip_separator-from.ensures c.in_ok-name.ensures c.after_first-in-more.ensures c.in_ok-kind-2.ensures)

pub returns : goal.returns
returns c = is_done_plain found_loop _ _ _ (sym c.begins_more_names.ensures ∙ c.more-test.false) c.more.invariant

pub returns-in_err-kind-2 : goal.returns-in_err-kind-2
returns-in_err-kind-2 c =
    let p = err_from_is_err_and c.from_residual-in_err-kind-2.result c.from_residual-in_err-kind-2.ensures.1 in
    rw (p.1, p.2) (breaks_plain found_loop _ _ _ _ (sym c.begins_more_names.ensures ∙ c.more-test.true) (statistic_no_kind _ _ _ _ _ c.skip_separator-from.ensures c.in_ok-name.ensures c.after_first-in-more.ensures c.in_err-kind-2.ensures) c.more.invariant)
