use Rattle.std.proofs.Common.{◌∙◌, get_or}
use Rattle.ss_events_entries.proofs.Times.{but_before}
use Rattle.ss_events_entries.proofs.entry.heap.is_tied_before.Goals as goal

pub returns-then-mark : goal.returns-then-mark
returns-then-mark c = λ d. c.is_before_at.ensures d ∙ but_before c.whole.result.now (get_or c.args.entries.now.heads c.args.a d) (get_or c.args.entries.now.heads c.args.b d) (c.whole.ensures d)

pub returns : goal.returns
returns c = λ d. c.is_before_at-2.ensures d ∙ but_before c.plain-plain.result (get_or c.args.entries.now.heads c.args.a d) (get_or c.args.entries.now.heads c.args.b d) (c.plain-plain.ensures d)
