use Rattle.std.proofs.Common.{◌∙◌, get_or}
use Rattle.ss_events_entries.proofs.Times.{before_but}
use Rattle.ss_events_entries.proofs.entry.heap.is_before_at.Goals as goal

pub returns-then-mark : goal.returns-then-mark
returns-then-mark c = λ d. c.comes_before.ensures ∙ before_but c.args.entry.now c.whole.result.now (get_or c.args.entries.now.heads c.args.b d) (c.whole.ensures d)

pub returns : goal.returns
returns c = λ d. c.comes_before-2.ensures ∙ before_but c.args.entry.now c.plain-plain.result (get_or c.args.entries.now.heads c.args.b d) (c.plain-plain.ensures d)
