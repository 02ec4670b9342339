use Rattle.std.proofs.Common.{◌+◌, ap, subst, arith}
use Rattle.ss_events_entries.specs.HeapOrder.{IsFirstOf}
use Rattle.ss_events.proofs.Common.{comes_before, entries_rank}
use Rattle.ss_events_entries.proofs.Heaps.{only, pair, joined}
use Rattle.ss_events.proofs.children.first_of_few.Goals as goal

pub returns-then-many-eq1-clause-first : goal.returns-then-many-eq1-clause-first
returns-then-many-eq1-clause-first c = only comes_before entries_rank c.args.heap.now.entries c.args.from (c.args.from + c.args.many) (omega arith)

pub returns-clause-first : goal.returns-clause-first
returns-clause-first c =
    let xs = c.args.heap.now.entries in
    let from = c.args.from in
    let left = c.first_of-left in
    joined comes_before entries_rank xs from (from + 2) (from + c.args.many) left.result (from + 2) c.first_of.result
    (pair comes_before entries_rank xs from (from + 1) (from + 2) left.result (omega arith) (omega arith) left.ensures.first)
    (only comes_before entries_rank xs (from + 2) (from + c.args.many) (omega arith))
    (subst (λ es. IsFirstOf comes_before es left.result (from + 2) c.first_of.result) (ap (λ h. h.entries) left.ensures.counted) c.first_of.ensures.first)
