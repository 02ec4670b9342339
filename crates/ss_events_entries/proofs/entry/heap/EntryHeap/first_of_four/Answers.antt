use Rattle.std.proofs.Common.{◌≡◌, ◌+◌, subst, arith}
use Rattle.ss_events_entries.specs.HeapEntries.{HeapEntries}
use Rattle.ss_events_entries.proofs.Common.{comes_before, IsFirstAmong, IsFirstOf}
use Rattle.ss_events_entries.proofs.EntryOrder.{entries_rank}
use Rattle.ss_events_entries.proofs.Heaps.{pair, joined}
use Rattle.ss_events_entries.proofs.entry.heap.EntryHeap.first_of_four.Goals as goal

pub returns-clause-first : goal.returns-clause-first
returns-clause-first c =
    let xs = c.self.inside.entries.heads in
    let from = c.args.from in
    let left = c.first_of-left in
    let right = c.first_of-right in
    let here : from + 0 ≡ from = omega arith in
    subst (λ (h : HeapEntries). IsFirstAmong comes_before h.entries from (from + 4) (from + c.first_of.result)) c.self.view_is
    (joined comes_before entries_rank xs from (from + 2) (from + 4) (from + left.result) (from + right.result) (from + c.first_of.result)
    (pair comes_before entries_rank xs from (from + 1) (from + 2) (from + left.result) (omega arith) (omega arith) (subst (λ k. IsFirstOf comes_before xs k (from + 1) (from + left.result)) here left.ensures))
    (pair comes_before entries_rank xs (from + 2) (from + 3) (from + 4) (from + right.result) (omega arith) (omega arith) right.ensures)
    c.first_of.ensures)
