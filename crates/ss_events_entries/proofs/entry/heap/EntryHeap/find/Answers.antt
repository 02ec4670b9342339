use Rattle.std.proofs.Common.{◌∙◌, ap, int_eq, pos, w64, to_z, of_z, to_z-of_z}
use Rattle.std.specs.List.{position, list_any}
use Rattle.ss_events_entries.specs.HeapEntries.{notices_of}
use Rattle.ss_events_entries.proofs.Lists.{found_position}
use Rattle.ss_events_entries.proofs.entry.heap.EntryHeap.find.Goals as goal

pub returns-clause-place : goal.returns-clause-place
returns-clause-place c =
    c.find.ensures
    ∙ (λ i. position (int_eq (to_z-of_z c.ranges.notice i)) (notices_of c.self.inside.entries.heads))
    ∙ ap (λ h. position (int_eq c.args.notice) (notices_of h.entries)) c.self.view_is

pub returns-clause-found : goal.returns-clause-found
returns-clause-found c =
    found_position (int_eq (to_z w64 (of_z w64 c.args.notice))) (notices_of c.self.inside.entries.heads) (pos 0) c.find.result c.find.ensures
    ∙ (λ i. list_any (int_eq (to_z-of_z c.ranges.notice i)) (notices_of c.self.inside.entries.heads))
    ∙ ap (λ h. list_any (int_eq c.args.notice) (notices_of h.entries)) c.self.view_is
