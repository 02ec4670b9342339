use Rattle.std.proofs.Common.{◌≡◌, ◌<◌, ◌∙◌, None, Some, length, get_or, ap, sym, subst, arith}
use Rattle.std.specs.Option.{option_map}
use Rattle.ss_world.specs.PendingList.{least_event}
use Rattle.ss_events_entries.specs.CountedList.{CountedList}
use Rattle.ss_events_entries.specs.HeapEntries.{event_of}
use Rattle.ss_events.proofs.Common.{AreAfterHeads, HeapEntries, least}
use Rattle.ss_events.proofs.Agendas.{none_left, least_head, at_top}
use Rattle.ss_events.proofs.pending.Pending.least.Goals as goal

pub returns-then-len-eq0-clause-next : goal.returns-then-len-eq0-clause-next
returns-then-len-eq0-clause-next c =
    let following = subst (λ (h : HeapEntries). AreAfterHeads h.entries h.followers) c.reset_counts.ensures c.are_after_heads.ensures in
    subst (λ (v : CountedList). None ≡ least_event v.list) c.self.view_is
    (sym (ap (λ es. option_map event_of (least es)) (none_left c.self.inside.heap following (omega (arith, ap (λ h. length h.entries) c.reset_counts.ensures)))))

pub returns-clause-next : goal.returns-clause-next
returns-clause-next c =
    let anew = c.reset_counts.ensures in
    let following = subst (λ (h : HeapEntries). AreAfterHeads h.entries h.followers) anew c.are_after_heads.ensures in
    let some : 0 < length c.self.inside.heap.entries = omega (arith, ap (λ h. length h.entries) anew) in
    let top = at_top c.self.inside.heap.entries some in
    ap Some (c.first-event.ensures top.0 ∙ ap (λ h. event_of (get_or h.entries 0 top.0)) anew ∙ ap event_of (sym top.1))
    ∙ subst (λ (v : CountedList). Some (event_of top.0) ≡ least_event v.list) c.self.view_is
    (sym (ap (option_map event_of) (least_head c.self.inside.heap following c.self.inside.schedulings c.self.invariant top.0 some top.1)))
