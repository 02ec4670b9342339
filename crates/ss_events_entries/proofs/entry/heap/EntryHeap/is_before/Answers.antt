use Rattle.std.proofs.Common.{rules, ◌≡◌, ◌∙◌, get_or, ap, sym, to_z, of_z, w64}
use Rattle.ss_events_entries.proofs.Common.{int_lt, Mark, mark_of, nat_lt}
use Rattle.ss_events_entries.proofs.Times.{times_tell, orders_decide}
use Rattle.ss_events_entries.proofs.entry.heap.EntryHeap.is_before.Goals as goal

pub returns-then-early-late-clause-value : goal.returns-then-early-late-clause-value
returns-then-early-late-clause-value c = λ d.
    let t = c.mark-early.result.time in
    let u = c.mark-late.result.time in
    let early : to_z w64 (of_z w64 t) ≡ t = search rules in
    let late : to_z w64 (of_z w64 u) ≡ u = search rules in
    (λ i. int_lt (early i) (late i))
    ∙ times_tell (get_or c.args.self.now.entries c.args.a d) (get_or c.args.self.now.entries c.args.b d) t u
    (ap (λ (m : Mark). m.time) (c.mark-early.ensures d) ∙ ap (λ h. (get_or h.entries c.args.a d).key.time) c.self.view_is)
    (ap (λ (m : Mark). m.time) (c.mark-late.ensures d) ∙ ap (λ h. (get_or h.entries c.args.b d).key.time) c.self.view_is)
    (λ e. c.if-early-late.true (ap (of_z w64) e))

pub returns-clause-value : goal.returns-clause-value
returns-clause-value c = λ d.
    let e = get_or c.args.self.now.entries c.args.a d in
    let f = get_or c.args.self.now.entries c.args.b d in
    let t = c.mark-early.result.time in
    let u = c.mark-late.result.time in
    let early : to_z w64 (of_z w64 t) ≡ t = search rules in
    let late : to_z w64 (of_z w64 u) ≡ u = search rules in
    let first : c.mark-early.result ≡ mark_of e = c.mark-early.ensures d ∙ ap (λ h. mark_of (get_or h.entries c.args.a d)) c.self.view_is in
    let second : c.mark-late.result ≡ mark_of f = c.mark-late.ensures d ∙ ap (λ h. mark_of (get_or h.entries c.args.b d)) c.self.view_is in
    let same : e.key.time ≡ f.key.time = sym (ap (λ (m : Mark). m.time) first) ∙ sym early ∙ ap (to_z w64) c.if-early-late.false ∙ late ∙ ap (λ (m : Mark). m.time) second in
    (λ i. nat_lt (first i).order (second i).order)
    ∙ orders_decide e f same (λ is. c.if-early.false (ap (λ (m : Mark). m.order) first ∙ is)) (λ is. c.if-late.false (ap (λ (m : Mark). m.order) second ∙ is))
