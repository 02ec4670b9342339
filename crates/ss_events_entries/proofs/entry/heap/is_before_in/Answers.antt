use Rattle.std.proofs.Common.{rules, ◌≡◌, ◌+◌, ◌∙◌, get_or, ap, sym, to_z, of_z, w64}
use Rattle.ss_events_entries.proofs.Common.{int_lt, Mark, mark_of, nat_lt, no_node}
use Rattle.ss_events_entries.proofs.Times.{times_tell, orders_decide}
use Rattle.ss_events_entries.proofs.entry.heap.is_before_in.Goals as goal

pub returns-then-early-late : goal.returns-then-early-late
returns-then-early-late c = λ d.
    let from = c.args.from in
    let t = (get_or c.args.four.now c.args.a no_node).mark.time in
    let u = (get_or c.args.four.now c.args.b no_node).mark.time in
    let early : to_z w64 (of_z w64 t) ≡ t = search rules in
    let late : to_z w64 (of_z w64 u) ≡ u = search rules in
    (λ i. int_lt (early i) (late i))
    ∙ times_tell (get_or c.args.entries.now.heads (from + c.args.a) d) (get_or c.args.entries.now.heads (from + c.args.b) d) t u
    (ap (λ (m : Mark). m.time) (c.requires.marks c.args.a c.requires.a no_node d))
    (ap (λ (m : Mark). m.time) (c.requires.marks c.args.b c.requires.b no_node d))
    (λ e. c.if-early-late.true (ap (of_z w64) e))

pub returns : goal.returns
returns c = λ d.
    let from = c.args.from in
    let e = get_or c.args.entries.now.heads (from + c.args.a) d in
    let f = get_or c.args.entries.now.heads (from + c.args.b) d in
    let t = (get_or c.args.four.now c.args.a no_node).mark.time in
    let u = (get_or c.args.four.now c.args.b no_node).mark.time in
    let early : to_z w64 (of_z w64 t) ≡ t = search rules in
    let late : to_z w64 (of_z w64 u) ≡ u = search rules in
    let first : (get_or c.args.four.now c.args.a no_node).mark ≡ mark_of e = c.requires.marks c.args.a c.requires.a no_node d in
    let second : (get_or c.args.four.now c.args.b no_node).mark ≡ mark_of f = c.requires.marks c.args.b c.requires.b no_node d in
    let same : e.key.time ≡ f.key.time = sym (ap (λ (m : Mark). m.time) first) ∙ sym early ∙ ap (to_z w64) c.if-early-late.false ∙ late ∙ ap (λ (m : Mark). m.time) second in
    (λ i. nat_lt (first i).order (second i).order)
    ∙ orders_decide e f same (λ is. c.if-early.false (ap (λ (m : Mark). m.order) first ∙ is)) (λ is. c.if-late.false (ap (λ (m : Mark). m.order) second ∙ is))
