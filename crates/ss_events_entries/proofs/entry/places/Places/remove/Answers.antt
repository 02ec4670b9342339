use Rattle.std.proofs.Common.{rules, to_z, of_z, w64, ◌≡◌, ◌≢◌, ◌+◌, ◌-◌, ◌<◌, ◌∙◌, cond, length, swap, set, subst, sym, ap, arith}
use Rattle.ss_events_entries.proofs.Common.{at_put, exchanged, HeapNode, IsGuess, length-swap, no_entry, no_slot, node, not_plain, Slot, slot_at, with_items}
use Rattle.std.specs.Prelude.{◌==◌}
use Rattle.ss_events_entries.specs.HeapEntries.{HeadsAndFollowers, HasRemovedEntry}
use Rattle.ss_events_entries.proofs.Lists.{written}
use Rattle.ss_events_entries.proofs.HeadsAndFollowers.{long_heads}
use Rattle.ss_events_entries.proofs.Swapped.{length-exchanged}
use Rattle.ss_events_entries.proofs.Seen.{node_whole}
use Rattle.ss_events_entries.proofs.Released.{freed}
use Rattle.ss_events_entries.proofs.Advanced.{room_spare, raised, raised_long, raised_slots, raised_slots_long, advanced, advanced_nodes, advanced_long, nodes_long}
use Rattle.ss_events_entries.proofs.Gone.{Gone, gone_like, gone-advanced, gone-dropped, lines, out_there, out_slot, out_time, out_notice, read_node, read_head, out, seen}
use Rattle.ss_events_entries.proofs.entry.places.Places.remove.Goals as goal
use Rattle.ss_events_entries.proofs.entry.places.Places.remove.Goals.{After-forget, then-next, else-next}

pub release-requires-clause-place : goal.release-requires-clause-place
release-requires-clause-place c =
    let n = c.self.inside.count in let f = c.self.inside.free in let xs = c.self.inside.slots.items in let ws = c.self.inside.entries.items in let ss = c.self.inside.nodes.items in
    let d = c.self.inside.directory in let k = c.args.at in let h = c.self.invariant in
    let k_in : k < n = omega (arith, c.requires.within, ap (λ (l : HeadsAndFollowers). length l.heads) c.self.view_is, long_heads n xs ws ss (omega (arith, h.few))) in
    let x_is = read_head n f xs ws ss d h k k_in c.index-node.result.now c.index.result.now c.index-node.ensures c.index.ensures in
    let room = room_spare n f xs ws ss d h k k_in (λ none. c.if-next.true (ap (λ (x : Slot). x.next) x_is ∙ none)) in
    omega (arith, room, ap length c.deref_mut-then-next-2.ensures.value, c.deref_mut-then-next-2.ensures.len, c.self.inside.nodes.ok.0)

pub release-requires-clause-slot : goal.release-requires-clause-slot
release-requires-clause-slot c =
    let n = c.self.inside.count in let f = c.self.inside.free in let xs = c.self.inside.slots.items in let ws = c.self.inside.entries.items in let ss = c.self.inside.nodes.items in
    let d = c.self.inside.directory in let k = c.args.at in let h = c.self.invariant in
    let k_in : k < n = omega (arith, c.requires.within, ap (λ (l : HeadsAndFollowers). length l.heads) c.self.view_is, long_heads n xs ws ss (omega (arith, h.few))) in
    let y_is = ap (λ (y : HeapNode). y.slot) (read_node n f xs ws ss d h k k_in c.index-node.result.now c.index-node.ensures) in
    omega (arith, y_is, out_slot n f xs ws ss d h k k_in, c.deref_mut-then-next-3.ensures.len, c.self.inside.slots.ok.0)

pub clear-requires : goal.clear-requires
clear-requires c = λ not_plain_there.
    let n = c.self.inside.count in let f = c.self.inside.free in let xs = c.self.inside.slots.items in let ws = c.self.inside.entries.items in let ss = c.self.inside.nodes.items in
    let d = c.self.inside.directory in let k = c.args.at in let h = c.self.invariant in
    let k_in : k < n = omega (arith, c.requires.within, ap (λ (l : HeadsAndFollowers). length l.heads) c.self.view_is, long_heads n xs ws ss (omega (arith, h.few))) in
    let y = c.index-node.result.now in
    omega (arith, node_whole n f xs ws ss d h k k_in y (read_node n f xs ws ss d h k k_in y c.index-node.ensures) not_plain_there, c.self.inside.entries.ok.0)

k_in : (c : After-forget) → c.args.at < c.self.inside.count
k_in c =
    omega (
      arith,
      c.requires.within,
      ap (λ (l : HeadsAndFollowers). length l.heads) c.self.view_is,
      long_heads c.self.inside.count c.self.inside.slots.items c.self.inside.entries.items c.self.inside.nodes.items (omega (arith, c.self.invariant.few)),
    )

its_node : (c : After-forget) → c.index-node.result.now ≡ node c.self.inside.nodes.items c.args.at
its_node c =
    read_node c.self.inside.count c.self.inside.free c.self.inside.slots.items c.self.inside.entries.items c.self.inside.nodes.items c.self.inside.directory c.self.invariant c.args.at (k_in c) c.index-node.result.now c.index-node.ensures

its_slot : (c : After-forget) → c.index.result.now ≡ slot_at c.self.inside.slots.items (node c.self.inside.nodes.items c.args.at).slot
its_slot c =
    read_head c.self.inside.count c.self.inside.free c.self.inside.slots.items c.self.inside.entries.items c.self.inside.nodes.items c.self.inside.directory c.self.invariant c.args.at (k_in c)
    c.index-node.result.now c.index.result.now c.index-node.ensures c.index.ensures

-- its notice
noticed : (c : After-forget) → to_z w64 (of_z w64 c.index.result.now.notice) ≡ (slot_at c.self.inside.slots.items (node c.self.inside.nodes.items c.args.at).slot).notice
noticed c =
    let same : to_z w64 (of_z w64 c.index.result.now.notice) ≡ c.index.result.now.notice = search rules in
    same ∙ ap (λ (x : Slot). x.notice) (its_slot c)

-- what there is then
gone : (c : After-forget)
    → Gone (seen c.self.inside.count c.self.inside.free c.self.inside.slots.items c.self.inside.entries.items c.self.inside.nodes.items c.self.inside.directory c.self.invariant c.args.at (k_in c)) c.args.at
    (out c.self.inside.count c.self.inside.free c.self.inside.slots.items c.self.inside.entries.items c.self.inside.nodes.items c.self.inside.directory c.self.invariant c.args.at (k_in c))
    c.if-next.self-inside.count c.if-next.self-inside.free c.if-next.self-inside.slots.items c.if-next.self-inside.entries.items c.if-next.self-inside.nodes.items c.forget.new.self
gone c =
    let n = c.self.inside.count in let f = c.self.inside.free in let xs = c.self.inside.slots.items in let ws = c.self.inside.entries.items in let ss = c.self.inside.nodes.items in
    let d = c.self.inside.directory in let k = c.args.at in let h = c.self.invariant in
    let old = seen n f xs ws ss d h k (k_in c) in
    let e = out n f xs ws ss d h k (k_in c) in
    let s_is = its_node c in
    let x_is = its_slot c in
    elim c.if-next.branch [
      | then-next w ↦
          let real : (slot_at xs (node ss k).slot).next ≢ no_slot = (λ none. w.if-next.true (ap (λ (x : Slot). x.next) x_is ∙ none)) in
          let ys = advanced n f xs ws ss d h k (k_in c) real in
          let us = advanced_nodes n f xs ws ss d h k (k_in c) real in
          let in_front : (with_items c.self.inside.nodes w.advance.new.nodes).items ≡ raised n f xs ws ss d h k (k_in c) real
          = written c.self.inside.nodes w.advance.new.nodes (raised n f xs ws ss d h k (k_in c) real)
          (w.advance.ensures.nodes ∙ (λ i. set (w.deref_mut.ensures.value i) k (record { mark = (slot_at (w.deref_mut-then-next.ensures.value i) (x_is i).next).mark; slot = (x_is i).next })))
          (raised_long n f xs ws ss d h k (k_in c) real ∙ sym c.self.inside.nodes.ok.0) in
          let slots_front : (with_items c.self.inside.slots w.advance.new.slots).items ≡ raised_slots n f xs ws ss d h k (k_in c) real
          = written c.self.inside.slots w.advance.new.slots (raised_slots n f xs ws ss d h k (k_in c) real)
          (w.advance.ensures.slots ∙ (λ i. at_put (w.deref_mut-then-next.ensures.value i) (x_is i).next k))
          (raised_slots_long n f xs ws ss d h k (k_in c) real ∙ sym c.self.inside.slots.ok.0) in
          let nodes_then : (with_items (with_items c.self.inside.nodes w.advance.new.nodes) w.release.new.nodes).items ≡ us
          = written (with_items c.self.inside.nodes w.advance.new.nodes) w.release.new.nodes us
          (w.release.ensures.nodes ∙ (λ i. freed ((w.deref_mut-then-next-2.ensures.value ∙ in_front) i) (n + f) (s_is i).slot))
          (nodes_long n f xs ws ss d h k (k_in c) real ∙ sym c.self.inside.nodes.ok.0) in
          let slots_then : (with_items (with_items c.self.inside.slots w.advance.new.slots) w.release.new.slots).items ≡ ys
          = written (with_items c.self.inside.slots w.advance.new.slots) w.release.new.slots ys
          (w.release.ensures.slots ∙ (λ i. at_put ((w.deref_mut-then-next-3.ensures.value ∙ slots_front) i) (s_is i).slot (n + f)))
          (advanced_long n f xs ws ss d h k (k_in c) real ∙ sym c.self.inside.slots.ok.0) in
          gone_like old k e c.if-next.self-inside.count n c.if-next.self-inside.free f c.if-next.self-inside.slots.items ys c.if-next.self-inside.entries.items ws c.if-next.self-inside.nodes.items us c.forget.new.self
          (λ i. (w.self-inside-is i).count) (λ i. (w.self-inside-is i).free) ((λ i. (w.self-inside-is i).slots.items) ∙ slots_then) (λ i. (w.self-inside-is i).entries.items) ((λ i. (w.self-inside-is i).nodes.items) ∙ nodes_then)
          (gone-advanced n f xs ws ss d h k (k_in c) real c.forget.new.self
          (λ m t apart other led.
          c.forget.ensures.others m t (λ is. apart (is ∙ noticed c)) (λ is. other (is ∙ ap (λ (y : HeapNode). y.slot) s_is))
          (subst (λ g. IsGuess g m t) (λ i. (sym w.self-inside-is i).directory) led)))
      | else-next w ↦
          let none : (slot_at xs (node ss k).slot).next ≡ no_slot = sym (ap (λ (x : Slot). x.next) x_is) ∙ w.if-next.false in
          let l = n - 1 in
          let one : n ≡ l + 1 = omega (arith, k_in c) in
          let us = swap ss k l in
          let ys = exchanged ss xs k l in
          let nodes_then : (with_items c.self.inside.nodes w.exchange.new.nodes).items ≡ us
          = written c.self.inside.nodes w.exchange.new.nodes us
          (w.exchange.ensures.nodes ∙ (λ i. swap (w.deref_mut-else-next.ensures.value i) k l))
          (length-swap ss k l ∙ sym c.self.inside.nodes.ok.0) in
          let slots_then : (with_items c.self.inside.slots w.exchange.new.slots).items ≡ ys
          = written c.self.inside.slots w.exchange.new.slots ys
          (w.exchange.ensures.slots ∙ (λ i. exchanged (w.deref_mut-else-next.ensures.value i) (w.deref_mut-else-next-2.ensures.value i) k l))
          (length-exchanged ss xs k l ∙ sym c.self.inside.slots.ok.0) in
          let o = c.index-node.result.now.mark.order in
          let vs = w.clear.new.entries.items in
          let vs_is : vs ≡ cond (o == not_plain) (set ws (node ss k).slot no_entry) ws
          = w.clear.ensures ∙ (λ i. cond (o == not_plain) (set ws (s_is i).slot no_entry) ws) in
          gone_like old k e c.if-next.self-inside.count l c.if-next.self-inside.free f c.if-next.self-inside.slots.items ys c.if-next.self-inside.entries.items vs c.if-next.self-inside.nodes.items us c.forget.new.self
          (λ i. (w.self-inside-is i).count) (λ i. (w.self-inside-is i).free) ((λ i. (w.self-inside-is i).slots.items) ∙ slots_then) (λ i. (w.self-inside-is i).entries.items) ((λ i. (w.self-inside-is i).nodes.items) ∙ nodes_then)
          (gone-dropped n f xs ws ss d h k (k_in c) l one none o vs vs_is c.forget.new.self
          (λ m t apart other led.
          c.forget.ensures.others m t (λ is. apart (is ∙ noticed c)) (λ is. other (is ∙ ap (λ (y : HeapNode). y.slot) s_is))
          (subst (λ g. IsGuess g m t) (λ i. (sym w.self-inside-is i).directory) led)))
    ]

pub invariant_of-self : goal.invariant_of-self
invariant_of-self c = (gone (goal.at.invariant_of-self c).After-forget).held

pub returns-clause-removed : goal.returns-clause-removed
returns-clause-removed c =
    let e = (goal.at.returns-clause-removed c).After-forget in
    let n = c.self.inside.count in let f = c.self.inside.free in let xs = c.self.inside.slots.items in let ws = c.self.inside.entries.items in let ss = c.self.inside.nodes.items in
    let d = c.self.inside.directory in let k = c.args.at in let h = c.self.invariant in
    let it = out n f xs ws ss d h k (k_in e) in
    let fits : to_z w64 (of_z w64 c.index-node.result.now.mark.time) ≡ c.index-node.result.now.mark.time = search rules in
    let time = fits ∙ ap (λ (y : HeapNode). y.mark.time) (its_node e) ∙ out_time n f xs ws ss d h k (k_in e) in
    let notice = noticed e ∙ out_notice n f xs ws ss d h k (k_in e) in
    let then = lines c.if-next.self-inside.count c.if-next.self-inside.slots.items c.if-next.self-inside.entries.items c.if-next.self-inside.nodes.items in
    subst (λ old. HasRemovedEntry old then k (to_z w64 (of_z w64 c.index-node.result.now.mark.time), to_z w64 (of_z w64 c.index.result.now.notice))) c.self.view_is
    (record {
      entry = it;
      there = out_there n f xs ws ss d h k (k_in e) it;
      is = λ i. (time i, notice i);
      rest = (gone e).rest;
    })
