use Rattle.std.proofs.Common.{to_z, of_z, to_z-of_z, w64, ◌+◌, ◌-◌, ◌≡◌, ◌<◌, ◌≤◌, ◌∙◌, sym, ap, subst, inr, ◌∷◌, int_eq, length, arith}
use Rattle.ss_events_entries.proofs.Common.{AreHeld, at_put, followers, following, heads, HeadsAndFollowers, IsPermutation, IsTaken, list_any, notices_of, Slot, slot_at, with_items}
use Rattle.ss_events_entries.proofs.Lists.{written}
use Rattle.ss_events_entries.proofs.HeadsAndFollowers.{follower}
use Rattle.ss_events_entries.proofs.Released.{room_of_follower, freed, freed-long}
use Rattle.ss_events_entries.proofs.Removed.{before_in, close, closed_long, left, left_long, held-left, heads-left, followers_left}
use Rattle.ss_events_entries.proofs.Gone.{read_slot}
use Rattle.ss_events_entries.proofs.Seen.{no_follower_has, follower_has}
use Rattle.ss_events_entries.proofs.entry.places.Places.remove_follower.Goals as goal
use Rattle.ss_events_entries.proofs.entry.places.Places.remove_follower.Goals.{After-forget}

pub returns-in_default-clause-found : goal.returns-in_default-clause-found
returns-in_default-clause-found c =
    let xs = c.self.inside.slots.items in
    let same = c.deref.ensures.value in
    sym (no_follower_has xs c.args.notice
    (λ s s_in s_follows is.
    c.in_default.ensures s (omega (arith, s_in, ap length same)) (inr (omega (arith, s_follows, ap (λ l. (slot_at l s).at) same)))
    (ap (λ l. (slot_at l s).notice) same ∙ is ∙ sym (to_z-of_z c.ranges.notice))))
    ∙ ap (λ (l : HeadsAndFollowers). list_any (int_eq c.args.notice) (notices_of l.followers)) c.self.view_is

pub returns-then-at-lt-FOLLOWING-clause-found : goal.returns-then-at-lt-FOLLOWING-clause-found
returns-then-at-lt-FOLLOWING-clause-found c =
    let xs = c.self.inside.slots.items in
    let t = c.in-Some.slot in
    let same = c.deref.ensures.value in
    let t_in : t < length xs = omega (arith, c.in-Some.ensures.0, ap length same) in
    let t_is = read_slot xs t c.index.result.now c.index.ensures t_in in
    sym (no_follower_has xs c.args.notice
    (λ s s_in s_follows is.
    let e : s ≡ t =
    c.self.invariant.distinct s t s_in t_in (inr s_follows) (subst (λ l. IsTaken c.self.inside.count (slot_at l t)) same c.in-Some.ensures.1)
    (is ∙ sym (to_z-of_z c.ranges.notice) ∙ sym c.in-Some.ensures.2 ∙ ap (λ l. (slot_at l t).notice) same) in
    omega (arith, c.if-at-lt-FOLLOWING.true, s_follows, ap (λ u. (slot_at xs u).at) e, ap (λ (x : Slot). x.at) t_is)))
    ∙ ap (λ (l : HeadsAndFollowers). list_any (int_eq c.args.notice) (notices_of l.followers)) c.self.view_is

pub close_up-requires-clause-before : goal.close_up-requires-clause-before
close_up-requires-clause-before c =
    let xs = c.self.inside.slots.items in
    let s = c.in-Some.slot in
    let s_in : s < length xs = omega (arith, c.in-Some.ensures.0, ap length c.deref.ensures.value) in
    let at = ap (λ (x : Slot). x.at) (read_slot xs s c.index.result.now c.index.ensures s_in) in
    let it = before_in c.self.inside.count c.self.inside.free xs c.self.inside.entries.items c.self.inside.nodes.items c.self.inside.directory c.self.invariant s s_in (omega (arith, c.if-at-lt-FOLLOWING.false, at)) in
    omega (arith, it, at, ap length c.deref_mut.ensures.value)

pub release-requires-clause-place : goal.release-requires-clause-place
release-requires-clause-place c =
    let xs = c.self.inside.slots.items in
    let s = c.in-Some.slot in
    let s_in : s < length xs = omega (arith, c.in-Some.ensures.0, ap length c.deref.ensures.value) in
    let at = ap (λ (x : Slot). x.at) (read_slot xs s c.index.result.now c.index.ensures s_in) in
    let it = room_of_follower c.self.inside.count c.self.inside.free xs c.self.inside.entries.items c.self.inside.nodes.items c.self.inside.directory c.self.invariant s s_in (omega (arith, c.if-at-lt-FOLLOWING.false, at)) in
    omega (arith, it, ap length c.deref_mut-2.ensures.value)

-- its slot
s_in : (c : After-forget) → c.in-Some.slot < length c.self.inside.slots.items
s_in c = omega (arith, c.in-Some.ensures.0, ap length c.deref.ensures.value)

s_is : (c : After-forget) → c.index.result.now ≡ slot_at c.self.inside.slots.items c.in-Some.slot
s_is c = read_slot c.self.inside.slots.items c.in-Some.slot c.index.result.now c.index.ensures (s_in c)

s_follows : (c : After-forget) → following ≤ (slot_at c.self.inside.slots.items c.in-Some.slot).at
s_follows c = omega (arith, c.if-at-lt-FOLLOWING.false, ap (λ (x : Slot). x.at) (s_is c))

its_notice : (c : After-forget) → (slot_at c.self.inside.slots.items c.in-Some.slot).notice ≡ c.args.notice
its_notice c = sym (ap (λ l. (slot_at l c.in-Some.slot).notice) c.deref.ensures.value) ∙ c.in-Some.ensures.2 ∙ to_z-of_z c.ranges.notice

closed_then : (c : After-forget) → (with_items c.self.inside.slots c.close_up.new.slots).items
    ≡ close c.self.inside.slots.items ((slot_at c.self.inside.slots.items c.in-Some.slot).at - following) (slot_at c.self.inside.slots.items c.in-Some.slot).next
closed_then c =
    let xs = c.self.inside.slots.items in
    let x = slot_at xs c.in-Some.slot in
    written c.self.inside.slots c.close_up.new.slots (close xs (x.at - following) x.next)
    (c.close_up.ensures.slots ∙ (λ i. close (c.deref_mut.ensures.value i) ((s_is c i).at - following) (s_is c i).next))
    (closed_long c.self.inside.count c.self.inside.free xs c.self.inside.entries.items c.self.inside.nodes.items c.self.inside.directory c.self.invariant c.in-Some.slot (s_in c) (s_follows c)
    ∙ sym c.self.inside.slots.ok.0)

slots_then : (c : After-forget) → (with_items (with_items c.self.inside.slots c.close_up.new.slots) c.release.new.slots).items
    ≡ left c.self.inside.count c.self.inside.free c.self.inside.slots.items c.self.inside.entries.items c.self.inside.nodes.items c.self.inside.directory c.self.invariant c.in-Some.slot (s_in c) (s_follows c)
slots_then c =
    let k = c.self.inside.count + c.self.inside.free in
    written (with_items c.self.inside.slots c.close_up.new.slots) c.release.new.slots
    (left c.self.inside.count c.self.inside.free c.self.inside.slots.items c.self.inside.entries.items c.self.inside.nodes.items c.self.inside.directory c.self.invariant c.in-Some.slot (s_in c) (s_follows c))
    (c.release.ensures.slots ∙ (λ i. at_put (c.deref_mut-3.ensures.value i) c.in-Some.slot k) ∙ (λ i. at_put (closed_then c i) c.in-Some.slot k))
    (left_long c.self.inside.count c.self.inside.free c.self.inside.slots.items c.self.inside.entries.items c.self.inside.nodes.items c.self.inside.directory c.self.invariant c.in-Some.slot (s_in c) (s_follows c)
    ∙ sym c.self.inside.slots.ok.0)

nodes_then : (c : After-forget) → (with_items c.self.inside.nodes c.release.new.nodes).items ≡ freed c.self.inside.nodes.items (c.self.inside.count + c.self.inside.free) c.in-Some.slot
nodes_then c =
    let k = c.self.inside.count + c.self.inside.free in
    written c.self.inside.nodes c.release.new.nodes (freed c.self.inside.nodes.items k c.in-Some.slot)
    (c.release.ensures.nodes ∙ (λ i. freed (c.deref_mut-2.ensures.value i) k c.in-Some.slot))
    (freed-long c.self.inside.nodes.items k c.in-Some.slot ∙ sym c.self.inside.nodes.ok.0)

forgotten : (c : After-forget) → to_z w64 (of_z w64 c.args.notice) ≡ (slot_at c.self.inside.slots.items c.in-Some.slot).notice
forgotten c = to_z-of_z c.ranges.notice ∙ sym (its_notice c)

pub invariant_of-self : goal.invariant_of-self
invariant_of-self c =
    let n = c.self.inside.count in
    let f = c.self.inside.free + 1 in
    let ws = c.self.inside.entries.items in
    let us = (with_items c.self.inside.nodes c.release.new.nodes).items in
    subst (λ l. AreHeld n f l ws us c.forget.new.self) (sym (slots_then c))
    (subst (λ l. AreHeld n f (left n c.self.inside.free c.self.inside.slots.items ws c.self.inside.nodes.items c.self.inside.directory c.self.invariant c.in-Some.slot (s_in c) (s_follows c)) ws l c.forget.new.self) (sym (nodes_then c))
    (held-left n c.self.inside.free c.self.inside.slots.items ws c.self.inside.nodes.items c.self.inside.directory c.self.invariant c.in-Some.slot (s_in c) (s_follows c) c.forget.new.self
    (λ m t apart other led. c.forget.ensures.others m t (λ is. apart (is ∙ forgotten c)) other led)))

pub returns-clause-found : goal.returns-clause-found
returns-clause-found c =
    sym (follower_has c.self.inside.slots.items c.args.notice c.in-Some.slot (s_in c) (s_follows c) (its_notice c))
    ∙ ap (λ (l : HeadsAndFollowers). list_any (int_eq c.args.notice) (notices_of l.followers)) c.self.view_is

pub returns-clause-left : goal.returns-clause-left
returns-clause-left c = λ _.
    let n = c.self.inside.count in
    let xs = c.self.inside.slots.items in
    let ws = c.self.inside.entries.items in
    let ss = c.self.inside.nodes.items in
    let e = follower (slot_at xs c.in-Some.slot) in
    record {
      entry = e;
      noticed = its_notice c;
      heads =
          (λ i. heads n (slots_then c i) ws (nodes_then c i))
          ∙ heads-left n c.self.inside.free xs ws ss c.self.inside.directory c.self.invariant c.in-Some.slot (s_in c) (s_follows c)
          ∙ ap (λ (l : HeadsAndFollowers). l.heads) c.self.view_is;
      followers =
          subst (λ l. IsPermutation l (e ∷ followers (with_items (with_items c.self.inside.slots c.close_up.new.slots) c.release.new.slots).items)) (ap (λ (l : HeadsAndFollowers). l.followers) c.self.view_is)
          (subst (λ l. IsPermutation (followers xs) (e ∷ followers l)) (sym (slots_then c))
          (followers_left n c.self.inside.free xs ws ss c.self.inside.directory c.self.invariant c.in-Some.slot (s_in c) (s_follows c)));
    }
