use Rattle.std.proofs.Common.{w64, to_z, of_z, to_z-of_z, ◌≡◌, ◌≢◌, ◌+◌, ◌-◌, ◌<◌, ◌∙◌, ◌∷◌, ℕ, false, length, int_eq, refl, ap, sym, subst, arith}
use Rattle.ss_events_entries.proofs.Common.{AreHeld, followers, get_or_default, heads, HeadsAndFollowers, HeapNode, IsPermutation, IsTaken, list_any, no_node, no_slot, node, notices_of, plain_entry, slot_at, with_items}
use Rattle.ss_events_entries.proofs.Lists.{written}
use Rattle.ss_events_entries.proofs.Seen.{notice-free}
use Rattle.ss_events_entries.proofs.Pushed.{nowhere}
use Rattle.ss_events_entries.proofs.Joined.{joined, length-joined, free_within, held-joined, heads-joined, followers-lined_up}
use Rattle.ss_events_entries.proofs.entry.places.Places.append_to.Goals as goal
use Rattle.ss_events_entries.proofs.entry.places.Places.append_to.Goals.{After-deref_mut, After-line_up}

-- there is a free slot
some : (c : After-deref_mut) → 0 < c.self.inside.free
some c = omega (arith, c.if-self-eq0.false)

slot : (c : After-deref_mut) → c.index.result.now.slot ≡ (node c.self.inside.nodes.items (c.self.inside.count + c.self.inside.free - 1)).slot
slot c =
    let k = c.self.inside.count + c.self.inside.free - 1 in
    ap (λ (t : HeapNode). t.slot) (c.index.ensures ∙ get_or_default c.self.inside.nodes.items k c.index.result.now no_node (omega (arith, some c, c.self.invariant.few)))

-- the one before
within : (c : After-deref_mut) → c.args.before < length c.self.inside.slots.items
within c = subst (λ l. c.args.before < length l) c.deref.ensures.value (c.if-not-is_last_before.ensures.within refl)

taken : (c : After-deref_mut) → IsTaken c.self.inside.count (slot_at c.self.inside.slots.items c.args.before)
taken c = subst (λ l. IsTaken c.self.inside.count (slot_at l c.args.before)) c.deref.ensures.value (c.if-not-is_last_before.ensures.taken refl)

last : (c : After-deref_mut) → (slot_at c.self.inside.slots.items c.args.before).next ≡ no_slot
last c = subst (λ l. (slot_at l c.args.before).next ≡ no_slot) c.deref.ensures.value (c.if-not-is_last_before.ensures.last refl)

-- the notice is new
fresh : (c : After-deref_mut) → (t : ℕ) → t < length c.self.inside.slots.items → IsTaken c.self.inside.count (slot_at c.self.inside.slots.items t) → (slot_at c.self.inside.slots.items t).notice ≢ to_z w64 (of_z w64 c.args.notice)
fresh c =
    let s = c.self.inside in
    let new = c.note_at_once.ensures.fresh c.if-not-note_at_once.false in
    nowhere s.count s.free s.slots.items s.entries.items s.nodes.items s.directory c.self.invariant (to_z w64 (of_z w64 c.args.notice)) new.0 new.1

unseen : (c : After-deref_mut)
    → (list_any (int_eq c.args.notice) (notices_of c.args.self.now.heads) ≡ false) × (list_any (int_eq c.args.notice) (notices_of c.args.self.now.followers) ≡ false)
unseen c =
    let s = c.self.inside in
    subst (λ n. (list_any (int_eq n) (notices_of c.args.self.now.heads) ≡ false) × (list_any (int_eq n) (notices_of c.args.self.now.followers) ≡ false)) (to_z-of_z c.ranges.notice)
    (subst (λ (l : HeadsAndFollowers). (list_any (int_eq (to_z w64 (of_z w64 c.args.notice))) (notices_of l.heads) ≡ false) × (list_any (int_eq (to_z w64 (of_z w64 c.args.notice))) (notices_of l.followers) ≡ false)) c.self.view_is
    (notice-free s.count s.free s.slots.items s.entries.items s.nodes.items s.directory c.self.invariant (to_z w64 (of_z w64 c.args.notice)) (fresh c)))

-- the slots then
slots : (c : After-line_up) → (with_items c.self.inside.slots c.line_up.new.slots).items ≡ joined c.self.inside.slots.items c.args.before c.index.result.now.slot (to_z w64 (of_z w64 c.args.notice)) c.args.mark
slots c =
    let xs = c.self.inside.slots.items in
    let p = c.args.before in
    let s = c.index.result.now.slot in
    let n = to_z w64 (of_z w64 c.args.notice) in
    written c.self.inside.slots c.line_up.new.slots (joined xs p s n c.args.mark)
    (c.line_up.ensures.slots ∙ ap (λ l. joined l p s n c.args.mark) c.deref_mut.ensures.value)
    (length-joined xs p s n c.args.mark ∙ sym c.self.inside.slots.ok.0)

pub line_up-requires-clause-within : goal.line_up-requires-clause-within
line_up-requires-clause-within c =
    let e = (goal.at.line_up-requires-clause-within c).After-deref_mut in
    let s = c.self.inside in
    let free : c.index.result.now.slot < length s.slots.items =
    free_within s.count s.free s.slots.items s.entries.items s.nodes.items s.directory c.self.invariant (some e) c.index.result.now.slot (slot e) c.args.before (within e) (taken e) (last e) c.args.notice c.args.mark in
    subst (λ l. c.index.result.now.slot < length l) (sym c.deref_mut.ensures.value) free

pub invariant_of-self-2 : goal.invariant_of-self-2
invariant_of-self-2 c =
    let e = (goal.at.invariant_of-self-2 c).After-deref_mut in
    let l = (goal.at.invariant_of-self-2 c).After-line_up in
    let s = c.self.inside in
    let did = c.if-not-note_at_once.false in
    let before = c.if-not-is_last_before.ensures in
    subst (λ xs. AreHeld s.count (s.free - 1) xs s.entries.items s.nodes.items c.note_at_once.new.self) (sym (slots l))
    (held-joined s.count s.free s.slots.items s.entries.items s.nodes.items s.directory c.self.invariant (some e) c.index.result.now.slot (slot e) c.args.before (within e) (taken e) (last e)
    (to_z w64 (of_z w64 c.args.notice)) c.args.mark c.requires.plain
    (subst (λ xs. (slot_at xs c.args.before).mark.time ≡ c.args.mark.time) c.deref.ensures.value (before.time refl))
    (subst (λ xs. (slot_at xs c.args.before).mark.order < c.args.mark.order) c.deref.ensures.value (before.order refl))
    (fresh e) c.note_at_once.new.self (c.note_at_once.ensures.noted did) c.note_at_once.ensures.others)

pub returns-clause-heads : goal.returns-clause-heads
returns-clause-heads c =
    let e = (goal.at.returns-clause-heads c).After-deref_mut in
    let l = (goal.at.returns-clause-heads c).After-line_up in
    let s = c.self.inside in
    ap (λ xs. heads s.count xs s.entries.items s.nodes.items) (slots l)
    ∙ heads-joined s.count s.free s.slots.items s.entries.items s.nodes.items s.directory c.self.invariant (some e) c.index.result.now.slot (slot e) c.args.before (within e) (taken e) (last e)
    (to_z w64 (of_z w64 c.args.notice)) c.args.mark
    ∙ ap (λ (v : HeadsAndFollowers). v.heads) c.self.view_is

pub returns-clause-done : goal.returns-clause-done
returns-clause-done c = λ _.
    let e = (goal.at.returns-clause-done c).After-deref_mut in
    let l = (goal.at.returns-clause-done c).After-line_up in
    let s = c.self.inside in
    let more : IsPermutation (plain_entry c.args.mark (to_z w64 (of_z w64 c.args.notice)) ∷ followers s.slots.items) (followers (joined s.slots.items c.args.before c.index.result.now.slot (to_z w64 (of_z w64 c.args.notice)) c.args.mark)) =
    followers-lined_up s.count s.free s.slots.items s.entries.items s.nodes.items s.directory c.self.invariant (some e) c.index.result.now.slot (slot e) c.args.before (within e) (taken e) (last e)
    (to_z w64 (of_z w64 c.args.notice)) c.args.mark in
    subst (λ n. IsPermutation (plain_entry c.args.mark n ∷ c.args.self.now.followers) (followers (with_items s.slots c.line_up.new.slots).items)) (to_z-of_z c.ranges.notice)
    (subst (λ (v : HeadsAndFollowers). IsPermutation (plain_entry c.args.mark (to_z w64 (of_z w64 c.args.notice)) ∷ v.followers) (followers (with_items s.slots c.line_up.new.slots).items)) c.self.view_is
    (subst (λ xs. IsPermutation (plain_entry c.args.mark (to_z w64 (of_z w64 c.args.notice)) ∷ followers s.slots.items) (followers xs)) (sym (slots l)) more))

pub returns-clause-apart : goal.returns-clause-apart
returns-clause-apart c = λ _. (unseen (goal.at.returns-clause-apart c).After-deref_mut).0

pub returns-clause-fresh : goal.returns-clause-fresh
returns-clause-fresh c = λ _. (unseen (goal.at.returns-clause-fresh c).After-deref_mut).1
