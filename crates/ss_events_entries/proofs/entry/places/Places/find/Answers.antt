use Rattle.std.proofs.Common.{to_z, of_z, w64, to_z-of_z, ◌≡◌, ◌≢◌, ◌<◌, ◌≤◌, ◌∙◌, false, ℕ, ℤ, List, length, Some, int_eq, position, sym, subst, ap, ⊎_elim, arith}
use Rattle.ss_events_entries.proofs.Common.{blank_slot, following, get_or_default, HeadsAndFollowers, IsTaken, notices_of, Slot, slot_at}
use Rattle.ss_events_entries.proofs.Seen.{position_there, no_head_has, position_nowhere, notice-free}
use Rattle.ss_events_entries.proofs.entry.places.Places.find.Goals as goal
use Rattle.ss_events_entries.proofs.entry.places.Places.find.Goals.{After-index, After-from_residual}

-- no slot has the notice
none : (c : After-from_residual) → (s : ℕ) → s < length c.self.inside.slots.items → IsTaken c.self.inside.count (slot_at c.self.inside.slots.items s) → (slot_at c.self.inside.slots.items s).notice ≢ c.args.notice
none c =
    subst (λ (n : ℤ). (s : ℕ) → s < length c.self.inside.slots.items → IsTaken c.self.inside.count (slot_at c.self.inside.slots.items s) → (slot_at c.self.inside.slots.items s).notice ≢ n) (to_z-of_z c.ranges.notice)
    (subst (λ (xs : List Slot). (s : ℕ) → s < length xs → IsTaken c.self.inside.count (slot_at xs s) → (slot_at xs s).notice ≢ to_z w64 (of_z w64 c.args.notice)) c.deref.ensures.value c.in_err-slot.ensures)

pub returns-in_err-slot : goal.returns-in_err-slot
returns-in_err-slot c =
    c.from_residual.ensures
    ∙ sym (position_nowhere c.self.inside.count c.self.inside.free c.self.inside.slots.items c.self.inside.entries.items c.self.inside.nodes.items c.self.inside.directory c.self.invariant c.args.notice
    (notice-free c.self.inside.count c.self.inside.free c.self.inside.slots.items c.self.inside.entries.items c.self.inside.nodes.items c.self.inside.directory c.self.invariant c.args.notice (none c)).0)
    ∙ ap (λ (l : HeadsAndFollowers). position (int_eq c.args.notice) (notices_of l.heads)) c.self.view_is

-- the slot that was found
held : (c : After-index) → (c.in_ok-slot.slot < length c.self.inside.slots.items) × IsTaken c.self.inside.count (slot_at c.self.inside.slots.items c.in_ok-slot.slot) × ((slot_at c.self.inside.slots.items c.in_ok-slot.slot).notice ≡ c.args.notice)
held c =
    subst (λ (n : ℤ). (c.in_ok-slot.slot < length c.self.inside.slots.items) × IsTaken c.self.inside.count (slot_at c.self.inside.slots.items c.in_ok-slot.slot) × ((slot_at c.self.inside.slots.items c.in_ok-slot.slot).notice ≡ n)) (to_z-of_z c.ranges.notice)
    (subst (λ (xs : List Slot). (c.in_ok-slot.slot < length xs) × IsTaken c.self.inside.count (slot_at xs c.in_ok-slot.slot) × ((slot_at xs c.in_ok-slot.slot).notice ≡ to_z w64 (of_z w64 c.args.notice))) c.deref.ensures.value c.in_ok-slot.ensures)

-- where its slot is
place : (c : After-index) → c.index.result.now.at ≡ (slot_at c.self.inside.slots.items c.in_ok-slot.slot).at
place c = ap (λ (x : Slot). x.at) (c.index.ensures ∙ get_or_default c.self.inside.slots.items c.in_ok-slot.slot c.index.result.now blank_slot (held c).0)

pub returns-then-at-self : goal.returns-then-at-self
returns-then-at-self c =
    let e = (goal.at.returns-then-at-self c).After-index in
    ap (λ n. Some n) (place e)
    ∙ sym (position_there c.self.inside.count c.self.inside.free c.self.inside.slots.items c.self.inside.entries.items c.self.inside.nodes.items c.self.inside.directory c.self.invariant c.args.notice
    c.in_ok-slot.slot (held e).0 (held e).2 (omega (arith, place e, c.if-at-self.true)))
    ∙ ap (λ (l : HeadsAndFollowers). position (int_eq c.args.notice) (notices_of l.heads)) c.self.view_is

-- no head has the notice, where its slot is in no place
apart : (c : After-index) → c.self.inside.count ≤ c.index.result.now.at → following ≤ (slot_at c.self.inside.slots.items c.in_ok-slot.slot).at
apart c past = ⊎_elim (λ placed. absurd (omega (arith, past, placed, place c))) (λ it. it) (held c).1

pub returns-else-at-self : goal.returns-else-at-self
returns-else-at-self c =
    let e = (goal.at.returns-else-at-self c).After-index in
    sym (position_nowhere c.self.inside.count c.self.inside.free c.self.inside.slots.items c.self.inside.entries.items c.self.inside.nodes.items c.self.inside.directory c.self.invariant c.args.notice
    (no_head_has c.self.inside.count c.self.inside.free c.self.inside.slots.items c.self.inside.entries.items c.self.inside.nodes.items c.self.inside.directory c.self.invariant c.args.notice
    c.in_ok-slot.slot (held e).0 (held e).2 (apart e c.if-at-self.false)))
    ∙ ap (λ (l : HeadsAndFollowers). position (int_eq c.args.notice) (notices_of l.heads)) c.self.view_is
