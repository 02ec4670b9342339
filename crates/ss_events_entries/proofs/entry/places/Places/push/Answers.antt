use Rattle.std.proofs.Common.{rules, to_z, of_z, w64, ℕ, ◌≡◌, ◌≢◌, ◌<◌, ◌∙◌, ◌++◌, ◌∷◌, [], length, int_eq, set, subst, ap, refl, arith}
use Rattle.ss_events_entries.proofs.Common.{AreLed, Entry, HeadsAndFollowers, IsTaken, list_any, notices_of, slot_at}
use Rattle.ss_events_entries.proofs.Seen.{notice-without}
use Rattle.ss_events_entries.proofs.Grown.{held-led, same_held, made_room, reached, HasSome}
use Rattle.ss_events_entries.proofs.Pushed.{led_still, place_in, its_slot_in, whole_put, Pushes}
use Rattle.ss_events_entries.proofs.entry.places.Places.push.Goals as goal
use Rattle.ss_events_entries.proofs.entry.places.Places.push.Goals.{After-reach, After-keep}

pub invariant_of-self-in_err-self-inside : goal.invariant_of-self-in_err-self-inside
invariant_of-self-in_err-self-inside c =
    same_held c.self.inside.count c.self.inside.free c.self.inside.free c.self.inside.slots.items c.some_free.new.slots.items c.self.inside.entries.items c.self.inside.nodes.items c.some_free.new.nodes.items c.make_cells.new.directory
    refl c.in_err-self-inside.ensures.err_slots c.in_err-self-inside.ensures.err_nodes
    (held-led c.self.inside.count c.self.inside.free c.self.inside.slots.items c.self.inside.entries.items c.self.inside.nodes.items c.self.inside.directory c.make_cells.new.directory c.self.invariant
    (subst (AreLed c.make_cells.new.directory c.self.inside.count) c.deref.ensures.value c.make_cells.ensures))

-- once there is a free slot, and room for an entry that is stored whole
roomy : (c : After-reach)
    → HasSome c.self.inside.count c.in_ok-self-inside.field-0 c.self.inside.slots.items c.some_free.new.slots.items c.self.inside.entries.items c.reach.new.entries.items c.self.inside.nodes.items c.some_free.new.nodes.items c.make_cells.new.directory
roomy c =
    let made = c.in_ok-self-inside.ensures in
    reached c.self.inside.count c.in_ok-self-inside.field-0 c.self.inside.slots.items c.some_free.new.slots.items c.self.inside.entries.items c.self.inside.entries.items c.reach.new.entries.items c.self.inside.nodes.items c.some_free.new.nodes.items c.make_cells.new.directory c.reach.ensures.same
    (made_room c.self.inside.count c.self.inside.free c.in_ok-self-inside.field-0 c.self.inside.slots.len c.self.inside.slots.items c.deref.result.now c.some_free.new.slots.items c.self.inside.entries.items c.self.inside.nodes.items c.some_free.new.nodes.items
    c.self.inside.directory c.make_cells.new.directory c.self.invariant c.make_cells.ensures c.deref.ensures.value c.self.inside.slots.ok.0 made.many made.slots made.nodes made.small)

pub invariant_of-self-in_err-reach : goal.invariant_of-self-in_err-reach
invariant_of-self-in_err-reach c = (roomy (goal.at.invariant_of-self-in_err-reach c).After-reach).held

pub returns-in_err-reach-clause-err : goal.returns-in_err-reach-clause-err
returns-in_err-reach-clause-err c =
    let room = roomy (goal.at.returns-in_err-reach-clause-err c).After-reach in
    let is : record { heads = _; followers = _ } ≡ c.args.self.now = (λ i. record { heads = room.heads i; followers = room.followers i }) ∙ c.self.view_is in
    search (is, rules)

-- its notice
its_notice : (c : After-reach) → to_z w64 (of_z w64 c.entry.inside.notice) ≡ c.args.entry.notice
its_notice c =
    let same : to_z w64 (of_z w64 c.entry.inside.notice) ≡ c.entry.inside.notice = search rules in
    same ∙ ap (λ (x : Entry). x.notice) c.entry.view_is

-- no other has it
fresh : (c : After-reach) → (t : ℕ) → t < length c.some_free.new.slots.items → IsTaken c.self.inside.count (slot_at c.some_free.new.slots.items t) → (slot_at c.some_free.new.slots.items t).notice ≢ to_z w64 (of_z w64 c.entry.inside.notice)
fresh c t lt taken is =
    let room = roomy c in
    let n = c.args.entry.notice in
    notice-without c.self.inside.count c.in_ok-self-inside.field-0 c.some_free.new.slots.items c.reach.new.entries.items c.some_free.new.nodes.items c.make_cells.new.directory room.held n
    (ap (λ l. list_any (int_eq n) (notices_of l)) (room.heads ∙ ap (λ (l : HeadsAndFollowers). l.heads) c.self.view_is) ∙ c.requires.apart)
    (ap (λ l. list_any (int_eq n) (notices_of l)) (room.followers ∙ ap (λ (l : HeadsAndFollowers). l.followers) c.self.view_is) ∙ c.requires.fresh)
    t lt taken (is ∙ its_notice c)

pub invariant_of-self-in_err-note : goal.invariant_of-self-in_err-note
invariant_of-self-in_err-note c =
    let e = (goal.at.invariant_of-self-in_err-note c).After-reach in
    led_still c.self.inside.count c.in_ok-self-inside.field-0 c.some_free.new.slots.items c.reach.new.entries.items c.some_free.new.nodes.items c.make_cells.new.directory c.note.new.self (roomy e).held
    (to_z w64 (of_z w64 c.entry.inside.notice)) (fresh e) c.note.ensures.others

pub returns-in_err-note-clause-err : goal.returns-in_err-note-clause-err
returns-in_err-note-clause-err c =
    let room = roomy (goal.at.returns-in_err-note-clause-err c).After-reach in
    let is : record { heads = _; followers = _ } ≡ c.args.self.now = (λ i. record { heads = room.heads i; followers = room.followers i }) ∙ c.self.view_is in
    search (is, rules)

pub index_mut-requires : goal.index_mut-requires
index_mut-requires c =
    let room = roomy (goal.at.index_mut-requires c).After-reach in
    omega (arith, place_in c.self.inside.count c.in_ok-self-inside.field-0 c.some_free.new.slots.items c.reach.new.entries.items c.some_free.new.nodes.items c.make_cells.new.directory room.held room.some, c.some_free.new.nodes.ok.0)

-- the slot is one of those that there are
slot_in : (c : After-reach) → c.index.result.now.slot < length c.some_free.new.slots.items
slot_in c =
    let room = roomy c in
    its_slot_in c.self.inside.count c.in_ok-self-inside.field-0 c.some_free.new.slots.items c.reach.new.entries.items c.some_free.new.nodes.items c.make_cells.new.directory room.held room.some c.index.result.now c.index.ensures

pub index_mut-requires-2 : goal.index_mut-requires-2
index_mut-requires-2 c = omega (arith, slot_in (goal.at.index_mut-requires-2 c).After-reach, c.some_free.new.slots.ok.0)

-- the invariant and the view then
pushes : (c : After-keep)
    → Pushes c.self.inside.count c.in_ok-self-inside.field-0 c.some_free.new.slots.items (set c.some_free.new.slots.items c.index.result.now.slot c.alone.result) c.reach.new.entries.items c.keep.new.entries.items c.some_free.new.nodes.items (set c.some_free.new.nodes.items c.self.inside.count (record { mark = c.mark_of-mark.result; slot = c.index.result.now.slot })) c.note.new.self
    c.args.entry
pushes c =
    let e = (goal.at.invariant_of-self-2 c).After-reach in
    let room = roomy e in
    whole_put c.self.inside.count c.in_ok-self-inside.field-0 c.some_free.new.slots.items c.reach.new.entries.items c.some_free.new.nodes.items c.make_cells.new.directory room.held room.some
    c.index.result.now c.index.ensures (to_z w64 (of_z w64 c.entry.inside.notice)) c.alone.result c.note.new.self (fresh e) c.in_ok-note.ensures.noted c.note.ensures.others
    c.mark_of-mark.result c.args.entry c.keep.new.entries.items c.mark_of-mark.ensures (its_notice e) c.alone.ensures (λ is. omega (arith, c.in_ok-reach.ensures.within is, c.reach.new.entries.ok.0)) c.keep.ensures

pub invariant_of-self-2 : goal.invariant_of-self-2
invariant_of-self-2 c = (pushes c).held

pub returns-clause-ok : goal.returns-clause-ok
returns-clause-ok c =
    let room = roomy (goal.at.returns-clause-ok c).After-reach in
    (λ i. record { heads = (pushes c).heads i; followers = (pushes c).followers i })
    ∙ (λ i. record { heads = room.heads i ++ c.args.entry ∷ []; followers = room.followers i })
    ∙ (λ i. record { heads = (c.self.view_is i).heads ++ c.args.entry ∷ []; followers = (c.self.view_is i).followers })
