use Rattle.std.proofs.Common.{to_z-of_z, to_z, of_z, w64, true, ◌≡◌, ◌<◌, ◌∙◌, ◌++◌, ◌∷◌, [], int_eq, set, sym, arith}
use Rattle.ss_events_entries.proofs.Common.{list_any, notices_of, plain_entry}
use Rattle.ss_events_entries.proofs.Seen.{notice-free}
use Rattle.ss_events_entries.proofs.Pushed.{nowhere, plain_put, Pushes}
use Rattle.ss_events_entries.proofs.entry.places.Places.push_plain.Goals as goal
use Rattle.ss_events_entries.proofs.entry.places.Places.push_plain.Goals.{After-alone}

-- the invariant and the view then
pushes : (c : After-alone) → c.note_at_once.result ≡ true
    → Pushes c.self.inside.count c.self.inside.free c.self.inside.slots.items (set c.self.inside.slots.items c.index.result.now.slot c.alone.result) c.self.inside.entries.items c.self.inside.entries.items c.self.inside.nodes.items (set c.self.inside.nodes.items c.self.inside.count (record { mark = c.args.mark; slot = c.index.result.now.slot })) c.note_at_once.new.self
    (plain_entry c.args.mark (to_z w64 (of_z w64 c.args.notice)))
pushes c did =
    let some : 0 < c.self.inside.free = omega (arith, c.if-self-eq0.false) in
    let made = c.note_at_once.ensures in
    plain_put c.self.inside.count c.self.inside.free c.self.inside.slots.items c.self.inside.entries.items c.self.inside.nodes.items c.self.inside.directory c.self.invariant some
    c.index.result.now c.index.ensures (to_z w64 (of_z w64 c.args.notice)) c.alone.result c.note_at_once.new.self
    (nowhere c.self.inside.count c.self.inside.free c.self.inside.slots.items c.self.inside.entries.items c.self.inside.nodes.items c.self.inside.directory c.self.invariant (to_z w64 (of_z w64 c.args.notice)) (made.fresh did).0 (made.fresh did).1)
    (made.noted did) made.others c.args.mark c.requires.plain c.alone.ensures

pub invariant_of-self-2 : goal.invariant_of-self-2
invariant_of-self-2 c = (pushes (goal.at.invariant_of-self-2 c).After-alone c.if-not-note_at_once.false).held

pub returns-clause-done : goal.returns-clause-done
returns-clause-done c = λ _.
    let p = pushes (goal.at.returns-clause-done c).After-alone c.if-not-note_at_once.false in
    (λ i. record { heads = p.heads i; followers = p.followers i })
    ∙ (λ i. record { heads = (c.self.view_is i).heads ++ plain_entry c.args.mark (to_z-of_z c.ranges.notice i) ∷ []; followers = (c.self.view_is i).followers })

pub returns-clause-apart : goal.returns-clause-apart
returns-clause-apart c = λ _.
    let made = c.note_at_once.ensures.fresh c.if-not-note_at_once.false in
    (λ i. list_any (int_eq (sym (to_z-of_z c.ranges.notice) i)) (notices_of (sym c.self.view_is i).heads))
    ∙ (notice-free c.self.inside.count c.self.inside.free c.self.inside.slots.items c.self.inside.entries.items c.self.inside.nodes.items c.self.inside.directory c.self.invariant (to_z w64 (of_z w64 c.args.notice))
    (nowhere c.self.inside.count c.self.inside.free c.self.inside.slots.items c.self.inside.entries.items c.self.inside.nodes.items c.self.inside.directory c.self.invariant (to_z w64 (of_z w64 c.args.notice)) made.0 made.1)).0

pub returns-clause-fresh : goal.returns-clause-fresh
returns-clause-fresh c = λ _.
    let made = c.note_at_once.ensures.fresh c.if-not-note_at_once.false in
    (λ i. list_any (int_eq (sym (to_z-of_z c.ranges.notice) i)) (notices_of (sym c.self.view_is i).followers))
    ∙ (notice-free c.self.inside.count c.self.inside.free c.self.inside.slots.items c.self.inside.entries.items c.self.inside.nodes.items c.self.inside.directory c.self.invariant (to_z w64 (of_z w64 c.args.notice))
    (nowhere c.self.inside.count c.self.inside.free c.self.inside.slots.items c.self.inside.entries.items c.self.inside.nodes.items c.self.inside.directory c.self.invariant (to_z w64 (of_z w64 c.args.notice)) made.0 made.1)).1
