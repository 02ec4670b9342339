use Rattle.std.proofs.Common.{◌≡◌, ◌∷◌, ◌∙◌, ℤ, true, false, Ok, Err, length, map, to_z, of_z, w64, ap, subst, sym, to_z-of_z}
use Rattle.ss_base.specs.declared.fault.FaultKind.TheVariants.{NotScheduled}
use Rattle.ss_world.specs.PendingList.{cancelled}
use Rattle.ss_events_entries.specs.CountedList.{CountedList}
use Rattle.ss_events_entries.specs.HeapEntries.{HasLostFollower}
use Rattle.ss_events.proofs.Common.{all_of, comes_before, heap_lines, HeapEntries, int_eq, int_eq_equiv, IsHeap, IsLogarithmic, IsPermutation, list_any, notices_of, or_from}
use Rattle.ss_events.proofs.Agendas.{listed, is_held, pending-in_order, found-at, agenda-taken, cancelled-taken, work_of}
use Rattle.ss_events.proofs.Outcomes.{cancelled-none}
use Rattle.ss_events.proofs.Taken.{lost_all}
use Rattle.ss_events.proofs.pending.Pending.cancel.Goals as goal
use Rattle.ss_events.proofs.pending.Pending.cancel.Goals.{After-take_out-event, Then-remove_follower}

-- the entry that went and the others are those of the heap
all : (c : After-take_out-event) → IsPermutation (all_of c.self.inside.heap) (c.take_out-event.ensures.taken.entry ∷ all_of c.take_out-event.new.heap)
all c = subst (λ (h : HeapEntries). IsPermutation (all_of h) (c.take_out-event.ensures.taken.entry ∷ all_of c.take_out-event.new.heap)) c.reset_counts.ensures c.take_out-event.ensures.taken.rest

pub invariant_of-self : goal.invariant_of-self
invariant_of-self c = agenda-taken c.self.inside.heap c.self.inside.schedulings c.self.invariant c.take_out-event.ensures.taken.entry c.take_out-event.new.heap (all c) c.take_out-event.ensures.order

pub returns-in-Some-clause-ok : goal.returns-in-Some-clause-ok
returns-in-Some-clause-ok c =
    let i = c.self.inside in let new = c.take_out-event.new.heap in let classes = map (λ shapes. shapes.items) i.classes.items in let entry = c.take_out-event.ensures.taken.entry in
    let its = subst (λ (z : ℤ). int_eq z entry.notice ≡ true) (to_z-of_z c.ranges.notice)
    (found-at c.reset_counts.new.self.entries (to_z w64 (of_z w64 c.args.notice)) c.in-Some.at entry c.in-Some.ensures.place c.take_out-event.ensures.taken.there) in
    subst (λ (v : CountedList). cancelled c.args.notice v.list ≡ Ok (listed new i.schedulings classes)) c.self.view_is
    (cancelled-taken i.heap i.schedulings c.self.invariant entry new (all c) c.args.notice its classes)

work : (c : After-take_out-event) → IsLogarithmic (length c.args.self.now.list.entries) c.take_out-event.new.heap
work c =
    let new = c.take_out-event.new.heap in
    subst (λ (v : CountedList). IsLogarithmic (length v.list.entries) new) c.self.view_is
    (work_of c.self.inside.heap new (subst (λ (h : HeapEntries). IsLogarithmic (length h.entries) new) c.reset_counts.ensures c.take_out-event.ensures.work))

pub returns-in-Some-clause-comparisons : goal.returns-in-Some-clause-comparisons
returns-in-Some-clause-comparisons c = (work c).comparisons

pub returns-in-Some-clause-moves : goal.returns-in-Some-clause-moves
returns-in-Some-clause-moves c = (work c).moves

-- ---- a follower left

left : (c : Then-remove_follower) → HasLostFollower (heap_lines c.self.inside.heap) (heap_lines c.remove_follower.new.self) (to_z w64 (of_z w64 c.args.notice))
left c = subst (λ (h : HeapEntries). HasLostFollower (heap_lines h) (heap_lines c.remove_follower.new.self) (to_z w64 (of_z w64 c.args.notice)))
    c.reset_counts.ensures (c.remove_follower.ensures.left c.if-remove_follower.true)

others : (c : Then-remove_follower) → IsPermutation (all_of c.self.inside.heap) ((left c).entry ∷ all_of c.remove_follower.new.self)
others c = lost_all (heap_lines c.self.inside.heap) (heap_lines c.remove_follower.new.self) (to_z w64 (of_z w64 c.args.notice)) (left c)

pub invariant_of-self-then-remove_follower : goal.invariant_of-self-then-remove_follower
invariant_of-self-then-remove_follower c =
    agenda-taken c.self.inside.heap c.self.inside.schedulings c.self.invariant (left c).entry c.remove_follower.new.self (others c) (subst (IsHeap comes_before) (sym (left c).heads) c.self.invariant.order)

pub returns-then-remove_follower-clause-ok : goal.returns-then-remove_follower-clause-ok
returns-then-remove_follower-clause-ok c =
    let i = c.self.inside in let new = c.remove_follower.new.self in let classes = map (λ shapes. shapes.items) i.classes.items in
    let its = ap (int_eq c.args.notice) ((left c).noticed ∙ to_z-of_z c.ranges.notice) ∙ int_eq_equiv.refl c.args.notice in
    subst (λ (v : CountedList). cancelled c.args.notice v.list ≡ Ok (listed new i.schedulings classes)) c.self.view_is
    (cancelled-taken i.heap i.schedulings c.self.invariant (left c).entry new (others c) c.args.notice its classes)

-- ---- none

pub returns-clause-refused : goal.returns-clause-refused
returns-clause-refused c =
    let i = c.self.inside in let anew = c.reset_counts.new.self in let z = to_z w64 (of_z w64 c.args.notice) in
    let none = or_from (list_any (int_eq z) (notices_of anew.entries)) (list_any (int_eq z) (notices_of anew.followers))
    (sym c.in_default.ensures.found) (sym c.remove_follower.ensures.found ∙ c.if-remove_follower.false) in
    let free = subst (λ (z : ℤ). is_held z i.heap ≡ false) (to_z-of_z c.ranges.notice) (subst (λ (h : HeapEntries). is_held z h ≡ false) c.reset_counts.ensures none) in
    subst (λ (v : CountedList). cancelled c.args.notice v.list ≡ Err NotScheduled) c.self.view_is
    (cancelled-none c.args.notice (listed i.heap i.schedulings (map (λ shapes. shapes.items) i.classes.items)) (pending-in_order c.args.notice i.heap ∙ free))
