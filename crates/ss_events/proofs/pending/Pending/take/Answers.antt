use Rattle.std.proofs.Common.{◌≡◌, ◌∷◌, ◌∙◌, None, Some, length, map, get_or, ap, subst, sym, arith}
use Rattle.std.specs.Option.{option_map}
use Rattle.ss_world.specs.PendingList.{least_event, after_next}
use Rattle.ss_events_entries.specs.CountedList.{CountedList}
use Rattle.ss_events_entries.specs.HeapEntries.{event_of}
use Rattle.ss_events.proofs.Common.{all_of, AreAfterHeads, HeapEntries, in_order, IsLogarithmic, IsPermutation, least}
use Rattle.ss_events.proofs.Agendas.{listed, none_left, least_head, after_next-none, after_next-taken, agenda-taken, work_of}
use Rattle.ss_events.proofs.pending.Pending.take.Goals as goal
use Rattle.ss_events.proofs.pending.Pending.take.Goals.{After-are_after_heads, After-take_out}

-- each follower comes after a head
following : (c : After-are_after_heads) → AreAfterHeads c.self.inside.heap.entries c.self.inside.heap.followers
following c = subst (λ (h : HeapEntries). AreAfterHeads h.entries h.followers) c.reset_counts.ensures c.are_after_heads.ensures

pub returns-then-len-eq0-clause-next : goal.returns-then-len-eq0-clause-next
returns-then-len-eq0-clause-next c =
    subst (λ (v : CountedList). None ≡ least_event v.list) c.self.view_is
    (sym (ap (λ es. option_map event_of (least es)) (none_left c.self.inside.heap (following (goal.at.returns-then-len-eq0-clause-next c).After-are_after_heads)
    (omega (arith, ap (λ h. length h.entries) c.reset_counts.ensures)))))

pub returns-then-len-eq0-clause-rest : goal.returns-then-len-eq0-clause-rest
returns-then-len-eq0-clause-rest c =
    let i = c.self.inside in let classes = map (λ shapes. shapes.items) i.classes.items in
    let none = none_left i.heap (following (goal.at.returns-then-len-eq0-clause-rest c).After-are_after_heads) (omega (arith, ap (λ h. length h.entries) c.reset_counts.ensures)) in
    ap (λ h. listed h i.schedulings classes) c.reset_counts.ensures
    ∙ subst (λ (v : CountedList). listed i.heap i.schedulings classes ≡ after_next v.list) c.self.view_is (sym (after_next-none i.heap i.schedulings classes none))

-- the entry that went and the others are those of the heap
all : (c : After-take_out) → IsPermutation (all_of c.self.inside.heap) (c.take_out.ensures.taken.entry ∷ all_of c.take_out.new.heap)
all c = subst (λ (h : HeapEntries). IsPermutation (all_of h) (c.take_out.ensures.taken.entry ∷ all_of c.take_out.new.heap)) c.reset_counts.ensures c.take_out.ensures.taken.rest

pub invariant_of-self-2 : goal.invariant_of-self-2
invariant_of-self-2 c = agenda-taken c.self.inside.heap c.self.inside.schedulings c.self.invariant c.take_out.ensures.taken.entry c.take_out.new.heap (all c) c.take_out.ensures.order

-- it is the least
first : (c : After-take_out) → least (in_order (all_of c.self.inside.heap)) ≡ Some c.take_out.ensures.taken.entry
first c =
    let anew = c.reset_counts.ensures in
    let taken = c.take_out.ensures.taken in
    least_head c.self.inside.heap (subst (λ (h : HeapEntries). AreAfterHeads h.entries h.followers) anew c.are_after_heads.ensures) c.self.inside.schedulings c.self.invariant taken.entry
    (omega (arith, ap (λ h. length h.entries) anew)) (taken.there ∙ ap (λ h. get_or h.entries 0 taken.entry) anew)

pub returns-clause-next : goal.returns-clause-next
returns-clause-next c =
    ap Some c.take_out.ensures.taken.is ∙ subst (λ (v : CountedList). Some (event_of c.take_out.ensures.taken.entry) ≡ least_event v.list) c.self.view_is (sym (ap (option_map event_of) (first c)))

pub returns-clause-rest : goal.returns-clause-rest
returns-clause-rest c =
    let i = c.self.inside in let new = c.take_out.new.heap in let classes = map (λ shapes. shapes.items) i.classes.items in
    subst (λ (v : CountedList). listed new i.schedulings classes ≡ after_next v.list) c.self.view_is
    (sym (after_next-taken i.heap i.schedulings c.self.invariant c.take_out.ensures.taken.entry new (all c) classes (first c)))

work : (c : After-take_out) → IsLogarithmic (length c.args.self.now.list.entries) c.take_out.new.heap
work c =
    let new = c.take_out.new.heap in
    subst (λ (v : CountedList). IsLogarithmic (length v.list.entries) new) c.self.view_is
    (work_of c.self.inside.heap new (subst (λ (h : HeapEntries). IsLogarithmic (length h.entries) new) c.reset_counts.ensures c.take_out.ensures.work))

pub returns-clause-comparisons : goal.returns-clause-comparisons
returns-clause-comparisons c = (work c).comparisons

pub returns-clause-moves : goal.returns-clause-moves
returns-clause-moves c = (work c).moves
