use Rattle.std.proofs.Common.{◌≡◌, ◌<◌, ◌+◌, true, false, ◌∙◌, map, ℤ, Bool, w64, to_z, of_z, length, Ok, ap, sym, subst, to_z-of_z}
use Rattle.ss_world.specs.PendingList.{PendingList, scheduled, IsRefusal}
use Rattle.ss_events_entries.specs.CountedList.{CountedList}
use Rattle.ss_events.proofs.Common.{AreAfterHeads, Entry, HasGoneIn, HasStayedOut, HeadsAndFollowers, heap_lines, HeapEntries, IsInsertion, IsLogarithmic}
use Rattle.ss_events.proofs.Sifts.{tried_work}
use Rattle.ss_events.proofs.Agendas.{listed, some_head, work_of, agenda-inserted, scheduled-inserted}
use Rattle.ss_events.proofs.pending.Pending.schedule.Goals as goal
use Rattle.ss_events.proofs.pending.Pending.schedule.Goals.{After-insert}

-- the new entry, with a notice
abbrev its : (c : After-insert) → ℤ → Entry
its c z = record { key = c.args.key; number = c.self.inside.schedulings; notice = z }

-- what became of it
outcome : (c : After-insert) → IsInsertion (its c c.args.notice) (heap_lines c.self.inside.heap) c.reset_counts.new.self.before c.insert.new.heap c.insert.result
outcome c =
    let work = c.reset_counts.new.self.before in let new = c.insert.new.heap in let b = c.insert.result in
    subst (λ (z : ℤ). IsInsertion (its c z) (heap_lines c.self.inside.heap) work new b) (to_z-of_z c.ranges.notice)
    (subst (λ (h : HeapEntries). IsInsertion (its c (to_z w64 (of_z w64 c.args.notice))) (heap_lines h) work new b) c.reset_counts.ensures c.insert.ensures)

went : (c : After-insert) → c.insert.result ≡ true → HasGoneIn (its c c.args.notice) (heap_lines c.self.inside.heap) c.reset_counts.new.self.before c.insert.new.heap
went c did = subst (λ (b : Bool). IsInsertion (its c c.args.notice) (heap_lines c.self.inside.heap) c.reset_counts.new.self.before c.insert.new.heap b) did (outcome c)

stayed : (c : After-insert) → c.insert.result ≡ false → HasStayedOut (heap_lines c.self.inside.heap) c.reset_counts.new.self.before c.insert.new.heap
stayed c not = subst (λ (b : Bool). IsInsertion (its c c.args.notice) (heap_lines c.self.inside.heap) c.reset_counts.new.self.before c.insert.new.heap b) not (outcome c)

work : (c : After-insert) → IsLogarithmic (length c.self.inside.heap.entries) c.insert.new.heap → IsLogarithmic (length c.args.self.now.list.entries) c.insert.new.heap
work c cost = subst (λ (v : CountedList). IsLogarithmic (length v.list.entries) c.insert.new.heap) c.self.view_is (work_of c.self.inside.heap c.insert.new.heap cost)

-- ---- it went in

pub invariant_of-self : goal.invariant_of-self
invariant_of-self c =
    agenda-inserted c.self.inside.heap c.self.inside.schedulings c.self.invariant c.args.key c.args.notice c.reset_counts.new.self.before c.insert.new.heap
    (went (goal.at.invariant_of-self c).After-insert c.if-insert.true)

pub returns-then-insert-clause-ok : goal.returns-then-insert-clause-ok
returns-then-insert-clause-ok c =
    let i = c.self.inside in let new = c.insert.new.heap in let classes = map (λ shapes. shapes.items) i.classes.items in
    subst (λ (v : CountedList). scheduled c.args.key c.args.notice v.list ≡ Ok (listed new (i.schedulings + 1) classes)) c.self.view_is
    (scheduled-inserted i.heap i.schedulings c.self.invariant c.args.key c.args.notice c.reset_counts.new.self.before new (went (goal.at.returns-then-insert-clause-ok c).After-insert c.if-insert.true) classes)

pub returns-then-insert-clause-comparisons : goal.returns-then-insert-clause-comparisons
returns-then-insert-clause-comparisons c = let a = (goal.at.returns-then-insert-clause-comparisons c).After-insert in (work a (went a c.if-insert.true).cost).comparisons

pub returns-then-insert-clause-moves : goal.returns-then-insert-clause-moves
returns-then-insert-clause-moves c = let a = (goal.at.returns-then-insert-clause-moves c).After-insert in (work a (went a c.if-insert.true).cost).moves

pub returns-then-insert-clause-compared : goal.returns-then-insert-clause-compared
returns-then-insert-clause-compared c = λ some.
    let following = subst (λ (h : HeapEntries). AreAfterHeads h.entries h.followers) c.reset_counts.ensures c.are_after_heads.ensures in
    (went (goal.at.returns-then-insert-clause-compared c).After-insert c.if-insert.true).compared
    (some_head c.self.inside.heap following (subst (λ (v : CountedList). 0 < length v.list.entries) (sym c.self.view_is) some))

-- ---- it stayed out

pub returns-clause-refused : goal.returns-clause-refused
returns-clause-refused c =
    let i = c.self.inside in let classes = map (λ shapes. shapes.items) i.classes.items in
    let s = stayed (goal.at.returns-clause-refused c).After-insert c.if-insert.false in
    let kept = ap (λ (l : HeadsAndFollowers). listed (record i.heap { entries = l.heads; followers = l.followers }) i.schedulings classes) s.lines ∙ ap (λ v. v.list) c.self.view_is in
    subst (λ (z : ℤ). IsRefusal c.refusal.result (scheduled c.args.key z c.args.self.now.list)) (to_z-of_z c.ranges.notice)
    (subst (λ (q : PendingList). IsRefusal c.refusal.result (scheduled c.args.key (to_z w64 (of_z w64 c.args.notice)) q)) kept (c.refusal.ensures c.args.key))

pub returns-clause-comparisons : goal.returns-clause-comparisons
returns-clause-comparisons c =
    let a = (goal.at.returns-clause-comparisons c).After-insert in let s = stayed a c.if-insert.false in let new = c.insert.new.heap in
    (work a (subst (λ (l : HeadsAndFollowers). IsLogarithmic (length l.heads) new) s.lines (tried_work new s.tried))).comparisons
