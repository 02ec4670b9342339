use Rattle.std.proofs.Common.{◌∷◌, ◌++◌, ◌∙◌, length, List, IsPermutation, sym, subst, arith}
use Rattle.ss_events.proofs.Common.{all_of, Entry, heap_lines, IsPermutation-append_left, IsPermutation-cons, IsPermutation-trans}
use Rattle.ss_events.proofs.Sifts.{take_work}
use Rattle.ss_events.proofs.Taken.{removed_few, removed_heap, removed_end, removed_all}
use Rattle.ss_events.proofs.sift.take_out.Goals as goal

pub returns-then-at-len-clause-order : goal.returns-then-at-len-clause-order
returns-then-at-len-clause-order c =
    c.mend.ensures.mends.heap (removed_heap (heap_lines c.args.heap.now) (heap_lines c.remove-event.new.self) c.args.at c.remove-event.result c.requires.within c.remove-event.ensures.removed c.requires.order)

pub returns-then-at-len-clause-taken : goal.returns-then-at-len-clause-taken
returns-then-at-len-clause-taken c =
    let r = c.remove-event.ensures.removed in
    let mid = c.remove-event.new.self in
    let new = c.mend.new.heap in
    let others : IsPermutation (mid.entries ++ mid.followers) (new.entries ++ new.followers)
    = subst (λ (fs : List Entry). IsPermutation (mid.entries ++ mid.followers) (new.entries ++ fs)) (sym c.mend.ensures.cost.followers) (IsPermutation-append_left mid.followers mid.entries new.entries c.mend.ensures.mends.permutation) in
    record {
      entry = r.entry;
      there = r.there;
      is = r.is;
      rest = IsPermutation-trans (all_of c.args.heap.now) (r.entry ∷ all_of mid) (r.entry ∷ all_of new)
          (removed_all (heap_lines c.args.heap.now) (heap_lines mid) c.args.at c.remove-event.result c.requires.within r) (IsPermutation-cons r.entry (all_of mid) (all_of new) others);
    }

pub returns-then-at-len-clause-work : goal.returns-then-at-len-clause-work
returns-then-at-len-clause-work c =
    take_work c.remove-event.new.self c.mend.new.heap (length c.args.heap.now.entries)
    (c.remove-event.ensures.moved.comparisons ∙ c.requires.uncompared)
    (omega (arith, c.remove-event.ensures.moved.moves, c.requires.unmoved))
    (removed_few (heap_lines c.args.heap.now) (heap_lines c.remove-event.new.self) c.args.at c.remove-event.result c.requires.within c.remove-event.ensures.removed)
    c.mend.ensures.cost

pub returns-else-at-len-clause-order : goal.returns-else-at-len-clause-order
returns-else-at-len-clause-order c =
    removed_end (heap_lines c.args.heap.now) (heap_lines c.remove-event.new.self) c.args.at c.remove-event.result c.requires.within c.remove-event.ensures.removed (omega (arith, c.if-at-len.false, c.len.ensures)) c.requires.order

pub returns-else-at-len-clause-taken : goal.returns-else-at-len-clause-taken
returns-else-at-len-clause-taken c =
    let r = c.remove-event.ensures.removed in
    record {
      entry = r.entry;
      there = r.there;
      is = r.is;
      rest = removed_all (heap_lines c.args.heap.now) (heap_lines c.remove-event.new.self) c.args.at c.remove-event.result c.requires.within r;
    }
