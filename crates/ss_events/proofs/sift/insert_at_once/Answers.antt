use Rattle.std.proofs.Common.{◌≡◌, ◌≢◌, ◌∷◌, ◌++◌, [], ◌∙◌, ℤ, List, true, IsPermutation, int_eq, length, w64, to_z, of_z, rules, ap, sym, subst, to_z-of_z, arith}
use Rattle.ss_events.proofs.Common.{comes_before, Entry, HasGoneIn, HasStayedOut, HeadsAndFollowers, heap_lines, HeapEntries, IsHeap, IsPermutation-append_right, IsPermutation-middle, IsPermutation-sym, IsPermutation-trans, list_any, notices_of, or_from, scheduling_limit, SortKey}
use Rattle.ss_events.proofs.Sifts.{append_work, stays, retried, goes_in}
use Rattle.ss_events.proofs.sift.insert_at_once.Goals as goal
use Rattle.ss_events.proofs.sift.insert_at_once.Goals.{After-push_plain, else-place-ge-MANY-via-then-place-ge-MANY+else-append_plain, else-place-ge-MANY-via-else-place-ge-MANY}

-- no entry was put after another one
ready : (c : After-push_plain) → HasStayedOut (heap_lines c.args.heap.now) c.args.heap.now.before c.else-place-ge-MANY.heap
ready c = elim c.else-place-ge-MANY.branch [
  | else-place-ge-MANY-via-then-place-ge-MANY+else-append_plain w ↦
      let no = w.if-append_plain.false in
      let tried = w.append_plain.ensures.tried no in
      let is = w.heap-is in
      let heads = ap (λ h. h.entries) is ∙ w.append_plain.ensures.entries in
      let others = ap (λ h. h.followers) is ∙ w.append_plain.ensures.kept no in record {
        lines = λ i. record { heads = heads i; followers = others i };
        tried = record {
          one = omega (arith, ap (λ h. h.comparisons) is, tried.comparisons, c.comparisons.ensures, c.if-comparisons-gt0.false);
          few = omega (arith, ap (λ h. h.comparisons) is, tried.comparisons, c.comparisons.ensures, c.if-comparisons-gt0.false, w.if-place-ge-MANY.true, c.len-place.ensures, ap length heads);
          unmoved = ap (λ h. h.moves) is ∙ tried.moves ∙ c.requires.tried.unmoved;
        };
        before = ap (λ h. h.before) is ∙ tried.before;
      }
  | else-place-ge-MANY-via-else-place-ge-MANY w ↦ subst (λ (h : HeapEntries). HasStayedOut (heap_lines c.args.heap.now) c.args.heap.now.before h) (sym w.heap-is) (stays c.args.heap.now c.requires.tried)
]

pub returns : goal.returns
returns c =
    let s = ready (goal.at.returns c).After-push_plain in
    let did = c.if-not-push_plain.false in
    let n = to_z w64 (of_z w64 c.args.notice) in
    let old = c.args.heap.now in let mid = c.else-place-ge-MANY.heap in let new = c.raise.new.heap in
    let it : SortKey → ℤ → Entry = λ k z. record { key = k; number = c.args.number; notice = z } in
    let plain : ℤ → SortKey = λ t. record { time = t; rank = c.in-Some.rank; ties = [] } in
    let same : to_z w64 (of_z w64 c.in-Some.time) ≡ c.in-Some.time = search rules in
    let ordered : IsHeap comes_before mid.entries = subst (λ (l : HeadsAndFollowers). IsHeap comes_before l.heads) (sym s.lines) c.requires.order in
    let room : c.args.number ≢ scheduling_limit = omega (arith, c.if-number-ge-PLAIN_NUMBERS.false) in
    let e = it (plain (to_z w64 (of_z w64 c.in-Some.time))) n in
    subst (λ (z : ℤ). HasGoneIn (it c.args.key.now z) (heap_lines old) old.before new) (to_z-of_z c.ranges.notice)
    (subst (λ (k : SortKey). HasGoneIn (it k n) (heap_lines old) old.before new) (ap plain same ∙ sym c.in-Some.ensures)
    (retried e (heap_lines old) old.before mid new true s
    (goes_in e mid c.push_plain.new.self new c.len-place.result c.raise.result (c.push_plain.ensures.done did) (c.len-place.ensures ∙ ap (λ (l : HeadsAndFollowers). length l.heads) (sym s.lines))
    c.raise.ensures.raises c.raise.ensures.cost c.raise.ensures.compared s.tried ordered
    (or_from (list_any (int_eq n) (notices_of mid.entries)) (list_any (int_eq n) (notices_of mid.followers)) (c.push_plain.ensures.apart did) (c.push_plain.ensures.fresh did))
    room)))

-- ---- put after another one

pub returns-then-append_plain : goal.returns-then-append_plain
returns-then-append_plain c =
    let did = c.if-append_plain.true in let put = c.append_plain.ensures in
    let n = to_z w64 (of_z w64 c.args.notice) in
    let old = c.args.heap.now in let new = c.append_plain.new.self in
    let es = old.entries in let fs = old.followers in let gs = new.followers in
    let it : SortKey → ℤ → Entry = λ k z. record { key = k; number = c.args.number; notice = z } in
    let plain : ℤ → SortKey = λ t. record { time = t; rank = c.in-Some.rank; ties = [] } in
    let same : to_z w64 (of_z w64 c.in-Some.time) ≡ c.in-Some.time = search rules in
    let e = it (plain (to_z w64 (of_z w64 c.in-Some.time))) n in
    let front = IsPermutation-sym (es ++ e ∷ fs) (e ∷ (es ++ fs)) (IsPermutation-middle es e fs) in
    let all = IsPermutation-trans (e ∷ (es ++ fs)) (es ++ e ∷ fs) (es ++ gs) front (IsPermutation-append_right es (e ∷ fs) gs (put.done did)) in
    subst (λ (z : ℤ). HasGoneIn (it c.args.key.now z) (heap_lines old) old.before new) (to_z-of_z c.ranges.notice)
    (subst (λ (k : SortKey). HasGoneIn (it k n) (heap_lines old) old.before new) (ap plain same ∙ sym c.in-Some.ensures)
    record {
      order = subst (IsHeap comes_before) (sym put.entries) c.requires.order;
      all = subst (λ (hs : List Entry). IsPermutation (e ∷ (es ++ fs)) (hs ++ gs)) (sym put.entries) all;
      apart = or_from (list_any (int_eq n) (notices_of es)) (list_any (int_eq n) (notices_of fs)) (put.apart did) (put.fresh did);
      room = omega (arith, c.if-number-ge-PLAIN_NUMBERS.false);
      cost = append_work new (length es) (omega (arith, c.if-place-ge-MANY.true, c.len-place.ensures))
          (omega (arith, put.compared did, c.comparisons.ensures, c.if-comparisons-gt0.false))
          (omega (arith, put.moved did, c.requires.tried.unmoved));
      moved = omega (arith, put.moved did);
      compared = λ some. omega (arith, put.compared did);
      before = put.before;
    })
