-- Each step of an entry that rises or sinks in a heap.
use Rattle.std.proofs.Common.{◌≡◌, ◌≢◌, ◌∙◌, ◌||◌, ℕ, ◌+◌, ◌-◌, ◌*◌, ◌/◌, ◌<◌, ◌≤◌, ◌^◌, Bool, true, false, List, length, get_or, swap, refl, sym, ap, subst, ⊎_elim, arith, [], ◌∷◌, ◌++◌, length-append, pow-add}
use Rattle.ss_events.proofs.Common.{all_of, but_one, cases_lt, comes_before, entries_rank, Entry, HeadsAndFollowers, heap_lines, HeapEntries, int_eq, IsPermutation, notices_of, scheduling_limit, Work}
use Rattle.std.specs.List.{list_any}
use Rattle.std.proofs.lemmas.List.Sorted.{IsPermutation-append_left, IsPermutation-sym, IsPermutation-to_front, IsPermutation-swap, IsPermutation-trans, length_permutation}
use Rattle.std.proofs.lemmas.List.Edits.{length-swap}
use Rattle.ss_events_entries.specs.HeapOrder.{IsChild, IsHeap, IsUnderParent, IsOverChildren, IsHeapBut, IsFirstChild}
use Rattle.ss_events.specs.Sifting.{height, HasRisen, HasRaised, HasLowered, HasMended, HasClimbed, IsLogarithmic, IsTried, HasGoneIn, HasStayedOut, IsInsertion}
use Rattle.ss_events_entries.specs.Digits.{binary_digits}
use Rattle.std.specs.Int.Digits.{digits_of}
use Rattle.std.proofs.lemmas.Int.Digits.{number_lt, number_digits_of, all_below_base_digits_of, length-digits_of-le, length-digits_of_step}
use Rattle.ss_events_entries.proofs.Heaps.{up_but, up_over, down_but, down_under, leaf, closes, pushed as one_more}

-- ---- heights

digit : (n : ℕ) → 0 < n → binary_digits n ≡ binary_digits (n / 2) + 1
digit n some = length-digits_of_step 2 n (omega arith) some

-- a number of so many binary digits
below_power : (n : ℕ) → n < 2 ^ binary_digits n
below_power n = subst (λ m. m < 2 ^ binary_digits n) (number_digits_of 2 n (omega arith)) (number_lt 2 (digits_of 2 n) (all_below_base_digits_of 2 n (omega arith)))

-- the more there are the more digits
pub digits_mono : (less more : ℕ) → less ≤ more → binary_digits less ≤ binary_digits more
digits_mono less more le = length-digits_of-le 2 (binary_digits more) less (omega arith) (omega (arith, below_power more))

-- what is four times as much has two digits more
quadruple : (n more : ℕ) → 0 < n → 4 * n ≤ more → binary_digits n + 2 ≤ binary_digits more
quadruple n more some le = omega (arith, digit more (omega arith), digit (more / 2) (omega arith), digits_mono n (more / 2 / 2) (omega arith))

pub height_child : (p k : ℕ) → IsChild p k → height p + 2 ≤ height k
height_child p k child = quadruple (3 * p + 1) (3 * k + 1) (omega arith) (omega (arith, child.from))

pub height_mono : (less more : ℕ) → less ≤ more → height less ≤ height more
height_mono less more le = digits_mono (3 * less + 1) (3 * more + 1) (omega arith)

pub height_some : (at : ℕ) → 0 < height at
height_some at = omega (arith, digit (3 * at + 1) (omega arith))

-- fewer than 2 ^ 64 places have at most 33 levels
pub height_few : (at : ℕ) → at < 2 ^ 64 → height at ≤ 66
height_few at small = length-digits_of-le 2 66 (3 * at + 1) (omega arith) (omega arith)

-- the place after so many others
height_digits : (at : ℕ) → height at ≤ binary_digits at + 2
height_digits at = length-digits_of-le 2 (binary_digits at + 2) (3 * at + 1) (omega arith)
    (let more : 2 ^ (binary_digits at + 2) ≡ 2 ^ binary_digits at * 2 ^ 2 = pow-add 2 (binary_digits at) 2 in omega (arith, below_power at))

-- ---- rising

-- an entry comes before its parent, and both were compared
pub record Outranking (old new : HeapEntries) (from at parent : ℕ) : Type 0 where
  pub risen : HasRisen old.entries new.entries from at
  pub cost : HasClimbed 1 (height at) (height from) old new
  pub some : 0 < at
  pub parent_is : parent ≡ (at - 1) / 4
  pub before : (d : Entry) → comes_before (get_or new.entries at d) (get_or new.entries parent d) ≡ true
  pub compared : old.comparisons ≤ new.comparisons

-- they change places
module _ (old was new : HeapEntries) (from at parent : ℕ) (p : Outranking old was from at parent) (is : new ≡ record was { entries = swap was.entries at parent; moves = was.moves + 2 }) where
  child : IsChild parent at
  child = record { from = omega (arith, p.parent_is, p.some); to = omega (arith, p.parent_is, p.some) }

  pub passes : HasRisen old.entries new.entries from parent
  passes =
      let r = p.risen in
      let entries = ap (λ h. h.entries) is in
      record {
        permutation = IsPermutation-trans old.entries was.entries new.entries r.permutation (IsPermutation-swap was.entries new.entries at parent r.within (omega (arith, r.within, child.from)) entries);
        within = omega (arith, r.within, child.from, ap length entries, length-swap was.entries at parent);
        up = omega (arith, r.up, child.from);
        but = λ h. up_but comes_before entries_rank was.entries new.entries parent at child r.within entries p.before (r.but h);
        over = λ h lt. up_over comes_before entries_rank was.entries new.entries parent at child r.within entries p.before (r.but h);
      }

  pub passed : 0 < old.comparisons → HasClimbed 1 (height parent) (height from) (but_one old) new
  passed some = record {
    comparisons = omega (arith, p.cost.comparisons, height_child parent at child, ap (λ h. h.comparisons) is);
    moves = omega (arith, p.cost.moves, height_child parent at child, ap (λ h. h.moves) is);
    grows = omega (arith, p.cost.grows, ap (λ h. h.moves) is);
    followers = ap (λ h. h.followers) is ∙ p.cost.followers;
    before = ap (λ h. h.before) is ∙ p.cost.before;
  }

-- it is at the top
pub under_top : (es : List Entry) (at : ℕ) → at ≡ 0 → IsUnderParent comes_before es at
under_top es at top = record { order = λ p child d. absurd (omega (arith, child.from)) }

-- its parent doesn't come after it
pub under_parent : (es : List Entry) (at : ℕ) → ((d : Entry) → comes_before (get_or es at d) (get_or es ((at - 1) / 4) d) ≡ false) → IsUnderParent comes_before es at
under_parent es at f = record { order = λ p child d. let e : p ≡ (at - 1) / 4 = omega (arith, child.from, child.to) in subst (λ q. comes_before (get_or es at d) (get_or es q d) ≡ false) (sym e) (f d) }

-- the two were compared, and it goes on
pub outranks : (old was new : HeapEntries) (from at : ℕ) → HasRisen old.entries was.entries from at → 0 < at
    → 0 < old.comparisons → old.comparisons ≤ was.comparisons → HasClimbed 1 (height at) (height from) (but_one old) was
    → ((d : Entry) → comes_before (get_or was.entries at d) (get_or was.entries ((at - 1) / 4) d) ≡ true) → new ≡ record was { comparisons = was.comparisons + 1 } → Outranking old new from at ((at - 1) / 4)
outranks old was new from at r some one compared c t is = subst (λ h. Outranking old h from at ((at - 1) / 4)) (sym is)
    record {
      risen = r;
      cost = record { comparisons = omega (arith, c.comparisons); moves = c.moves; grows = c.grows; followers = c.followers; before = c.before };
      some = some;
      parent_is = refl;
      before = t;
      compared = omega arith;
    }

-- it is at the top
pub climbed_top : (old new : HeapEntries) (at high : ℕ) → HasClimbed 1 (height at) high old new → HasClimbed 1 1 high old new
climbed_top old new at high c = record { comparisons = omega (arith, c.comparisons, height_some at); moves = omega (arith, c.moves, height_some at); grows = c.grows; followers = c.followers; before = c.before }

-- the two were compared
module _ (old was new : HeapEntries) (at high : ℕ) (some : 0 < at) (c : HasClimbed 1 (height at) high old was) (is : new ≡ record was { comparisons = was.comparisons + 1 }) where
  pub compared_last : HasClimbed 1 1 high old new
  compared_last =
      let above = height_child ((at - 1) / 4) at record { from = omega arith; to = omega arith } in
      record {
        comparisons = omega (arith, c.comparisons, above, height_some ((at - 1) / 4), ap (λ h. h.comparisons) is);
        moves = omega (arith, c.moves, height_some at, ap (λ h. h.moves) is);
        grows = omega (arith, c.grows, ap (λ h. h.moves) is);
        followers = ap (λ h. h.followers) is ∙ c.followers;
        before = ap (λ h. h.before) is ∙ c.before;
      }

-- ---- sinking

-- the entry that began at `from` is at `at`
pub record Sinking (old new : HeapEntries) (from at : ℕ) : Type 0 where
  pub permutation : IsPermutation old.entries new.entries
  pub within : at < length new.entries
  pub but : IsHeapBut comes_before old.entries from → IsUnderParent comes_before old.entries from → IsHeapBut comes_before new.entries at × IsUnderParent comes_before new.entries at
  pub cost : HasClimbed 4 (height from) (height at) old new

-- its height in the heap as it was
pub sunk : (old new : HeapEntries) (from at : ℕ) → Sinking old new from at → height at ≤ height (length old.entries - 1)
sunk old new from at r = height_mono at (length old.entries - 1) (omega (arith, r.within, length_permutation old.entries new.entries r.permutation))

pub sunk_few : (old new : HeapEntries) (from at : ℕ) → Sinking old new from at → length old.entries < 2 ^ 64 → (new.comparisons ≤ old.comparisons + 132) × (new.moves ≤ old.moves + 66)
sunk_few old new from at r small =
    let few = height_few (length old.entries - 1) (omega arith) in
    (omega (arith, r.cost.comparisons, sunk old new from at r), omega (arith, r.cost.moves, sunk old new from at r))

module _ (old was new : HeapEntries) (from at c : ℕ) (r : Sinking old was from at) (best : IsFirstChild comes_before was.entries at c) (t : (d : Entry) → comes_before (get_or was.entries c d) (get_or was.entries at d) ≡ true)
    (entries : new.entries ≡ swap was.entries at c) (comparisons : new.comparisons ≤ was.comparisons + 4) (moves : new.moves ≡ was.moves + 2) (followers : new.followers ≡ was.followers) (before : new.before ≡ was.before) where
  pub sinking_steps : Sinking old new from c
  sinking_steps =
      let further = height_child at c best.child in
      record {
        permutation = IsPermutation-trans old.entries was.entries new.entries r.permutation (IsPermutation-swap was.entries new.entries at c r.within best.within entries);
        within = omega (arith, best.within, ap length entries, length-swap was.entries at c);
        but = λ h under. (down_but comes_before was.entries new.entries at c best entries (r.but h under).0, down_under comes_before was.entries new.entries at c best entries entries_rank t);
        cost = record {
          comparisons = omega (arith, r.cost.comparisons);
          moves = omega (arith, r.cost.moves);
          grows = omega (arith, r.cost.grows);
          followers = followers ∙ r.cost.followers;
          before = before ∙ r.cost.before;
        };
      }

pub lowered : (old was new : HeapEntries) (from at : ℕ) → Sinking old was from at → IsOverChildren comes_before was.entries at → new.entries ≡ was.entries → HasLowered old.entries new.entries from
lowered old was new from at r over entries = subst (λ es. HasLowered old.entries es from) (sym entries)
    record { permutation = r.permutation; heap = λ h under. closes comes_before was.entries at (r.but h under).0 (r.but h under).1 over }

-- after the last comparisons, which are four at most where the place has a child
pub lowered_cost : (old was new : HeapEntries) (from at to : ℕ) → Sinking old was from at → height to ≤ height (length old.entries - 1)
    → 2 * new.comparisons + 4 * height at ≤ 2 * was.comparisons + 4 * height to → height at ≤ height to
    → new.moves ≡ was.moves → new.followers ≡ was.followers → new.before ≡ was.before → HasClimbed 4 (height from) (height (length old.entries - 1)) old new
lowered_cost old was new from at to r within comparisons further moves followers before = record {
  comparisons = omega (arith, r.cost.comparisons);
  moves = omega (arith, r.cost.moves);
  grows = omega (arith, r.cost.grows);
  followers = followers ∙ r.cost.followers;
  before = before ∙ r.cost.before;
}

-- ---- both, and the whole changes

pub mended_down : (old was new : List Entry) (at to : ℕ) → to ≡ at → HasRaised old was at to → HasLowered was new at → HasMended old new at
mended_down old was new at to still r l = record {
  permutation = IsPermutation-trans old was new r.risen.permutation l.permutation;
  heap = λ h. l.heap (subst (IsHeapBut comes_before was) still (r.risen.but h)) (subst (IsUnderParent comes_before was) still (r.under h));
}

pub cost_up : (old new : HeapEntries) (at : ℕ) → at < length old.entries → HasClimbed 1 1 (height at) old new → HasClimbed 4 1 (height (length old.entries - 1)) old new
cost_up old new at within u =
    let lower = height_mono at (length old.entries - 1) (omega arith) in
    record { comparisons = omega (arith, u.comparisons, height_some at); moves = omega (arith, u.moves); grows = u.grows; followers = u.followers; before = u.before }

pub cost_down : (old was new : HeapEntries) (at : ℕ) → length was.entries ≡ length old.entries → HasClimbed 1 1 (height at) old was
    → HasClimbed 4 (height at) (height (length was.entries - 1)) was new → HasClimbed 4 1 (height (length old.entries - 1)) old new
cost_down old was new at long u l =
    let same = ap (λ n. height (n - 1)) long in
    record {
      comparisons = omega (arith, u.comparisons, l.comparisons, height_some at);
      moves = omega (arith, u.moves, l.moves);
      grows = omega (arith, u.grows, l.grows);
      followers = l.followers ∙ u.followers;
      before = l.before ∙ u.before;
    }

-- the work of an insertion after so many others
pub insert_work : (old new : HeapEntries) (held : ℕ) → old.comparisons ≤ held → old.comparisons ≤ 1 → old.moves ≡ 1 → HasClimbed 1 1 (height held) old new → IsLogarithmic held new
insert_work old new held none one moved u = record {
  comparisons = ⊎_elim
      (λ lt. omega (arith, u.comparisons, height_digits held, digit held lt))
      (λ le. omega (arith, u.comparisons, height_digits held))
      (cases_lt 0 held);
  moves = omega (arith, u.moves, height_digits held);
}

pub tried_work : (h : HeapEntries) → IsTried h → IsLogarithmic (length h.entries) h
tried_work h t = record {
  comparisons = ⊎_elim (λ lt. omega (arith, t.one, digit (length h.entries) lt)) (λ le. omega (arith, t.few)) (cases_lt 0 (length h.entries));
  moves = omega (arith, t.unmoved);
}

-- where the new entry only follows another
pub append_work : (new : HeapEntries) (held : ℕ) → 0 < held → new.comparisons ≡ 1 → new.moves ≡ 1 → IsLogarithmic held new
append_work new held some one moved = record { comparisons = omega (arith, digit held some); moves = omega arith }

-- no entry goes in by itself
pub stays : (h : HeapEntries) → IsTried h → HasStayedOut (heap_lines h) h.before h
stays h t = record { lines = refl; tried = t; before = refl }

-- after an attempt in vain
pub retried : (e : Entry) (old : HeadsAndFollowers) (work : Work) (mid new : HeapEntries) (b : Bool) → HasStayedOut old work mid → IsInsertion e (heap_lines mid) mid.before new b → IsInsertion e old work new b
retried e old work mid new b s it = subst (λ (p : HeadsAndFollowers × Work). IsInsertion e p.0 p.1 new b) (λ i. (s.lines i, s.before i)) it

-- an entry that was put after all heads, and rose
module _ (e : Entry) (mid put new : HeapEntries) (from to : ℕ) (pushed : put ≡ record mid { entries = mid.entries ++ e ∷ []; moves = mid.moves + 1 }) (last : from ≡ length mid.entries)
    (raised : HasRaised put.entries new.entries from to) (cost : HasClimbed 1 1 (height from) put new) (compared : 0 < from → put.comparisons < new.comparisons) where
  raised_last : HasRaised (mid.entries ++ e ∷ []) new.entries (length mid.entries) to
  raised_last = subst (λ es. HasRaised es new.entries (length mid.entries) to) (ap (λ h. h.entries) pushed) (subst (λ k. HasRaised put.entries new.entries k to) last raised)

  in_order_again : IsHeap comes_before mid.entries → IsHeap comes_before new.entries
  in_order_again h =
      let r = raised_last.risen in
      let but = one_more comes_before mid.entries e h in
      let long : length new.entries ≡ length mid.entries + 1 = omega (arith, length_permutation (mid.entries ++ e ∷ []) new.entries r.permutation, length-append mid.entries (e ∷ [])) in
      let over : IsOverChildren comes_before new.entries to = ⊎_elim (r.over but) (λ le. leaf comes_before new.entries to (omega (arith, r.up))) (cases_lt to (length mid.entries)) in
      closes comes_before new.entries to (r.but but) (raised_last.under but) over

  pub goes_in : IsTried mid → IsHeap comes_before mid.entries → (list_any (int_eq e.notice) (notices_of mid.entries) || list_any (int_eq e.notice) (notices_of mid.followers)) ≡ false
      → e.number ≢ scheduling_limit → HasGoneIn e (heap_lines mid) mid.before new
  goes_in tried ordered apart room =
      let others : new.followers ≡ mid.followers = cost.followers ∙ ap (λ h. h.followers) pushed in
      let all = IsPermutation-trans (e ∷ mid.entries) (mid.entries ++ e ∷ []) new.entries (IsPermutation-sym (mid.entries ++ e ∷ []) (e ∷ mid.entries) (IsPermutation-to_front mid.entries e))
      raised_last.risen.permutation in
      record {
        order = in_order_again ordered;
        all = subst (λ fs. IsPermutation (e ∷ all_of mid) (new.entries ++ fs)) (sym others) (IsPermutation-append_left mid.followers (e ∷ mid.entries) new.entries all);
        apart = apart;
        room = room;
        cost = insert_work put new (length mid.entries)
            (omega (arith, ap (λ h. h.comparisons) pushed, tried.few))
            (omega (arith, ap (λ h. h.comparisons) pushed, tried.one))
            (omega (arith, ap (λ h. h.moves) pushed, tried.unmoved))
            (subst (λ k. HasClimbed 1 1 (height k) put new) last cost);
        moved = omega (arith, ap (λ h. h.moves) pushed, cost.grows);
        compared = λ some. omega (arith, compared (omega arith));
        before = cost.before ∙ ap (λ h. h.before) pushed;
      }

-- the work of taking one of so many out
pub take_work : (old new : HeapEntries) (held : ℕ) → old.comparisons ≡ 0 → old.moves ≤ 2 → length old.entries ≤ held → HasClimbed 4 1 (height (length old.entries - 1)) old new → IsLogarithmic held new
take_work old new held none few less u =
    let high = height_mono (length old.entries - 1) (held - 1) (omega arith) in
    let some = height_digits held in
    record {
      comparisons = ⊎_elim
          (λ lt. omega (arith, u.comparisons, height_mono (held - 1) held (omega arith), digit held (omega arith), digit (held / 2) (omega arith)))
          (λ le. omega (arith, u.comparisons, height_mono (held - 1) 0 (omega arith), length-digits_of-le 2 1 1 (omega arith) (omega arith)))
          (cases_lt 1 held);
      moves = omega (arith, u.moves, height_mono (held - 1) held (omega arith));
    }
