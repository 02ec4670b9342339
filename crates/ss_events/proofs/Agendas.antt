-- The entries of a heap are those of an event list, before and after each call.
use Rattle.std.proofs.Common.{◌≡◌, ℕ, ◌+◌, ◌<◌, ℤ, Bool, true, false, not, cond, ◌||◌, nat_eq, List, [], ◌∷◌, length, get_or, position, Some, Ok, refl, sym, ap, ◌∙◌, ⊎_elim, arith}
use Rattle.ss_events.proofs.Common.{All, AreAfterHeads, cases_lt, comes_before, entries_rank, Entry, get_or_default, HasGoneIn, heap_lines, HeapEntries, all_of, int_eq, int_eq_equiv, IsAgenda, in_order, IsDistinct-head, IsDistinct-tail, IsHeap, is_pending, IsLogarithmic, IsPermutation, least, list_any, nat_tests, notices_of, SortKey, without_notice, Work}
use Rattle.std.specs.List.{IsDistinct, AllByRecursion}
use Rattle.std.specs.Option.{option_map_or}
use Rattle.std.proofs.lemmas.Bool.{or_left, or_parts}
use Rattle.std.proofs.lemmas.List.{nil_from_length, get_or-map, length-map, length-append, map-append}
use Rattle.std.proofs.lemmas.List.Elements.{All-cons, All-tail, All-append, All-map, All-weaker, Contains-append_left, recursion_from_All}
use Rattle.std.proofs.lemmas.List.Folds.{list_any-append}
use Rattle.std.proofs.lemmas.List.Quantifiers.{position-Some}
use Rattle.std.proofs.lemmas.List.Sorted.{All-permutation, Contains-permutation, length_permutation, list_any-IsPermutation}
use Rattle.std.proofs.lemmas.Map.Keys.{IsDistinct-cons}
use Rattle.ss_world.specs.declared.ties.TieShape.{TieShape}
use Rattle.ss_world.specs.PendingList.{PendingList, after_next, scheduled, cancelled}
use Rattle.ss_events_entries.specs.Slots.{no_entry}
use Rattle.ss_events_entries.proofs.Heaps.{first}
use Rattle.ss_events.specs.InOrder.{put_in_order, numbers_of}
use Rattle.ss_events.proofs.InOrders.{put_first, put_later, put_last, permutes, all_of_map, rising-in_order, one_each, numbers-permutation, notices-permutation, in_order-permutation}
use Rattle.ss_events.proofs.Leasts.{least_is}
use Rattle.ss_events.proofs.Outcomes.{scheduled-room, cancelled-pending}
use Rattle.ss_events.proofs.Sifts.{digits_mono}

-- the event list that the entries of a heap make
abbrev pub listed : HeapEntries → ℕ → List (List TieShape) → PendingList
listed h count classes = record { entries = in_order (all_of h); schedulings = count; classes = classes }

-- ---- whether a notice is pending

abbrev pub is_held : ℤ → HeapEntries → Bool
is_held notice h = list_any (int_eq notice) (notices_of h.entries) || list_any (int_eq notice) (notices_of h.followers)

any-notices : (notice : ℤ) (es : List Entry) → list_any (int_eq notice) (notices_of es) ≡ is_pending notice es
any-notices notice [] = refl
any-notices notice (e ∷ es) = ap (λ b. int_eq notice e.notice || b) (any-notices notice es)

pub pending-in_order : (notice : ℤ) (h : HeapEntries) → is_pending notice (in_order (all_of h)) ≡ is_held notice h
pending-in_order notice h =
    sym (list_any-IsPermutation (λ e. int_eq notice e.notice) (all_of h) (in_order (all_of h)) (permutes (all_of h)))
    ∙ list_any-append (λ e. int_eq notice e.notice) h.entries h.followers
    ∙ (λ i. sym (any-notices notice h.entries) i || sym (any-notices notice h.followers) i)

-- ---- the entries without one

-- where none has the notice
without_notice-none : (notice : ℤ) (es : List Entry) → All (λ x. int_eq notice x.notice ≡ false) es → without_notice notice es ≡ es
without_notice-none notice [] a = refl
without_notice-none notice (e ∷ es) a =
    ap (λ b. cond (not b) (e ∷ without_notice notice es) (without_notice notice es)) (a 0 e (omega arith))
    ∙ ap (λ l. e ∷ l) (without_notice-none notice es (All-tail (λ x. int_eq notice x.notice ≡ false) e es a))

-- one that has it was put among them
without_notice-put_in_order : (notice : ℤ) (e : Entry) (es : List Entry) → int_eq notice e.notice ≡ true → without_notice notice (put_in_order e es) ≡ without_notice notice es
without_notice-put_in_order notice e [] t = ap (λ b. cond (not b) (e ∷ []) []) t
without_notice-put_in_order notice e (f ∷ fs) t = ⊎_elim
    (λ lt. ap (without_notice notice) (put_first e f fs lt) ∙ ap (λ b. cond (not b) (e ∷ without_notice notice (f ∷ fs)) (without_notice notice (f ∷ fs))) t)
    (λ le. ap (without_notice notice) (put_later e f fs le) ∙ ap (λ l. cond (not (int_eq notice f.notice)) (f ∷ l) l) (without_notice-put_in_order notice e fs t))
    (cases_lt e.number f.number)

-- ---- the first head

-- where each of the others comes after a head
module _ (h : HeapEntries) (following : AreAfterHeads h.entries h.followers) where
  -- where there is an entry there is a head
  pub some_head : 0 < length (in_order (all_of h)) → 0 < length h.entries
  some_head some = ⊎_elim
      (λ lt. lt)
      (λ none.
      let follower : 0 < length h.followers = omega (arith, length_permutation (all_of h) (in_order (all_of h)) (permutes (all_of h)), length-append h.entries h.followers) in
      let led = following 0 no_entry follower in omega (arith, led.within))
      (cases_lt 0 (length h.entries))

  pub none_left : length h.entries ≡ 0 → in_order (all_of h) ≡ []
  none_left e = nil_from_length (in_order (all_of h)) (⊎_elim (λ some. absurd (omega (arith, some_head some))) (λ none. omega arith) (cases_lt 0 (length (in_order (all_of h)))))

  -- the first head is the least
  pub least_head : (count : ℕ) → IsAgenda h.entries (all_of h) count → (x : Entry) → 0 < length h.entries → x ≡ get_or h.entries 0 x → least (in_order (all_of h)) ≡ Some x
  least_head count a x some is =
      let old = all_of h in
      let among = Contains-permutation old (in_order old) x (permutes old) (Contains-append_left h.entries h.followers x (0, some, sym is)) in
      let head : All (λ y. comes_before y x ≡ false) h.entries
      = (λ k d within. ap (comes_before (get_or h.entries k d)) (is ∙ get_or_default h.entries 0 x d some) ∙ first comes_before entries_rank h.entries a.order k k (omega arith) within d) in
      let follower : All (λ y. comes_before y x ≡ false) h.followers
      = (λ k d within.
      let led = following k d within in let y = get_or h.followers k d in let top = get_or h.entries led.place y in
      entries_rank.chain y top x (entries_rank.one_way top y (led.before y)) (head led.place y led.within)) in
      least_is x (in_order old) among
      (All-permutation (λ y. comes_before y x ≡ false) old (in_order old) (permutes old) (All-append (λ y. comes_before y x ≡ false) h.entries h.followers head follower))
      (λ y m e. one_each (in_order old) y x (rising-in_order old a.numbers) m among e)

-- the entry in the first place
pub at_top : (es : List Entry) → 0 < length es → (e : Entry) × (e ≡ get_or es 0 e)
at_top [] some = absurd (omega arith)
at_top (e ∷ es) some = (e, refl)

-- ---- what a call leaves

none_any : (p : ℤ → Bool) (ns : List ℤ) → list_any p ns ≡ false → AllByRecursion (λ n. p n ≡ false) ns
none_any p [] e = tt
none_any p (n ∷ ns) e = let h = or_parts (p n) (list_any p ns) e in (h.0, none_any p ns h.1)

module _ (h : HeapEntries) (count : ℕ) (a : IsAgenda h.entries (all_of h) count) where
  -- a new entry
  module _ (key : SortKey) (notice : ℤ) (work : Work) (new : HeapEntries) (g : HasGoneIn (record { key = key; number = count; notice = notice }) (heap_lines h) work new) where
    abbrev its : Entry
    its = record { key = key; number = count; notice = notice }

    numbers_after : IsDistinct nat_eq (numbers_of (its ∷ all_of h))
    numbers_after = IsDistinct-cons nat_eq count (numbers_of (all_of h))
        (recursion_from_All (λ m. nat_eq count m ≡ false) (numbers_of (all_of h))
        (All-map (λ m. nat_eq count m ≡ false) (λ x. x.number) (all_of h) (λ k d within. let lt = a.numbered k d within in grind (arith, nat_tests)))) a.numbers

    notices_after : IsDistinct int_eq (notices_of (its ∷ all_of h))
    notices_after = IsDistinct-cons int_eq notice (notices_of (all_of h))
        (none_any (int_eq notice) (notices_of (all_of h)) (ap (list_any (int_eq notice)) (map-append (λ (e : Entry). e.notice) h.entries h.followers)
        ∙ list_any-append (int_eq notice) (notices_of h.entries) (notices_of h.followers) ∙ g.apart)) a.notices

    pub agenda-inserted : IsAgenda new.entries (all_of new) (count + 1)
    agenda-inserted = record {
      order = g.order;
      notices = notices-permutation (its ∷ all_of h) (all_of new) g.all notices_after;
      numbers = numbers-permutation (its ∷ all_of h) (all_of new) g.all numbers_after;
      numbered = All-permutation (λ x. x.number < count + 1) (its ∷ all_of h) (all_of new) g.all (All-cons (λ x. x.number < count + 1) its (all_of h) (omega arith) (λ k d within. omega (arith, a.numbered k d within)));
      few = omega (arith, a.few, g.room);
    }

    -- it goes last
    pub scheduled-inserted : (classes : List (List TieShape)) → scheduled key notice (listed h count classes) ≡ Ok (listed new (count + 1) classes)
    unfolding in_order
    scheduled-inserted classes =
        scheduled-room key notice (listed h count classes) (pending-in_order notice h ∙ g.apart) g.room
        ∙ ap (λ es. Ok (record { entries = es; schedulings = count + 1; classes = classes }))
        (sym (put_last its (in_order (all_of h)) (All-permutation (λ x. x.number < count) (all_of h) (in_order (all_of h)) (permutes (all_of h)) a.numbered))
        ∙ in_order-permutation (its ∷ all_of h) (all_of new) numbers_after g.all)

  -- an entry that went out
  module _ (x : Entry) (new : HeapEntries) (p : IsPermutation (all_of h) (x ∷ all_of new)) where
    notices_before : IsDistinct int_eq (notices_of (x ∷ all_of new))
    notices_before = notices-permutation (all_of h) (x ∷ all_of new) p a.notices

    pub agenda-taken : IsHeap comes_before new.entries → IsAgenda new.entries (all_of new) count
    agenda-taken order = record {
      order = order;
      notices = IsDistinct-tail int_eq x.notice (notices_of (all_of new)) notices_before;
      numbers = IsDistinct-tail nat_eq x.number (numbers_of (all_of new)) (numbers-permutation (all_of h) (x ∷ all_of new) p a.numbers);
      numbered = All-tail (λ e. e.number < count) x (all_of new) (All-permutation (λ e. e.number < count) (all_of h) (x ∷ all_of new) p a.numbered);
      few = a.few;
    }

    -- the others stay in order
    module _ (notice : ℤ) (noticed : int_eq notice x.notice ≡ true) where
      in_order-taken : without_notice notice (in_order (all_of h)) ≡ in_order (all_of new)
      unfolding in_order
      in_order-taken =
          let apart = all_of_map (λ n. int_eq x.notice n ≡ false) (λ e. e.notice) (all_of new) (IsDistinct-head int_eq x.notice (notices_of (all_of new)) notices_before) in
          let others = All-weaker (λ y. int_eq x.notice y.notice ≡ false) (λ y. int_eq notice y.notice ≡ false) (λ y e. int_eq_equiv.congr notice x.notice y.notice noticed ∙ e) (all_of new) apart in
          ap (without_notice notice) (in_order-permutation (all_of h) (x ∷ all_of new) a.numbers p)
          ∙ without_notice-put_in_order notice x (in_order (all_of new)) noticed
          ∙ without_notice-none notice (in_order (all_of new)) (All-permutation (λ y. int_eq notice y.notice ≡ false) (all_of new) (in_order (all_of new)) (permutes (all_of new)) others)

      pub cancelled-taken : (classes : List (List TieShape)) → cancelled notice (listed h count classes) ≡ Ok (listed new count classes)
      cancelled-taken classes =
          cancelled-pending notice (listed h count classes)
          (sym (list_any-IsPermutation (λ e. int_eq notice e.notice) (all_of h) (in_order (all_of h)) (permutes (all_of h)))
          ∙ list_any-IsPermutation (λ e. int_eq notice e.notice) (all_of h) (x ∷ all_of new) p
          ∙ or_left (int_eq notice x.notice) (is_pending notice (all_of new)) noticed)
          ∙ ap (λ es. Ok (record { entries = es; schedulings = count; classes = classes })) in_order-taken

    pub after_next-taken : (classes : List (List TieShape)) → least (in_order (all_of h)) ≡ Some x → after_next (listed h count classes) ≡ listed new count classes
    after_next-taken classes first =
        ap (λ o. record { entries = option_map_or (λ (e : Entry). without_notice e.notice (in_order (all_of h))) o []; schedulings = count; classes = classes }) first
        ∙ ap (λ es. record { entries = es; schedulings = count; classes = classes }) (in_order-taken x.notice (int_eq_equiv.refl x.notice))

pub after_next-none : (h : HeapEntries) (count : ℕ) (classes : List (List TieShape)) → in_order (all_of h) ≡ [] → after_next (listed h count classes) ≡ listed h count classes
after_next-none h count classes none =
    ap (λ es. record { entries = option_map_or (λ (e : Entry). without_notice e.notice (in_order (all_of h))) (least es) []; schedulings = count; classes = classes }) none
    ∙ ap (λ es. record { entries = es; schedulings = count; classes = classes }) (sym none)

-- the work is measured by the entries of the list
pub work_of : (h new : HeapEntries) → IsLogarithmic (length h.entries) new → IsLogarithmic (length (in_order (all_of h))) new
work_of h new w =
    let more = digits_mono (length h.entries) (length (in_order (all_of h))) (omega (arith, length_permutation (all_of h) (in_order (all_of h)) (permutes (all_of h)), length-append h.entries h.followers)) in
    record { comparisons = omega (arith, w.comparisons, more); moves = omega (arith, w.moves, more) }

-- the entry at the place of a notice has that notice
pub found-at : (es : List Entry) (notice : ℤ) (at : ℕ) (x : Entry) → Some at ≡ position (int_eq notice) (notices_of es) → x ≡ get_or es at x → int_eq notice x.notice ≡ true
found-at es notice at x place value =
    let h = position-Some (int_eq notice) (notices_of es) at x.notice (sym place) in
    let read = get_or-map (λ (e : Entry). e.notice) es at x x.notice (omega (arith, h.0, length-map es (λ (e : Entry). e.notice))) ∙ ap (λ (e : Entry). e.notice) (sym value) in
    ap (int_eq notice) (sym read) ∙ h.1

none_apart : {K : Type 0} (e : K → K → Bool) → IsDistinct e []
unfolding IsDistinct
none_apart e = tt

-- the list of an empty heap is empty
pub agenda-none : IsAgenda [] [] 0
agenda-none = record {
  order = record { order = λ p k child k_in d. absurd (omega (arith, k_in)) };
  notices = none_apart int_eq;
  numbers = none_apart nat_eq;
  numbered = λ k d lt. absurd (omega (arith, lt));
  few = omega arith;
}
