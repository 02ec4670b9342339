-- What is read of entries in lines.
use Rattle.std.proofs.Common.{◌≡◌, ◌≢◌, ℕ, zero, suc, ◌-◌, ◌*◌, ◌<◌, ◌≤◌, ℤ, pos, true, false, List, length, get_or, ◌||◌, position, is_some, Option, Some, None, sym, ap, subst, ◌∙◌, ⊎_elim, inl, inr, arith}
use Rattle.std.specs.Ordering.{int_eq}
use Rattle.ss_events_entries.proofs.Common.{AreHeld, blank_slot, cases_Bool, cases_lt, comes_before, Entry, entry_at, followers, following, heads, HeapNode, int_eq_equiv, IsBut, IsTaken, list_any, lt-ltb, Mark, mark_of, MatchOption, no_entry, no_node, node, not_plain, order_of, plain_entry, plain_numbers, plain_ranks, Slot, slot_at, SlotDirectory}
use Rattle.std.proofs.lemmas.Bool.Decides.{Decides-int_eq}
use Rattle.std.proofs.lemmas.List.{length-map, get_or-map, get_or_default, get_or_past}
use Rattle.ss_events_entries.specs.HeapEntries.{HeadsAndFollowers, notices_of, event_of, IsLed, AreAfterHeads}
use Rattle.ss_events_entries.proofs.Lists.{each_fails, none_passes, first_at, first_nowhere}
use Rattle.ss_events_entries.proofs.Marks.{notice_in, in-not_plain, plain_small, plain_again, plain_mark}
use Rattle.ss_events_entries.proofs.Times.{orders_decide}
use Rattle.ss_events_entries.proofs.HeadsAndFollowers.{long_heads, head_at, follower, Follows, follower_at, slot_of_follower}

-- ---- notices

-- two that are apart, by the test, and back
pub apart_by_test : (m n : ℤ) → m ≢ n → int_eq m n ≡ false
apart_by_test m n other = ⊎_elim
    (λ same. absurd (other ((Decides-int_eq m n).0 same)))
    (λ it. it)
    (cases_Bool (int_eq m n))

pub apart_of_test : (m n : ℤ) → int_eq m n ≡ false → m ≢ n
apart_of_test m n e is =
    let same : int_eq m n ≡ true = ap (λ x. int_eq m x) (sym is) ∙ int_eq_equiv.refl m in
    cc

-- ---- the notices of followers

module _ (slots : List Slot) (n : ℤ) where
  follower_notice : (s k : ℕ) → Follows slots s k → get_or (notices_of (followers slots)) k (pos 0) ≡ (slot_at slots s).notice
  follower_notice s k f = get_or-map (λ (e : Entry). e.notice) (followers slots) k no_entry (pos 0) f.listed ∙ ap (λ (e : Entry). e.notice) (f.is no_entry)

  -- no follower has a notice that no following slot has, and back
  pub no_follower_has : ((s : ℕ) → s < length slots → following ≤ (slot_at slots s).at → (slot_at slots s).notice ≢ n) → list_any (int_eq n) (notices_of (followers slots)) ≡ false
  no_follower_has none =
      none_passes (int_eq n) (notices_of (followers slots)) (pos 0)
      (λ k k_in.
      let s = slot_of_follower slots k (omega (arith, k_in, length-map (followers slots) (λ (e : Entry). e.notice))) in
      ap (int_eq n) (follower_notice s.0 k s.1)
      ∙ apart_by_test n (slot_at slots s.0).notice (λ is. none s.0 s.1.within s.1.nodes (sym is)))

  followers-without : list_any (int_eq n) (notices_of (followers slots)) ≡ false → (s : ℕ) → s < length slots → following ≤ (slot_at slots s).at → (slot_at slots s).notice ≢ n
  followers-without none s within node_so is =
      let k = follower_at slots s within node_so in
      let fails = each_fails (int_eq n) (notices_of (followers slots)) (pos 0) none k.0 (omega (arith, k.1.listed, length-map (followers slots) (λ (e : Entry). e.notice))) in
      apart_of_test n (slot_at slots s).notice (ap (int_eq n) (sym (follower_notice s k.0 k.1)) ∙ fails) (sym is)

  -- where a following slot has it, a follower has it
  pub follower_has : (s : ℕ) → s < length slots → following ≤ (slot_at slots s).at → (slot_at slots s).notice ≡ n → list_any (int_eq n) (notices_of (followers slots)) ≡ true
  follower_has s within placed is = ⊎_elim (λ it. it) (λ none. absurd (followers-without none s within placed is)) (cases_Bool (list_any (int_eq n) (notices_of (followers slots))))

module _ (count free : ℕ) (slots : List Slot) (wholes : List Entry) (nodes : List HeapNode) (directory : SlotDirectory) (h : AreHeld count free slots wholes nodes directory) where
  -- there are no more places than nodes
  pub few_places : count ≤ length nodes
  few_places = omega (arith, h.few)

  -- the slot of a place is there and taken
  pub slot_there : (k : ℕ) → k < count → (node nodes k).slot < length slots
  slot_there k within = (h.there k (omega (arith, within))).0

  pub place_there : (k : ℕ) → k < count → (slot_at slots (node nodes k).slot).at ≡ k
  place_there k within = (h.there k (omega (arith, within))).1

  pub taken_there : (k : ℕ) → k < count → IsTaken count (slot_at slots (node nodes k).slot)
  taken_there k within = inl (omega (arith, within, place_there k within))

  -- the node of a slot's place leads back to the slot
  pub nodes_there : (s : ℕ) → s < length slots → (slot_at slots s).at < count → (node nodes (slot_at slots s).at).slot ≡ s
  nodes_there s within placed = (h.back s within (omega (arith, placed, h.few, h.many, h.small))).1

  -- the notice in a slot
  pub notice_at : (s : ℕ) → (entry_at slots wholes s).notice ≡ (slot_at slots s).notice
  notice_at s = notice_in (slot_at slots s).mark (slot_at slots s).notice (get_or wholes s no_entry)

  -- an entry is stored whole where it isn't plain
  whole_there : (s : ℕ) → s < length slots → IsTaken count (slot_at slots s) → (slot_at slots s).mark.order ≡ not_plain → s < length wholes
  whole_there s within taken order = ⊎_elim
      (λ lt. lt)
      (λ past.
      let x = slot_at slots s in
      let none : entry_at slots wholes s ≡ record { key = no_entry.key; number = no_entry.number; notice = x.notice } = in-not_plain x.mark x.notice (get_or wholes s no_entry) order
      ∙ ap (λ (w : Entry). record { key = w.key; number = w.number; notice = x.notice }) (get_or_past wholes s no_entry past) in
      let first : x.mark.order ≡ 0 = ap (λ (m : Mark). m.order) (h.fits s within taken) ∙ ap order_of none in
      absurd (omega (arith, first, order)))
      (cases_lt s (length wholes))

  pub node_whole : (k : ℕ) → k < count → (t : HeapNode) → t ≡ node nodes k → t.mark.order ≡ not_plain → t.slot < length wholes
  node_whole k within t is order =
      let there = ap (λ (x : HeapNode). x.slot) is in
      let same : t.mark.order ≡ (slot_at slots (node nodes k).slot).mark.order = ap (λ (x : HeapNode). x.mark.order) is ∙ ap (λ (m : Mark). m.order) (h.marked k within) in
      omega (arith, there, whole_there (node nodes k).slot (slot_there k within) (taken_there k within) (sym same ∙ order))

  -- the notice of a head
  pub head_notice : (k : ℕ) → k < count → get_or (notices_of (heads count slots wholes nodes)) k (pos 0) ≡ (slot_at slots (node nodes k).slot).notice
  head_notice k within =
      get_or-map (λ (e : Entry). e.notice) (heads count slots wholes nodes) k no_entry (pos 0) (omega (arith, within, long_heads count slots wholes nodes few_places))
      ∙ ap (λ (e : Entry). e.notice) (head_at count slots wholes nodes few_places k no_entry within) ∙ notice_at (node nodes k).slot

  pub many_heads : length (notices_of (heads count slots wholes nodes)) ≡ count
  many_heads = length-map (heads count slots wholes nodes) (λ (e : Entry). e.notice) ∙ long_heads count slots wholes nodes few_places

  module _ (n : ℤ) where
    -- no head has a notice that no slot in a place has, and back
    pub heads-free : ((s : ℕ) → s < length slots → (slot_at slots s).at < count → (slot_at slots s).notice ≢ n) → list_any (int_eq n) (notices_of (heads count slots wholes nodes)) ≡ false
    heads-free none =
        none_passes (int_eq n) (notices_of (heads count slots wholes nodes)) (pos 0)
        (λ k k_in.
        let within : k < count = omega (arith, k_in, many_heads) in
        ap (int_eq n) (head_notice k within)
        ∙ apart_by_test n (slot_at slots (node nodes k).slot).notice (λ is. none (node nodes k).slot (slot_there k within) (omega (arith, within, place_there k within)) (sym is)))

    pub heads-without : list_any (int_eq n) (notices_of (heads count slots wholes nodes)) ≡ false → (s : ℕ) → s < length slots → (slot_at slots s).at < count → (slot_at slots s).notice ≢ n
    heads-without none s within placed is =
        let k = (slot_at slots s).at in
        let fails = each_fails (int_eq n) (notices_of (heads count slots wholes nodes)) (pos 0) none k (omega (arith, placed, many_heads)) in
        apart_of_test n (slot_at slots (node nodes k).slot).notice (ap (int_eq n) (sym (head_notice k placed)) ∙ fails)
        (sym is ∙ ap (λ t. (slot_at slots t).notice) (sym (nodes_there s within placed)))

    -- no entry has a notice that no slot has that is taken, and back
    pub notice-free : ((s : ℕ) → s < length slots → IsTaken count (slot_at slots s) → (slot_at slots s).notice ≢ n)
        → (list_any (int_eq n) (notices_of (heads count slots wholes nodes)) ≡ false) × (list_any (int_eq n) (notices_of (followers slots)) ≡ false)
    notice-free none = (heads-free (λ s within placed. none s within (inl placed)), no_follower_has slots n (λ s within placed. none s within (inr placed)))

    pub notice-without : list_any (int_eq n) (notices_of (heads count slots wholes nodes)) ≡ false → list_any (int_eq n) (notices_of (followers slots)) ≡ false
        → (s : ℕ) → s < length slots → IsTaken count (slot_at slots s) → (slot_at slots s).notice ≢ n
    notice-without apart fresh s within taken = ⊎_elim (λ placed. heads-without apart s within placed) (λ placed. followers-without slots n fresh s within placed) taken

    -- a notice that no head has is in no place
    pub position_nowhere : list_any (int_eq n) (notices_of (heads count slots wholes nodes)) ≡ false → position (int_eq n) (notices_of (heads count slots wholes nodes)) ≡ None
    position_nowhere none =
        first_nowhere (int_eq n) (notices_of (heads count slots wholes nodes)) (pos 0) (each_fails (int_eq n) (notices_of (heads count slots wholes nodes)) (pos 0) none)

    module _ (s : ℕ) (within : s < length slots) (is : (slot_at slots s).notice ≡ n) where
      -- where a slot in a place has the notice, the head there has it, and none before
      pub position_there : (slot_at slots s).at < count → position (int_eq n) (notices_of (heads count slots wholes nodes)) ≡ Some (slot_at slots s).at
      position_there placed =
          let k = (slot_at slots s).at in
          first_at (int_eq n) (notices_of (heads count slots wholes nodes)) k (pos 0) (omega (arith, placed, many_heads))
          (λ j j_in.
          let lt : j < count = omega (arith, j_in, placed) in
          ap (int_eq n) (head_notice j lt)
          ∙ apart_by_test n (slot_at slots (node nodes j).slot).notice
          (λ same.
          let one : (node nodes j).slot ≡ s = h.distinct (node nodes j).slot s (slot_there j lt) within (taken_there j lt) (inl placed) (sym same ∙ sym is) in
          omega (arith, j_in, place_there j lt, ap (λ t. (slot_at slots t).at) one)))
          (ap (int_eq n) (head_notice k placed ∙ ap (λ t. (slot_at slots t).notice) (nodes_there s within placed) ∙ is) ∙ int_eq_equiv.refl n)

      pub head_has : (slot_at slots s).at < count → list_any (int_eq n) (notices_of (heads count slots wholes nodes)) ≡ true
      head_has placed = ⊎_elim (λ it. it) (λ none. absurd (heads-without none s within placed is)) (cases_Bool (list_any (int_eq n) (notices_of (heads count slots wholes nodes))))

      -- where a following slot has it, no head has it
      pub no_head_has : following ≤ (slot_at slots s).at → list_any (int_eq n) (notices_of (heads count slots wholes nodes)) ≡ false
      no_head_has placed =
          heads-free
          (λ t t_in there same.
          let one : t ≡ s = h.distinct t s t_in within (inl there) (inr placed) (same ∙ sym is) in
          omega (arith, there, placed, h.few, h.many, h.small, ap (λ u. (slot_at slots u).at) one))

    -- whether there is an entry of the notice, from what is known of the slot that has it
    pub holds_read : (r : Option ℕ)
        → MatchOption r ((s : ℕ) → s < length slots → IsTaken count (slot_at slots s) → (slot_at slots s).notice ≢ n)
        (λ s. (s < length slots) × IsTaken count (slot_at slots s) × ((slot_at slots s).notice ≡ n))
        → is_some r ≡ (list_any (int_eq n) (notices_of (heads count slots wholes nodes)) || list_any (int_eq n) (notices_of (followers slots)))
    holds_read None none = let it = notice-free none in λ i. sym it.0 i || sym it.1 i
    holds_read (Some s) it = ⊎_elim
        (λ placed. ap (λ b. b || list_any (int_eq n) (notices_of (followers slots))) (sym (head_has s it.0 it.2 placed)))
        (λ placed. λ i. sym (no_head_has s it.0 it.2 placed) i || sym (follower_has slots n s it.0 placed it.2) i)
        it.1

  -- ---- what is read of a place

  -- the mark of a head
  head_mark : (k : ℕ) (d : Entry) → k < count → (node nodes k).mark ≡ mark_of (get_or (heads count slots wholes nodes) k d)
  head_mark k d within =
      h.marked k within ∙ h.fits (node nodes k).slot (slot_there k within) (taken_there k within)
      ∙ ap mark_of (sym (head_at count slots wholes nodes few_places k d within))

  module _ (now : HeadsAndFollowers) (seen : record { heads = heads count slots wholes nodes; followers = followers slots } ≡ now) where
    pub long_now : length now.heads ≡ count
    long_now = sym (ap (λ (l : HeadsAndFollowers). length l.heads) seen) ∙ long_heads count slots wholes nodes few_places

    module _ (k : ℕ) (within : k < length now.heads) where
      pub is_place : k < count
      is_place = omega (arith, within, long_now)

      pub is_slot : (node nodes k).slot < length slots
      is_slot = slot_there k is_place

      pub head_is : (d : Entry) → get_or now.heads k d ≡ entry_at slots wholes (node nodes k).slot
      head_is d = sym (ap (λ (l : HeadsAndFollowers). get_or l.heads k d) seen) ∙ head_at count slots wholes nodes few_places k d is_place

      -- of what was read of a vector
      module _ (t : HeapNode) (is : t ≡ get_or nodes k t) where
        pub node_read : t ≡ node nodes k
        node_read = is ∙ get_or_default nodes k t no_node (omega (arith, is_place, few_places))

        pub slot_read : t.slot < length slots
        slot_read = omega (arith, is_slot, ap (λ (x : HeapNode). x.slot) node_read)

        pub mark_read : (d : Entry) → t.mark ≡ mark_of (get_or now.heads k d)
        mark_read d =
            ap (λ (x : HeapNode). x.mark) node_read ∙ head_mark k d is_place
            ∙ ap (λ (l : HeadsAndFollowers). mark_of (get_or l.heads k d)) seen

        module _ (x : Slot) (too : x ≡ get_or slots t.slot x) where
          pub notice_read : (d : Entry) → x.notice ≡ (get_or now.heads k d).notice
          notice_read d =
              ap (λ (y : Slot). y.notice) (too ∙ get_or_default slots t.slot x blank_slot slot_read)
              ∙ ap (λ (y : HeapNode). (slot_at slots y.slot).notice) node_read ∙ sym (notice_at (node nodes k).slot)
              ∙ ap (λ (e : Entry). e.notice) (sym (head_is d))

          pub event_read : (d : Entry) → (t.mark.time, x.notice) ≡ event_of (get_or now.heads k d)
          event_read d = λ i. (ap (λ (m : Mark). m.time) (mark_read d) i, notice_read d i)

        order_read : (d : Entry) → t.mark.order ≡ order_of (get_or now.heads k d)
        order_read d = ap (λ (m : Mark). m.order) (mark_read d)

        pub whole_in : ((d : Entry) → order_of (get_or now.heads k d) ≡ not_plain) → t.slot < length wholes
        whole_in not_plain_there = node_whole k is_place t node_read (order_read no_entry ∙ not_plain_there no_entry)

        -- an entry that isn't plain, but for its notice
        pub whole_read : ((d : Entry) → order_of (get_or now.heads k d) ≡ not_plain) → (x : Entry) → x ≡ get_or wholes t.slot x → (d : Entry) → IsBut x (get_or now.heads k d)
        whole_read not_plain_there x too d =
            let s = (node nodes k).slot in
            let w = get_or wholes s no_entry in
            let here : x ≡ w = too ∙ get_or_default wholes t.slot x no_entry (whole_in not_plain_there) ∙ ap (λ (y : HeapNode). get_or wholes y.slot no_entry) node_read in
            let order : (slot_at slots s).mark.order ≡ not_plain =
            sym (ap (λ (m : Mark). m.order) (h.marked k is_place)) ∙ sym (ap (λ (y : HeapNode). y.mark.order) node_read) ∙ order_read no_entry ∙ not_plain_there no_entry in
            let whole : entry_at slots wholes s ≡ record { key = w.key; number = w.number; notice = (slot_at slots s).notice } = in-not_plain (slot_at slots s).mark (slot_at slots s).notice w order in
            record {
              key = ap (λ (e : Entry). e.key) here ∙ sym (ap (λ (e : Entry). e.key) (head_is d ∙ whole));
              number = ap (λ (e : Entry). e.number) here ∙ sym (ap (λ (e : Entry). e.number) (head_is d ∙ whole));
            }

        module _ (plain : (d : Entry) → order_of (get_or now.heads k d) ≢ not_plain) where
          -- the entry is plain
          pub small_read : t.mark.order < plain_ranks * plain_numbers
          small_read = omega (arith, order_read no_entry, plain_small (get_or now.heads k no_entry) (plain no_entry))

          -- a plain entry, but for its notice
          pub plain_read : (n : ℤ) (d : Entry) → IsBut (plain_entry t.mark n) (get_or now.heads k d)
          plain_read n d =
              let e = get_or now.heads k d in
              let again : plain_entry t.mark n ≡ record { key = e.key; number = e.number; notice = n } = ap (λ (m : Mark). plain_entry m n) (mark_read d) ∙ plain_again e n (plain d) in
              record { key = ap (λ (x : Entry). x.key) again; number = ap (λ (x : Entry). x.number) again }

-- ---- each follower comes after a head

-- a head of the same time, which comes before by its mark
record Precedes (count : ℕ) (slots : List Slot) (nodes : List HeapNode) (s k : ℕ) : Type 0 where
  pub place : k < count
  pub time : (slot_at slots (node nodes k).slot).mark.time ≡ (slot_at slots s).mark.time
  pub order : (slot_at slots (node nodes k).slot).mark.order < (slot_at slots s).mark.order

module _ (count free : ℕ) (slots : List Slot) (wholes : List Entry) (nodes : List HeapNode) (directory : SlotDirectory) (h : AreHeld count free slots wholes nodes directory) where
  -- the head of a line, in no more steps than the order of a mark
  head_before : (fuel s : ℕ) → s < length slots → following ≤ (slot_at slots s).at → (slot_at slots s).mark.order < fuel → (k : ℕ) × Precedes count slots nodes s k
  head_before zero s within placed less = absurd (omega (arith, less))
  head_before (suc fuel) s within placed less =
      let p = (slot_at slots s).at - following in
      let b = h.before s p within (omega (arith, placed)) in
      ⊎_elim
      (λ first.
      let one = nodes_there count free slots wholes nodes directory h p b.within first in (
        (slot_at slots p).at,
        record {
          place = first;
          time = ap (λ t. (slot_at slots t).mark.time) one ∙ b.time;
          order = omega (arith, ap (λ t. (slot_at slots t).mark.order) one, b.order);
        },
      ))
      (λ far.
      let it = head_before fuel p b.within far (omega (arith, b.order, less)) in (
        it.0,
        record { place = it.1.place; time = it.1.time ∙ b.time; order = omega (arith, it.1.order, b.order) },
      ))
      b.taken

  -- it comes before the entry in the slot
  comes_first : (s k : ℕ) → s < length slots → following ≤ (slot_at slots s).at → Precedes count slots nodes s k → (d : Entry)
      → comes_before (get_or (heads count slots wholes nodes) k d) (follower (slot_at slots s)) ≡ true
  comes_first s k within placed it d =
      let e = get_or (heads count slots wholes nodes) k d in
      let f = follower (slot_at slots s) in
      let mark : (slot_at slots (node nodes k).slot).mark ≡ mark_of e =
      sym (h.marked k it.place) ∙ head_mark count free slots wholes nodes directory h k d it.place in
      let plain = (h.before s ((slot_at slots s).at - following) within (omega (arith, placed))).plain in
      let order : order_of f ≡ (slot_at slots s).mark.order = ap (λ (m : Mark). m.order) (plain_mark (slot_at slots s).mark (slot_at slots s).notice plain) in
      let first : order_of e ≡ (slot_at slots (node nodes k).slot).mark.order = sym (ap (λ (m : Mark). m.order) mark) in
      let same : e.key.time ≡ f.key.time = sym (ap (λ (m : Mark). m.time) mark) ∙ it.time in
      sym (orders_decide e f same (λ is. omega (arith, is, first, it.order, plain)) (λ is. omega (arith, is, order, plain)))
      ∙ lt-ltb (order_of e) (order_of f) (omega (arith, first, order, it.order))

  pub after_heads_read : (now : HeadsAndFollowers) → record { heads = heads count slots wholes nodes; followers = followers slots } ≡ now → AreAfterHeads now.heads now.followers
  after_heads_read now seen =
      subst (λ (l : HeadsAndFollowers). AreAfterHeads l.heads l.followers) seen
      (λ j d j_in.
      let s = slot_of_follower slots j j_in in
      let k = head_before (suc (slot_at slots s.0).mark.order) s.0 s.1.within s.1.nodes (omega arith) in
      subst (IsLed (heads count slots wholes nodes)) (sym (s.1.is d))
      (record {
        place = k.0;
        within = omega (arith, k.1.place, long_heads count slots wholes nodes (few_places count free slots wholes nodes directory h));
        before = comes_first s.0 k.0 s.1.within s.1.nodes k.1;
      }))
