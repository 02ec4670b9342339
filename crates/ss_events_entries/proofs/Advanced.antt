-- The first of a line goes out: the slots once its slot is free.
use Rattle.std.proofs.Common.{◌≡◌, ◌≢◌, ℕ, ◌+◌, ◌<◌, ◌≤◌, ℤ, List, ◌∷◌, length, get_or, take, refl, sym, ap, subst, ◌∙◌, ⊎_elim, inl, inr, arith}
use Rattle.ss_events_entries.proofs.Common.{AreHeld, at_put, cases_eq, Entry, entry_at, entry_in, followers, following, get_or-set_other, get_or-set_same, get_or-take, heads, HeapNode, IsBefore, IsGuess, IsPermutation, IsTaken, length-set, length-take-le, no_entry, no_node, no_slot, node, slice_index_or, slice_set, Slot, slot_at, SlotDirectory}
use Rattle.ss_events_entries.proofs.Marks.{in-plain, plain_differs}
use Rattle.ss_events_entries.proofs.HeadsAndFollowers.{slot_at-same, slot_at-other, long_heads, head_at, follower, followers-placed, followers-left, heads_are}
use Rattle.ss_events_entries.proofs.Released.{freed, freed-same, freed-other, freed-long, room_of_follower}
use Rattle.ss_events_entries.proofs.Parts.{taken_as, not_taken, unplaced, at_put_same, ArePlaced, there_by, back_by, marked_by, AreLined, next_by, before_as, held_of, noted_kept, led_without}

module _ (count free : ℕ) (slots : List Slot) (wholes : List Entry) (nodes : List HeapNode) (d : SlotDirectory) (h : AreHeld count free slots wholes nodes d) where
  -- ---- the first of a line goes, and the next comes into its place

  module _ (k : ℕ) (k_in : k < count) (real : (slot_at slots (node nodes k).slot).next ≢ no_slot) where
    abbrev pub head : ℕ
    head = (node nodes k).slot

    abbrev pub second : ℕ
    second = (slot_at slots head).next

    abbrev pub spare : ℕ
    spare = count + free

    pub head_there : (head < length slots) × ((slot_at slots head).at ≡ k)
    head_there = h.there k (omega (arith, k_in))

    head_taken : IsTaken count (slot_at slots head)
    head_taken = inl (omega (arith, k_in, head_there.1))

    pub second_there : (second < length slots) × ((slot_at slots second).at ≡ following + head)
    second_there = h.next head head_there.0 head_taken real

    pub second_follows : following ≤ (slot_at slots second).at
    second_follows = omega (arith, second_there.1)

    second_after : IsBefore count slots head second
    second_after = h.before second head second_there.0 second_there.1

    pub room_spare : spare < length nodes
    room_spare = room_of_follower count free slots wholes nodes d h second second_there.0 second_follows

    spare_apart : spare < following
    spare_apart = omega (arith, room_spare, h.many, h.small)

    k_apart : k < following
    k_apart = omega (arith, k_in, spare_apart)

    head_low : (slot_at slots head).at < following
    head_low = omega (arith, k_apart, head_there.1)

    second_other : second ≢ head
    second_other e = omega (arith, second_follows, head_low, ap (λ u. (slot_at slots u).at) e)

    -- what comes into the place
    abbrev pub comes : HeapNode
    comes = record { mark = (slot_at slots second).mark; slot = second }

    abbrev pub raised : List HeapNode
    raised = slice_set nodes k comes

    abbrev pub advanced_nodes : List HeapNode
    advanced_nodes = freed raised spare head

    abbrev pub raised_slots : List Slot
    raised_slots = at_put slots second k

    abbrev pub advanced : List Slot
    advanced = at_put raised_slots head spare

    pub raised_long : length raised ≡ length nodes
    raised_long = length-set nodes k comes

    pub nodes_long : length advanced_nodes ≡ length nodes
    nodes_long = freed-long raised spare head ∙ raised_long

    pub raised_slots_long : length raised_slots ≡ length slots
    raised_slots_long = length-set slots second (record (slot_at slots second) { at = k })

    pub advanced_long : length advanced ≡ length slots
    advanced_long = length-set raised_slots head (record (slot_at raised_slots head) { at = spare }) ∙ raised_slots_long

    head_in : head < length raised_slots
    head_in = omega (arith, head_there.0, raised_slots_long)

    -- nothing but the places of slots is another then
    advanced_same : (u : ℕ) → unplaced (slot_at advanced u) ≡ unplaced (slot_at slots u)
    advanced_same u = at_put_same raised_slots head spare u head_in ∙ at_put_same slots second k u second_there.0

    advanced_mark : (u : ℕ) → (slot_at advanced u).mark ≡ (slot_at slots u).mark
    advanced_mark u = ap (λ (x : Slot). x.mark) (advanced_same u)

    advanced_next : (u : ℕ) → (slot_at advanced u).next ≡ (slot_at slots u).next
    advanced_next u = ap (λ (x : Slot). x.next) (advanced_same u)

    entry_advanced : (u : ℕ) → entry_at advanced wholes u ≡ entry_at slots wholes u
    entry_advanced u = ap (λ (x : Slot). entry_in x.mark x.notice (slice_index_or wholes u no_entry)) (advanced_same u)

    at_head : (slot_at advanced head).at ≡ spare
    at_head = ap (λ (x : Slot). x.at) (slot_at-same raised_slots head (record (slot_at raised_slots head) { at = spare }) head_in)

    at_second : (slot_at advanced second).at ≡ k
    at_second =
        ap (λ (x : Slot). x.at) (slot_at-other raised_slots head second (record (slot_at raised_slots head) { at = spare }) second_other)
        ∙ ap (λ (x : Slot). x.at) (slot_at-same slots second (record (slot_at slots second) { at = k }) second_there.0)

    at_else : (u : ℕ) → u ≢ head → u ≢ second → (slot_at advanced u).at ≡ (slot_at slots u).at
    at_else u other apart =
        ap (λ (x : Slot). x.at) (slot_at-other raised_slots head u (record (slot_at raised_slots head) { at = spare }) other)
        ∙ ap (λ (x : Slot). x.at) (slot_at-other slots second u (record (slot_at slots second) { at = k }) apart)

    advanced_taken : (u : ℕ) → u < length advanced → IsTaken count (slot_at advanced u) → (u < length slots) × (u ≢ head) × IsTaken count (slot_at slots u)
    advanced_taken u u_in is =
        let other : u ≢ head = (λ e. not_taken count spare (slot_at advanced u) (ap (λ v. (slot_at advanced v).at) e ∙ at_head) (omega arith) spare_apart is) in (
          omega (arith, u_in, advanced_long),
          other,
          ⊎_elim
              (λ e. inr (omega (arith, second_follows, ap (λ v. (slot_at slots v).at) e)))
              (λ apart. taken_as count (slot_at slots u) (slot_at advanced u) (sym (at_else u other apart)) is)
              (cases_eq u second),
        )

    taken_advanced : (u : ℕ) → u ≢ head → IsTaken count (slot_at slots u) → IsTaken count (slot_at advanced u)
    taken_advanced u other is = ⊎_elim
        (λ e. inl (omega (arith, k_in, ap (λ v. (slot_at advanced v).at) e, at_second)))
        (λ apart. taken_as count (slot_at advanced u) (slot_at slots u) (at_else u other apart) is)
        (cases_eq u second)

    -- which slot is in which place
    nodes_spare : (node advanced_nodes spare).slot ≡ head
    nodes_spare = freed-same raised spare head (omega (arith, room_spare, raised_long))

    nodes_put_there : node advanced_nodes k ≡ comes
    nodes_put_there =
        freed-other raised spare head k (λ e. omega (arith, e, k_in))
        ∙ get_or-set_same nodes k comes no_node (omega (arith, k_in, h.few))

    nodes_elsewhere : (j : ℕ) → j ≢ spare → j ≢ k → node advanced_nodes j ≡ node nodes j
    nodes_elsewhere j other apart = freed-other raised spare head j other ∙ get_or-set_other nodes k j comes no_node apart

    -- the slot in another place
    elsewhere_other : (j : ℕ) → j < count + free → j ≢ k → (node nodes j).slot ≢ head
    elsewhere_other j j_in apart e = omega (arith, apart, (h.there j j_in).1, head_there.1, ap (λ u. (slot_at slots u).at) e)

    elsewhere_apart : (j : ℕ) → j < count + free → (node nodes j).slot ≢ second
    elsewhere_apart j j_in e = omega (arith, (h.there j j_in).1, ap (λ u. (slot_at slots u).at) e, second_follows, j_in, spare_apart)

    placed : ArePlaced count (free + 1) advanced advanced_nodes
    placed = record {
      many = nodes_long ∙ h.many ∙ sym advanced_long;
      few = omega (arith, room_spare, nodes_long);
      small = omega (arith, advanced_long, h.small);
      there = λ j j_in. ⊎_elim
          (λ e. there_by advanced advanced_nodes j head (ap (λ i. (node advanced_nodes i).slot) e ∙ nodes_spare) (omega (arith, head_there.0, advanced_long)) (at_head ∙ sym e))
          (λ other. ⊎_elim
          (λ e.
          there_by advanced advanced_nodes j second (ap (λ i. (node advanced_nodes i).slot) e ∙ ap (λ (x : HeapNode). x.slot) nodes_put_there) (omega (arith, second_there.0, advanced_long)) (at_second ∙ sym e))
          (λ apart.
          let lt : j < count + free = omega (arith, j_in, other) in
          let u = (node nodes j).slot in
          there_by advanced advanced_nodes j u (ap (λ (x : HeapNode). x.slot) (nodes_elsewhere j other apart)) (omega (arith, (h.there j lt).0, advanced_long))
          (at_else u (elsewhere_other j lt apart) (elsewhere_apart j lt) ∙ (h.there j lt).1))
          (cases_eq j k))
          (cases_eq j spare);
      back = λ u u_in lt. ⊎_elim
          (λ e. back_by (count + (free + 1)) advanced advanced_nodes u spare (ap (λ v. (slot_at advanced v).at) e ∙ at_head) (omega arith) (nodes_spare ∙ sym e))
          (λ other. ⊎_elim
          (λ e.
          back_by (count + (free + 1)) advanced advanced_nodes u k (ap (λ v. (slot_at advanced v).at) e ∙ at_second) (omega (arith, k_in)) (ap (λ (x : HeapNode). x.slot) nodes_put_there ∙ sym e))
          (λ apart.
          let same = at_else u other apart in
          let was = h.back u (omega (arith, u_in, advanced_long)) (omega (arith, lt, same)) in
          let j = (slot_at slots u).at in
          back_by (count + (free + 1)) advanced advanced_nodes u j same (omega (arith, was.0))
          (ap (λ (x : HeapNode). x.slot) (nodes_elsewhere j (λ e. omega (arith, e, was.0)) (λ e. other (sym was.1 ∙ ap (λ i. (node nodes i).slot) e))) ∙ was.1))
          (cases_eq u second))
          (cases_eq u head);
      marked = λ j j_in. ⊎_elim
          (λ e.
          let is : node advanced_nodes j ≡ comes = ap (node advanced_nodes) e ∙ nodes_put_there in
          ap (λ (x : HeapNode). x.mark) is ∙ sym (advanced_mark second) ∙ ap (λ (x : HeapNode). (slot_at advanced x.slot).mark) (sym is))
          (λ apart. marked_by slots advanced nodes advanced_nodes j j (nodes_elsewhere j (λ e. omega (arith, e, j_in)) apart) (advanced_mark (node nodes j).slot) (h.marked j j_in))
          (cases_eq j k);
    }

    lined : AreLined count advanced
    lined = record {
      next = λ u u_in is some.
          let was = advanced_taken u u_in is in
          let e = advanced_next u in
          let v = (slot_at slots u).next in
          let it = h.next u was.0 was.2 (λ none. some (e ∙ none)) in
          let v_other : v ≢ head = (λ same. omega (arith, it.1, head_low, ap (λ w. (slot_at slots w).at) same)) in
          let v_apart : v ≢ second = (λ same. was.1 (omega (arith, it.1, second_there.1, ap (λ w. (slot_at slots w).at) same))) in
          next_by advanced u v e (omega (arith, it.0, advanced_long)) (at_else v v_other v_apart ∙ it.1);
      before = λ u r u_in at.
          let within : u < length slots = omega (arith, u_in, advanced_long) in
          let other : u ≢ head = (λ e. omega (arith, at, ap (λ v. (slot_at advanced v).at) e, at_head, spare_apart)) in
          let apart : u ≢ second = (λ e. omega (arith, at, ap (λ v. (slot_at advanced v).at) e, at_second, k_apart)) in
          let b = h.before u r within (sym (at_else u other apart) ∙ at) in
          let r_other : r ≢ head = (λ e. apart (sym b.next ∙ ap (λ v. (slot_at slots v).next) e)) in
          before_as count count slots advanced r u (omega (arith, advanced_long)) b (taken_advanced r r_other b.taken) (advanced_next r) (advanced_mark r) (advanced_mark u);
    }

    module _ (g : SlotDirectory) (others : (m : ℤ) (t : ℕ) → m ≢ (slot_at slots head).notice → t ≢ head → IsGuess d m t → IsGuess g m t) where
      -- each slot then
      pub held-advanced : AreHeld count (free + 1) advanced wholes advanced_nodes g
      held-advanced =
          held_of placed lined
          (noted_kept h count advanced wholes g head advanced_taken (λ u _ _. advanced_mark u) (λ u _ _. ap (λ (x : Slot). x.notice) (advanced_same u)) (λ u _. refl) (led_without h g head head_there.0 head_taken others))

    -- the next is a plain entry
    second_plain : entry_at slots wholes second ≡ follower (slot_at slots second)
    second_plain = in-plain (slot_at slots second).mark (slot_at slots second).notice (slice_index_or wholes second no_entry) (plain_differs (slot_at slots second).mark.order second_after.plain)

    pub heads-advanced : heads count advanced wholes advanced_nodes ≡ slice_set (heads count slots wholes nodes) k (follower (slot_at slots second))
    heads-advanced =
        let few : count ≤ length nodes = omega (arith, h.few) in
        let old = heads count slots wholes nodes in
        let e = follower (slot_at slots second) in
        let long = long_heads count slots wholes nodes few in
        heads_are count advanced wholes advanced_nodes (omega (arith, few, nodes_long)) (slice_set old k e) (length-set old k e ∙ long)
        (λ j c j_in. ⊎_elim
        (λ is.
        ap (λ (x : HeapNode). entry_at advanced wholes x.slot) (ap (node advanced_nodes) is ∙ nodes_put_there)
        ∙ entry_advanced second ∙ second_plain
        ∙ sym (ap (λ i. get_or (slice_set old k e) i c) is ∙ get_or-set_same old k e c (omega (arith, k_in, long))))
        (λ apart.
        ap (λ (x : HeapNode). entry_at advanced wholes x.slot) (nodes_elsewhere j (λ e. omega (arith, e, j_in)) apart)
        ∙ entry_advanced (node nodes j).slot
        ∙ sym (head_at count slots wholes nodes few j c j_in)
        ∙ sym (get_or-set_other old k j e c apart))
        (cases_eq j k))

    -- and one follower less
    pub followers-advanced : IsPermutation (followers slots) (follower (slot_at slots second) ∷ followers advanced)
    followers-advanced =
        let same : slot_at raised_slots head ≡ slot_at slots head = slot_at-other slots second head (record (slot_at slots second) { at = k }) (λ e. second_other (sym e)) in
        subst (λ l. IsPermutation (followers slots) (follower (slot_at slots second) ∷ l))
        (sym (followers-placed raised_slots head (record (slot_at raised_slots head) { at = spare }) head_in (omega (arith, head_low, ap (λ (x : Slot). x.at) same)) spare_apart))
        (followers-left slots second (record (slot_at slots second) { at = k }) second_there.0 second_follows k_apart)

  -- ---- the first of the last line goes, which has no other

  module _ (n : ℕ) (one : count ≡ n + 1) (s : ℕ) (s_is : (node nodes n).slot ≡ s) (none : (slot_at slots s).next ≡ no_slot)
      (vs : List Entry) (same : (t : ℕ) → t ≢ s → slice_index_or vs t no_entry ≡ slice_index_or wholes t no_entry) where
    last_there : (s < length slots) × ((slot_at slots s).at ≡ n)
    last_there = subst (λ u. (u < length slots) × ((slot_at slots u).at ≡ n)) s_is (h.there n (omega (arith, one)))

    last_taken : IsTaken count (slot_at slots s)
    last_taken = inl (omega (arith, last_there.1, one))

    last_apart : n < following
    last_apart = omega (arith, one, h.few, h.many, h.small)

    dropped_taken : (t : ℕ) → t < length slots → IsTaken n (slot_at slots t) → (t < length slots) × (t ≢ s) × IsTaken count (slot_at slots t)
    dropped_taken t t_in is = (
      t_in,
      (λ e. not_taken n n (slot_at slots t) (ap (λ u. (slot_at slots u).at) e ∙ last_there.1) (omega arith) last_apart is),
      ⊎_elim (λ lt. inl (omega (arith, lt, one))) (λ ge. inr ge) is,
    )

    taken_dropped : (t : ℕ) → t < length slots → t ≢ s → IsTaken count (slot_at slots t) → IsTaken n (slot_at slots t)
    taken_dropped t t_in other is = ⊎_elim
        (λ lt. ⊎_elim
        (λ e.
        let was = h.back t t_in (omega (arith, e, last_apart)) in
        absurd (other (sym was.1 ∙ ap (λ j. (node nodes j).slot) e ∙ s_is)))
        (λ apart. inl (omega (arith, apart, lt, one)))
        (cases_eq (slot_at slots t).at n))
        (λ ge. inr ge)
        is

    placed_dropped : ArePlaced n (free + 1) slots nodes
    placed_dropped = record {
      many = h.many;
      few = omega (arith, h.few, one);
      small = h.small;
      there = λ k k_in. h.there k (omega (arith, k_in, one));
      back = λ t t_in lt. let was = h.back t t_in lt in (omega (arith, was.0, one), was.1);
      marked = λ k k_in. h.marked k (omega (arith, k_in, one));
    }

    lined_dropped : AreLined n slots
    lined_dropped = record {
      next = λ t t_in is. h.next t t_in (dropped_taken t t_in is).2;
      before = λ t p t_in at.
          let b = h.before t p t_in at in
          let other : p ≢ s = (λ e. omega (arith, t_in, h.small, sym b.next ∙ ap (λ u. (slot_at slots u).next) e ∙ none)) in
          before_as count n slots slots p t (omega arith) b (taken_dropped p b.within other b.taken) refl refl refl;
    }

    module _ (g : SlotDirectory) (others : (m : ℤ) (t : ℕ) → m ≢ (slot_at slots s).notice → t ≢ s → IsGuess d m t → IsGuess g m t) where
      -- each slot then
      pub held-dropped : AreHeld n (free + 1) slots vs nodes g
      held-dropped =
          held_of placed_dropped lined_dropped
          (noted_kept h n slots vs g s dropped_taken (λ t _ _. refl) (λ t _ _. refl) same (led_without h g s last_there.0 last_taken others))

    pub heads-dropped : heads n slots vs nodes ≡ take n (heads count slots wholes nodes)
    heads-dropped =
        let few : count ≤ length nodes = omega (arith, h.few) in
        let old = heads count slots wholes nodes in
        let long = long_heads count slots wholes nodes few in
        heads_are n slots vs nodes (omega (arith, few, one)) (take n old) (length-take-le n old (omega (arith, long, one)))
        (λ j c j_in.
        let u = (node nodes j).slot in
        let other : u ≢ s = (λ e. omega (arith, (h.there j (omega (arith, j_in, one))).1, last_there.1, j_in, ap (λ v. (slot_at slots v).at) e)) in
        ap (λ w. entry_in (slot_at slots u).mark (slot_at slots u).notice w) (same u other)
        ∙ sym (head_at count slots wholes nodes few j c (omega (arith, j_in, one)))
        ∙ sym (get_or-take n old j c j_in))
