-- An entry that is put into the next place.
use Rattle.std.proofs.Common.{◌≡◌, ◌≢◌, ℕ, ◌+◌, ◌-◌, ◌*◌, ◌<◌, ◌≤◌, ℤ, cond, List, [], ◌∷◌, ◌++◌, length, get_or, set, refl, sym, ap, subst, ◌∙◌, ⊎_elim, inl, inr, arith}
use Rattle.std.specs.Prelude.{◌==◌}
use Rattle.ss_events_entries.proofs.Common.{cases_eq, Entry, get_or-set_other, get_or-set_same, get_or_append_left, get_or_default, get_or_push, HeapNode, length-set, length_push, Mark, Slot, SlotDirectory}
use Rattle.ss_events_entries.specs.Slots.{no_entry, no_slot, no_node, not_plain, plain_ranks, plain_numbers, slot_at, node, mark_of, order_of, plain_entry, entry_in, entry_at, heads, followers, first_guess, second_guess, IsTaken, IsGuess, AreHeld}
use Rattle.ss_events_entries.proofs.HeadsAndFollowers.{slot_at-same, slot_at-other, long_heads, head_at, followers-placed, heads_are}
use Rattle.ss_events_entries.proofs.Marks.{in-plain, in_again, plain_mark, plain_differs, other_whole}
use Rattle.ss_events_entries.proofs.Grown.{held-led}
use Rattle.std.proofs.lemmas.Bool.{eq-eqb}
use Rattle.ss_events_entries.proofs.Parts.{entry_as, ArePlaced, there_by, back_by, marked_by, AreLined, next_by, before_as, AreNoted, held_of, IsFree, free_of, noted_with}

-- the slot of an entry that is alone in its line
abbrev pub single : ℤ → Mark → ℕ → Slot
single n m place = record { notice = n; mark = m; next = no_slot; at = place }

-- what there is once an entry was put into the next place
pub record Pushes (count free : ℕ) (slots xs : List Slot) (wholes ws : List Entry) (nodes ts : List HeapNode) (g : SlotDirectory) (e : Entry) : Type 0 where
  pub held : AreHeld (count + 1) (free - 1) xs ws ts g
  pub heads : heads (count + 1) xs ws ts ≡ heads count slots wholes nodes ++ e ∷ []
  pub followers : followers xs ≡ followers slots

-- ---- an entry in the first slot that is free

module _ (count free : ℕ) (slots : List Slot) (wholes : List Entry) (nodes : List HeapNode) (d : SlotDirectory) (h : AreHeld count free slots wholes nodes d) (some : 0 < free) where
  -- the place after all others
  pub place_in : count < length nodes
  place_in = omega (arith, some, h.few)

  module _ (s : ℕ) (slot : s ≡ (node nodes count).slot) (n : ℤ) (m : Mark) (ws : List Entry) (fit : m ≡ mark_of (entry_in m n (get_or ws s no_entry)))
      (whole : (t : ℕ) → t ≢ s → get_or ws t no_entry ≡ get_or wholes t no_entry) where
    vacant : IsFree count slots count s
    vacant = free_of h count s (omega arith) (omega (arith, some)) slot

    abbrev put : List Slot
    put = set slots s (single n m count)

    abbrev put_node : HeapNode
    put_node = record { mark = m; slot = s }

    abbrev put_nodes : List HeapNode
    put_nodes = set nodes count put_node

    long_put : length put ≡ length slots
    long_put = length-set slots s (single n m count)

    long_put_nodes : length put_nodes ≡ length nodes
    long_put_nodes = length-set nodes count put_node

    -- each slot then
    here : slot_at put s ≡ single n m count
    here = slot_at-same slots s (single n m count) vacant.within

    there : (t : ℕ) → t ≢ s → slot_at put t ≡ slot_at slots t
    there t other = slot_at-other slots s t (single n m count) other

    entry_here : entry_at put ws s ≡ entry_in m n (get_or ws s no_entry)
    entry_here = ap (λ (x : Slot). entry_in x.mark x.notice (get_or ws s no_entry)) here

    node_here : (k : ℕ) → k ≡ count → node put_nodes k ≡ put_node
    node_here k is = ap (node put_nodes) is ∙ get_or-set_same nodes count put_node no_node place_in

    node_there : (k : ℕ) → k ≢ count → node put_nodes k ≡ node nodes k
    node_there k other = get_or-set_other nodes count k put_node no_node other

    was_in : (t : ℕ) → t < length put → t < length slots
    was_in t lt = omega (arith, lt, long_put)

    -- another slot is taken if it was
    taken_then : (t : ℕ) → t < length slots → t ≢ s → IsTaken (count + 1) (slot_at put t) → IsTaken count (slot_at slots t)
    taken_then t lt other is =
        let apart : (slot_at slots t).at ≢ count = (λ e. other (vacant.alone t lt e)) in
        ⊎_elim (λ less. inl (omega (arith, less, apart))) (λ past. inr past) (subst (IsTaken (count + 1)) (there t other) is)

    taken_still : (t : ℕ) → t ≢ s → IsTaken count (slot_at slots t) → IsTaken (count + 1) (slot_at put t)
    taken_still t other is = ⊎_elim (λ less. inl (omega (arith, less))) (λ past. inr past) (subst (IsTaken count) (sym (there t other)) is)

    -- another place has another slot
    apart_there : (k : ℕ) → k < count + free → k ≢ count → (node nodes k).slot ≢ s
    apart_there k lt other is = other (sym (h.there k lt).1 ∙ ap (λ t. (slot_at slots t).at) is ∙ vacant.at)

    placed : ArePlaced (count + 1) (free - 1) put put_nodes
    placed = record {
      many = long_put_nodes ∙ h.many ∙ sym long_put;
      few = omega (arith, h.few, long_put_nodes, some);
      small = omega (arith, h.small, long_put);
      there = λ k lt. ⊎_elim
          (λ is. there_by put put_nodes k s (ap (λ (x : HeapNode). x.slot) (node_here k is)) (omega (arith, vacant.within, long_put)) (ap (λ (x : Slot). x.at) here ∙ sym is))
          (λ other.
          let old_in : k < count + free = omega (arith, lt, some) in
          let old = h.there k old_in in
          there_by put put_nodes k (node nodes k).slot (ap (λ (x : HeapNode). x.slot) (node_there k other)) (omega (arith, old.0, long_put))
          (ap (λ (x : Slot). x.at) (there (node nodes k).slot (apart_there k old_in other)) ∙ old.1))
          (cases_eq k count);
      back = λ t lt low. ⊎_elim
          (λ is. back_by (count + 1 + (free - 1)) put put_nodes t count (ap (λ u. (slot_at put u).at) is ∙ ap (λ (x : Slot). x.at) here) (omega (arith, some)) (ap (λ (x : HeapNode). x.slot) (node_here count refl) ∙ sym is))
          (λ other.
          let same : (slot_at put t).at ≡ (slot_at slots t).at = ap (λ (x : Slot). x.at) (there t other) in
          let old = h.back t (was_in t lt) (omega (arith, low, same)) in
          back_by (count + 1 + (free - 1)) put put_nodes t (slot_at slots t).at same (omega (arith, old.0, some))
          (ap (λ (x : HeapNode). x.slot) (node_there (slot_at slots t).at (λ e. other (vacant.alone t (was_in t lt) e))) ∙ old.1))
          (cases_eq t s);
      marked = λ k lt. ⊎_elim
          (λ is. ap (λ (x : HeapNode). x.mark) (node_here k is) ∙ sym (ap (λ (x : HeapNode). (slot_at put x.slot).mark) (node_here k is) ∙ ap (λ (x : Slot). x.mark) here))
          (λ other.
          let less : k < count = omega (arith, lt, other) in
          marked_by slots put nodes put_nodes k k (node_there k other) (ap (λ (x : Slot). x.mark) (there (node nodes k).slot (apart_there k (omega (arith, less)) other))) (h.marked k less))
          (cases_eq k count);
    }

    lined : AreLined (count + 1) put
    lined = record {
      next = λ t lt taken has.
          let other : t ≢ s = (λ is. has (ap (λ u. (slot_at put u).next) is ∙ ap (λ (x : Slot). x.next) here)) in
          let same : (slot_at put t).next ≡ (slot_at slots t).next = ap (λ (x : Slot). x.next) (there t other) in
          let old = h.next t (was_in t lt) (taken_then t (was_in t lt) other taken) (λ e. has (same ∙ e)) in
          let apart : (slot_at slots t).next ≢ s = (λ e. omega (arith, old.1, ap (λ u. (slot_at slots u).at) e, vacant.at, vacant.low)) in
          next_by put t (slot_at slots t).next same (omega (arith, old.0, long_put)) (ap (λ (x : Slot). x.at) (there (slot_at slots t).next apart) ∙ old.1);
      before = λ t p lt is.
          let other : t ≢ s = (λ e. omega (arith, is, ap (λ u. (slot_at put u).at) e, ap (λ (x : Slot). x.at) here, vacant.low)) in
          let b = h.before t p (was_in t lt) (sym (ap (λ (x : Slot). x.at) (there t other)) ∙ is) in
          let apart = vacant.apart p b.taken in
          let prev = there p apart in
          before_as count (count + 1) slots put p t (omega (arith, long_put)) b (taken_still p apart b.taken) (ap (λ (x : Slot). x.next) prev) (ap (λ (x : Slot). x.mark) prev) (ap (λ (x : Slot). x.mark) (there t other));
    }

    -- it is the last of the heads
    heads-pushed : (e : Entry) → entry_in m n (get_or ws s no_entry) ≡ e → heads (count + 1) put ws put_nodes ≡ heads count slots wholes nodes ++ e ∷ []
    heads-pushed e is =
        let few : count ≤ length nodes = omega (arith, place_in) in
        let old = heads count slots wholes nodes in
        let long : length old ≡ count = long_heads count slots wholes nodes few in
        heads_are (count + 1) put ws put_nodes (omega (arith, place_in, long_put_nodes)) (old ++ e ∷ []) (length_push old e ∙ ap (λ k. k + 1) long)
        (λ k c lt. ⊎_elim
        (λ last. ap (λ (t : HeapNode). entry_at put ws t.slot) (node_here k last) ∙ entry_here ∙ is ∙ sym (get_or_push old e c k (long ∙ sym last)))
        (λ other.
        let less : k < count = omega (arith, lt, other) in
        let u = (node nodes k).slot in
        let apart = apart_there k (omega (arith, less)) other in
        ap (λ (t : HeapNode). entry_at put ws t.slot) (node_there k other)
        ∙ entry_as slots put wholes ws u (ap (λ (x : Slot). x.mark) (there u apart)) (ap (λ (x : Slot). x.notice) (there u apart)) (whole u apart)
        ∙ sym (head_at count slots wholes nodes few k c less)
        ∙ sym (get_or_append_left old (e ∷ []) c k (omega (arith, less, long))))
        (cases_eq k count))

    pushed : (g : SlotDirectory) (e : Entry) → entry_in m n (get_or ws s no_entry) ≡ e → ((t : ℕ) → t < length slots → IsTaken count (slot_at slots t) → (slot_at slots t).notice ≢ n)
        → IsGuess g n s → ((i : ℤ) (t : ℕ) → i ≢ n → t ≢ no_slot → IsGuess d i t → IsGuess g i t) → Pushes count free slots put wholes ws nodes put_nodes g e
    pushed g e is fresh leads others =
        let noted : AreNoted (count + 1) put ws g =
        noted_with h (count + 1) put ws g s n (ap (λ (x : Slot). x.notice) here) (ap (λ (x : Slot). x.mark) here ∙ fit ∙ ap mark_of (sym entry_here)) long_put
        (λ t other. ap (λ (x : Slot). x.mark) (there t other)) (λ t other. ap (λ (x : Slot). x.notice) (there t other)) whole taken_then fresh leads others in record {
          held = held_of placed lined noted;
          heads = heads-pushed e is;
          followers = followers-placed slots s (single n m count) vacant.within (omega (arith, vacant.at, vacant.low)) vacant.low;
        }

-- ---- a directory in which another notice is noted

pub led_still : (count free : ℕ) (slots : List Slot) (wholes : List Entry) (nodes : List HeapNode) (d g : SlotDirectory) → AreHeld count free slots wholes nodes d → (n : ℤ)
    → ((u : ℕ) → u < length slots → IsTaken count (slot_at slots u) → (slot_at slots u).notice ≢ n)
    → ((i : ℤ) (u : ℕ) → i ≢ n → u ≢ no_slot → IsGuess d i u → IsGuess g i u) → AreHeld count free slots wholes nodes g
led_still count free slots wholes nodes d g h n fresh others =
    held-led count free slots wholes nodes d g h
    (λ s lt taken. others (slot_at slots s).notice s (fresh s lt taken) (λ e. omega (arith, e, lt, h.small)) (h.led s lt taken))

-- ---- a notice to which a directory leads nowhere

pub nowhere : (count free : ℕ) (slots : List Slot) (wholes : List Entry) (nodes : List HeapNode) (d : SlotDirectory) → AreHeld count free slots wholes nodes d → (n : ℤ) → first_guess d n ≡ no_slot → second_guess d n ≡ no_slot
    → (t : ℕ) → t < length slots → IsTaken count (slot_at slots t) → (slot_at slots t).notice ≢ n
nowhere count free slots wholes nodes d h n first second t lt taken is = ⊎_elim
    (λ e. omega (arith, e, ap (first_guess d) is, first, lt, h.small))
    (λ e. omega (arith, e, ap (second_guess d) is, second, lt, h.small))
    (h.led t lt taken)

-- ---- the invariant and the view, once an entry is put there

module _ (count free : ℕ) (slots : List Slot) (wholes : List Entry) (nodes : List HeapNode) (d : SlotDirectory) (h : AreHeld count free slots wholes nodes d) (some : 0 < free)
    (t : HeapNode) (is : t ≡ get_or nodes count t) where
  pub its_slot : t.slot ≡ (node nodes count).slot
  its_slot = ap (λ (x : HeapNode). x.slot) (is ∙ get_or_default nodes count t no_node (place_in count free slots wholes nodes d h some))

  pub its_slot_in : t.slot < length slots
  its_slot_in = (free_of h count t.slot (omega arith) (omega (arith, some)) its_slot).within

  -- by any slot of that kind
  by_single : (n : ℤ) (m : Mark) (y : Slot) (ws : List Entry) (g : SlotDirectory) (e : Entry) → y ≡ single n m count
      → Pushes count free slots (set slots t.slot (single n m count)) wholes ws nodes (set nodes count (record { mark = m; slot = t.slot })) g e
      → Pushes count free slots (set slots t.slot y) wholes ws nodes (set nodes count (record { mark = m; slot = t.slot })) g e
  by_single n m y ws g e same p = subst (λ x. Pushes count free slots (set slots t.slot x) wholes ws nodes (set nodes count (record { mark = m; slot = t.slot })) g e) (sym same) p

  module _ (n : ℤ) (y : Slot) (g : SlotDirectory)
      (fresh : (u : ℕ) → u < length slots → IsTaken count (slot_at slots u) → (slot_at slots u).notice ≢ n)
      (noted : IsGuess g n t.slot) (others : (i : ℤ) (u : ℕ) → i ≢ n → u ≢ no_slot → IsGuess d i u → IsGuess g i u) where
    -- a plain entry
    pub plain_put : (m : Mark) → m.order < plain_ranks * plain_numbers → y ≡ single n m count
        → Pushes count free slots (set slots t.slot y) wholes wholes nodes (set nodes count (record { mark = m; slot = t.slot })) g (plain_entry m n)
    plain_put m plain same =
        let e : entry_in m n (get_or wholes t.slot no_entry) ≡ plain_entry m n = in-plain m n (get_or wholes t.slot no_entry) (plain_differs m.order plain) in
        let fit : m ≡ mark_of (entry_in m n (get_or wholes t.slot no_entry)) = sym (ap mark_of e ∙ plain_mark m n plain) in
        by_single n m y wholes g (plain_entry m n) same
        (pushed count free slots wholes nodes d h some t.slot its_slot n m wholes fit (λ u other. refl) g (plain_entry m n) e fresh noted others)

    -- an entry that is stored whole where it isn't plain
    pub whole_put : (m : Mark) (e : Entry) (ws : List Entry) → m ≡ mark_of e → n ≡ e.notice → y ≡ single n m count
        → (m.order ≡ not_plain → t.slot < length wholes) → ws ≡ cond (m.order == not_plain) (set wholes t.slot e) wholes
        → Pushes count free slots (set slots t.slot y) wholes ws nodes (set nodes count (record { mark = m; slot = t.slot })) g e
    whole_put m e ws marks notices same room wholes_so =
        let s = t.slot in
        let its : order_of e ≡ not_plain → get_or ws s no_entry ≡ e = λ o.
        let is_not_plain = ap (λ (x : Mark). x.order) marks ∙ o in
        ap (λ l. get_or l s no_entry) (wholes_so ∙ ap (λ b. cond b (set wholes s e) wholes) (eq-eqb m.order not_plain is_not_plain))
        ∙ get_or-set_same wholes s e no_entry (room is_not_plain) in
        let is_e : entry_in m n (get_or ws s no_entry) ≡ e = (λ i. entry_in (marks i) (notices i) (get_or ws s no_entry)) ∙ in_again e (get_or ws s no_entry) its in
        let fit : m ≡ mark_of (entry_in m n (get_or ws s no_entry)) = marks ∙ sym (ap mark_of is_e) in
        by_single n m y ws g e same
        (pushed count free slots wholes nodes d h some s its_slot n m ws fit (other_whole (m.order == not_plain) wholes ws s e wholes_so) g e is_e fresh noted others)
