-- A plain entry, put after the last of a line.
use Rattle.std.proofs.Common.{◌≡◌, ◌≢◌, ℕ, ◌+◌, ◌*◌, ◌-◌, ◌<◌, ◌≤◌, ℤ, List, ◌∷◌, length, get_or, set, refl, sym, ap, subst, ◌∙◌, ⊎_elim, arith}
use Rattle.ss_events_entries.proofs.Common.{AreHeld, cases_eq, Entry, entry_at, entry_in, followers, following, heads, HeapNode, IsBefore, IsGuess, IsPermutation, IsTaken, length-set, Mark, mark_of, next_put, no_entry, no_slot, node, plain_entry, plain_numbers, plain_ranks, Slot, slot_at, SlotDirectory}
use Rattle.ss_events_entries.proofs.Marks.{in-plain, plain_differs, plain_mark}
use Rattle.ss_events_entries.proofs.HeadsAndFollowers.{slot_at-same, slot_at-other, same_heads, follower, followers-joined, followers-next_put}
use Rattle.ss_events_entries.proofs.Parts.{taken_as, unlinked, next_put_same, ArePlaced, back_by, AreLined, next_by, before_as, held_of, IsFree, free_of, noted_with}

-- a slot with another one after it
abbrev pub followed : Slot → ℕ → Slot
followed x next = record x { next = next }

-- the slot of the new one
abbrev pub lined_up : ℤ → Mark → ℕ → Slot
lined_up notice mark before = record { notice = notice; mark = mark; next = no_slot; at = following + before }

-- the slots then
abbrev pub joined : List Slot → ℕ → ℕ → ℤ → Mark → List Slot
joined slots before slot notice mark = set (next_put slots before slot) slot (lined_up notice mark before)

pub length-joined : (slots : List Slot) (p s : ℕ) (n : ℤ) (m : Mark) → length (joined slots p s n m) ≡ length slots
length-joined slots p s n m = length-set (next_put slots p s) s (lined_up n m p) ∙ length-set slots p (followed (slot_at slots p) s)

module _ (count free : ℕ) (slots : List Slot) (wholes : List Entry) (nodes : List HeapNode) (d : SlotDirectory) (h : AreHeld count free slots wholes nodes d)
    (some : 0 < free) (s : ℕ) (slot : s ≡ (node nodes (count + free - 1)).slot)
    (p : ℕ) (p_in : p < length slots) (p_taken : IsTaken count (slot_at slots p)) (last : (slot_at slots p).next ≡ no_slot)
    (n : ℤ) (m : Mark) where
  abbrev then : List Slot
  then = joined slots p s n m

  abbrev new : Slot
  new = lined_up n m p

  as_many : length then ≡ length slots
  as_many = length-joined slots p s n m

  -- the slot is free
  vacant : IsFree count slots (count + free - 1) s
  vacant = free_of h (count + free - 1) s (omega (arith, some)) (omega (arith, some)) slot

  pub free_within : s < length slots
  free_within = vacant.within

  -- each slot then
  slot_at-new : slot_at then s ≡ new
  slot_at-new = slot_at-same (next_put slots p s) s new (omega (arith, free_within, length-set slots p (followed (slot_at slots p) s)))

  slot_at-before : slot_at then p ≡ followed (slot_at slots p) s
  slot_at-before = slot_at-other (next_put slots p s) s p new (vacant.apart p p_taken) ∙ slot_at-same slots p (followed (slot_at slots p) s) p_in

  slot_at-else : (t : ℕ) → t ≢ s → t ≢ p → slot_at then t ≡ slot_at slots t
  slot_at-else t not_s not_p = slot_at-other (next_put slots p s) s t new not_s ∙ slot_at-other slots p t (followed (slot_at slots p) s) not_p

  same_then : (t : ℕ) → t ≢ s → unlinked (slot_at then t) ≡ unlinked (slot_at slots t)
  same_then t other = ap unlinked (slot_at-other (next_put slots p s) s t new other) ∙ next_put_same slots p s t p_in

  at_then : (t : ℕ) → t ≢ s → (slot_at then t).at ≡ (slot_at slots t).at
  at_then t other = ap (λ (x : Slot). x.at) (same_then t other)

  mark_then : (t : ℕ) → t ≢ s → (slot_at then t).mark ≡ (slot_at slots t).mark
  mark_then t other = ap (λ (x : Slot). x.mark) (same_then t other)

  taken_then : (t : ℕ) → t ≢ s → IsTaken count (slot_at slots t) → IsTaken count (slot_at then t)
  taken_then t other is = taken_as count (slot_at then t) (slot_at slots t) (at_then t other) is

  taken_before : (t : ℕ) → t ≢ s → IsTaken count (slot_at then t) → IsTaken count (slot_at slots t)
  taken_before t other is = taken_as count (slot_at slots t) (slot_at then t) (sym (at_then t other)) is

  -- the node of any other place
  nodes_apart : (k : ℕ) → k < count + (free - 1) → (node nodes k).slot ≢ s
  nodes_apart k k_in is = omega (arith, k_in, (h.there k (omega (arith, k_in))).1, ap (λ t. (slot_at slots t).at) is, vacant.at, some)

  placed : ArePlaced count (free - 1) then nodes
  placed = record {
    many = h.many ∙ sym as_many;
    few = omega (arith, h.few);
    small = omega (arith, h.small, as_many);
    there = λ k k_in. let old = h.there k (omega (arith, k_in)) in (omega (arith, old.0, as_many), at_then (node nodes k).slot (nodes_apart k k_in) ∙ old.1);
    back = λ t t_then lt.
        let other : t ≢ s = (λ is. omega (arith, lt, ap (λ u. (slot_at then u).at) is, ap (λ (x : Slot). x.at) slot_at-new)) in
        let t_in : t < length slots = omega (arith, t_then, as_many) in
        let was = h.back t t_in (omega (arith, lt, at_then t other)) in
        let not_last : (slot_at slots t).at ≢ count + free - 1 = (λ is. other (vacant.alone t t_in is)) in
        back_by (count + (free - 1)) then nodes t (slot_at slots t).at (at_then t other) (omega (arith, was.0, not_last)) was.1;
    marked = λ k k_in. h.marked k k_in ∙ sym (mark_then (node nodes k).slot (nodes_apart k (omega (arith, k_in))));
  }

  next : (t : ℕ) → t < length then → IsTaken count (slot_at then t) → (slot_at then t).next ≢ no_slot → ((slot_at then t).next < length then) × ((slot_at then (slot_at then t).next).at ≡ following + t)
  next t t_then taken any =
      let not_s : t ≢ s = (λ is. any (ap (λ u. (slot_at then u).next) is ∙ ap (λ (x : Slot). x.next) slot_at-new)) in
      ⊎_elim
      (λ is.
      next_by then t s (ap (λ u. (slot_at then u).next) is ∙ ap (λ (x : Slot). x.next) slot_at-before) (omega (arith, free_within, as_many))
      (ap (λ (x : Slot). x.at) slot_at-new ∙ ap (λ u. following + u) (sym is)))
      (λ not_p.
      let to : (slot_at then t).next ≡ (slot_at slots t).next = ap (λ (x : Slot). x.next) (slot_at-else t not_s not_p) in
      let was = h.next t (omega (arith, t_then, as_many)) (taken_before t not_s taken) (λ none. any (to ∙ none)) in
      let other : (slot_at slots t).next ≢ s = (λ is. omega (arith, was.1, ap (λ u. (slot_at slots u).at) is, vacant.at, vacant.low)) in
      next_by then t (slot_at slots t).next to (omega (arith, was.0, as_many)) (at_then (slot_at slots t).next other ∙ was.1))
      (cases_eq t p)

  module _ (plain : m.order < plain_ranks * plain_numbers) where
    fit : (slot_at then s).mark ≡ mark_of (entry_at then wholes s)
    fit =
        ap (λ (x : Slot). x.mark) slot_at-new
        ∙ sym (plain_mark m n plain)
        ∙ ap mark_of (sym (in-plain m n (get_or wholes s no_entry) (plain_differs m.order plain)))
        ∙ ap (λ (x : Slot). mark_of (entry_in x.mark x.notice (get_or wholes s no_entry))) (sym slot_at-new)

    module _ (time : (slot_at slots p).mark.time ≡ m.time) (order : (slot_at slots p).mark.order < m.order) where
      p_apart : p ≢ s
      p_apart = vacant.apart p p_taken

      new_before : IsBefore count then p s
      new_before = record {
        within = omega (arith, p_in, as_many);
        taken = taken_then p p_apart p_taken;
        next = ap (λ (x : Slot). x.next) slot_at-before;
        time = ap (λ (x : Mark). x.time) (mark_then p p_apart) ∙ time ∙ ap (λ (x : Slot). x.mark.time) (sym slot_at-new);
        order = omega (arith, order, ap (λ (x : Mark). x.order) (mark_then p p_apart), ap (λ (x : Slot). x.mark.order) slot_at-new);
        plain = omega (arith, plain, ap (λ (x : Slot). x.mark.order) slot_at-new);
      }

      before : (t q : ℕ) → t < length then → (slot_at then t).at ≡ following + q → IsBefore count then q t
      before t q t_then e = ⊎_elim
          (λ is.
          let here : q ≡ p = omega (arith, e, ap (λ u. (slot_at then u).at) is, ap (λ (x : Slot). x.at) slot_at-new) in
          subst (λ u. IsBefore count then q u) (sym is) (subst (λ u. IsBefore count then u s) (sym here) new_before))
          (λ other.
          let t_in : t < length slots = omega (arith, t_then, as_many) in
          let was = h.before t q t_in (sym (at_then t other) ∙ e) in
          let q_apart = vacant.apart q was.taken in
          let q_other : q ≢ p = (λ is. omega (arith, t_in, h.small, was.next, ap (λ u. (slot_at slots u).next) is, last)) in
          before_as count count slots then q t (omega (arith, as_many)) was (taken_then q q_apart was.taken) (ap (λ (x : Slot). x.next) (slot_at-else q q_apart q_other)) (mark_then q q_apart) (mark_then t other))
          (cases_eq t s)

      module _ (fresh : (t : ℕ) → t < length slots → IsTaken count (slot_at slots t) → (slot_at slots t).notice ≢ n) (g : SlotDirectory) (noted : IsGuess g n s)
          (others : (i : ℤ) (t : ℕ) → i ≢ n → t ≢ no_slot → IsGuess d i t → IsGuess g i t) where
        pub held-joined : AreHeld count (free - 1) (joined slots p s n m) wholes nodes g
        held-joined =
            let lined : AreLined count then = record { next = next; before = before } in
            held_of placed lined
            (noted_with h count then wholes g s n (ap (λ (x : Slot). x.notice) slot_at-new) fit as_many mark_then (λ t other. ap (λ (x : Slot). x.notice) (same_then t other)) (λ t _. refl) (λ t _ other is. taken_before t other is) fresh noted others)

  -- what is seen then
  pub heads-joined : heads count (joined slots p s n m) wholes nodes ≡ heads count slots wholes nodes
  heads-joined =
      let few : count ≤ length nodes = omega (arith, h.few) in
      same_heads count slots then wholes wholes nodes nodes few few
      (λ k k_in. ap (λ (x : Slot). entry_in x.mark x.notice (get_or wholes (node nodes k).slot no_entry)) (same_then (node nodes k).slot (nodes_apart k (omega (arith, k_in)))))

  pub followers-lined_up : IsPermutation (plain_entry m n ∷ followers slots) (followers (joined slots p s n m))
  followers-lined_up =
      let free_at : (slot_at (next_put slots p s) s).at ≡ count + free - 1 = ap (λ (x : Slot). x.at) (next_put_same slots p s s p_in) ∙ vacant.at in
      subst (λ l. IsPermutation (follower new ∷ l) (followers then)) (followers-next_put slots p s p_in)
      (followers-joined (next_put slots p s) s new (omega (arith, free_within, length-set slots p (followed (slot_at slots p) s))) (omega (arith, free_at, vacant.low)) (omega arith))
