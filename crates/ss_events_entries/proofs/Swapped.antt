-- Two lines that change places.
use Rattle.std.proofs.Common.{◌≡◌, ℕ, ◌+◌, ◌<◌, ◌≤◌, List, length, get_or, swap, refl, sym, ap, subst, ◌∙◌, ⊎_elim, inl, inr, arith}
use Rattle.ss_events_entries.proofs.Common.{AreHeld, at_put, cases_eq, cases_lt, Entry, entry_at, entry_in, exchanged, followers, following, heads, HeapNode, IsTaken, length-set, length-swap, no_entry, no_node, node, Slot, slot_at, SlotDirectory}
use Rattle.ss_events_entries.proofs.Exchanging.{exchange, exchange-within, exchange-twice, get_or-swap}
use Rattle.ss_events_entries.proofs.Lists.{exchange-first, exchange-second, exchange-other}
use Rattle.ss_events_entries.proofs.HeadsAndFollowers.{slot_at-same, slot_at-other, long_heads, head_at, heads_are, followers-placed}
use Rattle.ss_events_entries.proofs.Parts.{unplaced, at_put_same, ArePlaced, there_by, back_by, marked_by, AreLined, next_by, before_as, AreNoted, noted_kept, held_of}

-- ---- two numbers in each other's place

back_within : (a b n m : ℕ) → a < n → b < n → exchange a b m < n → m < n
back_within a b n m a_in b_in lt = subst (λ k. k < n) (exchange-twice a b m) (exchange-within a b n (exchange a b m) a_in b_in lt)

past_both : (a b n m : ℕ) → a < n → b < n → n ≤ m → exchange a b m ≡ m
past_both a b n m a_in b_in past = exchange-other a b m (λ e. omega (arith, e, past, a_in)) (λ e. omega (arith, e, past, b_in))

back_past : (a b n m : ℕ) → a < n → b < n → n ≤ exchange a b m → n ≤ m
back_past a b n m a_in b_in past = ⊎_elim
    (λ lt. omega (arith, past, exchange-within a b n m a_in b_in lt))
    (λ le. le)
    (cases_lt m n)

-- a slot in another place
abbrev pub moved : Slot → ℕ → Slot
moved x place = record x { at = place }

pub length-exchanged : (nodes : List HeapNode) (slots : List Slot) (a b : ℕ) → length (exchanged nodes slots a b) ≡ length slots
length-exchanged nodes slots a b =
    let j = (node nodes b).slot in
    let i = (node nodes a).slot in
    length-set (at_put slots j a) i (moved (slot_at (at_put slots j a) i) b) ∙ length-set slots j (moved (slot_at slots j) a)

module _ (count free : ℕ) (slots : List Slot) (wholes : List Entry) (nodes : List HeapNode) (d : SlotDirectory) (h : AreHeld count free slots wholes nodes d)
    (a b : ℕ) (a_in : a < count) (b_in : b < count) where
  abbrev first : ℕ
  first = (node nodes a).slot

  abbrev second : ℕ
  second = (node nodes b).slot

  abbrev then : List Slot
  then = exchanged nodes slots a b

  as_many : length then ≡ length slots
  as_many = length-exchanged nodes slots a b

  first_there : (first < length slots) × ((slot_at slots first).at ≡ a)
  first_there = h.there a (omega (arith, a_in))

  first_in : first < length (at_put slots second a)
  first_in = omega (arith, first_there.0, length-set slots second (moved (slot_at slots second) a))

  second_there : (second < length slots) × ((slot_at slots second).at ≡ b)
  second_there = h.there b (omega (arith, b_in))

  a_low : a < following
  a_low = omega (arith, a_in, h.few, h.many, h.small)

  b_low : b < following
  b_low = omega (arith, b_in, h.few, h.many, h.small)

  -- nothing but the places of slots is another then
  pub exchanged-same : (t : ℕ) → unplaced (slot_at then t) ≡ unplaced (slot_at slots t)
  exchanged-same t = at_put_same (at_put slots second a) first b t first_in ∙ at_put_same slots second a t second_there.0

  entry_then : (t : ℕ) → entry_at then wholes t ≡ entry_at slots wholes t
  entry_then t = ap (λ (x : Slot). entry_in x.mark x.notice (get_or wholes t no_entry)) (exchanged-same t)

  at_then : (t : ℕ) → t < length slots → (slot_at then t).at ≡ exchange a b (slot_at slots t).at
  at_then t t_in = ⊎_elim
      (λ is.
      ap (λ u. (slot_at then u).at) is
      ∙ ap (λ (x : Slot). x.at) (slot_at-same (at_put slots second a) first (moved (slot_at (at_put slots second a) first) b) first_in)
      ∙ sym (exchange-first a b (slot_at slots t).at (ap (λ u. (slot_at slots u).at) is ∙ first_there.1)))
      (λ not_first.
      ap (λ (x : Slot). x.at) (slot_at-other (at_put slots second a) first t (moved (slot_at (at_put slots second a) first) b) not_first) ∙ ⊎_elim
      (λ is.
      ap (λ u. (slot_at (at_put slots second a) u).at) is
      ∙ ap (λ (x : Slot). x.at) (slot_at-same slots second (moved (slot_at slots second) a) second_there.0)
      ∙ sym (exchange-second a b (slot_at slots t).at (ap (λ u. (slot_at slots u).at) is ∙ second_there.1)))
      (λ not_second.
      ap (λ (x : Slot). x.at) (slot_at-other slots second t (moved (slot_at slots second) a) not_second)
      ∙ sym (exchange-other a b (slot_at slots t).at
      (λ e. not_first (sym (h.back t t_in (omega (arith, e, a_low))).1 ∙ ap (λ k. (node nodes k).slot) e))
      (λ e. not_second (sym (h.back t t_in (omega (arith, e, b_low))).1 ∙ ap (λ k. (node nodes k).slot) e))))
      (cases_eq t second))
      (cases_eq t first)

  -- the node of a place then
  pub node-swapped : (k : ℕ) → node (swap nodes a b) k ≡ node nodes (exchange a b k)
  node-swapped k = get_or-swap nodes a b no_node (omega (arith, a_in, h.few)) (omega (arith, b_in, h.few)) k

  module _ (t : ℕ) (t_in : t < length slots) where
    taken_then : IsTaken count (slot_at slots t) → IsTaken count (slot_at then t)
    taken_then = ⊎_elim
        (λ lt. inl (subst (λ m. m < count) (sym (at_then t t_in)) (exchange-within a b count (slot_at slots t).at a_in b_in lt)))
        (λ past. inr (subst (λ m. following ≤ m) (sym (at_then t t_in ∙ past_both a b following (slot_at slots t).at a_low b_low past)) past))

    taken_before : IsTaken count (slot_at then t) → IsTaken count (slot_at slots t)
    taken_before = ⊎_elim
        (λ lt. inl (back_within a b count (slot_at slots t).at a_in b_in (subst (λ m. m < count) (at_then t t_in) lt)))
        (λ past. inr (back_past a b following (slot_at slots t).at a_low b_low (subst (λ m. following ≤ m) (at_then t t_in) past)))

    -- a follower stays where it is
    stays : (p : ℕ) → (slot_at slots t).at ≡ following + p → (slot_at then t).at ≡ following + p
    stays p e = at_then t t_in ∙ past_both a b following (slot_at slots t).at a_low b_low (omega (arith, e)) ∙ e

    stayed : (p : ℕ) → (slot_at then t).at ≡ following + p → (slot_at slots t).at ≡ following + p
    stayed p e =
        let was = sym (at_then t t_in) ∙ e in
        sym (past_both a b following (slot_at slots t).at a_low b_low (back_past a b following (slot_at slots t).at a_low b_low (omega (arith, was)))) ∙ was

  placed : ArePlaced count free then (swap nodes a b)
  placed = record {
    many = length-swap nodes a b ∙ h.many ∙ sym as_many;
    few = omega (arith, h.few, length-swap nodes a b);
    small = omega (arith, h.small, as_many);
    there = λ k k_in.
        let j = exchange a b k in
        let old = h.there j (exchange-within a b (count + free) k (omega (arith, a_in)) (omega (arith, b_in)) k_in) in
        there_by then (swap nodes a b) k (node nodes j).slot (ap (λ (t : HeapNode). t.slot) (node-swapped k)) (omega (arith, old.0, as_many))
        (at_then (node nodes j).slot old.0 ∙ ap (exchange a b) old.1 ∙ exchange-twice a b k);
    back = λ s s_then lt.
        let s_in : s < length slots = omega (arith, s_then, as_many) in
        let k = (slot_at slots s).at in
        let old = h.back s s_in (back_within a b following k a_low b_low (subst (λ m. m < following) (at_then s s_in) lt)) in
        back_by (count + free) then (swap nodes a b) s (exchange a b k) (at_then s s_in) (exchange-within a b (count + free) k (omega (arith, a_in)) (omega (arith, b_in)) old.0)
        (ap (λ (t : HeapNode). t.slot) (node-swapped (exchange a b k)) ∙ ap (λ j. (node nodes j).slot) (exchange-twice a b k) ∙ old.1);
    marked = λ k k_in.
        let j = exchange a b k in
        marked_by slots then nodes (swap nodes a b) j k (node-swapped k) (ap (λ (x : Slot). x.mark) (exchanged-same (node nodes j).slot)) (h.marked j (exchange-within a b count k a_in b_in k_in));
  }

  lined : AreLined count then
  lined = record {
    next = λ s s_then taken some.
        let s_in : s < length slots = omega (arith, s_then, as_many) in
        let same : (slot_at then s).next ≡ (slot_at slots s).next = ap (λ (x : Slot). x.next) (exchanged-same s) in
        let old = h.next s s_in (taken_before s s_in taken) (λ none. some (same ∙ none)) in
        next_by then s (slot_at slots s).next same (omega (arith, old.0, as_many)) (stays (slot_at slots s).next old.0 s old.1);
    before = λ s p s_then e.
        let s_in : s < length slots = omega (arith, s_then, as_many) in
        let old = h.before s p s_in (stayed s s_in p e) in
        before_as count count slots then p s (omega (arith, as_many)) old (taken_then p old.within old.taken) (ap (λ (x : Slot). x.next) (exchanged-same p)) (ap (λ (x : Slot). x.mark) (exchanged-same p)) (ap (λ (x : Slot). x.mark) (exchanged-same s));
  }

  noted : AreNoted count then wholes d
  noted =
      noted_kept h count then wholes d (length slots) (λ t t_then is. let t_in : t < length slots = omega (arith, t_then, as_many) in (t_in, (λ e. omega (arith, e, t_in)), taken_before t t_in is))
      (λ t _ _. ap (λ (x : Slot). x.mark) (exchanged-same t)) (λ t _ _. ap (λ (x : Slot). x.notice) (exchanged-same t)) (λ t _. refl) (λ t t_in _ is. h.led t t_in is)

  pub held-swapped : AreHeld count free (exchanged nodes slots a b) wholes (swap nodes a b) d
  held-swapped = held_of placed lined noted

  -- what is seen then
  pub heads-swapped : heads count (exchanged nodes slots a b) wholes (swap nodes a b) ≡ swap (heads count slots wholes nodes) a b
  heads-swapped =
      let few : count ≤ length nodes = omega (arith, h.few) in
      let old = heads count slots wholes nodes in
      let long = long_heads count slots wholes nodes few in
      heads_are count then wholes (swap nodes a b) (omega (arith, h.few, length-swap nodes a b)) (swap old a b) (length-swap old a b ∙ long)
      (λ k c k_in.
      let j = exchange a b k in
      ap (λ (t : HeapNode). entry_at then wholes t.slot) (node-swapped k)
      ∙ entry_then (node nodes j).slot
      ∙ sym (head_at count slots wholes nodes few j c (exchange-within a b count k a_in b_in k_in))
      ∙ sym (get_or-swap old a b c (omega (arith, a_in, long)) (omega (arith, b_in, long)) k))

  pub followers-swapped : followers (exchanged nodes slots a b) ≡ followers slots
  followers-swapped =
      let put = at_put slots second a in
      let put_at : (slot_at put first).at < following = ⊎_elim
      (λ is. subst (λ m. m < following) (sym (ap (λ t. (slot_at put t).at) is ∙ ap (λ (x : Slot). x.at) (slot_at-same slots second (moved (slot_at slots second) a) second_there.0))) a_low)
      (λ other. subst (λ m. m < following) (sym (ap (λ (x : Slot). x.at) (slot_at-other slots second first (moved (slot_at slots second) a) other) ∙ first_there.1)) a_low)
      (cases_eq first second) in
      followers-placed put first (moved (slot_at put first) b) first_in put_at b_low
      ∙ followers-placed slots second (moved (slot_at slots second) a) second_there.0 (omega (arith, second_there.1, b_low)) a_low
