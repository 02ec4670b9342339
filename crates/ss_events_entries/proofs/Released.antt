-- A slot that becomes free, and the room for it.
use Rattle.std.proofs.Common.{◌≡◌, ◌≢◌, ℕ, ◌+◌, ◌<◌, ◌≤◌, eqb, false, map, get_or, take, List, ◌∷◌, length, ap, ◌∙◌, arith}
use Rattle.std.proofs.lemmas.Bool.{eqb-true, ne_eqb}
use Rattle.std.proofs.lemmas.List.Elements.{All-cons, All-contains, recursion_from_All}
use Rattle.std.proofs.lemmas.Map.Keys.{IsDistinct-cons, IsDistinct-from_apart}
use Rattle.std.proofs.lemmas.Map.Steps.{length-le_from_distinct_below}
use Rattle.std.proofs.lemmas.Map.Views.{Contains-from_any}
use Rattle.ss_events_entries.proofs.Common.{AreHeld, Entry, following, get_or-map, get_or-set_other, get_or-set_same, get_or-take, HeapNode, length-map, length-set, length-take-le, no_node, node, slice_set, Slot, slot_at, SlotDirectory}

-- ---- a slot put into a place

abbrev pub freed : List HeapNode → ℕ → ℕ → List HeapNode
freed ss n s = slice_set ss n (record (node ss n) { slot = s })

pub freed-same : (ss : List HeapNode) (n s : ℕ) → n < length ss → (node (freed ss n s) n).slot ≡ s
freed-same ss n s n_in = ap (λ (x : HeapNode). x.slot) (get_or-set_same ss n (record (node ss n) { slot = s }) no_node n_in)

pub freed-other : (ss : List HeapNode) (n s k : ℕ) → k ≢ n → node (freed ss n s) k ≡ node ss k
freed-other ss n s k other = get_or-set_other ss n k (record (node ss n) { slot = s }) no_node other

pub freed-long : (ss : List HeapNode) (n s : ℕ) → length (freed ss n s) ≡ length ss
freed-long ss n s = length-set ss n (record (node ss n) { slot = s })

module _ (count free : ℕ) (slots : List Slot) (wholes : List Entry) (nodes : List HeapNode) (d : SlotDirectory) (h : AreHeld count free slots wholes nodes d) where
  -- where a slot follows another, there is room for one more free slot: the slots of places are different ones, and it is none of them
  pub room_of_follower : (s : ℕ) → s < length slots → following ≤ (slot_at slots s).at → count + free < length nodes
  room_of_follower s s_in s_follows =
      let total = count + free in
      let placed : List ℕ = map (λ (t : HeapNode). t.slot) (take total nodes) in
      let long : length placed ≡ total = length-map (take total nodes) (λ (t : HeapNode). t.slot) ∙ length-take-le total nodes h.few in
      let read : (k c : ℕ) → k < length placed → (get_or placed k c < length slots) × ((slot_at slots (get_or placed k c)).at ≡ k)
      = (λ k c k_in.
      let is = get_or-map (λ (t : HeapNode). t.slot) (take total nodes) k no_node c (omega (arith, k_in, long, length-take-le total nodes h.few))
      ∙ ap (λ (t : HeapNode). t.slot) (get_or-take total nodes k no_node (omega (arith, k_in, long))) in
      let there = h.there k (omega (arith, k_in, long)) in (omega (arith, is, there.0), ap (λ t. (slot_at slots t).at) is ∙ there.1)) in
      let apart : (k c : ℕ) → k < length placed → s ≢ get_or placed k c
      = (λ k c k_in e. omega (arith, long, k_in, (read k c k_in).1, ap (λ t. (slot_at slots t).at) e, s_follows, h.few, h.many, h.small)) in
      let distinct = IsDistinct-cons eqb s placed
      (recursion_from_All (λ t. eqb s t ≡ false) placed (λ k c k_in. ne_eqb s (get_or placed k c) (apart k c k_in)))
      (IsDistinct-from_apart eqb placed (λ j k c lt k_in. ne_eqb (get_or placed j c) (get_or placed k c)
      (λ e. omega (arith, lt, (read j c (omega (arith, lt, k_in))).1, (read k c k_in).1, ap (λ t. (slot_at slots t).at) e)))) in
      let within = All-cons (λ t. t < length slots) s placed s_in (λ k c k_in. (read k c k_in).0) in
      let few = length-le_from_distinct_below (s ∷ placed) (length slots) distinct
      (λ q t. All-contains (λ u. u < length slots) (s ∷ placed) q within (Contains-from_any (λ x y e. eqb-true x y e) q (s ∷ placed) t)) in
      omega (arith, few, long, h.many)
