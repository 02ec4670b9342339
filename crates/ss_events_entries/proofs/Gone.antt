-- A head that went out of its place.
use Rattle.std.proofs.Common.{◌≡◌, ◌≢◌, ◌⊎◌, ℕ, ◌+◌, ◌<◌, ◌≤◌, ℤ, cond, List, length, get_or, set, take, swap, refl, sym, ap, subst, ◌∙◌, inl, inr, arith}
use Rattle.std.specs.Prelude.{◌==◌, slice_index_or}
use Rattle.ss_events_entries.proofs.Common.{AreHeld, blank_slot, Entry, entry_at, exchanged, followers, get_or_default, heads, HeapNode, IsGuess, no_entry, no_node, no_slot, node, not_plain, Slot, slot_at, SlotDirectory, swap_remove}
use Rattle.ss_events_entries.specs.HeapEntries.{HeadsAndFollowers, HasAdvanced}
use Rattle.ss_events_entries.proofs.Marks.{notice_in, other_whole}
use Rattle.ss_events_entries.proofs.Lists.{removed_by_swap, exchange-second}
use Rattle.ss_events_entries.proofs.Swapped.{node-swapped, held-swapped, heads-swapped, followers-swapped, exchanged-same}
use Rattle.ss_events_entries.proofs.HeadsAndFollowers.{long_heads, head_at, follower}
use Rattle.ss_events_entries.proofs.Advanced.{followers-advanced, heads-advanced, heads-dropped, held-advanced, held-dropped, advanced, advanced_nodes}

-- what is seen of them
abbrev pub lines : ℕ → List Slot → List Entry → List HeapNode → HeadsAndFollowers
lines n ys vs us = record { heads = heads n ys vs us; followers = followers ys }

-- an entry went out of the place k
pub record Gone (old : HeadsAndFollowers) (k : ℕ) (e : Entry) (n f : ℕ) (ys : List Slot) (vs : List Entry) (us : List HeapNode) (g : SlotDirectory) : Type 0 where
  pub held : AreHeld n (f + 1) ys vs us g
  pub rest : (lines n ys vs us ≡ record old { heads = swap_remove old.heads k e }) ⊎ HasAdvanced old (lines n ys vs us) k

pub gone_like : (old : HeadsAndFollowers) (k : ℕ) (e : Entry) (n m f l : ℕ) (ys xs : List Slot) (vs ws : List Entry) (us ss : List HeapNode) (g : SlotDirectory)
    → n ≡ m → f ≡ l → ys ≡ xs → vs ≡ ws → us ≡ ss → Gone old k e m l xs ws ss g → Gone old k e n f ys vs us g
gone_like old k e n m f l ys xs vs ws us ss g n_is f_is ys_is vs_is us_is gone =
    subst (λ (p : ℕ × ℕ × List Slot × List Entry × List HeapNode). Gone old k e p.0 p.1 p.2 p.3 p.4 g) (λ i. (sym n_is i, sym f_is i, sym ys_is i, sym vs_is i, sym us_is i)) gone

module _ (count free : ℕ) (slots : List Slot) (wholes : List Entry) (nodes : List HeapNode) (d : SlotDirectory) (h : AreHeld count free slots wholes nodes d) (k : ℕ) (k_in : k < count) where
  abbrev pub seen : HeadsAndFollowers
  seen = lines count slots wholes nodes

  -- the entry in the place
  abbrev pub out : Entry
  out = entry_at slots wholes (node nodes k).slot

  node_in : k < length nodes
  node_in = omega (arith, k_in, h.few)

  pub out_there : (e : Entry) → out ≡ get_or (heads count slots wholes nodes) k e
  out_there e = sym (head_at count slots wholes nodes (omega (arith, h.few)) k e k_in)

  pub out_slot : (node nodes k).slot < length slots
  out_slot = (h.there k (omega (arith, k_in))).0

  pub out_time : (node nodes k).mark.time ≡ out.key.time
  out_time =
      let at = (h.there k (omega (arith, k_in))).1 in
      ap (λ m. m.time) (h.marked k k_in ∙ h.fits (node nodes k).slot out_slot (inl (omega (arith, at, k_in))))

  pub out_notice : (slot_at slots (node nodes k).slot).notice ≡ out.notice
  out_notice = sym (notice_in (slot_at slots (node nodes k).slot).mark (slot_at slots (node nodes k).slot).notice (slice_index_or wholes (node nodes k).slot no_entry))

  -- what is read
  pub read_node : (y : HeapNode) → y ≡ get_or nodes k y → y ≡ node nodes k
  read_node y is = is ∙ get_or_default nodes k y no_node node_in

  pub read_head : (y : HeapNode) (x : Slot) → y ≡ get_or nodes k y → x ≡ get_or slots y.slot x → x ≡ slot_at slots (node nodes k).slot
  read_head y x y_is x_is =
      let same = ap (λ (u : HeapNode). u.slot) (read_node y y_is) in
      x_is ∙ ap (λ s. get_or slots s x) same ∙ get_or_default slots (node nodes k).slot x blank_slot out_slot

  pub gone-advanced : (real : (slot_at slots (node nodes k).slot).next ≢ no_slot) (g : SlotDirectory)
      → ((m : ℤ) (t : ℕ) → m ≢ (slot_at slots (node nodes k).slot).notice → t ≢ (node nodes k).slot → IsGuess d m t → IsGuess g m t)
      → Gone seen k out count free (advanced count free slots wholes nodes d h k k_in real) wholes (advanced_nodes count free slots wholes nodes d h k k_in real) g
  gone-advanced real g others = record {
    held = held-advanced count free slots wholes nodes d h k k_in real g others;
    rest = inr (record {
      next = follower (slot_at slots (slot_at slots (node nodes k).slot).next);
      heads = heads-advanced count free slots wholes nodes d h k k_in real;
      followers = followers-advanced count free slots wholes nodes d h k k_in real;
    });
  }

  pub gone-dropped : (n : ℕ) → count ≡ n + 1 → (slot_at slots (node nodes k).slot).next ≡ no_slot → (o : ℕ) (vs : List Entry) → vs ≡ cond (o == not_plain) (set wholes (node nodes k).slot no_entry) wholes → (g : SlotDirectory)
      → ((m : ℤ) (t : ℕ) → m ≢ (slot_at slots (node nodes k).slot).notice → t ≢ (node nodes k).slot → IsGuess d m t → IsGuess g m t)
      → Gone seen k out n free (exchanged nodes slots k n) vs (swap nodes k n) g
  gone-dropped n one none o vs vs_is g others =
      let s = (node nodes k).slot in
      let n_in : n < count = omega (arith, one) in
      let ys = exchanged nodes slots k n in
      let nodes_put = swap nodes k n in
      let held = held-swapped count free slots wholes nodes d h k n k_in n_in in
      let slot_so = exchanged-same count free slots wholes nodes d h k n k_in n_in s in
      let s_is : (node nodes_put n).slot ≡ s
      = ap (λ (x : HeapNode). x.slot) (node-swapped count free slots wholes nodes d h k n k_in n_in n) ∙ ap (λ j. (node nodes j).slot) (exchange-second k n n refl) in
      let none_then : (slot_at ys s).next ≡ no_slot = ap (λ (x : Slot). x.next) slot_so ∙ none in
      let clear = other_whole (o == not_plain) wholes vs s no_entry vs_is in
      let few : count ≤ length nodes = omega (arith, h.few) in
      let long = long_heads count slots wholes nodes few in
      let seen_heads : heads n ys vs nodes_put ≡ swap_remove (heads count slots wholes nodes) k out
      = heads-dropped count free ys wholes nodes_put d held n one s s_is none_then vs clear
      ∙ ap (take n) (heads-swapped count free slots wholes nodes d h k n k_in n_in)
      ∙ sym (removed_by_swap (heads count slots wholes nodes) k n out (long ∙ one) (omega (arith, long, k_in))) in
      record {
        held =
            held-dropped count free ys wholes nodes_put d held n one s s_is none_then vs clear g
            (λ m t apart other led. others m t (λ e. apart (e ∙ sym (ap (λ (x : Slot). x.notice) slot_so))) other led);
        rest = inl (λ i. record { heads = seen_heads i; followers = followers-swapped count free slots wholes nodes d h k n k_in n_in i });
      }

-- ---- what is read of a slot

pub read_slot : (xs : List Slot) (s : ℕ) (y : Slot) → y ≡ get_or xs s y → s < length xs → y ≡ slot_at xs s
read_slot xs s y is s_in = is ∙ get_or_default xs s y blank_slot s_in
