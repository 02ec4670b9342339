-- One more slot, which is free.
use Rattle.std.proofs.Common.{◌≡◌, ◌≢◌, ℕ, ◌+◌, ◌<◌, ◌≤◌, ℤ, Bool, true, false, cond, List, [], ◌∷◌, ◌++◌, length, get_or, set, refl, sym, ap, subst, ◌∙◌, ⊎_elim, arith}
use Rattle.std.specs.Prelude.{◌==◌}
use Rattle.ss_events_entries.proofs.Common.{AreDistinct, AreHeld, AreLed, blank_slot, cases_eq, Entry, entry_at, entry_in, followers, following, get_or-set_other, get_or-set_same, get_or_append_left, get_or_push, heads, HeapNode, IsGuess, IsTaken, length-set, length_push, mark_of, nat_tests, no_entry, no_node, no_slot, node, Slot, slot_at, SlotDirectory}
use Rattle.ss_events_entries.proofs.HeadsAndFollowers.{same_heads, followers-pushed}
use Rattle.std.proofs.lemmas.Bool.{eqb-true}
use Rattle.ss_events_entries.proofs.Parts.{not_taken, ArePlaced, there_by, back_by, marked_by, AreLined, next_by, before_as, AreNoted, held_of, held-noted, noted_kept}

-- ---- a directory that leads to one slot more

pub led_more : (count : ℕ) (slots : List Slot) (d g : SlotDirectory) (k : ℕ) → AreDistinct count slots → k < length slots → k < no_slot
    → ((s : ℕ) → s < k → IsTaken count (slot_at slots s) → IsGuess d (slot_at slots s).notice s)
    → IsTaken count (slot_at slots k)
    → IsGuess g (slot_at slots k).notice k
    → ((n : ℤ) (s : ℕ) → n ≢ (slot_at slots k).notice → s ≢ no_slot → IsGuess d n s → IsGuess g n s)
    → (s : ℕ) → s < k + 1 → IsTaken count (slot_at slots s) → IsGuess g (slot_at slots s).notice s
led_more count slots d g k distinct within small before taken noted others s lt is = ⊎_elim
    (λ same. subst (λ n. IsGuess g (slot_at slots n).notice n) (sym same) noted)
    (λ other.
    others (slot_at slots s).notice s
    (λ one. other (distinct s k (omega (arith, lt, within)) within is taken one))
    (λ past. omega (arith, past, lt, small))
    (before s (omega (arith, lt, other)) is))
    (cases_eq s k)

-- ---- another directory

pub held-led : (count free : ℕ) (slots : List Slot) (wholes : List Entry) (nodes : List HeapNode) (d g : SlotDirectory) → AreHeld count free slots wholes nodes d → AreLed g count slots → AreHeld count free slots wholes nodes g
held-led count free slots wholes nodes d g h led = held-noted h wholes g (record { fits = h.fits; distinct = h.distinct; led = led })

-- ---- entries that are stored whole: each slot reads as before

held-wholes : (count free : ℕ) (slots : List Slot) (wholes ws : List Entry) (nodes : List HeapNode) (d : SlotDirectory) → ((s : ℕ) → get_or ws s no_entry ≡ get_or wholes s no_entry)
    → AreHeld count free slots wholes nodes d → AreHeld count free slots ws nodes d
held-wholes count free slots wholes ws nodes d same h =
    held-noted h ws d
    (record {
      fits = λ s within taken. h.fits s within taken ∙ sym (ap (λ w. mark_of (entry_in (slot_at slots s).mark (slot_at slots s).notice w)) (same s));
      distinct = h.distinct;
      led = h.led;
    })

heads-wholes : (count : ℕ) (slots : List Slot) (wholes ws : List Entry) (nodes : List HeapNode) → ((s : ℕ) → get_or ws s no_entry ≡ get_or wholes s no_entry) → count ≤ length nodes
    → heads count slots ws nodes ≡ heads count slots wholes nodes
heads-wholes count slots wholes ws nodes same few =
    same_heads count slots slots wholes ws nodes nodes few few
    (λ k lt. ap (entry_in (slot_at slots (node nodes k).slot).mark (slot_at slots (node nodes k).slot).notice) (same (node nodes k).slot))

-- ---- one more slot, which is free

module _ (count free : ℕ) (slots : List Slot) (wholes : List Entry) (nodes : List HeapNode) (d : SlotDirectory) (h : AreHeld count free slots wholes nodes d) (none : free ≡ 0) (more : length slots + 1 < following) where
  abbrev new_slot : Slot
  new_slot = record blank_slot { at = count }

  abbrev new_node : HeapNode
  new_node = record no_node { slot = length slots }

  abbrev grown : List Slot
  grown = slots ++ new_slot ∷ []

  abbrev grown_nodes : List HeapNode
  grown_nodes = set (nodes ++ no_node ∷ []) count new_node

  long_grown : length grown ≡ length slots + 1
  long_grown = length_push slots new_slot

  long_nodes : length grown_nodes ≡ length slots + 1
  long_nodes = length-set (nodes ++ no_node ∷ []) count new_node ∙ length_push nodes no_node ∙ ap (λ n. n + 1) h.many

  room : count < length (nodes ++ no_node ∷ [])
  room = omega (arith, length_push nodes no_node, h.few)

  old_slot_at : (s : ℕ) → s < length slots → slot_at grown s ≡ slot_at slots s
  old_slot_at s lt = get_or_append_left slots (new_slot ∷ []) blank_slot s lt

  last_slot_at : (s : ℕ) → s ≡ length slots → slot_at grown s ≡ new_slot
  last_slot_at s is = get_or_push slots new_slot blank_slot s (sym is)

  old_entry : (s : ℕ) → s < length slots → entry_at grown wholes s ≡ entry_at slots wholes s
  old_entry s lt = ap (λ (x : Slot). entry_in x.mark x.notice (get_or wholes s no_entry)) (old_slot_at s lt)

  last_node : (k : ℕ) → k ≡ count → node grown_nodes k ≡ new_node
  last_node k is = ap (node grown_nodes) is ∙ get_or-set_same (nodes ++ no_node ∷ []) count new_node no_node room

  old_node : (k : ℕ) → k < count → node grown_nodes k ≡ node nodes k
  old_node k lt =
      get_or-set_other (nodes ++ no_node ∷ []) count k new_node no_node (λ is. omega (arith, is, lt))
      ∙ get_or_append_left nodes (no_node ∷ []) no_node k (omega (arith, lt, h.few))

  -- a slot that isn't the last was there
  was : (s : ℕ) → s < length grown → s ≢ length slots → s < length slots
  was s lt other = omega (arith, lt, other, long_grown)

  -- the last is in the place after all others
  last_at : (s : ℕ) → s ≡ length slots → (slot_at grown s).at ≡ count
  last_at s is = ap (λ (x : Slot). x.at) (last_slot_at s is)

  -- so it isn't taken
  taken_before : (s : ℕ) → s < length grown → IsTaken count (slot_at grown s) → s < length slots
  taken_before s lt is = was s lt (λ last. not_taken count count (slot_at grown s) (last_at s last) (omega arith) (omega (arith, h.few, h.many, h.small)) is)

  taken_so : (s : ℕ) → s < length slots → IsTaken count (slot_at grown s) → IsTaken count (slot_at slots s)
  taken_so s lt is = subst (IsTaken count) (old_slot_at s lt) is

  placed : ArePlaced count 1 grown grown_nodes
  placed = record {
    many = long_nodes ∙ sym long_grown;
    few = omega (arith, long_nodes, h.few, h.many);
    small = omega (arith, more, long_grown);
    there = λ k lt. ⊎_elim
        (λ is. there_by grown grown_nodes k (length slots) (ap (λ (t : HeapNode). t.slot) (last_node k is)) (omega (arith, long_grown)) (last_at (length slots) refl ∙ sym is))
        (λ other.
        let less : k < count = omega (arith, lt, other) in
        let old = h.there k (omega (arith, less)) in
        there_by grown grown_nodes k (node nodes k).slot (ap (λ (t : HeapNode). t.slot) (old_node k less)) (omega (arith, old.0, long_grown)) (ap (λ (x : Slot). x.at) (old_slot_at (node nodes k).slot old.0) ∙ old.1))
        (cases_eq k count);
    back = λ s lt low. ⊎_elim
        (λ is. back_by (count + 1) grown grown_nodes s count (last_at s is) (omega arith) (ap (λ (t : HeapNode). t.slot) (last_node count refl) ∙ sym is))
        (λ other.
        let same : (slot_at grown s).at ≡ (slot_at slots s).at = ap (λ (x : Slot). x.at) (old_slot_at s (was s lt other)) in
        let old = h.back s (was s lt other) (omega (arith, low, same)) in
        let less : (slot_at slots s).at < count = omega (arith, old.0, none) in
        back_by (count + 1) grown grown_nodes s (slot_at slots s).at same (omega (arith, less)) (ap (λ (t : HeapNode). t.slot) (old_node (slot_at slots s).at less) ∙ old.1))
        (cases_eq s (length slots));
    marked = λ k lt. marked_by slots grown nodes grown_nodes k k (old_node k lt) (ap (λ (x : Slot). x.mark) (old_slot_at (node nodes k).slot (h.there k (omega (arith, lt))).0)) (h.marked k lt);
  }

  lined : AreLined count grown
  lined = record {
    next = λ s lt is some.
        let old = taken_before s lt is in
        let same : (slot_at grown s).next ≡ (slot_at slots s).next = ap (λ (x : Slot). x.next) (old_slot_at s old) in
        let then = h.next s old (taken_so s old is) (λ e. some (same ∙ e)) in
        next_by grown s (slot_at slots s).next same (omega (arith, then.0, long_grown)) (ap (λ (x : Slot). x.at) (old_slot_at (slot_at slots s).next then.0) ∙ then.1);
    before = λ s p lt at.
        let old : s < length slots = was s lt (λ last. omega (arith, last_at s last, at, h.few, h.many, h.small)) in
        let here = old_slot_at s old in
        let b = h.before s p old (sym (ap (λ (x : Slot). x.at) here) ∙ at) in
        let prev = old_slot_at p b.within in
        before_as count count slots grown p s (omega (arith, long_grown)) b (subst (IsTaken count) (sym prev) b.taken) (ap (λ (x : Slot). x.next) prev) (ap (λ (x : Slot). x.mark) prev) (ap (λ (x : Slot). x.mark) here);
  }

  noted : AreNoted count grown wholes d
  noted =
      noted_kept h count grown wholes d (length slots) (λ s lt is. let old = taken_before s lt is in (old, (λ e. omega (arith, e, old)), taken_so s old is))
      (λ s old _. ap (λ (x : Slot). x.mark) (old_slot_at s old)) (λ s old _. ap (λ (x : Slot). x.notice) (old_slot_at s old)) (λ s _. refl) (λ s old _ is. h.led s old is)

  pub held-grown : AreHeld count 1 grown wholes grown_nodes d
  held-grown = held_of placed lined noted

  pub heads-grown : heads count grown wholes grown_nodes ≡ heads count slots wholes nodes
  heads-grown =
      same_heads count slots grown wholes wholes nodes grown_nodes (omega (arith, h.few)) (omega (arith, long_nodes, h.few, h.many))
      (λ k lt. ap (λ (t : HeapNode). entry_at grown wholes t.slot) (old_node k lt) ∙ old_entry (node nodes k).slot (h.there k (omega (arith, lt))).0)

  pub followers-grown : followers grown ≡ followers slots
  followers-grown = followers-pushed slots new_slot (omega (arith, h.few, h.many, h.small))

-- ---- one more slot where none was free

-- the invariant holds of equal lists
pub same_held : (count free n : ℕ) (slots xs : List Slot) (wholes : List Entry) (nodes ts : List HeapNode) (d : SlotDirectory) → n ≡ free → xs ≡ slots → ts ≡ nodes
    → AreHeld count free slots wholes nodes d → AreHeld count n xs wholes ts d
same_held count free n slots xs wholes nodes ts d a e g h = subst (λ (p : ℕ × List Slot × List HeapNode). AreHeld count p.0 p.1 wholes p.2 d) (λ i. (sym a i, sym e i, sym g i)) h

pub record HasSome (count n : ℕ) (slots xs : List Slot) (wholes ws : List Entry) (nodes ts : List HeapNode) (d : SlotDirectory) : Type 0 where
  pub held : AreHeld count n xs ws ts d
  pub some : 0 < n
  pub heads : heads count xs ws ts ≡ heads count slots wholes nodes
  pub followers : followers xs ≡ followers slots

pub some_more : (count free n : ℕ) (slots xs : List Slot) (wholes : List Entry) (nodes ts : List HeapNode) (d : SlotDirectory) → AreHeld count free slots wholes nodes d
    → n ≡ cond (free == 0) 1 free
    → xs ≡ cond (free == 0) (slots ++ record blank_slot { at = count } ∷ []) slots
    → ts ≡ cond (free == 0) (set (nodes ++ no_node ∷ []) count (record no_node { slot = length slots })) nodes
    → (free ≡ 0 → length slots + 1 < following)
    → HasSome count n slots xs wholes wholes nodes ts d
some_more count free n slots xs wholes nodes ts d h a e g more =
    subst (λ (p : ℕ × List Slot × List HeapNode). HasSome count p.0 slots p.1 wholes wholes nodes p.2 d) (λ i. (sym a i, sym e i, sym g i)) (now (free == 0) refl)
  where
    now : (b : Bool) → (free == 0) ≡ b
        → HasSome count (cond b 1 free) slots (cond b (slots ++ record blank_slot { at = count } ∷ []) slots) wholes wholes nodes
        (cond b (set (nodes ++ no_node ∷ []) count (record no_node { slot = length slots })) nodes) d
    now true t =
        let none = eqb-true free 0 t in
        record {
          held = held-grown count free slots wholes nodes d h none (more none);
          some = omega arith;
          heads = heads-grown count free slots wholes nodes d h none (more none);
          followers = followers-grown count free slots wholes nodes d h none (more none);
        }
    now false t = record { held = h; some = grind (arith, nat_tests); heads = refl; followers = refl }

-- room once there are cells, where calls say how many slots there are
pub made_room : (count free n len : ℕ) (slots now xs : List Slot) (wholes : List Entry) (nodes ts : List HeapNode) (d g : SlotDirectory) → AreHeld count free slots wholes nodes d
    → AreLed g count now → now ≡ slots → len ≡ length slots
    → n ≡ cond (free == 0) 1 free
    → xs ≡ cond (free == 0) (slots ++ record blank_slot { at = count } ∷ []) slots
    → ts ≡ cond (free == 0) (set (nodes ++ no_node ∷ []) count (record no_node { slot = len })) nodes
    → (free ≡ 0 → len + 1 < following)
    → HasSome count n slots xs wholes wholes nodes ts g
made_room count free n len slots now xs wholes nodes ts d g h led is long a e t more =
    some_more count free n slots xs wholes nodes ts g (held-led count free slots wholes nodes d g h (subst (AreLed g count) is led)) a e
    (t ∙ ap (λ m. cond (free == 0) (set (nodes ++ no_node ∷ []) count (record no_node { slot = m })) nodes) long)
    (λ none. omega (arith, more none, long))

-- a free slot, and room for an entry that is stored whole
pub reached : (count n : ℕ) (slots xs : List Slot) (wholes vs ws : List Entry) (nodes ts : List HeapNode) (d : SlotDirectory) → ((s : ℕ) → get_or ws s no_entry ≡ get_or vs s no_entry)
    → HasSome count n slots xs wholes vs nodes ts d → HasSome count n slots xs wholes ws nodes ts d
reached count n slots xs wholes vs ws nodes ts d same room = record {
  held = held-wholes count n xs vs ws ts d same room.held;
  some = room.some;
  heads = heads-wholes count xs vs ws ts same (omega (arith, room.held.few)) ∙ room.heads;
  followers = room.followers;
}
