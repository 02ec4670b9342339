-- The invariant in parts: what is placed, what is in lines, and what is noted of the entries; and steps that each change of the slots takes.
use Rattle.std.proofs.Common.{◌≡◌, ◌≢◌, ◌⊎◌, ℕ, ◌+◌, ◌<◌, ◌≤◌, ℤ, List, length, get_or, set, refl, sym, ap, subst, ◌∙◌, ⊎_elim, arith}
use Rattle.ss_events_entries.proofs.Common.{AreDistinct, AreHeld, AreLed, at_put, cases_eq, Entry, entry_at, entry_in, following, HeapNode, IsBefore, IsGuess, IsTaken, Mark, mark_of, next_put, no_entry, no_slot, node, Slot, slot_at, SlotDirectory}
use Rattle.ss_events_entries.proofs.HeadsAndFollowers.{slot_at-same, slot_at-other}

-- ---- one slot

-- a slot is taken where another one in the same place is
pub taken_as : (n : ℕ) (x y : Slot) → x.at ≡ y.at → IsTaken n y → IsTaken n x
taken_as n x y e is = subst (λ a. (a < n) ⊎ (following ≤ a)) (sym e) is

-- a slot in another place is not taken
pub not_taken : (n place : ℕ) (x : Slot) → x.at ≡ place → n ≤ place → place < following → IsTaken n x → ⊥
not_taken n place x at from low is = ⊎_elim (λ less. omega (arith, less, at, from)) (λ past. omega (arith, past, at, low)) is

-- what is put into a slot changes nothing that it has in common with what was there
pub put_keeps : {X : Type 0} (f : Slot → X) (xs : List Slot) (s t : ℕ) (y : Slot) → s < length xs → f y ≡ f (slot_at xs s) → f (slot_at (set xs s y) t) ≡ f (slot_at xs t)
put_keeps f xs s t y s_in same = ⊎_elim
    (λ is. ap (λ u. f (slot_at (set xs s y) u)) is ∙ ap f (slot_at-same xs s y s_in) ∙ same ∙ ap (λ u. f (slot_at xs u)) (sym is))
    (λ other. ap f (slot_at-other xs s t y other))
    (cases_eq t s)

-- a slot but for its place
abbrev pub unplaced : Slot → Slot
unplaced x = record x { at = 0 }

pub at_put_same : (xs : List Slot) (s place t : ℕ) → s < length xs → unplaced (slot_at (at_put xs s place) t) ≡ unplaced (slot_at xs t)
at_put_same xs s place t s_in = put_keeps unplaced xs s t (record (slot_at xs s) { at = place }) s_in refl

-- a slot but for the one after it
abbrev pub unlinked : Slot → Slot
unlinked x = record x { next = 0 }

pub next_put_same : (xs : List Slot) (s next t : ℕ) → s < length xs → unlinked (slot_at (next_put xs s next) t) ≡ unlinked (slot_at xs t)
next_put_same xs s next t s_in = put_keeps unlinked xs s t (record (slot_at xs s) { next = next }) s_in refl

-- an entry that reads as it did
pub entry_as : (slots now : List Slot) (wholes ws : List Entry) (t : ℕ) → (slot_at now t).mark ≡ (slot_at slots t).mark → (slot_at now t).notice ≡ (slot_at slots t).notice → get_or ws t no_entry ≡ get_or wholes t no_entry
    → entry_at now ws t ≡ entry_at slots wholes t
entry_as slots now wholes ws t mark notice whole = λ i. entry_in (mark i) (notice i) (whole i)

-- ---- what is placed

pub record ArePlaced (count free : ℕ) (slots : List Slot) (nodes : List HeapNode) : Type 0 where
  pub many : length nodes ≡ length slots
  pub few : count + free ≤ length nodes
  pub small : length slots < following
  pub there : (k : ℕ) → k < count + free → ((node nodes k).slot < length slots) × ((slot_at slots (node nodes k).slot).at ≡ k)
  pub back : (s : ℕ) → s < length slots → (slot_at slots s).at < following → ((slot_at slots s).at < count + free) × ((node nodes (slot_at slots s).at).slot ≡ s)
  pub marked : (k : ℕ) → k < count → (node nodes k).mark ≡ (slot_at slots (node nodes k).slot).mark

-- the slot of a place is this one
pub there_by : (slots : List Slot) (nodes : List HeapNode) (k s : ℕ) → (node nodes k).slot ≡ s → s < length slots → (slot_at slots s).at ≡ k → ((node nodes k).slot < length slots) × ((slot_at slots (node nodes k).slot).at ≡ k)
there_by slots nodes k s is within at = (omega (arith, is, within), ap (λ t. (slot_at slots t).at) is ∙ at)

-- the place of a slot is this one
pub back_by : (total : ℕ) (slots : List Slot) (nodes : List HeapNode) (s k : ℕ) → (slot_at slots s).at ≡ k → k < total → (node nodes k).slot ≡ s → ((slot_at slots s).at < total) × ((node nodes (slot_at slots s).at).slot ≡ s)
back_by total slots nodes s k at within is = (omega (arith, at, within), ap (λ j. (node nodes j).slot) at ∙ is)

-- the node of a place is that of a place before, and what is marked there is the same
pub marked_by : (slots now : List Slot) (nodes us : List HeapNode) (j k : ℕ) → node us k ≡ node nodes j → (slot_at now (node nodes j).slot).mark ≡ (slot_at slots (node nodes j).slot).mark
    → (node nodes j).mark ≡ (slot_at slots (node nodes j).slot).mark → (node us k).mark ≡ (slot_at now (node us k).slot).mark
marked_by slots now nodes us j k is mark was = ap (λ (x : HeapNode). x.mark) is ∙ was ∙ sym (ap (λ (x : HeapNode). (slot_at now x.slot).mark) is ∙ mark)

-- ---- what is in lines

pub record AreLined (count : ℕ) (slots : List Slot) : Type 0 where
  pub next : (s : ℕ) → s < length slots → IsTaken count (slot_at slots s) → (slot_at slots s).next ≢ no_slot → ((slot_at slots s).next < length slots) × ((slot_at slots (slot_at slots s).next).at ≡ following + s)
  pub before : (s p : ℕ) → s < length slots → (slot_at slots s).at ≡ following + p → IsBefore count slots p s

-- the one after a slot is this one
pub next_by : (slots : List Slot) (s t : ℕ) → (slot_at slots s).next ≡ t → t < length slots → (slot_at slots t).at ≡ following + s → ((slot_at slots s).next < length slots) × ((slot_at slots (slot_at slots s).next).at ≡ following + s)
next_by slots s t is within at = (omega (arith, is, within), ap (λ u. (slot_at slots u).at) is ∙ at)

-- the one before a slot is the one that was before it
pub before_as : (m n : ℕ) (slots now : List Slot) (p s : ℕ) → length slots ≤ length now → IsBefore m slots p s → IsTaken n (slot_at now p) → (slot_at now p).next ≡ (slot_at slots p).next
    → (slot_at now p).mark ≡ (slot_at slots p).mark → (slot_at now s).mark ≡ (slot_at slots s).mark → IsBefore n now p s
before_as m n slots now p s long b taken next first last = record {
  within = omega (arith, b.within, long);
  taken = taken;
  next = next ∙ b.next;
  time = ap (λ (x : Mark). x.time) first ∙ b.time ∙ sym (ap (λ (x : Mark). x.time) last);
  order = omega (arith, b.order, ap (λ (x : Mark). x.order) first, ap (λ (x : Mark). x.order) last);
  plain = omega (arith, b.plain, ap (λ (x : Mark). x.order) last);
}

-- ---- what is noted of the entries

pub record AreNoted (count : ℕ) (slots : List Slot) (wholes : List Entry) (directory : SlotDirectory) : Type 0 where
  pub fits : (s : ℕ) → s < length slots → IsTaken count (slot_at slots s) → (slot_at slots s).mark ≡ mark_of (entry_at slots wholes s)
  pub distinct : AreDistinct count slots
  pub led : AreLed directory count slots

-- ---- the whole

pub held_of : {count free : ℕ} {slots : List Slot} {wholes : List Entry} {nodes : List HeapNode} {d : SlotDirectory} → ArePlaced count free slots nodes → AreLined count slots → AreNoted count slots wholes d → AreHeld count free slots wholes nodes d
held_of p l n = record {
  many = p.many;
  few = p.few;
  small = p.small;
  there = p.there;
  back = p.back;
  marked = p.marked;
  fits = n.fits;
  next = l.next;
  before = l.before;
  distinct = n.distinct;
  led = n.led;
}

-- a slot that is free, in a place past those in use
pub record IsFree (count : ℕ) (slots : List Slot) (k s : ℕ) : Type 0 where
  pub within : s < length slots
  pub at : (slot_at slots s).at ≡ k
  pub low : k < following
  pub apart : (t : ℕ) → IsTaken count (slot_at slots t) → t ≢ s
  pub alone : (t : ℕ) → t < length slots → (slot_at slots t).at ≡ k → t ≡ s

module _ {count free : ℕ} {slots : List Slot} {wholes : List Entry} {nodes : List HeapNode} {d : SlotDirectory} (h : AreHeld count free slots wholes nodes d) where
  -- with other notes
  pub held-noted : (ws : List Entry) (g : SlotDirectory) → AreNoted count slots ws g → AreHeld count free slots ws nodes g
  held-noted ws g n =
      let placed : ArePlaced count free slots nodes = record { many = h.many; few = h.few; small = h.small; there = h.there; back = h.back; marked = h.marked } in
      let lined : AreLined count slots = record { next = h.next; before = h.before } in
      held_of placed lined n

  -- the slot of a place past those in use
  pub free_of : (k s : ℕ) → count ≤ k → k < count + free → s ≡ (node nodes k).slot → IsFree count slots k s
  free_of k s from to is =
      let at : (slot_at slots s).at ≡ k = ap (λ t. (slot_at slots t).at) is ∙ (h.there k to).1 in
      let low : k < following = omega (arith, to, h.few, h.many, h.small) in record {
        within = omega (arith, is, (h.there k to).0);
        at = at;
        low = low;
        apart = λ t taken e. not_taken count k (slot_at slots t) (ap (λ u. (slot_at slots u).at) e ∙ at) from low taken;
        alone = λ t t_in t_at. sym (h.back t t_in (omega (arith, t_at, low))).1 ∙ ap (λ j. (node nodes j).slot) t_at ∙ sym is;
      }

  -- where no entry has come, and that in the slot s, if it was one, has gone
  module _ (n : ℕ) (now : List Slot) (ws : List Entry) (g : SlotDirectory) (s : ℕ)
      (taken : (t : ℕ) → t < length now → IsTaken n (slot_at now t) → (t < length slots) × (t ≢ s) × IsTaken count (slot_at slots t))
      (mark : (t : ℕ) → t < length slots → t ≢ s → (slot_at now t).mark ≡ (slot_at slots t).mark)
      (notice : (t : ℕ) → t < length slots → t ≢ s → (slot_at now t).notice ≡ (slot_at slots t).notice)
      (whole : (t : ℕ) → t ≢ s → get_or ws t no_entry ≡ get_or wholes t no_entry)
      (leads : (t : ℕ) → t < length slots → t ≢ s → IsTaken count (slot_at slots t) → IsGuess g (slot_at slots t).notice t) where
    pub noted_kept : AreNoted n now ws g
    noted_kept = record {
      fits = λ t t_in is.
          let was = taken t t_in is in
          mark t was.0 was.1 ∙ h.fits t was.0 was.2 ∙ ap mark_of (sym (entry_as slots now wholes ws t (mark t was.0 was.1) (notice t was.0 was.1) (whole t was.1)));
      distinct = λ t u t_in u_in t_is u_is same.
          let t_was = taken t t_in t_is in
          let u_was = taken u u_in u_is in
          h.distinct t u t_was.0 u_was.0 t_was.2 u_was.2 (sym (notice t t_was.0 t_was.1) ∙ same ∙ notice u u_was.0 u_was.1);
      led = λ t t_in is.
          let was = taken t t_in is in
          subst (λ m. IsGuess g m t) (sym (notice t was.0 was.1)) (leads t was.0 was.1 was.2);
    }

  -- a directory that forgot the entry in a slot leads to the others
  pub led_without : (g : SlotDirectory) (s : ℕ) → s < length slots → IsTaken count (slot_at slots s) → ((m : ℤ) (t : ℕ) → m ≢ (slot_at slots s).notice → t ≢ s → IsGuess d m t → IsGuess g m t)
      → (t : ℕ) → t < length slots → t ≢ s → IsTaken count (slot_at slots t) → IsGuess g (slot_at slots t).notice t
  led_without g s s_in s_taken others t t_in other is = others (slot_at slots t).notice t (λ e. other (h.distinct t s t_in s_in is s_taken e)) other (h.led t t_in is)

  -- where an entry of the notice n has come into the slot s
  module _ (m : ℕ) (now : List Slot) (ws : List Entry) (g : SlotDirectory) (s : ℕ) (n : ℤ)
      (noticed : (slot_at now s).notice ≡ n) (fit : (slot_at now s).mark ≡ mark_of (entry_at now ws s)) (long : length now ≡ length slots)
      (mark : (t : ℕ) → t ≢ s → (slot_at now t).mark ≡ (slot_at slots t).mark)
      (notice : (t : ℕ) → t ≢ s → (slot_at now t).notice ≡ (slot_at slots t).notice)
      (whole : (t : ℕ) → t ≢ s → get_or ws t no_entry ≡ get_or wholes t no_entry)
      (taken : (t : ℕ) → t < length slots → t ≢ s → IsTaken m (slot_at now t) → IsTaken count (slot_at slots t))
      (fresh : (t : ℕ) → t < length slots → IsTaken count (slot_at slots t) → (slot_at slots t).notice ≢ n)
      (leads : IsGuess g n s) (others : (i : ℤ) (t : ℕ) → i ≢ n → t ≢ no_slot → IsGuess d i t → IsGuess g i t) where
    pub noted_with : AreNoted m now ws g
    noted_with = record {
      fits = λ t t_in is. ⊎_elim
          (λ e. subst (λ u. (slot_at now u).mark ≡ mark_of (entry_at now ws u)) (sym e) fit)
          (λ other.
          let within : t < length slots = omega (arith, t_in, long) in
          mark t other ∙ h.fits t within (taken t within other is) ∙ ap mark_of (sym (entry_as slots now wholes ws t (mark t other) (notice t other) (whole t other))))
          (cases_eq t s);
      distinct = λ t u t_in u_in t_is u_is same.
          let t_within : t < length slots = omega (arith, t_in, long) in
          let u_within : u < length slots = omega (arith, u_in, long) in
          ⊎_elim
          (λ e. ⊎_elim
          (λ f. e ∙ sym f)
          (λ other. absurd (fresh u u_within (taken u u_within other u_is) (sym (notice u other) ∙ sym same ∙ ap (λ v. (slot_at now v).notice) e ∙ noticed)))
          (cases_eq u s))
          (λ other. ⊎_elim
          (λ f. absurd (fresh t t_within (taken t t_within other t_is) (sym (notice t other) ∙ same ∙ ap (λ v. (slot_at now v).notice) f ∙ noticed)))
          (λ apart. h.distinct t u t_within u_within (taken t t_within other t_is) (taken u u_within apart u_is) (sym (notice t other) ∙ same ∙ notice u apart))
          (cases_eq u s))
          (cases_eq t s);
      led = λ t t_in is. ⊎_elim
          (λ e. subst (λ u. IsGuess g (slot_at now u).notice u) (sym e) (subst (λ i. IsGuess g i s) (sym noticed) leads))
          (λ other.
          let within : t < length slots = omega (arith, t_in, long) in
          let was = taken t within other is in
          subst (λ i. IsGuess g i t) (sym (notice t other)) (others (slot_at slots t).notice t (fresh t within was) (λ e. omega (arith, e, within, h.small)) (h.led t within was)))
          (cases_eq t s);
    }
