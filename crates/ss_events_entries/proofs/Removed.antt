-- A follower goes out: the slots once its slot is free.
use Rattle.std.proofs.Common.{◌≡◌, ◌≢◌, ◌⊎◌, ℕ, ◌+◌, ◌-◌, ◌<◌, ◌≤◌, ℤ, cond, List, ◌∷◌, length, refl, sym, ap, subst, ◌∙◌, ⊎_elim, inl, inr, arith, if◌then◌else◌}
use Rattle.std.specs.Prelude.{◌==◌}
use Rattle.ss_events_entries.proofs.Common.{AreHeld, at_put, cases_eq, Entry, entry_at, followers, following, heads, HeapNode, IsBefore, IsGuess, IsPermutation, IsTaken, length-set, Mark, next_put, no_slot, node, Slot, slot_at, SlotDirectory}
use Rattle.ss_events_entries.proofs.HeadsAndFollowers.{slot_at-same, slot_at-other, same_heads, follower, followers-kept, followers-left, followers-next_put}
use Rattle.ss_events_entries.proofs.Released.{freed, freed-same, freed-other, freed-long, room_of_follower}
use Rattle.std.proofs.lemmas.Bool.{eq-eqb, ne_eqb}
use Rattle.ss_events_entries.proofs.Parts.{taken_as, not_taken, unplaced, at_put_same, next_put_same, entry_as, ArePlaced, there_by, back_by, marked_by, AreLined, next_by, before_as, held_of, noted_kept, led_without}

-- a line without the one between two
abbrev pub close : List Slot → ℕ → ℕ → List Slot
close xs before next = if next == no_slot then next_put xs before next else at_put (next_put xs before next) next (following + before)

module _ (count free : ℕ) (slots : List Slot) (wholes : List Entry) (nodes : List HeapNode) (d : SlotDirectory) (h : AreHeld count free slots wholes nodes d) where
  module _ (s : ℕ) (s_in : s < length slots) (s_follows : following ≤ (slot_at slots s).at) where
    -- the one before it
    abbrev pub before : ℕ
    before = (slot_at slots s).at - following

    -- the one after it
    abbrev pub after : ℕ
    after = (slot_at slots s).next

    -- the place that it gets
    abbrev pub place : ℕ
    place = count + free

    room : place < length nodes
    room = room_of_follower count free slots wholes nodes d h s s_in s_follows

    place_apart : place < following
    place_apart = omega (arith, room, h.many, h.small)

    at_is : (slot_at slots s).at ≡ following + before
    at_is = omega (arith, s_follows)

    pub is_before : IsBefore count slots before s
    is_before = h.before s before s_in at_is

    pub s_taken : IsTaken count (slot_at slots s)
    s_taken = inr s_follows

    pub before_in : before < length slots
    before_in = is_before.within

    before_other : before ≢ s
    before_other e = omega (arith, is_before.order, ap (λ t. (slot_at slots t).mark.order) e)

    pub after_there : after ≢ no_slot → (after < length slots) × ((slot_at slots after).at ≡ following + s)
    after_there real = h.next s s_in s_taken real

    after_other : after ≢ no_slot → after ≢ s
    after_other real e = before_other (omega (arith, at_is, (after_there real).1, ap (λ t. (slot_at slots t).at) e))

    -- the line without it
    abbrev pub joined : List Slot
    joined = next_put slots before after

    abbrev pub closed : List Slot
    closed = close slots before after

    closed_none : after ≡ no_slot → closed ≡ joined
    closed_none e = ap (λ b. cond b joined (at_put joined after (following + before))) (eq-eqb after no_slot e)

    closed_some : after ≢ no_slot → closed ≡ at_put joined after (following + before)
    closed_some real = ap (λ b. cond b joined (at_put joined after (following + before))) (ne_eqb after no_slot real)

    -- what holds whether there is one after it or not
    closed_by : (P : List Slot → Type 0) → (after ≡ no_slot → P joined) → (after ≢ no_slot → P (at_put joined after (following + before))) → P closed
    closed_by P without with_one = ⊎_elim (λ e. subst P (sym (closed_none e)) (without e)) (λ real. subst P (sym (closed_some real)) (with_one real)) (cases_eq after no_slot)

    joined_long : length joined ≡ length slots
    joined_long = length-set slots before (record (slot_at slots before) { next = after })

    after_in : after ≢ no_slot → after < length joined
    after_in real = omega (arith, (after_there real).0, joined_long)

    pub closed_long : length closed ≡ length slots
    closed_long = closed_by (λ l. length l ≡ length slots) (λ _. joined_long) (λ _. length-set joined after (record (slot_at joined after) { at = following + before }) ∙ joined_long)

    closed_in : s < length closed
    closed_in = omega (arith, s_in, closed_long)

    -- the slots then
    abbrev pub left : List Slot
    left = at_put closed s place

    pub left_long : length left ≡ length slots
    left_long = length-set closed s (record (slot_at closed s) { at = place }) ∙ closed_long

    left_joined : (t : ℕ) → unplaced (slot_at left t) ≡ unplaced (slot_at joined t)
    left_joined t =
        at_put_same closed s place t closed_in
        ∙ closed_by (λ l. unplaced (slot_at l t) ≡ unplaced (slot_at joined t)) (λ _. refl) (λ real. at_put_same joined after (following + before) t (after_in real))

    left_mark : (t : ℕ) → (slot_at left t).mark ≡ (slot_at slots t).mark
    left_mark t = ap (λ (x : Slot). x.mark) (left_joined t) ∙ ap (λ (x : Slot). x.mark) (next_put_same slots before after t before_in)

    left_notice : (t : ℕ) → (slot_at left t).notice ≡ (slot_at slots t).notice
    left_notice t = ap (λ (x : Slot). x.notice) (left_joined t) ∙ ap (λ (x : Slot). x.notice) (next_put_same slots before after t before_in)

    -- what comes after each
    next_before : (slot_at left before).next ≡ after
    next_before = ap (λ (x : Slot). x.next) (left_joined before) ∙ ap (λ (x : Slot). x.next) (slot_at-same slots before (record (slot_at slots before) { next = after }) before_in)

    next_other : (t : ℕ) → t ≢ before → (slot_at left t).next ≡ (slot_at slots t).next
    next_other t other = ap (λ (x : Slot). x.next) (left_joined t) ∙ ap (λ (x : Slot). x.next) (slot_at-other slots before t (record (slot_at slots before) { next = after }) other)

    -- where each is
    left_at : (slot_at left s).at ≡ place
    left_at = ap (λ (x : Slot). x.at) (slot_at-same closed s (record (slot_at closed s) { at = place }) closed_in)

    at_after : after ≢ no_slot → (slot_at left after).at ≡ following + before
    at_after real =
        ap (λ (x : Slot). x.at) (slot_at-other closed s after (record (slot_at closed s) { at = place }) (after_other real))
        ∙ closed_by (λ l. (slot_at l after).at ≡ following + before) (λ none. absurd (real none))
        (λ _. ap (λ (x : Slot). x.at) (slot_at-same joined after (record (slot_at joined after) { at = following + before }) (after_in real)))

    at_other : (t : ℕ) → t ≢ s → (after ≢ no_slot → t ≢ after) → (slot_at left t).at ≡ (slot_at slots t).at
    at_other t other apart =
        let same : (slot_at joined t).at ≡ (slot_at slots t).at = ap (λ (x : Slot). x.at) (next_put_same slots before after t before_in) in
        ap (λ (x : Slot). x.at) (slot_at-other closed s t (record (slot_at closed s) { at = place }) other)
        ∙ closed_by (λ l. (slot_at l t).at ≡ (slot_at slots t).at) (λ _. same)
        (λ real. ap (λ (x : Slot). x.at) (slot_at-other joined after t (record (slot_at joined after) { at = following + before }) (apart real)) ∙ same)

    is_after : (t : ℕ) → ((after ≢ no_slot) × (t ≡ after)) ⊎ (after ≢ no_slot → t ≢ after)
    is_after t = ⊎_elim
        (λ none. inr (λ real. absurd (real none)))
        (λ real. ⊎_elim (λ e. inl (real, e)) (λ apart. inr (λ _. apart)) (cases_eq t after))
        (cases_eq after no_slot)

    -- in the same place, or after another one as before
    at_left : (t : ℕ) → t ≢ s → ((slot_at left t).at ≡ (slot_at slots t).at) ⊎ ((following ≤ (slot_at left t).at) × (following ≤ (slot_at slots t).at))
    at_left t other = ⊎_elim
        (λ a. inr (omega (arith, ap (λ u. (slot_at left u).at) a.1, at_after a.0), omega (arith, (after_there a.0).1, ap (λ u. (slot_at slots u).at) a.1)))
        (λ apart. inl (at_other t other apart))
        (is_after t)

    taken_same : (t : ℕ) → t ≢ s → IsTaken count (slot_at slots t) → IsTaken count (slot_at left t)
    taken_same t other is = ⊎_elim
        (λ e. taken_as count (slot_at left t) (slot_at slots t) e is)
        (λ both. inr both.0)
        (at_left t other)

    left_taken : (t : ℕ) → t < length left → IsTaken count (slot_at left t) → (t < length slots) × (t ≢ s) × IsTaken count (slot_at slots t)
    left_taken t t_in is =
        let other : t ≢ s = (λ e. not_taken count place (slot_at left t) (ap (λ u. (slot_at left u).at) e ∙ left_at) (omega arith) place_apart is) in (
          omega (arith, t_in, left_long),
          other,
          ⊎_elim (λ e. taken_as count (slot_at slots t) (slot_at left t) (sym e) is) (λ both. inr both.1) (at_left t other),
        )

    -- a slot in a place
    left_apart : (t : ℕ) → (slot_at slots t).at < following → (slot_at left t).at ≡ (slot_at slots t).at
    left_apart t lt = ⊎_elim
        (λ e. e)
        (λ both. absurd (omega (arith, both.1, lt)))
        (at_left t (λ e. omega (arith, s_follows, lt, ap (λ u. (slot_at slots u).at) e)))

    abbrev pub left_nodes : List HeapNode
    left_nodes = freed nodes place s

    placed : ArePlaced count (free + 1) left left_nodes
    placed = record {
      many = freed-long nodes place s ∙ h.many ∙ sym left_long;
      few = omega (arith, room, freed-long nodes place s);
      small = omega (arith, left_long, h.small);
      there = λ k k_in. ⊎_elim
          (λ e. there_by left left_nodes k s (ap (λ j. (node left_nodes j).slot) e ∙ freed-same nodes place s room) (omega (arith, s_in, left_long)) (left_at ∙ sym e))
          (λ other.
          let was = h.there k (omega (arith, k_in, other)) in
          there_by left left_nodes k (node nodes k).slot (ap (λ (x : HeapNode). x.slot) (freed-other nodes place s k other)) (omega (arith, was.0, left_long))
          (left_apart (node nodes k).slot (omega (arith, was.1, k_in, other, place_apart)) ∙ was.1))
          (cases_eq k place);
      back = λ t t_in lt. ⊎_elim
          (λ e.
          let here : (slot_at left t).at ≡ place = ap (λ u. (slot_at left u).at) e ∙ left_at in
          back_by (count + (free + 1)) left left_nodes t place here (omega arith) (freed-same nodes place s room ∙ sym e))
          (λ other. ⊎_elim
          (λ same.
          let was = h.back t (omega (arith, t_in, left_long)) (omega (arith, lt, same)) in
          back_by (count + (free + 1)) left left_nodes t (slot_at slots t).at same (omega (arith, was.0))
          (ap (λ (x : HeapNode). x.slot) (freed-other nodes place s (slot_at slots t).at (λ e. omega (arith, e, was.0))) ∙ was.1))
          (λ both. absurd (omega (arith, both.0, lt)))
          (at_left t other))
          (cases_eq t s);
      marked = λ k k_in. marked_by slots left nodes left_nodes k k (freed-other nodes place s k (λ e. omega (arith, e, k_in))) (left_mark (node nodes k).slot) (h.marked k k_in);
    }

    next_left : (t : ℕ) → t < length left → IsTaken count (slot_at left t) → (slot_at left t).next ≢ no_slot → ((slot_at left t).next < length left) × ((slot_at left (slot_at left t).next).at ≡ following + t)
    next_left t t_in is real =
        let was = left_taken t t_in is in
        ⊎_elim
        (λ b.
        let e : (slot_at left t).next ≡ after = ap (λ u. (slot_at left u).next) b ∙ next_before in
        let after_real : after ≢ no_slot = (λ none. real (e ∙ none)) in
        next_by left t after e (omega (arith, (after_there after_real).0, left_long)) (at_after after_real ∙ ap (λ u. following + u) (sym b)))
        (λ apart.
        let e = next_other t apart in
        let u = (slot_at slots t).next in
        let it = h.next t was.0 was.2 (λ none. real (e ∙ none)) in
        let u_other : u ≢ s = (λ is. apart (omega (arith, at_is, it.1, ap (λ v. (slot_at slots v).at) is))) in
        next_by left t u e (omega (arith, it.0, left_long))
        (at_other u u_other (λ some is. was.1 (omega (arith, (after_there some).1, it.1, ap (λ v. (slot_at slots v).at) is))) ∙ it.1))
        (cases_eq t before)

    before_left : (t r : ℕ) → t < length left → (slot_at left t).at ≡ following + r → IsBefore count left r t
    before_left t r t_in at =
        let within : t < length slots = omega (arith, t_in, left_long) in
        let other : t ≢ s = (λ e. omega (arith, at, ap (λ u. (slot_at left u).at) e ∙ left_at, place_apart)) in
        ⊎_elim
        (λ a.
        let of_after = h.before after s (after_there a.0).0 (after_there a.0).1 in
        let r_is : r ≡ before = omega (arith, at, ap (λ u. (slot_at left u).at) a.1, at_after a.0) in
        let it : IsBefore count left before after = record {
          within = omega (arith, before_in, left_long);
          taken = taken_same before before_other is_before.taken;
          next = next_before;
          time = ap (λ (m : Mark). m.time) (left_mark before) ∙ is_before.time ∙ of_after.time ∙ sym (ap (λ (m : Mark). m.time) (left_mark after));
          order = omega (arith, is_before.order, of_after.order, ap (λ (m : Mark). m.order) (left_mark before), ap (λ (m : Mark). m.order) (left_mark after));
          plain = omega (arith, of_after.plain, ap (λ (m : Mark). m.order) (left_mark after));
        } in
        subst (λ u. IsBefore count left r u) (sym a.1) (subst (λ u. IsBefore count left u after) (sym r_is) it))
        (λ apart.
        let b = h.before t r within (sym (at_other t other apart) ∙ at) in
        let r_other : r ≢ s = (λ e.
        let is : after ≡ t = ap (λ u. (slot_at slots u).next) (sym e) ∙ b.next in
        apart (λ none. omega (arith, none, is, within, h.small)) (sym is)) in
        let r_apart : r ≢ before = (λ e. other (sym b.next ∙ ap (λ u. (slot_at slots u).next) e ∙ is_before.next)) in
        before_as count count slots left r t (omega (arith, left_long)) b (taken_same r r_other b.taken) (next_other r r_apart) (left_mark r) (left_mark t))
        (is_after t)

    module _ (g : SlotDirectory) (others : (m : ℤ) (t : ℕ) → m ≢ (slot_at slots s).notice → t ≢ s → IsGuess d m t → IsGuess g m t) where
      -- the slots once it has gone
      pub held-left : AreHeld count (free + 1) left wholes left_nodes g
      held-left =
          let lined : AreLined count left = record { next = next_left; before = before_left } in
          held_of placed lined (noted_kept h count left wholes g s left_taken (λ t _ _. left_mark t) (λ t _ _. left_notice t) (λ t _. refl) (led_without h g s s_in s_taken others))

    -- the same heads
    pub heads-left : heads count left wholes left_nodes ≡ heads count slots wholes nodes
    heads-left =
        same_heads count slots left wholes wholes nodes left_nodes (omega (arith, h.few)) (omega (arith, h.few, freed-long nodes place s))
        (λ k k_in.
        let u = (node nodes k).slot in
        ap (λ (x : HeapNode). entry_at left wholes x.slot) (freed-other nodes place s k (λ e. omega (arith, e, k_in))) ∙ entry_as slots left wholes wholes u (left_mark u) (left_notice u) refl)

    followers_closed : followers closed ≡ followers slots
    followers_closed =
        let same = followers-next_put slots before after before_in in
        closed_by (λ l. followers l ≡ followers slots) (λ _. same)
        (λ real.
        let as_before : (slot_at joined after).at ≡ (slot_at slots after).at = ap (λ (x : Slot). x.at) (next_put_same slots before after after before_in) in
        followers-kept joined after (record (slot_at joined after) { at = following + before }) (after_in real) (omega (arith, (after_there real).1, as_before)) (omega arith) refl ∙ same)

    closed_same : slot_at closed s ≡ slot_at slots s
    closed_same =
        let same = slot_at-other slots before s (record (slot_at slots before) { next = after }) (λ e. before_other (sym e)) in
        closed_by (λ l. slot_at l s ≡ slot_at slots s) (λ _. same)
        (λ real. slot_at-other joined after s (record (slot_at joined after) { at = following + before }) (λ e. after_other real (sym e)) ∙ same)

    -- and one follower less
    pub followers_left : IsPermutation (followers slots) (follower (slot_at slots s) ∷ followers left)
    followers_left =
        subst (λ l. IsPermutation l (follower (slot_at slots s) ∷ followers left)) followers_closed
        (subst (λ x. IsPermutation (followers closed) (follower x ∷ followers left)) closed_same
        (followers-left closed s (record (slot_at closed s) { at = place }) closed_in (omega (arith, s_follows, ap (λ (x : Slot). x.at) closed_same)) place_apart))
