-- What the writes of a filing or a removal do to the words of the set name, at any slots.
use Rattle.std.proofs.Common.{◌≡◌, ℕ, ◌<◌, cond, ◌==◌, length, sym, ap, subst, ◌∙◌}
use denote.RawPtr.{Ptr}
use Rattle.ss_records_entities.proofs.Common.{AreSlotsApart, Cells, counter, hooked, IsOfMember, IsOfOwner, IsRewired, length_put, link, put_other, put_word, rewired, Slots, word_at, words_at, words_of}
use Rattle.ss_records_entities.proofs.Hooks.{put_here, of_next, of_prev, of_owner, of_first, of_last, of_count, Hooked, hooks}

module _ (w : Slots) (cs : Cells) (at home : ℕ → Ptr) (alive owns : ℕ → Type 0) (g : AreSlotsApart w cs at home alive owns) (o a x b : ℕ) (nx px ox na pb : Ptr) (n : ℕ) (lo : owns o) (lx : alive x) (la : (a ≡ 0 → ⊥) → alive a) (lb : (b ≡ 0 → ⊥) → alive b) where
  abbrev c1 : Cells
  c1 = put_word cs (at x) w.next (link nx)

  abbrev c2 : Cells
  c2 = put_word c1 (at x) w.prev (link px)

  abbrev c3 : Cells
  c3 = put_word c2 (at x) w.owner (link ox)

  abbrev c4 : Cells
  c4 = hooked (a == 0) c3 (home o) w.first (at a) w.next na

  abbrev c5 : Cells
  c5 = hooked (b == 0) c4 (home o) w.last (at b) w.prev pb

  abbrev ds : Cells
  ds = rewired w cs (home o) (at a) (a == 0) (at x) (at b) (b == 0) nx px ox na pb n

  len3 : (q : Ptr) → length (words_at c3 q) ≡ length (words_at cs q)
  len3 q = length_put c2 (at x) w.owner (link ox) q ∙ length_put c1 (at x) w.prev (link px) q ∙ length_put cs (at x) w.next (link nx) q

  hooks_are : Hooked w c3 c5 at home alive owns o a b na pb
  hooks_are = hooks w cs c3 at home alive owns g o a b na pb len3 lo la lb

  -- words of members, which the count of the owner leaves
  m6 : (y k : ℕ) → alive y → IsOfMember w k → word_at ds (at y) k ≡ word_at c5 (at y) k
  m6 y k h m = put_other c5 (home o) w.count (counter n) (at y) k (λ e i. g.crossed y o k w.count h lo m (of_count w) (sym e) (sym i))

  -- words of owners: the writes at members leave them
  o3 : (p k : ℕ) → owns p → IsOfOwner w k → word_at c3 (home p) k ≡ word_at cs (home p) k
  o3 p k h m = put_other c2 (at x) w.owner (link ox) (home p) k (λ e i. g.crossed x p w.owner k lx h (of_owner w) m e i)
      ∙ put_other c1 (at x) w.prev (link px) (home p) k (λ e i. g.crossed x p w.prev k lx h (of_prev w) m e i) ∙ put_other cs (at x) w.next (link nx) (home p) k (λ e i. g.crossed x p w.next k lx h (of_next w) m e i)

  room1 : (y k : ℕ) → alive y → IsOfMember w k → k < length (words_at c1 (at y))
  room1 y k h m = subst (λ z. k < z) (sym (length_put cs (at x) w.next (link nx) (at y))) (g.member_room y k h m)

  room2 : (y k : ℕ) → alive y → IsOfMember w k → k < length (words_at c2 (at y))
  room2 y k h m = subst (λ z. k < z) (sym (length_put c1 (at x) w.prev (link px) (at y))) (room1 y k h m)

  pub any_rewired_is : IsRewired (words_of w cs at home) (words_of w ds at home) at home alive owns o a x b nx px ox na pb n
  any_rewired_is = record {
    next = λ y h pos. m6 y w.next h (of_next w) ∙ hooks_are.next y h pos ∙ ap (λ v. cond (a == y) (link na) v)
        (put_other c2 (at x) w.owner (link ox) (at y) w.next (λ e i. g.next_owner (sym i)) ∙ put_other c1 (at x) w.prev (link px) (at y) w.next (λ e i. g.next_prev (sym i))
        ∙ put_here at cs x y w.next (link nx) (g.members_apart x y lx h) (g.member_room y w.next h (of_next w)));
    prev = λ y h pos. m6 y w.prev h (of_prev w) ∙ hooks_are.prev y h pos ∙ ap (λ v. cond (b == y) (link pb) v) (put_other c2 (at x) w.owner (link ox) (at y) w.prev (λ e i. g.prev_owner (sym i))
        ∙ put_here at c1 x y w.prev (link px) (g.members_apart x y lx h) (room1 y w.prev h (of_prev w)) ∙ ap (λ v. cond (x == y) (link px) v) (put_other cs (at x) w.next (link nx) (at y) w.prev (λ e i. g.next_prev i)));
    owner = λ y h. m6 y w.owner h (of_owner w) ∙ hooks_are.owner y h ∙ put_here at c2 x y w.owner (link ox) (g.members_apart x y lx h) (room2 y w.owner h (of_owner w))
        ∙ ap (λ v. cond (x == y) (link ox) v) (put_other c1 (at x) w.prev (link px) (at y) w.owner (λ e i. g.prev_owner i) ∙ put_other cs (at x) w.next (link nx) (at y) w.owner (λ e i. g.next_owner i));
    first = λ p h. put_other c5 (home o) w.count (counter n) (home p) w.first (λ e i. g.first_count (sym i)) ∙ hooks_are.first p h
        ∙ ap (λ v. cond (a == 0) (cond (o == p) (link na) v) v) (o3 p w.first h (of_first w));
    last = λ p h. put_other c5 (home o) w.count (counter n) (home p) w.last (λ e i. g.last_count (sym i)) ∙ hooks_are.last p h
        ∙ ap (λ v. cond (b == 0) (cond (o == p) (link pb) v) v) (o3 p w.last h (of_last w));
    count = λ p h. put_here home c5 o p w.count (counter n) (g.owners_apart o p lo h) (subst (λ m. w.count < m) (sym (hooks_are.room (home p) ∙ len3 (home p))) (g.owner_room p w.count h (of_count w)))
        ∙ ap (λ v. cond (o == p) (counter n) v) (hooks_are.count p h ∙ o3 p w.count h (of_count w));
  }
