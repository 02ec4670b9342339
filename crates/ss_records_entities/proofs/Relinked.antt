-- What holds once an entity is linked into a set, or out of it.
use Rattle.std.proofs.Common.{◌≡◌, ℕ, ◌+◌, ◌-◌, ◌==◌, List, ◌∷◌, ◌++◌, length, slice_get, Some, ◌⊎◌, inl, inr, refl, sym, subst}
use denote.RawPtr.{Ptr}
use Rattle.ss_records_entities.proofs.Common.{after_in, ArePartsKept, AreShowing, AreSpared, before_in, by_same, Cells, counter, Directory, entity_at, head0, hooked, in_left, in_mid, IsEntityOf, IsInList, IsNotInList, IsOfName, IsRewired, last_or, Layout, link, linked_in, MayOwn, Members, members_of, owner_at, put_word, rewired, SetLayout, Slots, slots_of, state_of, unlinked_in, with_list, with_list_of, with_members, words_of}
use Rattle.ss_records_entities.proofs.Listed.{members_with, members_other}
use Rattle.ss_records_words.proofs.Disjoint.{grounds, spares_none, spares_put}
use Rattle.ss_records_entities.proofs.Linking.{any_linked, any_unlinked}
use Rattle.ss_records_entities.proofs.LinkWrites.{any_rewired_is}
use Rattle.ss_records_entities.proofs.Spared.{with_classes, kept_spared, records_spared, permanents_spared}

module _ (l : Layout) (cs : Cells) (sys : Ptr) (d : Directory) (ms : List Members) (K : ArePartsKept l cs sys d ms) (s : ℕ) (t : SetLayout) (g : slice_get l.sets s ≡ Some t) (o x : ℕ) (xs ys : List ℕ) (lo : MayOwn cs d t.owner o) where
  abbrev at : ℕ → Ptr
  at = entity_at sys d t.member

  abbrev home : ℕ → Ptr
  home = owner_at sys d t.owner

  abbrev w : Slots
  w = slots_of l s t

  abbrev f : ℕ → List ℕ
  f = members_of ms s

  abbrev a : ℕ
  a = last_or 0 xs

  abbrev b : ℕ
  b = head0 ys

  abbrev Of : Ptr → ℕ → Type 0
  Of = IsOfName l cs sys d s t

  -- the writes of the name
  at_member : (y k : ℕ) → IsEntityOf cs d t.member y → (k ≡ w.next) ⊎ ((k ≡ w.prev) ⊎ (k ≡ w.owner)) → Of (at y) k
  at_member y k h m = inl (y, h, refl, m)

  at_owner : (k : ℕ) → (k ≡ w.first) ⊎ ((k ≡ w.last) ⊎ (k ≡ w.count)) → Of (home o) k
  at_owner k m = inr (o, lo, refl, m)

  hook : (ds : Cells) (e k : ℕ) (j : ℕ) (z : Ptr) → AreSpared Of cs ds → Of (home o) k → ((e ≡ 0 → ⊥) → Of (at e) j) → AreSpared Of cs (hooked (e == 0) ds (home o) k (at e) j z)
  hook ds e k j z h own near = by_same e 0
      (λ i q. rw i (spares_put Of cs ds (home o) k (link z) h own))
      (λ i n. rw i (spares_put Of cs ds (at e) j (link z) h (near n)))

  shown : (ds : Cells) (us : List ℕ) → AreSpared Of cs ds → AreShowing (words_of w ds at home) at home (IsEntityOf cs d t.member) (MayOwn cs d t.owner) (with_list f o us) → ArePartsKept l ds sys d (with_members ms s o us)
  shown ds us h n =
      let e : members_of (with_members ms s o us) s ≡ with_list f o us = λ i p. members_with ms s o us p i in
      kept_spared l cs sys d ms K s t g ds h (with_members ms s o us)
      (subst (λ z. AreShowing (words_of w ds at home) at home (IsEntityOf ds d t.member) (MayOwn ds d t.owner) z) (sym e) (with_classes l cs sys d ms K s t g ds h s t (words_of w ds at home) (with_list f o us) n))
      (λ r p n. members_other ms s o us r p n)

  relisted : (ds : Cells) (us : List ℕ) → AreSpared Of cs ds → state_of l ds d (with_members ms s o us) ≡ with_list_of (state_of l cs d ms) s o us
  relisted ds us h =
      let one = records_spared l cs sys d ms K s t g ds h in let two = permanents_spared l cs sys d ms K s t g ds h in
      λ i. record (state_of l cs d ms) { records = one i; permanents = two i; lists = with_members ms s o us }

  -- what is written of x and its neighbours
  module _ (lx : IsEntityOf cs d t.member x) (la : (a ≡ 0 → ⊥) → IsEntityOf cs d t.member a) (lb : (b ≡ 0 → ⊥) → IsEntityOf cs d t.member b) (nx px ox na pb : Ptr) (n : ℕ) where
    spares : AreSpared Of cs (rewired w cs (home o) (at a) (a == 0) (at x) (at b) (b == 0) nx px ox na pb n)
    spares =
        let s1 = spares_put Of cs cs (at x) w.next (link nx) (spares_none Of cs) (at_member x w.next lx (inl refl)) in
        let c1 = put_word cs (at x) w.next (link nx) in
        let s2 = spares_put Of cs c1 (at x) w.prev (link px) s1 (at_member x w.prev lx (inr (inl refl))) in
        let c2 = put_word c1 (at x) w.prev (link px) in
        let s3 = spares_put Of cs c2 (at x) w.owner (link ox) s2 (at_member x w.owner lx (inr (inr refl))) in
        let c3 = put_word c2 (at x) w.owner (link ox) in
        let s4 = hook c3 a w.first w.next na s3 (at_owner w.first (inl refl)) (λ e. at_member a w.next (la e) (inl refl)) in
        let c4 = hooked (a == 0) c3 (home o) w.first (at a) w.next na in
        let s5 = hook c4 b w.last w.prev pb s4 (at_owner w.last (inr (inl refl))) (λ e. at_member b w.prev (lb e) (inr (inl refl))) in
        let c5 = hooked (b == 0) c4 (home o) w.last (at b) w.prev pb in
        spares_put Of cs c5 (home o) w.count (counter n) s5 (at_owner w.count (inr (inr refl)))

    written : IsRewired (words_of w cs at home) (words_of w (rewired w cs (home o) (at a) (a == 0) (at x) (at b) (b == 0) nx px ox na pb n) at home) at home (IsEntityOf cs d t.member) (MayOwn cs d t.owner) o a x b nx px ox na pb n
    written = any_rewired_is w cs at home (IsEntityOf cs d t.member) (MayOwn cs d t.owner) (grounds l cs sys d ms K s t g) o a x b nx px ox na pb n lo lx la lb

  -- linked in between xs and ys
  module _ (lx : IsEntityOf cs d t.member x) (some : 0 ≡ x → ⊥) (was : f o ≡ xs ++ ys) (free : (p : ℕ) → IsNotInList x (f p)) where
    abbrev ds : Cells
    ds = linked_in w cs (home o) (at a) (a == 0) (at x) (at b) (b == 0) (length (f o))

    near : (y : ℕ) → (y ≡ 0 → ⊥) → IsInList y (xs ++ ys) → IsEntityOf cs d t.member y
    near y n h = ((K.names s t g).members o y (subst (IsInList y) (sym was) h)).0

    pub la : (a ≡ 0 → ⊥) → IsEntityOf cs d t.member a
    la n = near a n (before_in a xs ys refl (λ e. n (sym e)))

    pub lb : (b ≡ 0 → ⊥) → IsEntityOf cs d t.member b
    lb n = near b n (after_in b xs ys refl (λ e. n (sym e)))

    pub kept_linked : ArePartsKept l ds sys d (with_members ms s o (xs ++ x ∷ ys))
    kept_linked = shown ds (xs ++ x ∷ ys) (spares lx la lb (at b) (at a) (home o) (at x) (at x) (length (f o) + 1))
        (any_linked (words_of w cs at home) (words_of w ds at home) at home (IsEntityOf cs d t.member) (MayOwn cs d t.owner) f o x xs ys (K.names s t g) was lx some lo free
        (written lx la lb (at b) (at a) (home o) (at x) (at x) (length (f o) + 1)))

    pub state_linked : state_of l ds d (with_members ms s o (xs ++ x ∷ ys)) ≡ with_list_of (state_of l cs d ms) s o (xs ++ x ∷ ys)
    state_linked = relisted ds (xs ++ x ∷ ys) (spares lx la lb (at b) (at a) (home o) (at x) (at x) (length (f o) + 1))

  -- linked out from between xs and ys
  module _ (was : f o ≡ xs ++ x ∷ ys) where
    abbrev es : Cells
    es = unlinked_in w cs (home o) (at a) (a == 0) (at x) (at b) (b == 0) (length (f o))

    its : (y : ℕ) → IsInList y (xs ++ x ∷ ys) → IsEntityOf cs d t.member y
    its y h = ((K.names s t g).members o y (subst (IsInList y) (sym was) h)).0

    pub lx' : IsEntityOf cs d t.member x
    lx' = its x (in_mid xs x ys)

    pub la' : (a ≡ 0 → ⊥) → IsEntityOf cs d t.member a
    la' n = its a (in_left a xs x ys (before_in a xs ys refl (λ e. n (sym e))))

    pub lb' : (b ≡ 0 → ⊥) → IsEntityOf cs d t.member b
    lb' n = its b (in_left b xs x ys (after_in b xs ys refl (λ e. n (sym e))))

    pub kept_unlinked : ArePartsKept l es sys d (with_members ms s o (xs ++ ys))
    kept_unlinked = shown es (xs ++ ys) (spares lx' la' lb' (at x) (at x) (at x) (at b) (at a) (length (f o) - 1))
        (any_unlinked (words_of w cs at home) (words_of w es at home) at home (IsEntityOf cs d t.member) (MayOwn cs d t.owner) f o x xs ys (K.names s t g) was
        (written lx' la' lb' (at x) (at x) (at x) (at b) (at a) (length (f o) - 1)))

    pub state_unlinked : state_of l es d (with_members ms s o (xs ++ ys)) ≡ with_list_of (state_of l cs d ms) s o (xs ++ ys)
    state_unlinked = relisted es (xs ++ ys) (spares lx' la' lb' (at x) (at x) (at x) (at b) (at a) (length (f o) - 1))
