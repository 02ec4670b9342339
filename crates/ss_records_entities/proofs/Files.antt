-- Linking a member into a set and out of it, by the words that are read and written.
use Rattle.std.proofs.Common.{◌≡◌, ℕ, ◌+◌, ◌<◌, ◌==◌, Bool, true, false, List, [], ◌∷◌, ◌++◌, length, slice_get, Some, refl, sym, ap, subst, ◌∙◌, arith}
use Rattle.ss_records_entities.proofs.Common.{above_zero, after_in, AreAllDistinct, AreNeighbours, ArePartsKept, before_in, by_same, CanJoin, Cells, contains, contains_in, distinct_less, entity_at, EntityBlock, false_is_not_true, get_there, HasNeighbours, head0, in_contains, in_left, in_mid, is_filed, IsCounter, IsEntityOf, IsInList, IsInPlace, IsKept, IsLink, IsNotInList, IsOwnerBlock, last_or, less, MayOwn, member_base, member_in, Members, members_of, Memory, nat_eq, not_and_in, not_filed_in, not_in, owner_at, owner_base, owner_in, places, put_before, Records, SetLayout, slots_of, state, state_of, uncounted, with_list_of, with_members, word_at}
use denote.RawPtr.{Ptr}
use Rattle.ss_records_blocks.specs.Links.{linked_in, unlinked_in, slots_at}
use Rattle.ss_records_entities.proofs.Listed.{put_cut, less_cut, not_in_front}
use Rattle.ss_records_entities.proofs.Leading.{is_link, first_to, last_to, is_counter, next_to, prev_to, owner_to, next_self, prev_self, owner_self}
use Rattle.ss_records_entities.proofs.Still.{reads_only, unmoved}
use Rattle.ss_records_entities.proofs.Relinked.{kept_linked, state_linked, kept_unlinked, state_unlinked}

-- a call that only looks, and then a read of the blocks
pub looked : (r p : Records) (b : Memory) → p ≡ record r { blocks = p.blocks } → p.blocks.cells ≡ r.blocks.cells → b.cells ≡ p.blocks.cells → uncounted (record p { blocks = b }) ≡ uncounted r
looked r p b h e k = reads_only p b k ∙ unmoved r p h e

-- what lies between two neighbours still does
pub still_between : (r q : Records) (s o : ℕ) (a b : EntityBlock) (xs ys : List ℕ) → uncounted q ≡ uncounted r → AreNeighbours r s o a b xs ys → AreNeighbours q s o a b xs ys
still_between r q s o a b xs ys h w =
    let v : AreNeighbours (uncounted r) s o a b xs ys = record { list = w.list; before = w.before; last = w.last; after = w.after; first = w.first } in
    let u : AreNeighbours (uncounted q) s o a b xs ys = subst (λ (z : Records). AreNeighbours z s o a b xs ys) (sym h) v in
    record { list = u.list; before = u.before; last = u.last; after = u.after; first = u.first }

pub is_not_zero : (n : ℕ) → (n == 0) ≡ false → n ≡ 0 → ⊥
is_not_zero n e q = by_same n 0 (λ z i. false_is_not_true (sym e ∙ z)) (λ z i. i q)

-- whether x is in the set of o, by the set that has it
pub not_among : (ms : List Members) (s o x : ℕ) → is_filed ms s x ≡ false → contains (members_of ms s o) x ≡ false
not_among ms s o x h = by_case (contains (members_of ms s o) x) refl where
  by_case : (b : Bool) → contains (members_of ms s o) x ≡ b → contains (members_of ms s o) x ≡ false
  by_case false e = e
  by_case true e = absurd (not_and_in x (members_of ms s o) (not_filed_in ms s x h o) (contains_in (members_of ms s o) x e))

pub among_by : (r : Records) (K : IsKept r) (s : ℕ) (inside : s < length r.layout.sets) (o x p : ℕ) → IsInList x (members_of r.notes.lists s p) → nat_eq p o ≡ contains (members_of r.notes.lists s o) x
among_by r K s inside o x p h = by_same p o
    (λ e q. e ∙ sym (in_contains (members_of r.notes.lists s o) x (subst (λ n. IsInList x (members_of r.notes.lists s n)) q h)))
    (λ e n. e ∙ sym (by_case n (contains (members_of r.notes.lists s o) x) refl)) where
      by_case : (p ≡ o → ⊥) → (b : Bool) → contains (members_of r.notes.lists s o) x ≡ b → contains (members_of r.notes.lists s o) x ≡ false
      by_case n false e = e
      by_case n true e = let y = get_there r.layout.sets s inside in absurd (n ((K.names s y.0 y.1).sole p o x h (contains_in (members_of r.notes.lists s o) x e)))

module _ (r : Records) (K : IsKept r) (s : ℕ) (inside : s < length r.layout.sets) (e x : EntityBlock) (h : IsOwnerBlock r s e) (m b : ℕ)
    (mb : (u : SetLayout) → slice_get r.layout.sets s ≡ Some u → m ≡ member_base r.layout s u) (ob : (u : SetLayout) → slice_get r.layout.sets s ≡ Some u → b ≡ owner_base r.layout s u) where
  abbrev cs : Cells
  cs = r.blocks.cells

  abbrev at : ℕ → Ptr
  at = entity_at r.system.at (places r) (get_there r.layout.sets s inside).0.member

  abbrev home : ℕ → Ptr
  home = owner_at r.system.at (places r) (get_there r.layout.sets s inside).0.owner

  abbrev f : ℕ → List ℕ
  f = members_of r.notes.lists s

  abbrev o : ℕ
  o = e.number

  abbrev t : SetLayout
  t = (get_there r.layout.sets s inside).0

  g : slice_get r.layout.sets s ≡ Some t
  g = (get_there r.layout.sets s inside).1

  lo : MayOwn cs (places r) t.owner o
  lo = subst (λ u. MayOwn cs (places r) u o) (ap owner_in g) h.may

  its_home : e.place.at ≡ home o
  its_home = h.lies ∙ ap (λ u. owner_at r.system.at (places r) u o) (ap owner_in g)

  its_place : (z : EntityBlock) → IsInPlace r s z → z.place.at ≡ at z.number
  its_place z lies = lies ∙ ap (λ c. entity_at r.system.at (places r) c z.number) (ap member_in g)

  pub owner_words : IsLink (word_at cs e.place.at b) × IsLink (word_at cs e.place.at (b + 1)) × IsCounter (word_at cs e.place.at (b + 2))
  owner_words = (
    is_link cs at e.place.at b _ (first_to r.layout cs r.system.at (places r) r.notes.lists K s inside e.place.at o h.lies h.may b ob),
    is_link cs at e.place.at (b + 1) _ (last_to r.layout cs r.system.at (places r) r.notes.lists K s inside e.place.at o h.lies h.may b ob),
    is_counter r.layout cs r.system.at (places r) r.notes.lists K s inside e.place.at o h.lies h.may b ob,
  )

  -- a member of the set has links
  module _ (z : EntityBlock) (lies : IsInPlace r s z) (inn : IsInList z.number (f o)) where
    of_it : IsEntityOf cs (places r) t.member z.number
    of_it = ((K.names s t g).members o z.number inn).0

    its : IsEntityOf cs (places r) (member_in (slice_get r.layout.sets s)) z.number
    its = subst (λ c. IsEntityOf cs (places r) c z.number) (sym (ap member_in g)) of_it

    pub next_link : IsLink (word_at cs z.place.at m)
    next_link = is_link cs at z.place.at m _ (next_to r.layout cs r.system.at (places r) r.notes.lists K s inside z.place.at z.number lies its m mb o inn)

    pub prev_link : IsLink (word_at cs z.place.at (m + 1))
    prev_link = is_link cs at z.place.at (m + 1) _ (prev_to r.layout cs r.system.at (places r) r.notes.lists K s inside z.place.at z.number lies its m mb o inn)

    pub owner_link : IsLink (word_at cs z.place.at (m + 2))
    owner_link = is_link cs home z.place.at (m + 2) _ (owner_to r.layout cs r.system.at (places r) r.notes.lists K s inside z.place.at z.number lies its m mb o inn)

  module _ (j : CanJoin r s x) where
    lx : IsEntityOf cs (places r) t.member x.number
    lx = subst (λ c. IsEntityOf cs (places r) c x.number) (ap member_in g) j.is

    some : 0 ≡ x.number → ⊥
    some = above_zero r.layout cs r.system.at (places r) r.notes.lists K s t g x.number lx

    none0 : (l : List ℕ) → f o ≡ l → IsNotInList 0 l
    none0 l w = not_in 0 l (λ i. ((K.names s t g).members o 0 (subst (IsInList 0) (sym w) i)).1 refl)

    -- into the set
    module _ (free : is_filed r.notes.lists s x.number ≡ false) where
      out : (p : ℕ) → IsNotInList x.number (f p)
      out = not_filed_in r.notes.lists s x.number free

      pub member_words : IsLink (word_at cs x.place.at m) × IsLink (word_at cs x.place.at (m + 1)) × IsLink (word_at cs x.place.at (m + 2))
      member_words = (
        is_link cs at x.place.at m _ (next_self r.layout cs r.system.at (places r) r.notes.lists K s inside x.place.at x.number j.lies j.is m mb out),
        is_link cs at x.place.at (m + 1) _ (prev_self r.layout cs r.system.at (places r) r.notes.lists K s inside x.place.at x.number j.lies j.is m mb out),
        is_link cs at x.place.at (m + 2) _ (owner_self r.layout cs r.system.at (places r) r.notes.lists K s inside x.place.at x.number j.lies j.is m mb out),
      )

      module _ (a z : EntityBlock) (xs ys : List ℕ) (w : AreNeighbours r s o a z xs ys) where
        inner : (y : ℕ) → IsInList y (xs ++ ys) → IsInList y (f o)
        inner y i = subst (IsInList y) (sym w.list) i

        pub before_word : (a.number == 0) ≡ false → IsLink (word_at cs a.place.at m)
        before_word n = next_link a w.before (inner a.number (before_in a.number xs ys (sym w.last) (λ i. is_not_zero a.number n (sym i))))

        pub after_word : (z.number == 0) ≡ false → IsLink (word_at cs z.place.at (m + 1))
        after_word n = prev_link z w.after (inner z.number (after_in z.number xs ys (sym w.first) (λ i. is_not_zero z.number n (sym i))))

        list_is : put_before z.number x.number (f o) ≡ xs ++ x.number ∷ ys
        list_is = (λ i. put_before (w.first i) x.number (w.list i)) ∙ put_cut xs x.number ys (subst AreAllDistinct w.list ((K.names s t g).distinct o)) (none0 (xs ++ ys) w.list)

        module _ (n : ℕ) (count : n ≡ length (f o)) where
          abbrev ds : Cells
          ds = linked_in (slots_at m b) cs e.place.at a.place.at (a.number == 0) x.place.at z.place.at (z.number == 0) n

          cells_are : ds ≡ linked_in (slots_of r.layout s t) cs (home o) (at (last_or 0 xs)) (last_or 0 xs == 0) (at x.number) (at (head0 ys)) (head0 ys == 0) (length (f o))
          cells_are = λ i. linked_in (slots_at (mb t g i) (ob t g i)) cs (its_home i) ((its_place a w.before ∙ ap at w.last) i) (w.last i == 0) (its_place x j.lies i) ((its_place z w.after ∙ ap at w.first) i) (w.first i == 0) (count i)

          pub kept_in : ArePartsKept r.layout ds r.system.at (places r) (with_members r.notes.lists s o (put_before z.number x.number (f o)))
          kept_in = rw (cells_are, list_is) (kept_linked r.layout cs r.system.at (places r) r.notes.lists K s t g o x.number xs ys lo lx some w.list out)

          pub state_in : state_of r.layout ds (places r) (with_members r.notes.lists s o (put_before z.number x.number (f o))) ≡ with_list_of (state r) s o (xs ++ x.number ∷ ys)
          state_in = rw (cells_are, list_is) (state_linked r.layout cs r.system.at (places r) r.notes.lists K s t g o x.number xs ys lo lx some w.list out)

    -- out of the set
    module _ (a z : EntityBlock) (xs ys : List ℕ) (w : HasNeighbours r s o x.number a z xs ys) where
      inner' : (y : ℕ) → IsInList y (xs ++ x.number ∷ ys) → IsInList y (f o)
      inner' y i = subst (IsInList y) (sym w.list) i

      here : IsInList x.number (f o)
      here = inner' x.number (in_mid xs x.number ys)

      pub member_words' : IsLink (word_at cs x.place.at m) × IsLink (word_at cs x.place.at (m + 1)) × IsLink (word_at cs x.place.at (m + 2))
      member_words' = (next_link x j.lies here, prev_link x j.lies here, owner_link x j.lies here)

      pub before_word' : (a.number == 0) ≡ false → IsLink (word_at cs a.place.at m)
      before_word' n = next_link a w.before (inner' a.number (in_left a.number xs x.number ys (before_in a.number xs ys (sym w.last) (λ i. is_not_zero a.number n (sym i)))))

      pub after_word' : (z.number == 0) ≡ false → IsLink (word_at cs z.place.at (m + 1))
      after_word' n = prev_link z w.after (inner' z.number (in_left z.number xs x.number ys (after_in z.number xs ys (sym w.first) (λ i. is_not_zero z.number n (sym i)))))

      pub some_members : (n : ℕ) → n ≡ length (f o) → 0 < n
      some_members n count = positive_length (f o) here n count where
        positive_length : (l : List ℕ) → IsInList x.number l → (n : ℕ) → n ≡ length l → 0 < n
        positive_length [] i n c = absurd i
        positive_length (y ∷ ys) i n c = omega (arith, c)

      list_is' : less x.number (f o) ≡ xs ++ ys
      list_is' = ap (less x.number) w.list ∙ less_cut xs x.number ys (not_in_front x.number xs ys (distinct_less xs x.number ys (subst AreAllDistinct w.list ((K.names s t g).distinct o))).1)

      module _ (n : ℕ) (count : n ≡ length (f o)) where
        abbrev es : Cells
        es = unlinked_in (slots_at m b) cs e.place.at a.place.at (a.number == 0) x.place.at z.place.at (z.number == 0) n

        cells_are' : es ≡ unlinked_in (slots_of r.layout s t) cs (home o) (at (last_or 0 xs)) (last_or 0 xs == 0) (at x.number) (at (head0 ys)) (head0 ys == 0) (length (f o))
        cells_are' = λ i. unlinked_in (slots_at (mb t g i) (ob t g i)) cs (its_home i) ((its_place a w.before ∙ ap at w.last) i) (w.last i == 0) (its_place x j.lies i) ((its_place z w.after ∙ ap at w.first) i) (w.first i == 0) (count i)

        pub kept_out : ArePartsKept r.layout es r.system.at (places r) (with_members r.notes.lists s o (less x.number (f o)))
        kept_out = rw (cells_are', list_is') (kept_unlinked r.layout cs r.system.at (places r) r.notes.lists K s t g o x.number xs ys lo w.list)

        pub state_out : state_of r.layout es (places r) (with_members r.notes.lists s o (less x.number (f o))) ≡ with_list_of (state r) s o (xs ++ ys)
        state_out = rw (cells_are', list_is') (state_unlinked r.layout cs r.system.at (places r) r.notes.lists K s t g o x.number xs ys lo w.list)
