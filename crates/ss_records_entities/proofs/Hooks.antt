-- What the two hooks of a filing or a removal do to the words of the set name, at any slots.
use Rattle.std.proofs.Common.{◌≡◌, ℕ, ◌<◌, true, false, cond, ◌==◌, length, inl, inr, refl, sym, ap, subst, ◌∙◌}
use denote.RawPtr.{Ptr}
use Rattle.ss_records_blocks.proofs.Puts.{length_put, put_other, words_put, ptr_differs, word_with}
use Rattle.ss_records_entities.proofs.Common.{AreSlotsApart, by_same, differs, hooked, IsOfMember, IsOfOwner, same, Slots}
use Rattle.ss_records_blocks.specs.Cells.{Cells, link, put_word, Word, word_at, words_at, same_ptr}
use Rattle.ss_records_blocks.proofs.Numbers.{same_ptr_refl}

-- a word that is written, at places that are distinguished by numbers
pub put_here : (at : ℕ → Ptr) (cs : Cells) (x y k : ℕ) (v : Word) → (at x ≡ at y → x ≡ y) → k < length (words_at cs (at y))
    → word_at (put_word cs (at x) k v) (at y) k ≡ cond (x == y) v (word_at cs (at y) k)
put_here at cs x y k v apart room = by_same x y
    (λ e q. rw (words_put cs (at x) k v (at y), e, subst (λ z. same_ptr (at x) (at z) ≡ true) q (same_ptr_refl (at x)), word_with (words_at cs (at y)) k v k room, same k) refl)
    (λ e n. rw (words_put cs (at x) k v (at y), e, ptr_differs (at x) (at y) (λ q. n (apart q))) refl)

pub of_next : (w : Slots) → IsOfMember w w.next
of_next w = inl refl

pub of_prev : (w : Slots) → IsOfMember w w.prev
of_prev w = inr (inl refl)

pub of_owner : (w : Slots) → IsOfMember w w.owner
of_owner w = inr (inr refl)

pub of_first : (w : Slots) → IsOfOwner w w.first
of_first w = inl refl

pub of_last : (w : Slots) → IsOfOwner w w.last
of_last w = inr (inl refl)

pub of_count : (w : Slots) → IsOfOwner w w.count
of_count w = inr (inr refl)

-- ds is cs once i is hooked to a, or to the first word of o, and then j to b, or to the last word of o
pub record Hooked (w : Slots) (cs ds : Cells) (at home : ℕ → Ptr) (alive owns : ℕ → Type 0) (o a b : ℕ) (i j : Ptr) : Type 0 where
  pub next : (y : ℕ) → alive y → (0 ≡ y → ⊥) → word_at ds (at y) w.next ≡ cond (a == y) (link i) (word_at cs (at y) w.next)
  pub prev : (y : ℕ) → alive y → (0 ≡ y → ⊥) → word_at ds (at y) w.prev ≡ cond (b == y) (link j) (word_at cs (at y) w.prev)
  pub owner : (y : ℕ) → alive y → word_at ds (at y) w.owner ≡ word_at cs (at y) w.owner
  pub first : (p : ℕ) → owns p → word_at ds (home p) w.first ≡ cond (a == 0) (cond (o == p) (link i) (word_at cs (home p) w.first)) (word_at cs (home p) w.first)
  pub last : (p : ℕ) → owns p → word_at ds (home p) w.last ≡ cond (b == 0) (cond (o == p) (link j) (word_at cs (home p) w.last)) (word_at cs (home p) w.last)
  pub count : (p : ℕ) → owns p → word_at ds (home p) w.count ≡ word_at cs (home p) w.count
  pub room : (q : Ptr) → length (words_at ds q) ≡ length (words_at cs q)

-- the hooks at blocks of the same lengths as those of `cs`
module _ (w : Slots) (cs c1 : Cells) (at home : ℕ → Ptr) (alive owns : ℕ → Type 0) (g : AreSlotsApart w cs at home alive owns) (o a b : ℕ) (i j : Ptr) (len1 : (q : Ptr) → length (words_at c1 q) ≡ length (words_at cs q)) (lo : owns o) (la : (a ≡ 0 → ⊥) → alive a) (lb : (b ≡ 0 → ⊥) → alive b) where
  abbrev c2 : Cells
  c2 = hooked (a == 0) c1 (home o) w.first (at a) w.next i

  abbrev c3 : Cells
  c3 = hooked (b == 0) c2 (home o) w.last (at b) w.prev j

  len2 : (q : Ptr) → length (words_at c2 q) ≡ length (words_at c1 q)
  len2 q = elim (a == 0) as (λ t. length (words_at (hooked t c1 (home o) w.first (at a) w.next i) q) ≡ length (words_at c1 q)) [ true ↦ length_put c1 (home o) w.first (link i) q | false ↦ length_put c1 (at a) w.next (link i) q ]

  len3 : (q : Ptr) → length (words_at c3 q) ≡ length (words_at c2 q)
  len3 q = elim (b == 0) as (λ t. length (words_at (hooked t c2 (home o) w.last (at b) w.prev j) q) ≡ length (words_at c2 q)) [ true ↦ length_put c2 (home o) w.last (link j) q | false ↦ length_put c2 (at b) w.prev (link j) q ]

  member_room : (y k : ℕ) → alive y → IsOfMember w k → k < length (words_at c1 (at y))
  member_room y k h m = subst (λ n. k < n) (sym (len1 (at y))) (g.member_room y k h m)

  owner_room : (p k : ℕ) → owns p → IsOfOwner w k → k < length (words_at c1 (home p))
  owner_room p k h m = subst (λ n. k < n) (sym (len1 (home p))) (g.owner_room p k h m)

  -- words of members
  m3 : (y k : ℕ) → alive y → IsOfMember w k → (w.prev ≡ k → ⊥) → word_at c3 (at y) k ≡ word_at c2 (at y) k
  m3 y k h m ne = (elim (b == 0) as (λ t. word_at (hooked t c2 (home o) w.last (at b) w.prev j) (at y) k ≡ word_at c2 (at y) k) [
    | true ↦ put_other c2 (home o) w.last (link j) (at y) k (λ d e. g.crossed y o k w.last h lo m (of_last w) (sym d) (sym e))
    | false ↦ put_other c2 (at b) w.prev (link j) (at y) k (λ d e. ne e)
  ])

  m2 : (y k : ℕ) → alive y → IsOfMember w k → (w.next ≡ k → ⊥) → word_at c2 (at y) k ≡ word_at c1 (at y) k
  m2 y k h m ne = (elim (a == 0) as (λ t. word_at (hooked t c1 (home o) w.first (at a) w.next i) (at y) k ≡ word_at c1 (at y) k) [
    | true ↦ put_other c1 (home o) w.first (link i) (at y) k (λ d e. g.crossed y o k w.first h lo m (of_first w) (sym d) (sym e))
    | false ↦ put_other c1 (at a) w.next (link i) (at y) k (λ d e. ne e)
  ])

  hook_a : (y : ℕ) → alive y → (0 ≡ y → ⊥) → word_at c2 (at y) w.next ≡ cond (a == y) (link i) (word_at c1 (at y) w.next)
  hook_a y h pos = by_same a 0
      (λ e q. rw (e, differs a y (λ z. pos (sym q ∙ z))) (put_other c1 (home o) w.first (link i) (at y) w.next (λ d f. g.crossed y o w.next w.first h lo (of_next w) (of_first w) (sym d) (sym f))))
      (λ e q. rw e (put_here at c1 a y w.next (link i) (g.members_apart a y (la q) h) (member_room y w.next h (of_next w))))

  hook_b : (y : ℕ) → alive y → (0 ≡ y → ⊥) → word_at c3 (at y) w.prev ≡ cond (b == y) (link j) (word_at c2 (at y) w.prev)
  hook_b y h pos = by_same b 0
      (λ e q. rw (e, differs b y (λ z. pos (sym q ∙ z))) (put_other c2 (home o) w.last (link j) (at y) w.prev (λ d f. g.crossed y o w.prev w.last h lo (of_prev w) (of_last w) (sym d) (sym f))))
      (λ e q. rw e (put_here at c2 b y w.prev (link j) (g.members_apart b y (lb q) h) (subst (λ n. w.prev < n) (sym (len2 (at y))) (member_room y w.prev h (of_prev w)))))

  -- words of owners
  home_a : (p k : ℕ) → owns p → IsOfOwner w k → (w.first ≡ k → ⊥) → word_at c2 (home p) k ≡ word_at c1 (home p) k
  home_a p k h m ne = by_same a 0
      (λ e q. rw e (put_other c1 (home o) w.first (link i) (home p) k (λ d f. ne f)))
      (λ e q. rw e (put_other c1 (at a) w.next (link i) (home p) k (λ d f. g.crossed a p w.next k (la q) h (of_next w) m d f)))

  home_b : (p k : ℕ) → owns p → IsOfOwner w k → (w.last ≡ k → ⊥) → word_at c3 (home p) k ≡ word_at c2 (home p) k
  home_b p k h m ne = by_same b 0
      (λ e q. rw e (put_other c2 (home o) w.last (link j) (home p) k (λ d f. ne f)))
      (λ e q. rw e (put_other c2 (at b) w.prev (link j) (home p) k (λ d f. g.crossed b p w.prev k (lb q) h (of_prev w) m d f)))

  first_a : (p : ℕ) → owns p → word_at c2 (home p) w.first ≡ cond (a == 0) (cond (o == p) (link i) (word_at c1 (home p) w.first)) (word_at c1 (home p) w.first)
  first_a p h = by_same a 0
      (λ e q. rw e (put_here home c1 o p w.first (link i) (g.owners_apart o p lo h) (owner_room p w.first h (of_first w))))
      (λ e q. rw e (put_other c1 (at a) w.next (link i) (home p) w.first (λ d f. g.crossed a p w.next w.first (la q) h (of_next w) (of_first w) d f)))

  last_b : (p : ℕ) → owns p → word_at c3 (home p) w.last ≡ cond (b == 0) (cond (o == p) (link j) (word_at c1 (home p) w.last)) (word_at c1 (home p) w.last)
  last_b p h = by_same b 0
      (λ e q. rw e (put_here home c2 o p w.last (link j) (g.owners_apart o p lo h) (subst (λ n. w.last < n) (sym (len2 (home p))) (owner_room p w.last h (of_last w))) ∙ ap (λ v. cond (o == p) (link j) v) (home_a p w.last h (of_last w) g.first_last)))
      (λ e q. rw e (put_other c2 (at b) w.prev (link j) (home p) w.last (λ d f. g.crossed b p w.prev w.last (lb q) h (of_prev w) (of_last w) d f) ∙ home_a p w.last h (of_last w) g.first_last))

  pub hooks : Hooked w c1 c3 at home alive owns o a b i j
  hooks = record {
    next = λ y h pos. m3 y w.next h (of_next w) (λ e. g.next_prev (sym e)) ∙ hook_a y h pos;
    prev = λ y h pos. hook_b y h pos ∙ ap (λ v. cond (b == y) (link j) v) (m2 y w.prev h (of_prev w) g.next_prev);
    owner = λ y h. m3 y w.owner h (of_owner w) g.prev_owner ∙ m2 y w.owner h (of_owner w) g.next_owner;
    first = λ p h. home_b p w.first h (of_first w) (λ e. g.first_last (sym e)) ∙ first_a p h;
    last = last_b;
    count = λ p h. home_b p w.count h (of_count w) g.last_count ∙ home_a p w.count h (of_count w) g.first_count;
    room = λ q. len3 q ∙ len2 q;
  }
