-- The links of a set name once an entity is new or gone.
use Rattle.std.proofs.Common.{◌≡◌, ℕ, suc, ◌+◌, ◌-◌, ◌*◌, ◌<◌, ◌≤◌, List, [], ◌∷◌, slice_get, Some, ◌⊎◌, inl, inr, refl, sym, ap, subst, ◌∙◌, arith}
use denote.RawPtr.{Ptr}
use Rattle.ss_records_entities.proofs.Common.{ArePartsKept, block_words, BlockPlace, Cells, Class, class_at_place, class_in_words, count_before, counter, Directory, entity_at, IsBorn, IsEntityOf, IsInList, IsNameKept, IsOfMember, IsOfOwner, Layout, link, listing, MayOwn, Members, members_of, not_in, owned_by, owned_start, Owner, owner_at, place_in_record, SetLayout, Slots, slots_of, System, word_at, word_of, Words, words_at, words_of}
use Rattle.ss_records_words.proofs.Disjoint.{entry_of, is_of, member_inside, owner_inside}
use Rattle.ss_records_blocks.specs.Writes.{owned_word, owned_from}
use Rattle.ss_records_blocks.proofs.Fills.{owned_first, owned_last, owned_count}
use Rattle.ss_records_entities.proofs.Moved.{OldMember, NewMember, OldOwner, NewOwner, shows_moved}

pub empty : (l : List ℕ) → ((n : ℕ) → IsInList n l → ⊥) → l ≡ []
empty [] h = refl
empty (z ∷ zs) h = absurd (h z (inl refl))

-- the words of a set without members
pub owned_words : (end : Ptr) (start i : ℕ) → (owned_from end start (start + 3 * i) ≡ link end) × (owned_from end start (start + 3 * i + 1) ≡ link end) × (owned_from end start (start + 3 * i + 2) ≡ counter 0)
owned_words end start i =
    let a : start + 3 * i - start ≡ 3 * i = omega arith in let b : start + 3 * i + 1 - start ≡ 3 * i + 1 = omega arith in let c : start + 3 * i + 2 - start ≡ 3 * i + 2 = omega arith in
    (ap (owned_word end) a ∙ owned_first end i, ap (owned_word end) b ∙ owned_last end i, ap (owned_word end) c ∙ owned_count end i)

module _ (l : Layout) (cs : Cells) (sys : Ptr) (d : Directory) (ms : List Members) (K : ArePartsKept l cs sys d ms) (s : ℕ) (t : SetLayout) (g : slice_get l.sets s ≡ Some t) where
  abbrev f : ℕ → List ℕ
  f = members_of ms s

  -- the entity n of the class b is a new one
  abbrev pub Newborn : Cells → ℕ → ℕ → Ptr → Type 0
  Newborn ds b n p = IsBorn l ds sys p b n × (IsEntityOf cs d b n → ⊥)

  module _ (e : Directory) (ds : Cells) (words_sys : words_at ds sys ≡ words_at cs sys)
      (which : (b i : ℕ) (p : BlockPlace) → slice_get (listing e b) i ≡ Some (Some p) → class_at_place ds p ≡ b → Newborn ds b (suc i) p.at ⊎ ((slice_get (listing d b) i ≡ Some (Some p)) × (words_at ds p.at ≡ words_at cs p.at)))
      (still : (b i : ℕ) (p : BlockPlace) → slice_get (listing d b) i ≡ Some (Some p) → class_at_place cs p ≡ b → (slice_get (listing e b) i ≡ Some (Some p)) × (class_at_place ds p ≡ b)) where
    abbrev at : ℕ → Ptr
    at = entity_at sys d t.member

    abbrev at' : ℕ → Ptr
    at' = entity_at sys e t.member

    abbrev home : ℕ → Ptr
    home = owner_at sys d t.owner

    abbrev home' : ℕ → Ptr
    home' = owner_at sys e t.owner

    abbrev w : Slots
    w = slots_of l s t

    abbrev m : Words
    m = words_of w cs at home

    abbrev m' : Words
    m' = words_of w ds at' home'

    abbrev Old : (ℕ → Ptr) → (ℕ → Ptr) → ℕ → Type 0
    Old lay lay' n = (lay' n ≡ lay n) × ((k : ℕ) → word_at ds (lay' n) k ≡ word_at cs (lay n) k)

    -- an entity of a class is a new one or an old one
    entity : (b n : ℕ) → IsEntityOf ds e b n → Newborn ds b n (entity_at sys e b n) ⊎ ((IsEntityOf cs d b n) × Old (entity_at sys d b) (entity_at sys e b) n)
    entity b n h = by_entry (entry_of ds e b n h) where
      by_entry : (i : ℕ) × (p : BlockPlace) × (n ≡ suc i) × (slice_get (listing e b) i ≡ Some (Some p)) × (class_at_place ds p ≡ b) → Newborn ds b n (entity_at sys e b n) ⊎ ((IsEntityOf cs d b n) × Old (entity_at sys d b) (entity_at sys e b) n)
      by_entry (i, p, q, r, c) = elim (which b i p r c) as (λ _. Newborn ds b n (entity_at sys e b n) ⊎ ((IsEntityOf cs d b n) × Old (entity_at sys d b) (entity_at sys e b) n)) [
        | inl x ↦ inl (subst (λ v. Newborn ds b v (entity_at sys e b v)) (sym q) (subst (λ v. Newborn ds b (suc i) v) (sym (ap place_in_record r)) x))
        | inr x ↦
            let new : entity_at sys e b n ≡ p.at = ap (entity_at sys e b) q ∙ ap place_in_record r in let old : entity_at sys d b n ≡ p.at = ap (entity_at sys d b) q ∙ ap place_in_record x.0 in
            inr (subst (IsEntityOf cs d b) (sym q) (is_of cs d b i p x.0 (sym (ap class_in_words x.1) ∙ c)), (new ∙ sym old, (λ k. (λ z. word_at ds (new z) k) ∙ ap (λ us. word_of us k) x.1 ∙ (λ z. word_at cs (sym old z) k))))
      ]

    still_of : (b n : ℕ) → IsEntityOf cs d b n → IsEntityOf ds e b n
    still_of b n h = let a = entry_of cs d b n h in let x = still b a.0 a.1 a.3 a.4 in subst (IsEntityOf ds e b) (sym a.2) (is_of ds e b a.0 a.1 x.0 x.1)

    member : (y : ℕ) → IsEntityOf ds e t.member y → OldMember m m' at at' home home' (IsEntityOf cs d t.member) (IsEntityOf ds e t.member) (MayOwn cs d t.owner) (MayOwn ds e t.owner) f y ⊎ NewMember m m' at at' home home' (IsEntityOf cs d t.member) (IsEntityOf ds e t.member) (MayOwn cs d t.owner) (MayOwn ds e t.owner) f y
    member y h = elim (entity t.member y h) as (λ _. OldMember m m' at at' home home' (IsEntityOf cs d t.member) (IsEntityOf ds e t.member) (MayOwn cs d t.owner) (MayOwn ds e t.owner) f y ⊎ NewMember m m' at at' home home' (IsEntityOf cs d t.member) (IsEntityOf ds e t.member) (MayOwn cs d t.owner) (MayOwn ds e t.owner) f y) [
      | inl x ↦ inr ((λ o. not_in y (f o) (λ j. x.1 ((K.names s t g).members o y j).0)), self x.0 w.next (inl refl), self x.0 w.prev (inr (inl refl)), self x.0 w.owner (inr (inr refl)))
      | inr x ↦ inl (x.0, x.1.0, x.1.1 w.next, x.1.1 w.prev, x.1.1 w.owner)
    ] where
      self : IsBorn l ds sys (at' y) t.member y → (k : ℕ) → IsOfMember w k → word_at ds (at' y) k ≡ link (at' y)
      self b k o = let r = member_inside l s t k g o in b.links k r.0 r.1

    -- the owners, by who they are
    owners : (o : Owner) → t.owner ≡ o → (n : ℕ) → MayOwn ds e o n → ((MayOwn cs d o n) × Old (owner_at sys d o) (owner_at sys e o) n) ⊎ ((c : ℕ) × (o ≡ Class c) × Newborn ds c n (owner_at sys e o n))
    owners System u n h = inl (h, (refl, λ k. ap (λ us. word_of us k) words_sys))
    owners (Class b) u n h = elim (entity b n h) as (λ _. ((MayOwn cs d (Class b) n) × Old (owner_at sys d (Class b)) (owner_at sys e (Class b)) n) ⊎ ((c : ℕ) × (Class b ≡ Class c) × Newborn ds c n (owner_at sys e (Class b) n))) [
      | inl x ↦ inr (b, refl, x)
      | inr x ↦ inl x
    ]

    new_owned : (n c k : ℕ) → t.owner ≡ Class c → IsBorn l ds sys (home' n) c n → IsOfOwner w k → word_at ds (home' n) k ≡ owned_from sys (owned_start l t.owner) k
    new_owned n c k b x o =
        let r = owner_inside l s t k g o in
        x.owned k (subst (λ v. owned_start l v ≤ k) b r.0) (subst (λ v. k < block_words l v) b r.1) ∙ ap (λ v. owned_from sys (owned_start l v) k) (sym b)

    owner : (n : ℕ) → MayOwn ds e t.owner n → OldOwner m m' at at' home home' (IsEntityOf cs d t.member) (IsEntityOf ds e t.member) (MayOwn cs d t.owner) (MayOwn ds e t.owner) f n ⊎ NewOwner m m' at at' home home' (IsEntityOf cs d t.member) (IsEntityOf ds e t.member) (MayOwn cs d t.owner) (MayOwn ds e t.owner) f n
    owner n h = elim (owners t.owner refl n h) as (λ _. OldOwner m m' at at' home home' (IsEntityOf cs d t.member) (IsEntityOf ds e t.member) (MayOwn cs d t.owner) (MayOwn ds e t.owner) f n ⊎ NewOwner m m' at at' home home' (IsEntityOf cs d t.member) (IsEntityOf ds e t.member) (MayOwn cs d t.owner) (MayOwn ds e t.owner) f n) [
      | inl x ↦ inl (x.0, x.1.0, x.1.1 w.first, x.1.1 w.last, x.1.1 w.count)
      | inr x ↦ let v = owned_words sys (owned_start l t.owner) (count_before (owned_by t.owner) l.sets s) in
          let none : f n ≡ [] = empty (f n) (λ y j. x.2.1 (subst (λ u. MayOwn cs d u n) x.1 ((K.names s t g).members n y j).2)) in
          inr (none, new_owned n x.0 w.first x.1 x.2.0 (inl refl) ∙ v.0, new_owned n x.0 w.last x.1 x.2.0 (inr (inl refl)) ∙ v.1, new_owned n x.0 w.count x.1 x.2.0 (inr (inr refl)) ∙ v.2)
    ]

    owner_still : (o : Owner) (n : ℕ) → MayOwn cs d o n → MayOwn ds e o n
    owner_still System n h = h
    owner_still (Class b) n h = still_of b n h

    pub name_born : IsNameKept l ds sys e ms s t
    name_born = shows_moved m m' at at' home home' (IsEntityOf cs d t.member) (IsEntityOf ds e t.member) (MayOwn cs d t.owner) (MayOwn ds e t.owner) f (K.names s t g) refl member owner
        (λ o y h. let k = (K.names s t g).members o y h in (still_of t.member y k.0, owner_still t.owner o k.2))
