-- The links of a set name at first, and once an entity is gone.
use Rattle.std.proofs.Common.{◌≡◌, ℕ, suc, ◌+◌, ◌<◌, ◌≤◌, List, [], slice_get, Some, inl, inr, refl, sym, ap, subst, ◌∙◌}
use denote.RawPtr.{Ptr}
use Rattle.ss_records_entities.proofs.Common.{ArePartsKept, block_words, BlockPlace, Cells, Class, class_at_place, class_in_words, count_before, counter, Directory, entity_at, entry_of, is_of, IsEntityOf, IsInList, IsNameKept, IsNotInList, IsOfOwner, IsSystemLaid, Layout, link, listing, MayOwn, Members, members_of, not_and_in, owned_by, owned_from, owned_start, Owner, owner_at, owner_base, owner_inside, place_in_record, SetLayout, Slots, slots_of, System, word_at, word_of, words_at, words_of}
use Rattle.ss_records_entities.proofs.Moved.{shows_moved}
use Rattle.ss_records_entities.proofs.NamesCreated.{owned_words}

module _ (l : Layout) (ds : Cells) (sys : Ptr) (bs : Cells) (laid : IsSystemLaid l bs ds sys) (d : Directory) (none : (c i : ℕ) (p : BlockPlace) → slice_get (listing d c) i ≡ Some (Some p) → ⊥) (s : ℕ) (t : SetLayout) (g : slice_get l.sets s ≡ Some t) where
  none_of : (b n : ℕ) → IsEntityOf ds d b n → ⊥
  none_of b n h = let a = entry_of ds d b n h in none b a.0 a.1 a.3

  abbrev w0 : Slots
  w0 = slots_of l s t

  the_end : (o : Owner) → t.owner ≡ o → (n : ℕ) → MayOwn ds d o n → (owner_at sys d o n ≡ sys) × (o ≡ System)
  the_end System u n h = (refl, refl)
  the_end (Class b) u n h = absurd (none_of b n h)

  end_word : (n k : ℕ) → MayOwn ds d t.owner n → IsOfOwner w0 k → word_at ds (owner_at sys d t.owner n) k ≡ owned_from sys (owned_start l t.owner) k
  end_word n k h o =
      let e = the_end t.owner refl n h in let r = owner_inside l s t k g o in
      (λ z. word_at ds (e.0 z) k) ∙ laid.owned k (subst (λ v. owned_start l v ≤ k) e.1 r.0) (subst (λ v. k < block_words l v) e.1 r.1) ∙ ap (λ v. owned_from sys (owned_start l v) k) (sym e.1)

  abbrev v : (owned_from sys (owned_start l t.owner) (owner_base l s t) ≡ link sys) × (owned_from sys (owned_start l t.owner) (owner_base l s t + 1) ≡ link sys) × (owned_from sys (owned_start l t.owner) (owner_base l s t + 2) ≡ counter 0)
  v = owned_words sys (owned_start l t.owner) (count_before (owned_by t.owner) l.sets s)

  pub name_first : IsNameKept l ds sys d [] s t
  name_first = record {
    first = λ o h. end_word o w0.first h (inl refl) ∙ v.0;
    last = λ o h. end_word o w0.last h (inr (inl refl)) ∙ v.1;
    count = λ o h. end_word o w0.count h (inr (inr refl)) ∙ v.2;
    next = λ o y h. absurd h;
    prev = λ o y h. absurd h;
    owner = λ o y h. absurd h;
    unfiled = λ y h pos out. absurd (none_of t.member y h);
    members = λ o y h. absurd h;
    distinct = λ o. tt;
    sole = λ o p y h k. absurd h;
  }

module _ (l : Layout) (cs : Cells) (sys : Ptr) (d : Directory) (ms : List Members) (K : ArePartsKept l cs sys d ms) (s : ℕ) (t : SetLayout) (g : slice_get l.sets s ≡ Some t)
    (ds : Cells) (e : Directory) (i : ℕ) (p : BlockPlace) (words_sys : words_at ds sys ≡ words_at cs sys)
    (free : t.member ≡ class_at_place cs p → (o : ℕ) → IsNotInList (suc i) (members_of ms s o)) (owns : t.owner ≡ Class (class_at_place cs p) → members_of ms s (suc i) ≡ [])
    (entry : (b j : ℕ) (q : BlockPlace) → slice_get (listing e b) j ≡ Some (Some q) → (slice_get (listing d b) j ≡ Some (Some q)) × (words_at ds q.at ≡ words_at cs q.at))
    (other : (b j : ℕ) (q : BlockPlace) → slice_get (listing d b) j ≡ Some (Some q) → class_at_place cs q ≡ b → (j ≡ i → b ≡ class_at_place cs p → ⊥) → slice_get (listing e b) j ≡ Some (Some q)) where
  abbrev at : ℕ → Ptr
  at = entity_at sys d t.member

  abbrev at' : ℕ → Ptr
  at' = entity_at sys e t.member

  abbrev home : ℕ → Ptr
  home = owner_at sys d t.owner

  abbrev home' : ℕ → Ptr
  home' = owner_at sys e t.owner

  abbrev f : ℕ → List ℕ
  f = members_of ms s

  abbrev w : Slots
  w = slots_of l s t

  was : (b n : ℕ) → IsEntityOf ds e b n → (IsEntityOf cs d b n) × (entity_at sys e b n ≡ entity_at sys d b n) × ((k : ℕ) → word_at ds (entity_at sys e b n) k ≡ word_at cs (entity_at sys d b n) k)
  was b n h =
      let a = entry_of ds e b n h in let x = entry b a.0 a.1 a.3 in
      let new : entity_at sys e b n ≡ a.1.at = ap (entity_at sys e b) a.2 ∙ ap place_in_record a.3 in let old : entity_at sys d b n ≡ a.1.at = ap (entity_at sys d b) a.2 ∙ ap place_in_record x.0 in
      (subst (IsEntityOf cs d b) (sym a.2) (is_of cs d b a.0 a.1 x.0 (sym (ap class_in_words x.1) ∙ a.4)), new ∙ sym old, (λ k. (λ z. word_at ds (new z) k) ∙ ap (λ us. word_of us k) x.1 ∙ (λ z. word_at cs (sym old z) k)))

  stays_entity : (b n : ℕ) → IsEntityOf cs d b n → ((n ≡ suc i) → (b ≡ class_at_place cs p) → ⊥) → IsEntityOf ds e b n
  stays_entity b n h not_it =
      let a = entry_of cs d b n h in
      let y = other b a.0 a.1 a.3 a.4 (λ x. not_it (a.2 ∙ ap suc x)) in
      subst (IsEntityOf ds e b) (sym a.2) (is_of ds e b a.0 a.1 y (ap class_in_words (entry b a.0 a.1 y).1 ∙ a.4))

  owner_was : (o : Owner) (n : ℕ) → MayOwn ds e o n → (MayOwn cs d o n) × (owner_at sys e o n ≡ owner_at sys d o n) × ((k : ℕ) → word_at ds (owner_at sys e o n) k ≡ word_at cs (owner_at sys d o n) k)
  owner_was System n h = (h, refl, (λ k. ap (λ us. word_of us k) words_sys))
  owner_was (Class b) n h = was b n h

  owner_stays : (o : Owner) (n : ℕ) → MayOwn cs d o n → ((n ≡ suc i) → (o ≡ Class (class_at_place cs p)) → ⊥) → MayOwn ds e o n
  owner_stays System n h not_it = h
  owner_stays (Class b) n h not_it = stays_entity b n h (λ x y. not_it x (ap Class y))

  pub name_gone : IsNameKept l ds sys e ms s t
  name_gone = shows_moved (words_of w cs at home) (words_of w ds at' home') at at' home home' (IsEntityOf cs d t.member) (IsEntityOf ds e t.member) (MayOwn cs d t.owner) (MayOwn ds e t.owner) f (K.names s t g) refl
      (λ y h. let x = was t.member y h in inl (x.0, x.1, x.2 w.next, x.2 w.prev, x.2 w.owner))
      (λ o h. let x = owner_was t.owner o h in inl (x.0, x.1, x.2 w.first, x.2 w.last, x.2 w.count))
      (λ o y h. let k = (K.names s t g).members o y h in (
        stays_entity t.member y k.0 (λ x b. not_and_in y (f o) (subst (λ n. IsNotInList n (f o)) (sym x) (free b o)) h),
        owner_stays t.owner o k.2 (λ x b. subst (λ z. IsInList y z) (subst (λ n. f n ≡ []) (sym x) (owns b)) h),
      ))
