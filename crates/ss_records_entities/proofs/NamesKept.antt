-- The links of a set name where its words are as they were.
use Rattle.std.proofs.Common.{◌≡◌, ℕ, List, slice_get, Some, inl, inr, refl, sym, subst, ◌∙◌}
use denote.RawPtr.{Ptr}
use Rattle.ss_records_entities.proofs.Common.{ArePartsKept, BlockPlace, Cells, Class, class_at_place, Directory, entity_at, entry_of, is_of, IsEntityOf, IsListedAt, IsNameKept, IsOfName, Layout, listed, MayOwn, Members, members_of, Owner, owner_at, SetLayout, slots_of, System, word_at, words_of}
use Rattle.ss_records_entities.proofs.Moved.{shows_moved}

-- classes that stay the same
module _ (cs ds : Cells) (d : Directory) (classes : (j : ℕ) (q : BlockPlace) → IsListedAt d j q → class_at_place ds q ≡ class_at_place cs q) where
  pub of_back : (c n : ℕ) → IsEntityOf ds d c n → IsEntityOf cs d c n
  of_back c n h = let a = entry_of ds d c n h in subst (IsEntityOf cs d c) (sym a.2) (is_of cs d c a.0 a.1 a.3 (sym (classes a.0 a.1 (listed d c a.0 a.1 a.3)) ∙ a.4))

  pub of_on : (c n : ℕ) → IsEntityOf cs d c n → IsEntityOf ds d c n
  of_on c n h = let a = entry_of cs d c n h in subst (IsEntityOf ds d c) (sym a.2) (is_of ds d c a.0 a.1 a.3 (classes a.0 a.1 (listed d c a.0 a.1 a.3) ∙ a.4))

  pub own_back : (o : Owner) (n : ℕ) → MayOwn ds d o n → MayOwn cs d o n
  own_back System n h = h
  own_back (Class c) n h = of_back c n h

  pub own_on : (o : Owner) (n : ℕ) → MayOwn cs d o n → MayOwn ds d o n
  own_on System n h = h
  own_on (Class c) n h = of_on c n h

module _ (l : Layout) (cs : Cells) (sys : Ptr) (d : Directory) (ms : List Members) (K : ArePartsKept l cs sys d ms) (ds : Cells) (classes : (j : ℕ) (q : BlockPlace) → IsListedAt d j q → class_at_place ds q ≡ class_at_place cs q) (s : ℕ) (t : SetLayout) (g : slice_get l.sets s ≡ Some t) where
  abbrev at : ℕ → Ptr
  at = entity_at sys d t.member

  abbrev home : ℕ → Ptr
  home = owner_at sys d t.owner

  pub names_same : ((q : Ptr) (k : ℕ) → IsOfName l cs sys d s t q k → word_at ds q k ≡ word_at cs q k) → IsNameKept l ds sys d ms s t
  names_same words =
      let n = K.names s t g in
      shows_moved (words_of (slots_of l s t) cs at home) (words_of (slots_of l s t) ds at home) at at home home (IsEntityOf cs d t.member) (IsEntityOf ds d t.member) (MayOwn cs d t.owner) (MayOwn ds d t.owner) (members_of ms s) n refl
      (λ y h. let b = of_back cs ds d classes t.member y h in inl (b, refl, words (at y) (slots_of l s t).next (inl (y, b, refl, inl refl)), words (at y) (slots_of l s t).prev (inl (y, b, refl, inr (inl refl))), words (at y) (slots_of l s t).owner (inl (y, b, refl, inr (inr refl)))))
      (λ o h. let b = own_back cs ds d classes t.owner o h in inl (b, refl, words (home o) (slots_of l s t).first (inr (o, b, refl, inl refl)), words (home o) (slots_of l s t).last (inr (o, b, refl, inr (inl refl))), words (home o) (slots_of l s t).count (inr (o, b, refl, inr (inr refl)))))
      (λ o y h. let k = n.members o y h in (of_on cs ds d classes t.member y k.0, own_on cs ds d classes t.owner o k.2))
