-- What holds once words of one set name alone were written.
use Rattle.std.proofs.Common.{◌≡◌, ℕ, suc, ◌<◌, List, map, slice_get, Some, inl, inr, refl, sym, ap, subst, ◌∙◌, arith}
use Rattle.ss_records_entities.proofs.Common.{AreFormed, ArePartsKept, AreShowing, AreSpared, BlockPlace, by_same, Cells, class_at_place, Directory, entity_at, IsEntityOf, IsListedAt, IsNameKept, IsNumber, IsOfName, Layout, links_start, MayOwn, Members, members_of, owner_at, plain, record_at, record_of, records_at, SetLayout, slots_of, word_at, Words, words_at, words_of}
use denote.RawPtr.{Ptr}
use Rattle.ss_records_entities.proofs.ReadWords.{record_same}
use Rattle.ss_records_entities.proofs.Keeps.{kept_by, numbers_same, made_same}
use Rattle.ss_records_entities.proofs.Moved.{shows_moved}
use Rattle.ss_records_entities.proofs.NamesKept.{of_back, of_on, own_back, own_on, names_same}
use Rattle.ss_records_words.proofs.Disjoint.{above_head, above_end, names_apart}

module _ (l : Layout) (cs : Cells) (sys : Ptr) (d : Directory) (ms : List Members) (K : ArePartsKept l cs sys d ms) (s : ℕ) (t : SetLayout) (g : slice_get l.sets s ≡ Some t) (ds : Cells) (h : AreSpared (IsOfName l cs sys d s t) cs ds) where
  head_same : (j : ℕ) (q : BlockPlace) → IsListedAt d j q → (k : ℕ) → k < links_start l (class_at_place cs q) → word_at ds q.at k ≡ word_at cs q.at k
  head_same j q e k low = h.word q.at k (λ o. above_head l cs sys d ms K s t g j q k e low o)

  pub class_spared : (j : ℕ) (q : BlockPlace) → IsListedAt d j q → class_at_place ds q ≡ class_at_place cs q
  class_spared j q e = ap plain (head_same j q e 0 (omega arith))

  formed_spared : (j : ℕ) (q : BlockPlace) → IsListedAt d j q → AreFormed l (class_at_place cs q) (suc j) (words_at ds q.at)
  formed_spared j q e = let f = K.formed j q e in record {
    size = h.size q.at ∙ f.size;
    class = head_same j q e 0 (omega arith) ∙ f.class;
    number = head_same j q e 1 (omega arith) ∙ f.number;
    values = λ k low. subst IsNumber (sym (head_same j q e k low)) (f.values k low);
  }

  -- the links of a name show its lists with the classes read from the new words
  pub with_classes : (r : ℕ) (u : SetLayout) (m : Words) (f : ℕ → List ℕ) → AreShowing m (entity_at sys d u.member) (owner_at sys d u.owner) (IsEntityOf cs d u.member) (MayOwn cs d u.owner) f → AreShowing m (entity_at sys d u.member) (owner_at sys d u.owner) (IsEntityOf ds d u.member) (MayOwn ds d u.owner) f
  with_classes r u m f n =
      shows_moved m m (entity_at sys d u.member) (entity_at sys d u.member) (owner_at sys d u.owner) (owner_at sys d u.owner) (IsEntityOf cs d u.member) (IsEntityOf ds d u.member) (MayOwn cs d u.owner) (MayOwn ds d u.owner) f n refl
      (λ y k. inl (of_back cs ds d class_spared u.member y k, refl, refl, refl, refl))
      (λ o k. inl (own_back cs ds d class_spared u.owner o k, refl, refl, refl, refl))
      (λ o y k. let e = n.members o y k in (of_on cs ds d class_spared u.member y e.0, own_on cs ds d class_spared u.owner o e.2))

  pub kept_spared : (ns : List Members) → IsNameKept l ds sys d ns s t → ((r p : ℕ) → (s ≡ r → ⊥) → members_of ns r p ≡ members_of ms r p) → ArePartsKept l ds sys d ns
  kept_spared ns here others = kept_by l cs sys d ms ns K ds h.count (h.size sys) (h.word sys 1 (λ o. above_end l cs sys d ms K s t g 1 (omega arith) o)) class_spared formed_spared (λ r u e. by_same s r
      (λ z q. subst (λ k. IsNameKept l ds sys d ns k u) q (subst (λ v. IsNameKept l ds sys d ns s v) (same_set (sym g ∙ ap (slice_get l.sets) q ∙ e)) here))
      (λ z n. let f : members_of ns r ≡ members_of ms r = λ i p. others r p n i in
      subst (λ a. AreShowing (words_of (slots_of l r u) ds (entity_at sys d u.member) (owner_at sys d u.owner)) (entity_at sys d u.member) (owner_at sys d u.owner) (IsEntityOf ds d u.member) (MayOwn ds d u.owner) a) (sym f)
      (names_same l cs sys d ms K ds class_spared r u e (λ q k o. h.word q k (λ here. names_apart l cs sys d ms K s t g r u q k e n here o))))) where
        same_set : {v w : SetLayout} → Some v ≡ Some w → v ≡ w
        same_set e = cc

  read_spared : (j : ℕ) (q : BlockPlace) → IsListedAt d j q → record_of l (words_at ds q.at) ≡ record_of l (words_at cs q.at)
  read_spared j q e = record_same l (words_at cs q.at) (words_at ds q.at) (λ k low. head_same j q e k low)

  pub records_spared : map (record_at l ds) d.numbers ≡ map (record_at l cs) d.numbers
  records_spared = numbers_same l cs ds d.numbers (λ j q e. read_spared j q (inl e))

  pub permanents_spared : map (records_at l ds) d.classes ≡ map (records_at l cs) d.classes
  permanents_spared = made_same l cs ds d.classes (λ j q h. read_spared j q (inr h))
