-- A block that is given back.
use Rattle.std.proofs.Common.{◌≡◌, ℕ, zero, suc, ◌-◌, ◌<◌, true, false, List, [], ◌∷◌, map, length, slice_get, slice_set, Some, None, Ok, Err, inl, inr, refl, sym, ap, subst, ◌∙◌, arith}
use Rattle.ss_records_entities.proofs.Common.{and_then, AreFormed, ArePartsKept, block_words, BlockPlace, blocks_without, by_same, Cells, Class, class_at_place, class_in_words, destroyed, Directory, entity_in, in_a_set, IsListedAt, IsMade, IsNotInList, IsPermanent, kind_of, Layout, let_go, listed, listing, lying, Members, members_of, number_in, Numbers, owns_members, pos, record_at, record_of, records_at, SetLayout, state_of, without_block, word_of, words_at, words_without, ℤ}
use denote.RawPtr.{Ptr}
use Rattle.ss_records_entities.proofs.Keeps.{at_place, by_own, get_other, numbers_same, made_same, entry_is}
use Rattle.ss_records_entities.proofs.NamesGone.{name_gone}
use Rattle.ss_base.specs.declared.fault.FaultKind.TheVariants.{InASet, OwnsMembers}
use Rattle.ss_records_blocks.proofs.Entries.{living_gone, length_set}

get_gone : (d : Numbers) (i : ℕ) (p : BlockPlace) → slice_get (slice_set d i None) i ≡ Some (Some p) → ⊥
get_gone [] i p h = cc
get_gone (z ∷ zs) zero p h = cc
get_gone (z ∷ zs) (suc i) p h = get_gone zs i p h

-- what is listed once a number is gone
dropped : (d : Directory) (i b j : ℕ) (q : BlockPlace) → slice_get (listing (lying (slice_set d.numbers i None) d.classes) b) j ≡ Some (Some q) → slice_get (listing d b) j ≡ Some (Some q)
dropped d i b j q h = by_own (λ us vs. slice_get us j ≡ Some (Some q) → slice_get vs j ≡ Some (Some q)) (slice_set d.numbers i None) d.numbers in_numbers (λ us k. k) (slice_get d.classes b) h where
  in_numbers : slice_get (slice_set d.numbers i None) j ≡ Some (Some q) → slice_get d.numbers j ≡ Some (Some q)
  in_numbers k = by_same i j (λ t n. absurd (get_gone d.numbers i q (ap (slice_get (slice_set d.numbers i None)) n ∙ k))) (λ t n. sym (get_other d.numbers i None j n) ∙ k)

not_dropped : (d : Directory) (i b j : ℕ) (q : BlockPlace) → slice_get (listing d b) j ≡ Some (Some q) → ((i ≡ j) → slice_get d.numbers j ≡ Some (Some q) → ⊥) → slice_get (listing (lying (slice_set d.numbers i None) d.classes) b) j ≡ Some (Some q)
not_dropped d i b j q h other = by_own (λ us vs. slice_get vs j ≡ Some (Some q) → slice_get us j ≡ Some (Some q)) (slice_set d.numbers i None) d.numbers in_numbers (λ us k. k) (slice_get d.classes b) h where
  in_numbers : slice_get d.numbers j ≡ Some (Some q) → slice_get (slice_set d.numbers i None) j ≡ Some (Some q)
  in_numbers k = by_same i j (λ t n. absurd (other n k)) (λ t n. get_other d.numbers i None j n ∙ k)

module _ (l : Layout) (cs : Cells) (sys : Ptr) (d : Directory) (ms : List Members) (K : ArePartsKept l cs sys d ms) (i : ℕ) (p : BlockPlace) (g : slice_get d.numbers i ≡ Some (Some p)) where
  abbrev e : Directory
  e = lying (slice_set d.numbers i None) d.classes

  abbrev ds : Cells
  ds = without_block cs p.at

  pub its_size : (c : ℕ) → class_at_place cs p ≡ c → length (words_at cs p.at) ≡ block_words l (Class c)
  its_size c h = (K.formed i p (inl g)).size ∙ ap (λ b. block_words l (Class b)) h

  pub not_made : (j : ℕ) (q : BlockPlace) → IsMade d.classes j q → p.at ≡ q.at → ⊥
  not_made j q h k = let y = K.made h.0 h.1 h.2 in K.kinds i p g (subst (λ c. IsPermanent (kind_of l c)) (sym (ap (λ (r : Ptr). class_in_words (words_at cs r)) k ∙ y.class j q h.3)) y.permanent)

  entry : {P : Type 0} (j : ℕ) (q : BlockPlace) → IsListedAt e j q → ((p.at ≡ q.at → ⊥) → IsListedAt d j q → words_at ds q.at ≡ words_at cs q.at → P) → P
  entry {P} j q (inl h) k = by_same i j
      (λ t n. absurd (get_gone d.numbers i q (ap (slice_get e.numbers) n ∙ h)))
      (λ t n. let was = sym (get_other d.numbers i None j n) ∙ h in let off : p.at ≡ q.at → ⊥ = λ z. n (K.apart i j p q (inl g) (inl was) z) in k off (inl was) (words_without cs p.at q.at off))
  entry {P} j q (inr h) k = k (not_made j q h) (inr h) (words_without cs p.at q.at (not_made j q h))

  -- in no set, and without members
  pub record Free : Type 0 where
    pub unfiled : (s : ℕ) (t : SetLayout) → slice_get l.sets s ≡ Some t → t.member ≡ class_at_place cs p → (o : ℕ) → IsNotInList (suc i) (members_of ms s o)
    pub owns_none : (s : ℕ) (t : SetLayout) → slice_get l.sets s ≡ Some t → t.owner ≡ Class (class_at_place cs p) → members_of ms s (suc i) ≡ []

  pub kept_destroyed : Free → ArePartsKept l ds sys e ms
  kept_destroyed free = record {
    small = K.small;
    issued = subst (λ n. n < 4611686018427387904) (sym (length_set d.numbers i None)) K.issued;
    width = K.width;
    system = ap length (words_without cs p.at sys (K.off_system i p (inl g))) ∙ K.system;
    end = ap (λ us. word_of us 1) (words_without cs p.at sys (K.off_system i p (inl g))) ∙ K.end;
    kinds = λ j q h. by_same i j
        (λ t n. absurd (get_gone d.numbers i q (ap (slice_get e.numbers) n ∙ h)))
        (λ t n. let was = sym (get_other d.numbers i None j n) ∙ h in λ x. K.kinds j q was (subst (λ us. IsPermanent (kind_of l (class_in_words us))) (words_without cs p.at q.at (λ z. n (K.apart i j p q (inl g) (inl was) z))) x));
    made = λ b ps h. let m = K.made b ps h in record { permanent = m.permanent; class = λ j q x. ap class_in_words (words_without cs p.at q.at (not_made j q (b, ps, h, x))) ∙ m.class j q x; few = m.few };
    classes = λ j q h. entry j q h (λ n was w. subst (λ us. class_in_words us < length l.classes) (sym w) (K.classes j q was));
    formed = λ j q h. entry j q h (λ n was w. subst (λ us. AreFormed l (class_in_words us) (suc j) us) (sym w) (K.formed j q was));
    apart = λ j k q r h m z. entry j q h (λ n was w. entry k r m (λ n' was' w'. K.apart j k q r was was' z));
    off_system = λ j q h. entry j q h (λ n was w. K.off_system j q was);
    counted = omega (arith, K.counted, living_gone d.numbers i p g, blocks_without cs p.at (omega (arith, (K.formed i p (inl g)).size)));
    names = λ s t h. name_gone l cs sys d ms K s t h ds e i p (words_without cs p.at sys (K.off_system i p (inl g))) (free.unfiled s t h) (free.owns_none s t h)
        (λ b j q k. (dropped d i b j q k, entry j q (listed e b j q k) (λ n was w. w)))
        (λ b j q k x not_it. not_dropped d i b j q k (λ n m. let same : p ≡ q = entry_is (sym g ∙ ap (slice_get d.numbers) n ∙ m) in not_it (sym n) (sym x ∙ ap (class_at_place cs) (sym same))));
  }

  pub records_destroyed : map (record_at l ds) e.numbers ≡ slice_set (map (record_at l cs) d.numbers) i None
  records_destroyed = map_gone d.numbers i (λ j q h n. ap (record_of l) (words_without cs p.at q.at (λ z. n (K.apart i j p q (inl g) (inl h) z)))) where
    map_gone : (xs : Numbers) (k : ℕ) → ((j : ℕ) (q : BlockPlace) → slice_get xs j ≡ Some (Some q) → (k ≡ j → ⊥) → at_place l ds q ≡ at_place l cs q) → map (record_at l ds) (slice_set xs k None) ≡ slice_set (map (record_at l cs) xs) k None
    map_gone [] k o = refl
    map_gone (z ∷ zs) zero o = ap (λ rs. None ∷ rs) (numbers_same l cs ds zs (λ j q h. o (suc j) q h (λ n. absurd (omega (arith, n)))))
    map_gone (None ∷ zs) (suc k) o = ap (λ rs. None ∷ rs) (map_gone zs k (λ j q h n. o (suc j) q h (λ m. n (omega (arith, m)))))
    map_gone (Some q ∷ zs) (suc k) o = λ t. Some (o zero q refl (λ n. absurd (omega (arith, n))) t) ∷ map_gone zs k (λ j q h n. o (suc j) q h (λ m. n (omega (arith, m)))) t

  permanents_kept : map (records_at l ds) d.classes ≡ map (records_at l cs) d.classes
  permanents_kept = made_same l cs ds d.classes (λ j q h. ap (record_of l) (words_without cs p.at q.at (not_made j q h)))

  pub is_destroyed : (c : ℕ) (x : ℤ) → x ≡ pos (suc i) → entity_in (state_of l cs d ms) c x ≡ Ok (record_of l (words_at cs p.at)) → in_a_set l.sets 0 ms c (suc i) ≡ false → owns_members l.sets 0 ms c (suc i) ≡ false
      → destroyed (state_of l cs d ms) c x ≡ Ok (state_of l ds e ms)
  is_destroyed c x at found not_it none =
      let n : number_in x ≡ suc i = ap number_in at in
      let k : suc i - 1 ≡ i = omega arith in
      ap (λ r. and_then r (λ r. let_go (state_of l cs d ms) c (number_in x))) found
      ∙ rw (n, not_it, none, k) (λ z. Ok (record (state_of l cs d ms) { records = sym records_destroyed z; permanents = sym permanents_kept z }))

  pub in_a_set_is : (c : ℕ) (x : ℤ) → x ≡ pos (suc i) → entity_in (state_of l cs d ms) c x ≡ Ok (record_of l (words_at cs p.at)) → in_a_set l.sets 0 ms c (suc i) ≡ true → destroyed (state_of l cs d ms) c x ≡ Err InASet
  in_a_set_is c x at found is_it =
      let n : number_in x ≡ suc i = ap number_in at in
      ap (λ r. and_then r (λ r. let_go (state_of l cs d ms) c (number_in x))) found ∙ rw (n, is_it) refl

  pub owns_members_is : (c : ℕ) (x : ℤ) → x ≡ pos (suc i) → entity_in (state_of l cs d ms) c x ≡ Ok (record_of l (words_at cs p.at)) → in_a_set l.sets 0 ms c (suc i) ≡ false → owns_members l.sets 0 ms c (suc i) ≡ true → destroyed (state_of l cs d ms) c x ≡ Err OwnsMembers
  owns_members_is c x at found not_it is_it =
      let n : number_in x ≡ suc i = ap number_in at in
      ap (λ r. and_then r (λ r. let_go (state_of l cs d ms) c (number_in x))) found ∙ rw (n, not_it, is_it) refl
