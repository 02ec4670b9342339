-- The entities of a permanent class that are made together.
use Rattle.std.proofs.Common.{◌≡◌, ℕ, zero, suc, ◌+◌, ◌^◌, ◌<◌, ◌≤◌, List, [], ◌∷◌, map, length, slice_get, slice_set, Some, None, ◌⊎◌, inl, inr, refl, sym, ap, subst, ◌∙◌, arith}
use Rattle.ss_records_entities.proofs.Common.{AreFormed, AreLaidTo, AreOfClass, ArePartsKept, block_words, BlockPlace, by_same, Cells, Class, class_at_place, class_in_words, Directory, entry_of, first_record, get_inside, is_of, IsBorn, IsEntityOf, IsListedAt, IsPermanent, kind_of, Layout, listing, living_bound, lying, Made, Members, own_or, permanent_count, plain, record_of, records_at, replicate, state_of, System, with_made, word_of, words_at}
use denote.RawPtr.{Ptr}
use Rattle.ss_records_words.proofs.Listing.{listed, unmapped}
use Rattle.ss_records_blocks.specs.Writes.{HasNoneAt, ArePlaced, AreUnchanged}
use Rattle.std.proofs.lemmas.List.{length-set, map-set}
use Rattle.ss_records_entities.proofs.Keeps.{kept_by, get_put, get_other, numbers_same, made_same}
use Rattle.ss_records_entities.proofs.NamesCreated.{name_born}
use Rattle.ss_records_entities.proofs.Creates.{off_entry, off_sys, born_formed, record_first, few_made}

count_row_set : (ms : Made) (c : ℕ) (ps : List BlockPlace) → slice_get ms c ≡ Some None → permanent_count (slice_set ms c (Some ps)) ≡ permanent_count ms + length ps
count_row_set [] c ps h = cc
count_row_set (None ∷ ms) zero ps h = omega arith
count_row_set (Some qs ∷ ms) zero ps h = cc
count_row_set (None ∷ ms) (suc c) ps h = count_row_set ms c ps h
count_row_set (Some qs ∷ ms) (suc c) ps h = omega (arith, count_row_set ms c ps h)

some_row : {ps qs : List BlockPlace} → Some (Some ps) ≡ Some (Some qs) → ps ≡ qs
some_row e = cc

no_row : {ps : List BlockPlace} → Some None ≡ Some (Some ps) → ⊥
no_row e = cc

-- the records of a row that is new
row_first : (l : Layout) (cs : Cells) (c : ℕ) (ps : List BlockPlace) → ((i : ℕ) (p : BlockPlace) → slice_get ps i ≡ Some p → record_of l (words_at cs p.at) ≡ first_record l c) → map (λ (p : BlockPlace). record_of l (words_at cs p.at)) ps ≡ replicate (length ps) (first_record l c)
row_first l cs c [] h = refl
row_first l cs c (p ∷ ps) h = λ t. h zero p refl t ∷ row_first l cs c ps (λ i q g. h (suc i) q g) t

module _ (l : Layout) (cs : Cells) (sys : Ptr) (d : Directory) (ms : List Members) (K : ArePartsKept l cs sys d ms) where
  -- blocks that no entity has are no matter
  module _ (ds : Cells) (u : AreUnchanged cs ds) where
    some_words : (p : Ptr) (n : ℕ) → length (words_at cs p) ≡ n → 2 ≤ n → words_at cs p ≡ [] → ⊥
    some_words p n h low e = omega (arith, ap length e, h, low)

    same_words : (i : ℕ) (p : BlockPlace) → IsListedAt d i p → words_at ds p.at ≡ words_at cs p.at
    same_words i p h = u.words p.at (some_words p.at (block_words l (Class (class_at_place cs p))) (K.formed i p h).size (omega arith))

    same_system : words_at ds sys ≡ words_at cs sys
    same_system = u.words sys (some_words sys (block_words l System) K.system (omega arith))

    pub kept_unchanged : ArePartsKept l ds sys d ms
    kept_unchanged = kept_by l cs sys d ms ms K ds u.count (ap length same_system) (ap (λ us. word_of us 1) same_system) (λ i p h. ap class_in_words (same_words i p h))
        (λ i p h. subst (λ us. AreFormed l (class_at_place cs p) (suc i) us) (sym (same_words i p h)) (K.formed i p h))
        (λ s t g. name_born l cs sys d ms K s t g d ds same_system
        (λ b i p h k. inr (h, same_words i p (listed d b i p h)))
        (λ b i p h k. (h, ap class_in_words (same_words i p (listed d b i p h)) ∙ k)))

    pub state_unchanged : state_of l ds d ms ≡ state_of l cs d ms
    state_unchanged =
        let one = numbers_same l cs ds d.numbers (λ i p h. ap (record_of l) (same_words i p (inl h))) in let two = made_same l cs ds d.classes (λ i p h. ap (record_of l) (same_words i p (inr h))) in
        λ t. record (state_of l cs d ms) { records = one t; permanents = two t }

  pub room_for_all : (n : ℕ) → n ≤ 2 ^ 20 → length cs + n < 2 ^ 64
  room_for_all n h = omega (arith, K.counted, K.issued, living_bound d.numbers, few_made l cs sys d ms K, h)

  module _ (c : ℕ) (kind : IsPermanent (kind_of l c)) (inside : c < length l.classes) (free : slice_get d.classes c ≡ Some None) (bs ds : Cells) (w : ℕ) (ps : List BlockPlace) (placed : ArePlaced cs bs w ps) (laid : AreLaidTo l bs ds sys ps c (length ps)) (few : length ps ≤ 2 ^ 20) where
    abbrev e : Directory
    e = lying d.numbers (slice_set d.classes c (Some ps))

    fresh_words : (q : Ptr) → HasNoneAt ps q → words_at ds q ≡ words_at cs q
    fresh_words q n = laid.others q n ∙ placed.others q n

    old : (i : ℕ) (p : BlockPlace) → IsListedAt d i p → words_at ds p.at ≡ words_at cs p.at
    old i p h = fresh_words p.at (λ j q g z. off_entry l cs sys d ms K q.at (placed.fresh j q g) i p h z)

    old_system : words_at ds sys ≡ words_at cs sys
    old_system = fresh_words sys (λ j q g. off_sys l cs sys d ms K q.at (placed.fresh j q g))

    born : (i : ℕ) (p : BlockPlace) → slice_get ps i ≡ Some p → IsBorn l ds sys p.at c (suc i)
    born i p h = laid.laid i p h (get_inside ps i p h)

    new_class : (i : ℕ) (p : BlockPlace) → slice_get ps i ≡ Some p → class_at_place ds p ≡ c
    new_class i p h = ap plain (born i p h).its_class

    -- no entity is of the class yet
    none_yet : (n : ℕ) → IsEntityOf cs d c n → ⊥
    none_yet n h = let a = entry_of cs d c n h in by_entry a.0 a.1 a.4 (listed d c a.0 a.1 a.3) where
      by_entry : (i : ℕ) (p : BlockPlace) → class_at_place cs p ≡ c → IsListedAt d i p → ⊥
      by_entry i p k (inl m) = K.kinds i p m (subst (λ b. IsPermanent (kind_of l b)) (sym k) kind)
      by_entry i p k (inr (b, qs, m, x)) = no_row (sym free ∙ subst (λ a. slice_get d.classes a ≡ Some (Some qs)) (sym ((K.made b qs m).class i p x) ∙ k) m)

    by_row : {P : Type 0} (b : ℕ) (qs : List BlockPlace) → slice_get e.classes b ≡ Some (Some qs) → ((c ≡ b) → (ps ≡ qs) → P) → (slice_get d.classes b ≡ Some (Some qs) → P) → P
    by_row {P} b qs h new was = by_same c b
        (λ t z. new z (some_row (sym (get_put d.classes c (Some ps) None free) ∙ ap (slice_get e.classes) z ∙ h)))
        (λ t n. was (sym (get_other d.classes c (Some ps) b n) ∙ h))

    by_listed : {P : Type 0} (i : ℕ) (p : BlockPlace) → IsListedAt e i p → (slice_get ps i ≡ Some p → P) → (IsListedAt d i p → P) → P
    by_listed {P} i p (inl h) new was = was (inl h)
    by_listed {P} i p (inr (b, qs, m, h)) new was = by_row b qs m (λ z y. new (subst (λ us. slice_get us i ≡ Some p) (sym y) h)) (λ x. was (inr (b, qs, x, h)))

    -- where the entities of a class are listed then
    other_listing : (b : ℕ) → (c ≡ b → ⊥) → listing e b ≡ listing d b
    other_listing b n = ap (own_or d.numbers) (get_other d.classes c (Some ps) b n)

    its_listing : listing e c ≡ map Some ps
    its_listing = ap (own_or d.numbers) (get_put d.classes c (Some ps) None free)

    which : (b i : ℕ) (p : BlockPlace) → slice_get (listing e b) i ≡ Some (Some p) → class_at_place ds p ≡ b → (IsBorn l ds sys p.at b (suc i) × (IsEntityOf cs d b (suc i) → ⊥)) ⊎ ((slice_get (listing d b) i ≡ Some (Some p)) × (words_at ds p.at ≡ words_at cs p.at))
    which b i p h k = by_same c b
        (λ t z. let g = unmapped ps i p (ap (λ us. slice_get us i) (sym its_listing ∙ ap (listing e) z) ∙ h) in
        inl (subst (λ a. IsBorn l ds sys p.at a (suc i) × (IsEntityOf cs d a (suc i) → ⊥)) z (born i p g, none_yet (suc i))))
        (λ t n. let was = sym (ap (λ us. slice_get us i) (other_listing b n)) ∙ h in inr (was, old i p (listed d b i p was)))

    still : (b i : ℕ) (p : BlockPlace) → slice_get (listing d b) i ≡ Some (Some p) → class_at_place cs p ≡ b → (slice_get (listing e b) i ≡ Some (Some p)) × (class_at_place ds p ≡ b)
    still b i p h k = by_same c b
        (λ t z. absurd (none_yet (suc i) (subst (λ a. IsEntityOf cs d a (suc i)) (sym z) (is_of cs d b i p h k))))
        (λ t n. (ap (λ us. slice_get us i) (other_listing b n) ∙ h, ap class_in_words (old i p (listed d b i p h)) ∙ k))

    pub kept_made : ArePartsKept l ds sys e ms
    kept_made = record {
      small = K.small;
      issued = K.issued;
      width = length-set d.classes c (Some ps) ∙ K.width;
      system = ap length old_system ∙ K.system;
      end = ap (λ us. word_of us 1) old_system ∙ K.end;
      kinds = λ i p h. subst (λ us. IsPermanent (kind_of l (class_in_words us)) → ⊥) (sym (old i p (inl h))) (K.kinds i p h);
      made = λ b qs h. by_row b qs h
          (λ z y. subst (λ a. AreOfClass l ds a qs) z (subst (AreOfClass l ds c) y (record { permanent = kind; class = new_class; few = few })))
          (λ x. let m = K.made b qs x in record { permanent = m.permanent; class = λ i p g. ap class_in_words (old i p (inr (b, qs, x, g))) ∙ m.class i p g; few = m.few });
      classes = λ i p h. by_listed i p h
          (λ x. subst (λ b. b < length l.classes) (sym (new_class i p x)) inside)
          (λ x. subst (λ us. class_in_words us < length l.classes) (sym (old i p x)) (K.classes i p x));
      formed = λ i p h. by_listed i p h
          (λ x. subst (λ b. AreFormed l b (suc i) (words_at ds p.at)) (sym (new_class i p x)) (born_formed l ds sys p.at c (suc i) (born i p x)))
          (λ x. subst (λ us. AreFormed l (class_in_words us) (suc i) us) (sym (old i p x)) (K.formed i p x));
      apart = λ i j p q h k z. by_listed i p h
          (λ x. by_listed j q k (λ y. placed.apart i j p q x y z) (λ y. absurd (off_entry l cs sys d ms K p.at (placed.fresh i p x) j q y z)))
          (λ x. by_listed j q k (λ y. absurd (off_entry l cs sys d ms K q.at (placed.fresh j q y) i p x (sym z))) (λ y. K.apart i j p q x y z));
      off_system = λ i p h. by_listed i p h (λ x. off_sys l cs sys d ms K p.at (placed.fresh i p x)) (λ x. K.off_system i p x);
      counted = omega (arith, laid.count, placed.count, K.counted, count_row_set d.classes c ps free);
      names = λ s t g. name_born l cs sys d ms K s t g e ds old_system which still;
    }

    pub state_made : (n : ℕ) → length ps ≡ n → state_of l ds e ms ≡ with_made (state_of l cs d ms) c n
    state_made n many =
        let one = numbers_same l cs ds d.numbers (λ i p h. ap (record_of l) (old i p (inl h))) in
        let first = row_first l ds c ps (λ i p h. record_first l c (words_at ds p.at) (new_class i p h) (born i p h).values) ∙ ap (λ k. replicate k (first_record l c)) many in
        let two : map (records_at l ds) (slice_set d.classes c (Some ps)) ≡ slice_set (map (records_at l cs) d.classes) c (Some (replicate n (first_record l c))) = map-set (records_at l ds) d.classes c (Some ps) ∙ (λ t. slice_set (made_same l cs ds d.classes (λ i p h. ap (record_of l) (old i p (inr h))) t) c (Some (first t))) in
        λ t. record (state_of l cs d ms) { records = one t; permanents = two t }
