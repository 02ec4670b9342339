-- A new block under the next number.
use Rattle.std.proofs.Common.{◌≡◌, ℕ, zero, suc, ◌+◌, ◌*◌, ◌^◌, ◌<◌, ◌≤◌, true, false, cond, List, [], ◌∷◌, ◌++◌, map, length, slice_get, Some, None, Ok, ◌⊎◌, inl, inr, refl, sym, ap, subst, ◌∙◌, arith}
use Rattle.ss_records_entities.proofs.Common.{Alpha, AreFormed, ArePartsKept, blanks, block_words, BlockPlace, Bool, by_same, cast_signed, Cells, Class, class_at_place, class_in_words, created, Directory, entry_of, first_record, Integer, is_notice, IsBorn, IsEntityOf, IsLaid, IsListedAt, IsNumber, IsPermanent, kind_of, LAST_NUMBER, Layout, links_start, listed, listing, lt-ltb, lying, Made, Members, Mode, modes_of, nat_lt, number, Numbers, permanent_count, plain, pos, record_at, record_of, records_at, state_of, System, value_of_words, values_end, values_from, Word, word_at, word_of, words_at, ℤ}
use mir.Syntax.{w64}
use denote.RawPtr.{Ptr}
use Rattle.ss_records_blocks.proofs.Entries.{get_inside, living_push, living_bound}
use Rattle.ss_records_blocks.proofs.Puts.{length-blanks, words_new, words_old}
use Rattle.ss_base.specs.Layout.{first_value}
use Rattle.ss_records_entities.proofs.ReadWords.{read_as}
use Rattle.std.proofs.lemmas.List.{length-append, length-map, map-append}
use Rattle.ss_records_entities.proofs.Keeps.{by_own, numbers_same, made_same, entry_is}
use Rattle.ss_records_entities.proofs.NamesCreated.{name_born}

first_of : (m : Mode) → value_of_words m 0 0 ≡ first_value m
first_of Integer = refl
first_of Alpha = refl

values_first : (ms : List Mode) (ws : List Word) (k : ℕ) → ((j : ℕ) → k ≤ j → j < k + 2 * length ms → word_of ws j ≡ number 0) → values_from ms ws k ≡ map first_value ms
values_first [] ws k h = refl
values_first (m ∷ ms) ws k h =
    let a : word_of ws k ≡ number 0 = h k (omega arith) (omega arith) in
    let b : word_of ws (k + 1) ≡ number 0 = h (k + 1) (omega arith) (omega arith) in
    let here : value_of_words m (plain (word_of ws k)) (plain (word_of ws (k + 1))) ≡ first_value m = (λ i. value_of_words m (plain (a i)) (plain (b i))) ∙ first_of m in
    λ i. here i ∷ values_first ms ws (k + 2) (λ j x y. h j (omega (arith, x)) (omega (arith, y))) i

time_first : (b : Bool) (ws : List Word) (n : ℕ) → 2 ≤ n → ((k : ℕ) → 2 ≤ k → k < n + cond b 1 0 → word_of ws k ≡ number 0) → cond b (cast_signed w64 (plain (word_of ws n))) (pos 0) ≡ pos 0
time_first true ws n low h = ap (λ w. cast_signed w64 (plain w)) (h n low (omega arith))
time_first false ws n low h = refl

pub record_first : (l : Layout) (c : ℕ) (ws : List Word) → class_in_words ws ≡ c → ((k : ℕ) → 2 ≤ k → k < links_start l c → word_of ws k ≡ number 0) → record_of l ws ≡ first_record l c
record_first l c ws e h =
    let values = values_first (modes_of l c) ws 2 (λ j a b. h j a (omega (arith, b))) in
    let time = time_first (is_notice (kind_of l c)) ws (values_end l c) (omega arith) h in
    ap (λ b. read_as l b ws) e ∙ (λ i. record { class = c; values = values i; time = time i })

pub get_cases : (d : Numbers) (q p : BlockPlace) (i : ℕ) → slice_get (d ++ Some q ∷ []) i ≡ Some (Some p) → ((i ≡ length d) × (q ≡ p)) ⊎ (slice_get d i ≡ Some (Some p))
get_cases [] q p zero h = inl (refl, entry_is h)
get_cases [] q p (suc i) h = cc
get_cases (z ∷ zs) q p zero h = inr h
get_cases (z ∷ zs) q p (suc i) h = elim (get_cases zs q p i h) as (λ _. ((suc i ≡ length (z ∷ zs)) × (q ≡ p)) ⊎ (slice_get zs i ≡ Some (Some p))) [ inl e ↦ inl (ap suc e.0, e.1) | inr k ↦ inr k ]

pub get_on : (d : Numbers) (q : BlockPlace) (i : ℕ) (p : BlockPlace) → slice_get d i ≡ Some (Some p) → slice_get (d ++ Some q ∷ []) i ≡ Some (Some p)
get_on [] q i p h = cc
get_on (z ∷ zs) q zero p h = h
get_on (z ∷ zs) q (suc i) p h = get_on zs q i p h

-- what is listed once a number is pushed
pushed : (d : Directory) (q : BlockPlace) (b i : ℕ) (p : BlockPlace) → slice_get (listing (lying (d.numbers ++ Some q ∷ []) d.classes) b) i ≡ Some (Some p) → ((i ≡ length d.numbers) × (q ≡ p)) ⊎ (slice_get (listing d b) i ≡ Some (Some p))
pushed d q b i p h = by_own (λ us vs. slice_get us i ≡ Some (Some p) → ((i ≡ length d.numbers) × (q ≡ p)) ⊎ (slice_get vs i ≡ Some (Some p))) (d.numbers ++ Some q ∷ []) d.numbers (get_cases d.numbers q p i) (λ us k. inr k) (slice_get d.classes b) h

push_on : (d : Directory) (q : BlockPlace) (b i : ℕ) (p : BlockPlace) → slice_get (listing d b) i ≡ Some (Some p) → slice_get (listing (lying (d.numbers ++ Some q ∷ []) d.classes) b) i ≡ Some (Some p)
push_on d q b i p h = by_own (λ us vs. slice_get vs i ≡ Some (Some p) → slice_get us i ≡ Some (Some p)) (d.numbers ++ Some q ∷ []) d.numbers (get_on d.numbers q i p) (λ us k. k) (slice_get d.classes b) h

no_words : {n m : ℕ} → 0 ≡ n → n ≡ m → 2 ≤ m → ⊥
no_words a b h = omega (arith, a, b, h)

-- a new block has its form
pub born_formed : (l : Layout) (ds : Cells) (end p : Ptr) (c n : ℕ) → IsBorn l ds end p c n → AreFormed l c n (words_at ds p)
born_formed l ds end p c n b = record {
  size = b.size;
  class = b.its_class;
  number = b.its_number;
  values = λ k h. by_same k 0
      (λ t i. subst (λ j. IsNumber (word_at ds p j)) (sym i) (subst IsNumber (sym b.its_class) tt))
      (λ t n. by_same k 1
      (λ t i. subst (λ j. IsNumber (word_at ds p j)) (sym i) (subst IsNumber (sym b.its_number) tt))
      (λ t m. subst IsNumber (sym (b.values k (omega (arith, n, m)) h)) tt));
}

-- how many permanent entities there may be
made_bound : (ms : Made) → ((c : ℕ) (ps : List BlockPlace) → slice_get ms c ≡ Some (Some ps) → length ps ≤ 2 ^ 20) → permanent_count ms ≤ length ms * 1048576
made_bound [] h = omega arith
made_bound (None ∷ ms) h = omega (arith, made_bound ms (λ c ps e. h (suc c) ps e))
made_bound (Some ps ∷ ms) h = omega (arith, made_bound ms (λ c qs e. h (suc c) qs e), h zero ps refl)

pub few_made : (l : Layout) (cs : Cells) (sys : Ptr) (d : Directory) (ms : List Members) → ArePartsKept l cs sys d ms → permanent_count d.classes ≤ 2 ^ 40
few_made l cs sys d ms K = omega (arith, made_bound d.classes (λ c ps e. (K.made c ps e).few), K.width, K.small.classes)

module _ (l : Layout) (cs : Cells) (sys : Ptr) (d : Directory) (ms : List Members) (K : ArePartsKept l cs sys d ms) where
  pub room_for_one : length cs + 1 < 2 ^ 64
  room_for_one = omega (arith, K.counted, K.issued, living_bound d.numbers, few_made l cs sys d ms K)

  -- a block that is new is none of an entity, nor that of the system
  module _ (q : Ptr) (fresh : words_at cs q ≡ []) where
    apart_from : (p : Ptr) (n : ℕ) → length (words_at cs p) ≡ n → 2 ≤ n → q ≡ p → ⊥
    apart_from p n h low i = no_words (sym (ap length fresh) ∙ ap (λ r. length (words_at cs r)) i) h low

    pub off_entry : (i : ℕ) (p : BlockPlace) → IsListedAt d i p → q ≡ p.at → ⊥
    off_entry i p h = apart_from p.at (block_words l (Class (class_at_place cs p))) (K.formed i p h).size (omega arith)

    pub off_sys : q ≡ sys → ⊥
    off_sys = apart_from sys (block_words l System) K.system (omega arith)

  -- no entity of a class of numbers has a number that is not issued
  pub not_yet : (c : ℕ) → (IsPermanent (kind_of l c) → ⊥) → IsEntityOf cs d c (suc (length d.numbers)) → ⊥
  not_yet c kind h = let a = entry_of cs d c (suc (length d.numbers)) h in by_entry a.0 a.1 a.2 a.4 (listed d c a.0 a.1 a.3) where
    less_self : {m k : ℕ} → suc m ≡ suc k → k < m → ⊥
    less_self x y = omega (arith, x, y)

    by_entry : (i : ℕ) (p : BlockPlace) → suc (length d.numbers) ≡ suc i → class_at_place cs p ≡ c → IsListedAt d i p → ⊥
    by_entry i p e k (inl m) = less_self e (get_inside d.numbers i (Some p) m)
    by_entry i p e k (inr (b, ps, m, x)) = let y = K.made b ps m in kind (subst (λ a. IsPermanent (kind_of l a)) (sym (y.class i p x) ∙ k) y.permanent)

  module _ (q : BlockPlace) (fresh : words_at cs q.at ≡ []) (w c : ℕ) (size : w ≡ block_words l (Class c)) (ds : Cells) (laid : IsLaid l ((q.at, blanks w) ∷ cs) ds sys q.at c (length d.numbers + 1)) (kind : IsPermanent (kind_of l c) → ⊥) (inside : c < length l.classes) (room : length d.numbers < LAST_NUMBER) where
    abbrev e : Directory
    e = lying (d.numbers ++ Some q ∷ []) d.classes

    kept_words : (p : Ptr) → (q.at ≡ p → ⊥) → words_at ds p ≡ words_at cs p
    kept_words p n = laid.written.others p n ∙ words_old cs q.at p (blanks w) n

    old : (i : ℕ) (p : BlockPlace) → IsListedAt d i p → words_at ds p.at ≡ words_at cs p.at
    old i p h = kept_words p.at (off_entry q.at fresh i p h)

    born : IsBorn l ds sys q.at c (suc (length d.numbers))
    born = record {
      size = laid.written.size ∙ ap length (words_new cs q.at (blanks w)) ∙ length-blanks w ∙ size;
      its_class = laid.its_class;
      its_number = laid.its_number ∙ ap number (omega arith);
      values = laid.values;
      links = laid.links;
      owned = laid.owned;
    }

    new_class : class_at_place ds q ≡ c
    new_class = ap plain laid.its_class

    by_entry : {P : Type 0} (i : ℕ) (p : BlockPlace) → IsListedAt e i p → ((i ≡ length d.numbers) → (q ≡ p) → P) → (IsListedAt d i p → P) → P
    by_entry {P} i p (inl h) new was = elim (get_cases d.numbers q p i h) as (λ _. P) [ inl x ↦ new x.0 x.1 | inr x ↦ was (inl x) ]
    by_entry {P} i p (inr m) new was = was (inr m)

    new_of : (b i : ℕ) (p : BlockPlace) → i ≡ length d.numbers → q ≡ p → class_at_place ds p ≡ b → IsBorn l ds sys p.at b (suc i) × (IsEntityOf cs d b (suc i) → ⊥)
    new_of b i p x y k =
        let same : c ≡ b = sym new_class ∙ ap (class_at_place ds) y ∙ k in
        let at : IsBorn l ds sys p.at c (suc (length d.numbers)) = subst (λ (r : BlockPlace). IsBorn l ds sys r.at c (suc (length d.numbers))) y born in
        subst (λ j. IsBorn l ds sys p.at b (suc j) × (IsEntityOf cs d b (suc j) → ⊥)) (sym x) (subst (λ a. IsBorn l ds sys p.at a (suc (length d.numbers))) same at, not_yet b (subst (λ a. IsPermanent (kind_of l a) → ⊥) same kind))

    pub kept_created : ArePartsKept l ds sys e ms
    kept_created = record {
      small = K.small;
      issued = omega (arith, length-append d.numbers (Some q ∷ []), room);
      width = K.width;
      system = ap length (kept_words sys (off_sys q.at fresh)) ∙ K.system;
      end = ap (λ us. word_of us 1) (kept_words sys (off_sys q.at fresh)) ∙ K.end;
      kinds = λ i p h. elim (get_cases d.numbers q p i h) as (λ _. IsPermanent (kind_of l (class_at_place ds p)) → ⊥) [
        | inl x ↦ subst (λ (r : BlockPlace). IsPermanent (kind_of l (class_at_place ds r)) → ⊥) x.1 (subst (λ b. IsPermanent (kind_of l b) → ⊥) (sym new_class) kind)
        | inr x ↦ subst (λ us. IsPermanent (kind_of l (class_in_words us)) → ⊥) (sym (old i p (inl x))) (K.kinds i p x)
      ];
      made = λ b ps h. let m = K.made b ps h in record { permanent = m.permanent; class = λ i p x. ap class_in_words (old i p (inr (b, ps, h, x))) ∙ m.class i p x; few = m.few };
      classes = λ i p h. by_entry i p h
          (λ x y. subst (λ (r : BlockPlace). class_at_place ds r < length l.classes) y (subst (λ b. b < length l.classes) (sym new_class) inside))
          (λ x. subst (λ us. class_in_words us < length l.classes) (sym (old i p x)) (K.classes i p x));
      formed = λ i p h. by_entry i p h
          (λ x y. subst (λ (r : BlockPlace). AreFormed l (class_at_place ds r) (suc i) (words_at ds r.at)) y (subst (λ b. AreFormed l b (suc i) (words_at ds q.at)) (sym new_class) (subst (λ j. AreFormed l c (suc j) (words_at ds q.at)) (sym x) (born_formed l ds sys q.at c (suc (length d.numbers)) born))))
          (λ x. subst (λ us. AreFormed l (class_in_words us) (suc i) us) (sym (old i p x)) (K.formed i p x));
      apart = λ i j p r h k z. by_entry i p h
          (λ x y. by_entry j r k (λ x' y'. x ∙ sym x') (λ x'. absurd (off_entry q.at fresh j r x' (ap (λ (o : BlockPlace). o.at) y ∙ z))))
          (λ x. by_entry j r k (λ x' y'. absurd (off_entry q.at fresh i p x (ap (λ (o : BlockPlace). o.at) y' ∙ sym z))) (λ x'. K.apart i j p r x x' z));
      off_system = λ i p h. by_entry i p h (λ x y z. off_sys q.at fresh (ap (λ (o : BlockPlace). o.at) y ∙ z)) (λ x. K.off_system i p x);
      counted = omega (arith, laid.written.count, K.counted, living_push d.numbers q);
      names = λ s t g. name_born l cs sys d ms K s t g e ds (kept_words sys (off_sys q.at fresh))
          (λ b i p h k. elim (pushed d q b i p h) as (λ _. (IsBorn l ds sys p.at b (suc i) × (IsEntityOf cs d b (suc i) → ⊥)) ⊎ ((slice_get (listing d b) i ≡ Some (Some p)) × (words_at ds p.at ≡ words_at cs p.at))) [
            | inl x ↦ inl (new_of b i p x.0 x.1 k)
            | inr x ↦ inr (x, old i p (listed d b i p x))
          ])
          (λ b i p h k. (push_on d q b i p h, ap class_in_words (old i p (listed d b i p h)) ∙ k));
    }

    records_created : map (record_at l ds) e.numbers ≡ map (record_at l cs) d.numbers ++ Some (first_record l c) ∷ []
    records_created =
        map-append (record_at l ds) d.numbers (Some q ∷ []) ∙ (λ i. numbers_same l cs ds d.numbers (λ j p h. ap (record_of l) (old j p (inl h))) i ++ Some (record_first l c (words_at ds q.at) new_class laid.values i) ∷ [])

    permanents_kept : map (records_at l ds) d.classes ≡ map (records_at l cs) d.classes
    permanents_kept = made_same l cs ds d.classes (λ i p h. ap (record_of l) (old i p (inr h)))

    pub is_created : (z : ℤ) → z ≡ pos (length d.numbers + 1) → created (state_of l cs d ms) c ≡ Ok (z, state_of l ds e ms)
    is_created z h =
        let n : length (map (record_at l cs) d.numbers) ≡ length d.numbers = length-map d.numbers (record_at l cs) in
        let may : nat_lt (length d.numbers) LAST_NUMBER ≡ true = lt-ltb (length d.numbers) LAST_NUMBER room in
        rw (n, may) (λ i. Ok (sym h i, record (state_of l cs d ms) { records = sym records_created i; permanents = sym permanents_kept i }))
