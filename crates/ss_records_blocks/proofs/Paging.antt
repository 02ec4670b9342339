-- Pages: what a number leads to once one is noted, let go of, or the current page turns.
use Rattle.std.proofs.Common.{◌≡◌, ℕ, zero, suc, ◌+◌, ◌-◌, ◌*◌, ◌/◌, ◌%◌, ◌^◌, ◌<◌, ◌≤◌, Bool, true, false, cond, List, [], ◌∷◌, ◌++◌, length, get_or, slice_get, slice_set, replicate, Option, Some, None, inl, inr, refl, sym, ap, subst, ◌∙◌, arith}
use Rattle.std.specs.Prelude.{nat_le, nat_eq, IfSome}
use Rattle.std.specs.Ordering.{nat_cmp, is_eq}
use Rattle.std.specs.Cmp.{nat_cmp_is}
use Rattle.std.specs.declared.cmp.Ordering.TheVariants.{Less, Equal, Greater}
use Rattle.std.specs.BTreeMap.{is_at}
use Rattle.std.specs.Map.{lookup, values_of, set_value, remove_entry}
use Rattle.std.specs.List.{sum_by}
use Rattle.std.specs.Option.{unwrap_or, option_map}
use Rattle.std.proofs.lemmas.Map.Entries.{sum_by-set_value, sum_by-remove_entry}
use Rattle.std.proofs.lemmas.List.{get_or-set_other, get_or-set_same, length-append, length-replicate, map-append, set-append_left}
use Rattle.std.proofs.lemmas.List.Sums.{sum_by-cons, sum_by_push}
use Rattle.std.proofs.lemmas.Bool.{cases_lt, eqb-false, le-leb, lt-leb}
use Rattle.std.proofs.lemmas.Option.{none-some, same_Some, slice_get-get_or}
use Rattle.ss_records_blocks.specs.declared.store.BlockPlace.{BlockPlace}
use Rattle.ss_records_blocks.specs.Places.{living_count}
use Rattle.ss_records_blocks.specs.Pages.{Page, Pages, in_page, slot, page_of, entry, tabulate, IsPaged}
use Rattle.ss_records_blocks.proofs.Same.{same, differs, equal, by_same}
use Rattle.ss_records_blocks.proofs.Entries.{get_end, get_front, get_inside, living_push, living_bound, living_gone, length_set}

pub quot : (i : ℕ) → i ≡ 256 * (i / 256) + i % 256
quot i = omega arith

pub rem : (i : ℕ) → i % 256 < 256
rem i = omega arith

set_end : {A : Type 0} (xs : List A) (x v : A) → slice_set (xs ++ x ∷ []) (length xs) v ≡ xs ++ v ∷ []
set_end [] x v = refl
set_end (y ∷ ys) x v = ap (λ l. y ∷ l) (set_end ys x v)

pub upto_length : {A : Type 0} (f : ℕ → A) (n : ℕ) → length (tabulate f n) ≡ n
upto_length f zero = refl
upto_length f (suc n) = omega (arith, length-append (tabulate f n) (f n ∷ []), upto_length f n)

pub upto_get : {A : Type 0} (f : ℕ → A) (n i : ℕ) → i < n → slice_get (tabulate f n) i ≡ Some (f i)
upto_get f zero i h = absurd (omega (arith, h))
upto_get f (suc n) i h = by_same i n
    (λ e q. (λ z. slice_get (tabulate f n ++ f n ∷ []) ((q ∙ sym (upto_length f n)) z)) ∙ get_end (tabulate f n) (f n) ∙ ap (λ k. Some (f k)) (sym q))
    (λ e m. let k : i < n = omega (arith, h, m) in get_front (tabulate f n) (f n ∷ []) i (omega (arith, k, upto_length f n)) ∙ upto_get f n i k)

pub upto_same : {A : Type 0} (f g : ℕ → A) (n : ℕ) → ((i : ℕ) → i < n → g i ≡ f i) → tabulate g n ≡ tabulate f n
upto_same f g zero h = refl
upto_same f g (suc n) h = λ z. upto_same f g n (λ i k. h i (omega (arith, k))) z ++ h n (omega arith) z ∷ []

pub upto_set : {A : Type 0} (f g : ℕ → A) (n i : ℕ) (v : A) → i < n → g i ≡ v → ((j : ℕ) → j < n → (i ≡ j → ⊥) → g j ≡ f j) → tabulate g n ≡ slice_set (tabulate f n) i v
upto_set f g zero i v h e o = absurd (omega (arith, h))
upto_set f g (suc n) i v h e o = by_same i n
    (λ z q.
    (λ t. upto_same f g n (λ j k. o j (omega (arith, k)) (λ r. absurd (not_less i j n r q k))) t ++ (ap g (sym q) ∙ e) t ∷ [])
    ∙ sym (set_end (tabulate f n) (f n) v) ∙ (λ t. slice_set (tabulate f n ++ f n ∷ []) ((upto_length f n ∙ sym q) t) v))
    (λ z m. let k : i < n = omega (arith, h, m) in
    (λ t. upto_set f g n i v k e (λ j a b. o j (omega (arith, a)) b) t ++ o n (omega arith) m t ∷ [])
    ∙ sym (set-append_left (tabulate f n) (f n ∷ []) i v (omega (arith, k, upto_length f n)))) where
      not_less : (a b c : ℕ) → a ≡ b → a ≡ c → b < c → ⊥
      not_less a b c p q r = omega (arith, p, q, r)

-- ## Pages by themselves

pub at_least_one : (n : ℕ) → nat_eq n 0 ≡ false → 1 ≤ n
at_least_one n z = let h = eqb-false n 0 z in omega arith

pub none_living : (p : Page) (k : ℕ) → living_count p ≡ 0 → slot (Some p) k ≡ None
none_living [] k h = refl
none_living (None ∷ ps) zero h = refl
none_living (None ∷ ps) (suc k) h = none_living ps k h
none_living (Some q ∷ ps) k h = absurd (omega (arith, h))

pub living_set : (p : Page) (k : ℕ) (q : BlockPlace) → slice_get p k ≡ Some None → living_count (slice_set p k (Some q)) ≡ living_count p + 1
living_set [] k q h = cc
living_set (None ∷ ps) zero q h = omega arith
living_set (Some r ∷ ps) zero q h = cc
living_set (None ∷ ps) (suc k) q h = living_set ps k q h
living_set (Some r ∷ ps) (suc k) q h = omega (arith, living_set ps k q h)

pub some_living : (p : Page) (k : ℕ) (q : BlockPlace) → slice_get p k ≡ Some (Some q) → 1 ≤ living_count p
some_living p k q h = omega (arith, living_gone p k q h)

pub living_none : (n : ℕ) → living_count (replicate n None) ≡ 0
living_none zero = refl
living_none (suc n) = living_none n

pub page_few : (p : Page) → length p ≡ 256 → living_count p ≤ 256
page_few p h = omega (arith, living_bound p, h)

slot_get : (p : Page) (k : ℕ) → slot (Some p) k ≡ get_or p k None
slot_get [] k = refl
slot_get (x ∷ xs) zero = refl
slot_get (x ∷ xs) (suc k) = slot_get xs k

slot_set : (p : Page) (k : ℕ) (v : Option BlockPlace) → k < length p → slot (Some (slice_set p k v)) k ≡ v
slot_set p k v h = slot_get (slice_set p k v) k ∙ get_or-set_same p k v None h

slot_other : (p : Page) (k : ℕ) (v : Option BlockPlace) (j : ℕ) → (k ≡ j → ⊥) → slot (Some (slice_set p k v)) j ≡ slot (Some p) j
slot_other p k v j n = slot_get (slice_set p k v) j ∙ get_or-set_other p k j v None (λ e. n (sym e)) ∙ sym (slot_get p j)

pub slot_is : (p : Page) (k : ℕ) → k < length p → slice_get p k ≡ Some (slot (Some p) k)
slot_is p k h = slice_get-get_or p k None h ∙ ap Some (sym (slot_get p k))

-- ## The place of a number

pub is_at_same : (q : ℕ) → is_at (nat_cmp q) q ≡ true
is_at_same q = ap is_eq (sym (nat_cmp_is q q Equal refl))

pub is_at_other : (q j : ℕ) → (q ≡ j → ⊥) → is_at (nat_cmp q) j ≡ false
is_at_other q j n = elim (cases_lt q j) as (λ _. is_at (nat_cmp q) j ≡ false) [
  | inl h ↦ ap is_eq (sym (nat_cmp_is q j Less h))
  | inr h ↦ ap is_eq (sym (nat_cmp_is q j Greater (omega (arith, h, n))))
]

pub at_current : (ps : Pages) (cur : Page) (start i : ℕ) → start ≤ i → entry ps cur start i ≡ slot (Some cur) (i - start)
at_current ps cur start i h = let t : nat_le start i ≡ true = le-leb start i h in rw t refl

pub at_earlier : (ps : Pages) (cur : Page) (start i : ℕ) → i < start → entry ps cur start i ≡ slot (page_of ps (i / 256)) (i % 256)
at_earlier ps cur start i h = let t : nat_le start i ≡ false = lt-leb start i h in rw t refl

by_part : {P : Type 0} (start i : ℕ) → (start ≤ i → P) → (i < start → P) → P
by_part {P} start i here earlier = elim (cases_lt i start) as (λ _. P) [ inl h ↦ earlier h | inr h ↦ here h ]

-- ## A page after the others

last_passes : (test : ℕ → Bool) (es : Pages) (q : ℕ) (cur : Page) → lookup test es ≡ None → test q ≡ true → lookup test (es ++ (q, cur) ∷ []) ≡ Some cur
last_passes test [] q cur h t = ap (λ b. cond b (Some cur) None) t
last_passes test (e ∷ es) q cur h t = (elim (test e.0) as (λ b. cond b (Some e.1) (lookup test es) ≡ None → cond b (Some e.1) (lookup test (es ++ (q, cur) ∷ [])) ≡ Some cur) [ true ↦ λ z. cc | false ↦ λ z. last_passes test es q cur z t ]) h

last_fails : (test : ℕ → Bool) (es : Pages) (q : ℕ) (cur : Page) → test q ≡ false → lookup test (es ++ (q, cur) ∷ []) ≡ lookup test es
last_fails test [] q cur t = ap (λ b. cond b (Some cur) None) t
last_fails test (e ∷ es) q cur t = ap (cond (test e.0) (Some e.1)) (last_fails test es q cur t)

page_turned : (ps : Pages) (q : ℕ) (cur : Page) → page_of ps q ≡ None → (r : ℕ) → page_of (ps ++ (q, cur) ∷ []) r ≡ cond (is_at (nat_cmp q) r) (Some cur) (page_of ps r)
page_turned ps q cur none r = by_same q r
    (λ _ e. last_passes (is_at (nat_cmp r)) ps q cur (ap (page_of ps) (sym e) ∙ none) (ap (is_at (nat_cmp r)) e ∙ is_at_same r) ∙ sym (ap (λ b. cond b (Some cur) (page_of ps r)) (ap (is_at (nat_cmp q)) (sym e) ∙ is_at_same q)))
    (λ _ n. last_fails (is_at (nat_cmp r)) ps q cur (is_at_other r q (λ e. n (sym e))) ∙ sym (ap (λ b. cond b (Some cur) (page_of ps r)) (is_at_other q r n)))

sum_turned : (ps : Pages) (q : ℕ) (cur : Page) → sum_by living_count (values_of (ps ++ (q, cur) ∷ [])) ≡ sum_by living_count (values_of ps) + living_count cur
sum_turned ps q cur = ap (sum_by living_count) (map-append (λ (e : ℕ × Page). e.1) ps ((q, cur) ∷ [])) ∙ sum_by_push living_count (values_of ps) cur

module _ (ps : Pages) (cur : Page) (start issued : ℕ) (P : IsPaged ps cur start issued) where
  abbrev f : ℕ → Option BlockPlace
  f = entry ps cur start

  -- the slot of the next number
  pub next_slot : issued < start + 256 → slice_get cur (issued - start) ≡ Some None
  next_slot h = let k : issued - start < length cur = omega (arith, h, P.low, P.size) in slot_is cur (issued - start) k ∙ ap Some (P.rest (issued - start) (omega (arith, P.low)))

  module _ (q : BlockPlace) (room : issued < start + 256) where
    abbrev cur' : Page
    cur' = slice_set cur (issued - start) (Some q)

    pushed_before : (i : ℕ) → i < issued → entry ps cur' start i ≡ f i
    pushed_before i h = by_part start i
        (λ a. at_current ps cur' start i a ∙ slot_other cur (issued - start) (Some q) (i - start) (λ e. absurd (apart a e)) ∙ sym (at_current ps cur start i a))
        (λ a. at_earlier ps cur' start i a ∙ sym (at_earlier ps cur start i a)) where
          apart : start ≤ i → issued - start ≡ i - start → ⊥
          apart a e = omega (arith, a, e, h, P.low)

    pushed_at : entry ps cur' start issued ≡ Some q
    pushed_at = at_current ps cur' start issued P.low ∙ slot_set cur (issued - start) (Some q) (omega (arith, room, P.low, P.size))

    pub places_pushed : tabulate (entry ps cur' start) (issued + 1) ≡ tabulate f issued ++ Some q ∷ []
    places_pushed = let n : issued + 1 ≡ suc issued = omega arith in rw n (λ z. upto_same f (entry ps cur' start) issued pushed_before z ++ pushed_at z ∷ [])

    pub paged_pushed : IsPaged ps cur' start (issued + 1)
    paged_pushed = record {
      pages = P.pages;
      size = length_set cur (issued - start) (Some q) ∙ P.size;
      whole = P.whole;
      low = omega (arith, P.low);
      high = omega (arith, room);
      rest = λ k h. slot_other cur (issued - start) (Some q) k (λ e. absurd (later k h e)) ∙ P.rest k (omega (arith, h));
      total = omega (arith, P.total, living_set cur (issued - start) q (next_slot room), ap living_count places_pushed, living_push (tabulate f issued) q);
    } where
      later : (k : ℕ) → issued + 1 ≤ start + k → issued - start ≡ k → ⊥
      later k h e = omega (arith, h, e, P.low)

  -- the current page is full
  module _ (full : issued ≡ start + 256) where
    abbrev here : ℕ
    here = start / 256

    start_is : start ≡ here * 256
    start_is = omega (arith, quot start, P.whole)

    in_current : (i : ℕ) → start ≤ i → i < issued → (i / 256 ≡ here) × (i % 256 ≡ i - start)
    in_current i a b = (omega (arith, a, b, full, quot i, rem i, start_is), omega (arith, a, b, full, quot i, rem i, start_is))

    before_here : (i : ℕ) → i < start → here ≡ i / 256 → ⊥
    before_here i a e = omega (arith, a, e, quot i, start_is)

    pub no_page_here : page_of ps here ≡ None
    no_page_here = (elim (page_of ps here) as (λ o. page_of ps here ≡ o → o ≡ None) [ None ↦ λ e. refl | Some p ↦ λ e. absurd (omega (arith, (P.pages here p e).2, start_is)) ]) refl

    -- and all its numbers are destroyed: it serves the next
    module _ (none : living_count cur ≡ 0) where
      pub places_again : tabulate (entry ps cur (start + 256)) issued ≡ tabulate f issued
      places_again = upto_same f (entry ps cur (start + 256)) issued (λ i h. at_earlier ps cur (start + 256) i (omega (arith, h, full)) ∙ by_part start i
          (λ a. (λ z. slot (page_of ps ((in_current i a h).0 z)) (i % 256)) ∙ ap (λ o. slot o (i % 256)) no_page_here ∙ sym (at_current ps cur start i a ∙ none_living cur (i - start) none))
          (λ a. sym (at_earlier ps cur start i a)))

      pub paged_again : IsPaged ps cur (start + 256) issued
      paged_again = record {
        pages = λ q p e. let k = P.pages q p e in (k.0, k.1, omega (arith, k.2));
        size = P.size;
        whole = omega (arith, start_is);
        low = omega (arith, full);
        high = omega (arith, full);
        rest = λ k h. none_living cur k none;
        total = P.total ∙ ap living_count (sym places_again);
      }

    pub below_here : (q : ℕ) (p : Page) → page_of ps q ≡ Some p → q < here
    below_here q p e = let k = (P.pages q p e).2 in omega (arith, k, start_is)

    -- it goes after the others, and a new one serves the next
    module _ (some : 1 ≤ living_count cur) where
      abbrev es : Pages
      es = ps ++ (here, cur) ∷ []

      abbrev new : Page
      new = replicate 256 None

      has_here : page_of es here ≡ Some cur
      has_here = page_turned ps here cur no_page_here here ∙ ap (λ b. cond b (Some cur) (page_of ps here)) (is_at_same here)

      has_other : (q : ℕ) → (here ≡ q → ⊥) → page_of es q ≡ page_of ps q
      has_other q n = page_turned ps here cur no_page_here q ∙ ap (λ b. cond b (Some cur) (page_of ps q)) (is_at_other here q n)

      pub places_turned : tabulate (entry es new (start + 256)) issued ≡ tabulate f issued
      places_turned = upto_same f (entry es new (start + 256)) issued (λ i h. at_earlier es new (start + 256) i (omega (arith, h, full)) ∙ by_part start i
          (λ a. let n = in_current i a h in (λ z. slot (page_of es (n.0 z)) (n.1 z)) ∙ ap (λ o. slot o (i - start)) has_here ∙ sym (at_current ps cur start i a))
          (λ a. ap (λ o. slot o (i % 256)) (has_other (i / 256) (before_here i a)) ∙ sym (at_earlier ps cur start i a)))

      pub paged_turned : IsPaged es new (start + 256) issued
      paged_turned = record {
        pages = λ q p e. by_same here q
            (λ z n. let s : cur ≡ p = same_Some cur p (sym has_here ∙ ap (page_of es) n ∙ e) in (ap length (sym s) ∙ P.size, subst (λ v. 1 ≤ living_count v) s some, omega (arith, n, start_is)))
            (λ z n. let k = P.pages q p (sym (has_other q n) ∙ e) in (k.0, k.1, omega (arith, k.2)));
        size = length-replicate {A = Option BlockPlace} 256 None;
        whole = omega (arith, start_is);
        low = omega (arith, full);
        high = omega (arith, full);
        rest = λ k h. none_living new k (living_none 256);
        total = omega (arith, sum_turned ps here cur, P.total, ap living_count places_turned, living_none 256);
      }

  -- a number is let go of
  module _ (i : ℕ) (p : BlockPlace) (g : slice_get (tabulate f issued) i ≡ Some (Some p)) where
    inside : i < issued
    inside = omega (arith, get_inside (tabulate f issued) i (Some p) g, upto_length f issued)

    is_there : f i ≡ Some p
    is_there = same_Some (f i) (Some p) (sym (upto_get f issued i inside) ∙ g)

    pub gone : living_count (slice_set (tabulate f issued) i None) + 1 ≡ living_count (tabulate f issued)
    gone = living_gone (tabulate f issued) i p g

    module _ (a : start ≤ i) where
      pub in_cur : slice_get cur (i - start) ≡ Some (Some p)
      in_cur = slot_is cur (i - start) (omega (arith, a, inside, P.high, P.size)) ∙ ap Some (sym (at_current ps cur start i a) ∙ is_there)

      pub in_page_room : i - start < 256
      in_page_room = omega (arith, a, inside, P.high)

      abbrev cur'' : Page
      cur'' = slice_set cur (i - start) None

      pub places_cleared : tabulate (entry ps cur'' start) issued ≡ slice_set (tabulate f issued) i None
      places_cleared = upto_set f (entry ps cur'' start) issued i None inside
          (at_current ps cur'' start i a ∙ slot_set cur (i - start) None (omega (arith, in_page_room, P.size)))
          (λ j h n. by_part start j
          (λ b. at_current ps cur'' start j b ∙ slot_other cur (i - start) None (j - start) (λ e. n (omega (arith, a, b, e))) ∙ sym (at_current ps cur start j b))
          (λ b. at_earlier ps cur'' start j b ∙ sym (at_earlier ps cur start j b)))

      pub paged_cleared : IsPaged ps cur'' start issued
      paged_cleared = record {
        pages = P.pages;
        size = length_set cur (i - start) None ∙ P.size;
        whole = P.whole;
        low = P.low;
        high = P.high;
        rest = λ k h. slot_other cur (i - start) None k (λ e. absurd (later k h e)) ∙ P.rest k h;
        total = omega (arith, P.total, living_gone cur (i - start) p in_cur, gone, ap living_count places_cleared);
      } where
        later : (k : ℕ) → issued ≤ start + k → i - start ≡ k → ⊥
        later k h e = omega (arith, h, e, a, inside)

    module _ (a : i < start) where
      abbrev q : ℕ
      q = i / 256

      pub its_page : (pg : Page) × (page_of ps q ≡ Some pg) × (length pg ≡ 256) × (slice_get pg (i % 256) ≡ Some (Some p))
      its_page = by_case (page_of ps q) refl where
        by_case : (o : Option Page) → page_of ps q ≡ o → (pg : Page) × (page_of ps q ≡ Some pg) × (length pg ≡ 256) × (slice_get pg (i % 256) ≡ Some (Some p))
        by_case None e = absurd (none-some p (sym (at_earlier ps cur start i a ∙ ap (λ o. slot o (i % 256)) e) ∙ is_there))
        by_case (Some pg) e = let k = P.pages q pg e in
            (pg, e, k.0, slot_is pg (i % 256) (omega (arith, rem i, k.0)) ∙ ap Some (sym (at_earlier ps cur start i a ∙ ap (λ o. slot o (i % 256)) e) ∙ is_there))

      -- the pages with another, or none, in its place
      module _ (pg : Page) (was : page_of ps q ≡ Some pg) (es : Pages) (w : Option Page) (has : (r : ℕ) → page_of es r ≡ cond (is_at (nat_cmp q) r) w (page_of ps r)) (slots : (k : ℕ) → slot w k ≡ slot (Some (slice_set pg (i % 256) None)) k)
          (good : (v : Page) → w ≡ Some v → (length v ≡ 256) × (1 ≤ living_count v)) (sum : sum_by living_count (values_of es) + 1 ≡ sum_by living_count (values_of ps)) where
        size : length pg ≡ 256
        size = (P.pages q pg was).0

        has_it : page_of es q ≡ w
        has_it = has q ∙ ap (λ b. cond b w (page_of ps q)) (is_at_same q)

        has_rest : (r : ℕ) → (q ≡ r → ⊥) → page_of es r ≡ page_of ps r
        has_rest r n = has r ∙ ap (λ b. cond b w (page_of ps r)) (is_at_other q r n)

        pub places_dropped : tabulate (entry es cur start) issued ≡ slice_set (tabulate f issued) i None
        places_dropped = upto_set f (entry es cur start) issued i None inside
            (at_earlier es cur start i a ∙ ap (λ o. slot o (i % 256)) has_it ∙ slots (i % 256) ∙ slot_set pg (i % 256) None (omega (arith, rem i, size)))
            (λ j h n. by_part start j
            (λ b. at_current es cur start j b ∙ sym (at_current ps cur start j b))
            (λ b. at_earlier es cur start j b ∙ by_same q (j / 256)
            (λ z e. ap (λ r. slot (page_of es r) (j % 256)) (sym e) ∙ ap (λ o. slot o (j % 256)) has_it ∙ slots (j % 256) ∙ slot_other pg (i % 256) None (j % 256) (λ k. n (both i j e k))
            ∙ ap (λ o. slot o (j % 256)) (sym was) ∙ ap (λ r. slot (page_of ps r) (j % 256)) e)
            (λ z e. ap (λ o. slot o (j % 256)) (has_rest (j / 256) e))
            ∙ sym (at_earlier ps cur start j b))) where
              both : (x y : ℕ) → x / 256 ≡ y / 256 → x % 256 ≡ y % 256 → x ≡ y
              both x y e k = omega (arith, e, k, quot x, quot y)

        pub paged_dropped : IsPaged es cur start issued
        paged_dropped = record {
          pages = λ r v e. by_same q r
              (λ z n. let k = good v (sym has_it ∙ ap (page_of es) n ∙ e) in (k.0, k.1, subst (λ m. m * 256 < start) n (P.pages q pg was).2))
              (λ z n. P.pages r v (sym (has_rest r n) ∙ e));
          size = P.size;
          whole = P.whole;
          low = P.low;
          high = P.high;
          rest = P.rest;
          total = omega (arith, sum, P.total, gone, ap living_count places_dropped);
        }

-- ## Reading, and how many pages there are

module _ (ps : Pages) (cur : Page) (start issued : ℕ) (P : IsPaged ps cur start issued) where
  module _ (i : ℕ) (h : i < length (tabulate (entry ps cur start) issued)) where
    pub inside_of : i < issued
    inside_of = omega (arith, h, upto_length (entry ps cur start) issued)

    pub room_current : start ≤ i → i - start < 256
    room_current a = omega (arith, a, inside_of, P.high)

    pub read_current : start ≤ i → (e : Option BlockPlace) → slice_get cur (i - start) ≡ Some e → slice_get (tabulate (entry ps cur start) issued) i ≡ Some e
    read_current a e g = upto_get (entry ps cur start) issued i inside_of ∙ ap Some (at_current ps cur start i a ∙ ap in_page g)

    pub read_earlier : i < start → (p : Page) → page_of ps (i / 256) ≡ Some p → (e : Option BlockPlace) → slice_get p (i % 256) ≡ Some e → slice_get (tabulate (entry ps cur start) issued) i ≡ Some e
    read_earlier a p w e g = upto_get (entry ps cur start) issued i inside_of ∙ ap Some (at_earlier ps cur start i a ∙ ap (λ o. slot o (i % 256)) w ∙ ap in_page g)

    pub read_none : i < start → page_of ps (i / 256) ≡ None → slice_get (tabulate (entry ps cur start) issued) i ≡ Some None
    read_none a w = upto_get (entry ps cur start) issued i inside_of ∙ ap Some (at_earlier ps cur start i a ∙ ap (λ o. slot o (i % 256)) w)

  -- reading any number, where its page was found
  module _ (i : ℕ) (e : Option BlockPlace) where
    long : i < issued → i < length (tabulate (entry ps cur start) issued)
    long h = omega (arith, h, upto_length (entry ps cur start) issued)

    by_entry : (v : Option BlockPlace) → slice_get (tabulate (entry ps cur start) issued) i ≡ Some v → IfSome v (λ p. slice_get (tabulate (entry ps cur start) issued) i ≡ Some (Some p))
    by_entry None h = tt
    by_entry (Some p) h = h

    pub near_current : start ≤ i → i < issued → slice_get cur (i - start) ≡ Some e → IfSome e (λ p. slice_get (tabulate (entry ps cur start) issued) i ≡ Some (Some p))
    near_current a h g = by_entry e (read_current i (long h) a e g)

    pub near_earlier : i < start → (p : Page) → page_of ps (i / 256) ≡ Some p → slice_get p (i % 256) ≡ Some e → IfSome e (λ p. slice_get (tabulate (entry ps cur start) issued) i ≡ Some (Some p))
    near_earlier a p w g = by_entry e (read_earlier i (long (omega (arith, a, P.low))) a p w e g)

    near_issued : start ≤ i → slice_get cur (i - start) ≡ Some e → IfSome e (λ p. slice_get (tabulate (entry ps cur start) issued) i ≡ Some (Some p))
    near_issued a g = by_part issued i none (λ b. near_current a b g) where
      none : issued ≤ i → IfSome e (λ p. slice_get (tabulate (entry ps cur start) issued) i ≡ Some (Some p))
      none b = let is : e ≡ None = sym (ap in_page g) ∙ P.rest (i - start) (omega (arith, a, b)) in rw is tt

    -- by how far a number is from the start, as 64 bits
    module _ (low : start < 2 ^ 64) (fits : i < 2 ^ 64) where
      abbrev far : ℕ
      far = (i + (2 ^ 64 - start)) % 2 ^ 64

      pub near_within : far < 256 → slice_get cur far ≡ Some e → IfSome e (λ p. slice_get (tabulate (entry ps cur start) issued) i ≡ Some (Some p))
      near_within a g = near_issued from (subst (λ k. slice_get cur k ≡ Some e) is g) where
        from : start ≤ i
        from = omega (arith, a, low, fits, P.whole)

        is : far ≡ i - start
        is = omega (arith, from, low, fits)

      pub near_beyond : 256 ≤ far → (p : Page) → page_of ps (i / 256) ≡ Some p → slice_get p (i % 256) ≡ Some e → IfSome e (λ p. slice_get (tabulate (entry ps cur start) issued) i ≡ Some (Some p))
      near_beyond a p w g = by_part start i (λ b. absurd (clash b)) (λ b. near_earlier b p w g) where
        clash : start ≤ i → ⊥
        clash b = let h = (P.pages (i / 256) p w).2 in omega (arith, a, b, low, fits, h, quot i, rem i)

  -- where a page is not held, none of its numbers is living
  pub not_held : (q : ℕ) → q < start / 256 → page_of ps q ≡ None → (i : ℕ) → i / 256 ≡ q → in_page (slice_get (tabulate (entry ps cur start) issued) i) ≡ None
  not_held q a w i e = ap in_page (read_none i (omega (arith, before, P.low, upto_length (entry ps cur start) issued)) before (ap (page_of ps) e ∙ w)) where
    before : i < start
    before = omega (arith, a, e, quot i, rem i, quot start)

each_living : (es : Pages) → ((i q : ℕ) (p : Page) → slice_get es i ≡ Some (q, p) → 1 ≤ living_count p) → length es ≤ sum_by living_count (values_of es)
each_living [] h = omega arith
each_living (e ∷ es) h = omega (arith, each_living es (λ i q p g. h (suc i) q p g), h 0 e.0 e.1 refl, sum_by-cons living_count e.1 (values_of es))

-- each earlier page has a living number
pub pages_few : (ps : Pages) (cur : Page) (start issued : ℕ) → IsPaged ps cur start issued → ((i q : ℕ) (p : Page) → slice_get ps i ≡ Some (q, p) → page_of ps q ≡ Some p) → length ps ≤ living_count (tabulate (entry ps cur start) issued)
pages_few ps cur start issued P found = omega (arith, P.total, each_living ps (λ i q p g. (P.pages q p (found i q p g)).1))

pub paged_first : IsPaged [] (replicate 256 None) 0 0
paged_first = record {
  pages = λ q p e. cc;
  size = length-replicate {A = Option BlockPlace} 256 None;
  whole = omega arith;
  low = omega arith;
  high = omega arith;
  rest = λ k h. none_living (replicate 256 None) k (living_none 256);
  total = omega (arith, living_none 256);
}

-- ## A number of an earlier page is let go of

module _ (ps : Pages) (cur : Page) (start issued : ℕ) (P : IsPaged ps cur start issued) (i : ℕ) (p : BlockPlace) (g : slice_get (tabulate (entry ps cur start) issued) i ≡ Some (Some p)) (a : i < start) where
  abbrev found : (pg : Page) × (page_of ps (i / 256) ≡ Some pg) × (length pg ≡ 256) × (slice_get pg (i % 256) ≡ Some (Some p))
  found = its_page ps cur start issued P i p g a

  abbrev left : Page
  left = slice_set found.0 (i % 256) None

  less_one : living_count left + 1 ≡ living_count found.0
  less_one = living_gone found.0 (i % 256) p found.3

  module _ (ms : Pages) (is : ms ≡ set_value (is_at (nat_cmp (i / 256))) ps left) (has : (r : ℕ) → page_of ms r ≡ cond (is_at (nat_cmp (i / 256)) r) (Some left) (page_of ps r)) where
    sum_set : sum_by living_count (values_of ms) + 1 ≡ sum_by living_count (values_of ps)
    sum_set = omega (arith, ap (λ (e : Pages). sum_by living_count (values_of e)) is, sum_by-set_value living_count (is_at (nat_cmp (i / 256))) ps found.0 left found.1, less_one)

    module _ (some : nat_eq (living_count left) 0 ≡ false) where
      good : (v : Page) → Some left ≡ Some v → (length v ≡ 256) × (1 ≤ living_count v)
      good v e = subst (λ (u : Page). (length u ≡ 256) × (1 ≤ living_count u)) (same_Some left v e) (length_set found.0 (i % 256) None ∙ found.2, at_least_one (living_count left) some)

      pub places_fewer : tabulate (entry ms cur start) issued ≡ slice_set (tabulate (entry ps cur start) issued) i None
      places_fewer = places_dropped ps cur start issued P i p g a found.0 found.1 ms (Some left) has (λ k. refl) good sum_set

      pub paged_fewer : IsPaged ms cur start issued
      paged_fewer = paged_dropped ps cur start issued P i p g a found.0 found.1 ms (Some left) has (λ k. refl) good sum_set

    module _ (none : nat_eq (living_count left) 0 ≡ true) (es : Pages) (rest_is : es ≡ remove_entry (is_at (nat_cmp (i / 256))) ms) (without : (r : ℕ) → page_of es r ≡ cond (is_at (nat_cmp (i / 256)) r) None (page_of ms r)) where
      zero_left : living_count left ≡ 0
      zero_left = equal (living_count left) 0 none

      drops : (r : ℕ) → page_of es r ≡ cond (is_at (nat_cmp (i / 256)) r) None (page_of ps r)
      drops r = without r ∙ ap (cond (is_at (nat_cmp (i / 256)) r) None) (has r) ∙ twice (is_at (nat_cmp (i / 256)) r) (Some left) (page_of ps r) where
        twice : (b : Bool) (x y : Option Page) → cond b None (cond b x y) ≡ cond b None y
        twice true x y = refl
        twice false x y = refl

      of_none : (v : Page) → None ≡ Some v → (length v ≡ 256) × (1 ≤ living_count v)
      of_none v e = cc

      there : page_of ms (i / 256) ≡ Some left
      there = has (i / 256) ∙ ap (λ b. cond b (Some left) (page_of ps (i / 256))) (is_at_same (i / 256))

      sum_less : sum_by living_count (values_of es) + 1 ≡ sum_by living_count (values_of ps)
      sum_less = omega (arith, sum_set, zero_left, ap (λ (e : Pages). sum_by living_count (values_of e)) rest_is, sum_by-remove_entry living_count (is_at (nat_cmp (i / 256))) ms, ap (λ o. unwrap_or (option_map living_count o) 0) there)

      pub places_given : tabulate (entry es cur start) issued ≡ slice_set (tabulate (entry ps cur start) issued) i None
      places_given = places_dropped ps cur start issued P i p g a found.0 found.1 es None drops (λ k. sym (none_living left k zero_left)) of_none sum_less

      pub paged_given : IsPaged es cur start issued
      paged_given = paged_dropped ps cur start issued P i p g a found.0 found.1 es None drops (λ k. sym (none_living left k zero_left)) of_none sum_less

pub full_is : (ps : Pages) (cur : Page) (start issued : ℕ) → IsPaged ps cur start issued → nat_eq (issued - start) 256 ≡ nat_eq (length (tabulate (entry ps cur start) issued)) (start + 256)
full_is ps cur start issued P = by_same (issued - start) 256
    (λ e q. e ∙ sym (ap (λ n. nat_eq n (start + 256)) (upto_length (entry ps cur start) issued ∙ full q) ∙ same (start + 256)))
    (λ e n. e ∙ sym (differs (length (tabulate (entry ps cur start) issued)) (start + 256) (λ z. n (from z)))) where
      full : issued - start ≡ 256 → issued ≡ start + 256
      full q = omega (arith, q, P.low)

      from : length (tabulate (entry ps cur start) issued) ≡ start + 256 → issued - start ≡ 256
      from z = omega (arith, z, upto_length (entry ps cur start) issued)
