-- What a step up or down a heap keeps, and which child comes first.
use Rattle.std.proofs.Common.{◌≡◌, ◌≢◌, ℕ, zero, suc, ◌+◌, ◌-◌, ◌*◌, ◌/◌, ◌<◌, ◌≤◌, Bool, true, false, List, [], ◌∷◌, ◌++◌, length, get_or, swap, set, refl, sym, ap, subst, ◌∙◌, ◌⊎◌, ⊎_elim, arith, length-append, if◌then◌else◌}
use Rattle.ss_events_entries.proofs.Common.{cases_eq, cases_lt, IsStrictWeakOrder, swap_remove}
use Rattle.std.proofs.lemmas.List.{get_or-take, get_or-set_other, length-take, length-set, get_or_append_left}
use Rattle.std.proofs.lemmas.List.Edits.{Swapped, swapped_from_swap, length-swap}
use Rattle.ss_events_entries.specs.HeapOrder.{IsChild, IsHeap, IsUnderParent, IsOverChildren, IsHeapBut, IsFirstOf, IsFirstAmong, IsFirstChild}

-- by cases
either : {A B C : Type 0} → A ⊎ B → (A → C) → (B → C) → C
either s f g = ⊎_elim f g s

module _ {X : Type 0} (before : X → X → Bool) where
  -- the item at any other place
  along : (a b x y : X) → a ≡ x → b ≡ y → before x y ≡ false → before a b ≡ false
  along a b x y p q h = (λ i. before (p i) (q i)) ∙ h

  -- the item at the same place
  here : (xs : List X) (i j : ℕ) (d : X) → i ≡ j → get_or xs i d ≡ get_or xs j d
  here xs i j d e = ap (λ k. get_or xs k d) e

  -- where nothing comes before its parent but for one, and that one is in order too
  pub closes : (xs : List X) (j : ℕ) → IsHeapBut before xs j → IsUnderParent before xs j → IsOverChildren before xs j → IsHeap before xs
  closes xs j but under over = record {
    order = λ p k child within d. either (cases_eq k j)
        (λ e. along _ _ _ _ (here xs k j d e) refl (under.order p (subst (IsChild p) e child) d))
        (λ k_other. either (cases_eq p j)
        (λ e. along _ _ _ _ refl (here xs p j d e) (over.order k (subst (λ q. IsChild q k) e child) within d))
        (λ p_other. but.others p k child within p_other k_other d));
  }

  module _ (o : IsStrictWeakOrder before) (xs ys : List X) (j c : ℕ) (child : IsChild j c) (within : c < length xs) (is : ys ≡ swap xs c j) where
    -- where the two places lead after the exchange
    changed : (d : X) → Swapped (λ i. get_or xs i d) (λ i. get_or ys i d) c j
    changed d = swapped_from_swap xs ys c j d within (omega (arith, child.from)) is

    long : length ys ≡ length xs
    long = ap length is ∙ length-swap xs c j

    -- the element at c comes before its parent at j, and they change places
    pub up_but : ((d : X) → before (get_or xs c d) (get_or xs j d) ≡ true) → IsHeapBut before xs c → IsHeapBut before ys j
    up_but t h = record {
      others = λ p k pk k_in p_other k_other d. let s = changed d in either (cases_eq p c)
          (λ e. along _ _ _ _ (s.2 k (omega (arith, e, pk.from)) k_other) (here ys p c d e ∙ s.0) (h.across j k child (subst (λ q. IsChild q k) e pk) (omega (arith, long)) d))
          (λ p_c. let k_c : k ≢ c = omega (arith, pk.from, pk.to, child.from, child.to) in
          along _ _ _ _ (s.2 k k_c k_other) (s.2 p p_c p_other) (h.others p k pk (omega (arith, long)) p_c k_c d));
      across = λ p k pj jk k_in d.
          let s = changed d in
          let p_j : p ≢ j = omega (arith, pj.from) in
          let p_c : p ≢ c = omega (arith, pj.from, child.from) in
          let j_c : j ≢ c = omega (arith, child.from) in
          let above = h.others p j pj (omega (arith, child.from)) p_c j_c d in
          either (cases_eq k c)
          (λ e. along _ _ _ _ (here ys k c d e ∙ s.0) (s.2 p p_c p_j) above)
          (λ k_c. along _ _ _ _ (s.2 k k_c (omega (arith, jk.from))) (s.2 p p_c p_j) (o.chain _ _ _ (h.others j k jk (omega (arith, long)) j_c k_c d) above));
    }

    -- the element that rose is over its children
    pub up_over : ((d : X) → before (get_or xs c d) (get_or xs j d) ≡ true) → IsHeapBut before xs c → IsOverChildren before ys j
    up_over t h = record {
      order = λ k jk k_in d.
          let s = changed d in
          let j_c : j ≢ c = omega (arith, child.from) in
          let risen = o.one_way _ _ (t d) in
          either (cases_eq k c)
          (λ e. along _ _ _ _ (here ys k c d e ∙ s.0) s.1 risen)
          (λ k_c. along _ _ _ _ (s.2 k k_c (omega (arith, jk.from))) s.1 (o.chain _ _ _ (h.others j k jk (omega (arith, long)) j_c k_c d) risen));
    }

  module _ (xs ys : List X) (j c : ℕ) (best : IsFirstChild before xs j c) (is : ys ≡ swap xs j c) where
    turned : (d : X) → Swapped (λ i. get_or xs i d) (λ i. get_or ys i d) j c
    turned d = swapped_from_swap xs ys j c d (omega (arith, best.within, best.child.from)) best.within is

    as_long : length ys ≡ length xs
    as_long = ap length is ∙ length-swap xs j c

    -- the element at j changes places with the first of its children, at c
    pub down_but : IsHeapBut before xs j → IsHeapBut before ys c
    down_but h = record {
      others = λ p k pk k_in p_c k_c d. let s = turned d in either (cases_eq p j)
          (λ e. along _ _ _ _ (s.2 k (omega (arith, e, pk.from)) k_c) (here ys p j d e ∙ s.0) (best.order k (subst (λ q. IsChild q k) e pk) (omega (arith, as_long)) d))
          (λ p_j. either (cases_eq k j)
          (λ e. along _ _ _ _ (here ys k j d e ∙ s.0) (s.2 p p_j p_c) (h.across p c (subst (IsChild p) e pk) best.child best.within d))
          (λ k_j. along _ _ _ _ (s.2 k k_j k_c) (s.2 p p_j p_c) (h.others p k pk (omega (arith, as_long)) p_j k_j d)));
      across = λ p k pc ck k_in d.
          let s = turned d in
          let jc = best.child in
          let e : p ≡ j = omega (arith, pc.from, pc.to, jc.from, jc.to) in
          along _ _ _ _ (s.2 k (omega (arith, ck.from, jc.from)) (omega (arith, ck.from))) (here ys p j d e ∙ s.0) (h.others c k ck (omega (arith, as_long)) (omega (arith, jc.from)) (omega (arith, ck.from, jc.from)) d);
    }

    -- the child that rose comes before the element that sank
    pub down_under : IsStrictWeakOrder before → ((d : X) → before (get_or xs c d) (get_or xs j d) ≡ true) → IsUnderParent before ys c
    down_under o t = record {
      order = λ p pc d.
          let s = turned d in
          let jc = best.child in
          let e : p ≡ j = omega (arith, pc.from, pc.to, jc.from, jc.to) in
          along _ _ _ _ s.1 (here ys p j d e ∙ s.0) (o.one_way _ _ (t d));
    }

  -- where the first child doesn't come before the element, none does
  pub rests : IsStrictWeakOrder before → (xs : List X) (j c : ℕ) → IsFirstChild before xs j c → ((d : X) → before (get_or xs c d) (get_or xs j d) ≡ false) → IsOverChildren before xs j
  rests o xs j c best f = record { order = λ k jk k_in d. o.chain _ _ _ (best.order k jk k_in d) (f d) }

  -- a place without children
  pub leaf : (xs : List X) (j : ℕ) → length xs ≤ 4 * j + 1 → IsOverChildren before xs j
  leaf xs j le = record { order = λ k jk k_in d. absurd (omega (arith, jk.from)) }

  -- the top has no parent
  pub top : (xs : List X) → IsUnderParent before xs 0
  top xs = record { order = λ p p0 d. absurd (omega (arith, p0.from)) }

  -- nothing comes before the first
  pub first : IsStrictWeakOrder before → (xs : List X) → IsHeap before xs → (fuel k : ℕ) → k ≤ fuel → k < length xs → (d : X) → before (get_or xs k d) (get_or xs 0 d) ≡ false
  first o xs h fuel zero le k_in d = never (before (get_or xs 0 d) (get_or xs 0 d)) refl
    where
      never : (b : Bool) → before (get_or xs 0 d) (get_or xs 0 d) ≡ b → before (get_or xs 0 d) (get_or xs 0 d) ≡ false
      never true e = o.one_way _ _ e
      never false e = e
  first o xs h zero (suc k) le k_in d = absurd (omega arith)
  first o xs h (suc fuel) (suc k) le k_in d =
      let child : IsChild (k / 4) (suc k) = record { from = omega arith; to = omega arith } in
      o.chain _ _ _ (h.order (k / 4) (suc k) child k_in d) (first o xs h fuel (k / 4) (omega arith) (omega arith) d)

  -- a new element at the end
  pub pushed : (xs : List X) (x : X) → IsHeap before xs → IsHeapBut before (xs ++ x ∷ []) (length xs)
  pushed xs x h = record {
    others = λ p k pk k_in p_n k_n d.
        let k_old : k < length xs = omega (arith, length-append xs (x ∷ [])) in
        along _ _ _ _ (get_or_append_left xs (x ∷ []) d k k_old) (get_or_append_left xs (x ∷ []) d p (omega (arith, pk.from))) (h.order p k pk k_old d);
    across = λ p k pn nk k_in d. absurd (omega (arith, nk.from, length-append xs (x ∷ [])));
  }

  module _ (xs : List X) (i : ℕ) (x : X) (within : i < length xs) where
    pub long-swap_remove : length (swap_remove xs i x) + 1 ≡ length xs
    long-swap_remove = omega (arith, length-take (length xs - 1) (set xs i (get_or xs (length xs - 1) x)), length-set xs i (get_or xs (length xs - 1) x))

    -- the others stay where they are
    get_or-swap_remove : (k : ℕ) (d : X) → k ≢ i → k + 1 < length xs → get_or (swap_remove xs i x) k d ≡ get_or xs k d
    get_or-swap_remove k d other k_in =
        get_or-take (length xs - 1) (set xs i (get_or xs (length xs - 1) x)) k d (omega arith)
        ∙ get_or-set_other xs i k (get_or xs (length xs - 1) x) d other

    -- the last element in the place of another
    pub removed_but : IsStrictWeakOrder before → IsHeap before xs → IsHeapBut before (swap_remove xs i x) i
    removed_but o h = record {
      others = λ p k pk k_in p_i k_i d.
          let k_old : k + 1 < length xs = omega (arith, long-swap_remove) in
          along _ _ _ _ (get_or-swap_remove k d k_i k_old) (get_or-swap_remove p d p_i (omega (arith, pk.from))) (h.order p k pk (omega arith) d);
      across = λ p k pi ik k_in d.
          let k_old : k + 1 < length xs = omega (arith, long-swap_remove) in
          along _ _ _ _ (get_or-swap_remove k d (omega (arith, ik.from)) k_old) (get_or-swap_remove p d (omega (arith, pi.from)) (omega (arith, pi.from, ik.from)))
          (o.chain _ _ _ (h.order i k ik (omega arith) d) (h.order p i pi within d));
    }

    -- another element in the place of one
    pub followed_but : IsStrictWeakOrder before → IsHeap before xs → IsHeapBut before (set xs i x) i
    followed_but o h = record {
      others = λ p k pk k_in p_i k_i d.
          along _ _ _ _ (get_or-set_other xs i k x d k_i) (get_or-set_other xs i p x d p_i) (h.order p k pk (omega (arith, k_in, length-set xs i x)) d);
      across = λ p k pi ik k_in d.
          along _ _ _ _ (get_or-set_other xs i k x d (omega (arith, ik.from))) (get_or-set_other xs i p x d (omega (arith, pi.from)))
          (o.chain _ _ _ (h.order i k ik (omega (arith, k_in, length-set xs i x)) d) (h.order p i pi within d));
    }

    -- the last element itself is taken
    pub removed_last : i + 1 ≡ length xs → IsHeap before xs → IsHeap before (swap_remove xs i x)
    removed_last last h = record {
      order = λ p k pk k_in d.
          let k_old : k + 1 < length xs = omega (arith, long-swap_remove) in
          along _ _ _ _ (get_or-swap_remove k d (omega arith) k_old) (get_or-swap_remove p d (omega (arith, pk.from)) (omega (arith, pk.from))) (h.order p k pk (omega arith) d);
    }

  module _ (o : IsStrictWeakOrder before) where
    -- nothing comes before itself
    never : (x : X) (b : Bool) → before x x ≡ b → before x x ≡ false
    never x true e = o.one_way x x e
    never x false e = e

    -- nor before the same place
    alike : (xs : List X) (i k : ℕ) → k ≡ i → (d : X) → before (get_or xs k d) (get_or xs i d) ≡ false
    alike xs i k e d = along _ _ _ _ (here xs k i d e) refl (never (get_or xs i d) _ refl)

    module _ (xs : List X) where
      -- the first of two: so many steps from the left one
      pub first_by : (a b step : ℕ) (is_right : Bool) → a < b → step ≡ (if is_right then 1 else 0) → ((d : X) → is_right ≡ before (get_or xs b d) (get_or xs a d)) → IsFirstOf before xs a b (a + step * (b - a))
      first_by a b step true apart is t =
          let e : a + step * (b - a) ≡ b = rw (is) (omega arith) in
          subst (IsFirstOf before xs a b) (sym e) record { from = omega arith; to = omega arith; left = λ d. o.one_way _ _ (sym (t d)); right = alike xs b b refl }
      first_by a b step false apart is f =
          let e : a + step * (b - a) ≡ a = rw (is) (omega arith) in
          subst (IsFirstOf before xs a b) (sym e) record { from = omega arith; to = omega arith; left = alike xs a a refl; right = λ d. sym (f d) }

      -- the first of one
      pub only : (a to : ℕ) → to ≡ a + 1 → IsFirstAmong before xs a to a
      only a to one = record { above = omega arith; below = omega arith; order = λ k k_from k_to. alike xs a k (omega (arith, k_from, k_to)) }

      -- the first of some and of those that follow them
      pub joined : (from mid to a b c : ℕ) → IsFirstAmong before xs from mid a → IsFirstAmong before xs mid to b → IsFirstOf before xs a b c → IsFirstAmong before xs from to c
      joined from mid to a b c left right first = record {
        above = omega (arith, left.above, first.from);
        below = omega (arith, first.to, right.below);
        order = λ k k_from k_to. either (cases_lt k mid)
            (λ lt d. o.chain _ _ _ (left.order k k_from lt d) (first.left d))
            (λ le d. o.chain _ _ _ (right.order k le k_to d) (first.right d));
      }

      -- the first of two neighbours
      pub pair : (a b to c : ℕ) → b ≡ a + 1 → to ≡ a + 2 → IsFirstOf before xs a b c → IsFirstAmong before xs a to c
      pair a b to c next two first = joined a (a + 1) to a b c (only a (a + 1) refl) (subst (λ k. IsFirstAmong before xs k to b) next (only b to (omega arith))) first
