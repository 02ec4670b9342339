-- Lists in rising order of their numbers: what is at a place, where a search ends, and what a new number, a write and a
-- removal leave.
use Rattle.std.proofs.Common.{◌≡◌, ℕ, zero, suc, ◌-◌, ◌<◌, ◌≤◌, Bool, true, false, cond, List, [], ◌∷◌, ◌++◌, length, get_or, slice_get, slice_set, Some, None, Result, Ok, Err, MatchResult, refl, sym, ap, subst, ◌∙◌, arith}
use Rattle.std.specs.Ordering.{nat_cmp, eq_by_cmp, ordering_index}
use Rattle.std.specs.Cmp.{nat_cmp_is}
use Rattle.std.specs.declared.cmp.Ordering.TheVariants.{Less, Equal, Greater}
use Rattle.std.specs.BTreeMap.{is_at}
use Rattle.std.specs.Map.{lookup, keys_of, set_value, remove_entry}
use Rattle.std.specs.List.{AllByRecursion}
use Rattle.std.specs.List.Sorted.{IsStrictlySortedBy, IsNonDecreasingBy, IsSearchInRange, IsBinarySearchResult}
use Rattle.std.proofs.lemmas.Bool.Decides.{nat_tests}
use Rattle.std.proofs.lemmas.Cmp.{ranked, nat_cmp_total, eq_by_cmp_equiv}
use Rattle.std.proofs.lemmas.List.{get_or-map}
use Rattle.std.proofs.lemmas.Map.{lookup-remove_entry, keys-set_value}
use Rattle.std.proofs.lemmas.Map.Entries.{length-keys_of, lookup_from_place, lookup_at_gap}
use Rattle.std.proofs.lemmas.Map.Keys.{IsDistinct-from_sorted, below_from_sorted}
use Rattle.std.proofs.lemmas.Option.{slice_get-get_or, get_or_from_slice_get}
use Rattle.ss_records_blocks.specs.Pages.{AreRising, under}
use Rattle.ss_records_blocks.proofs.Entries.{get_inside}
use Rattle.ss_records_blocks.proofs.Same.{by_same, false_is_not_true}
use Rattle.ss_records_blocks.proofs.Paging.{is_at_same, is_at_other}

-- ## Numbers

at_is : (q r : ℕ) → is_at (nat_cmp q) r ≡ true → q ≡ r
at_is q r e = by_same q r (λ _ same. same) (λ _ apart. absurd (false_is_not_true (sym (is_at_other q r apart) ∙ e)))

pub one_number : (q : ℕ) → (x y : ℕ) → is_at (nat_cmp q) x ≡ true → is_at (nat_cmp q) y ≡ eq_by_cmp nat_cmp x y
one_number q x y e = ap (λ z. is_at (nat_cmp z) y) (at_is q x e)

pub less_is : (a b : ℕ) → nat_cmp a b ≡ Less → a < b
less_is a b e = ranked a b Less (sym e)

-- a number isn't at a lower one
other_below : (a q : ℕ) → a < q → is_at (nat_cmp q) a ≡ false
other_below a q h = is_at_other q a (λ e. omega (arith, h, e))

index_rises : (a b q : ℕ) → a ≤ b → ordering_index (nat_cmp a q) ≤ ordering_index (nat_cmp b q)
index_rises a b q h = grind (arith, nat_tests, h)

pub rises_none : (A : Type 0) → AreRising {A = A} []
unfolding IsStrictlySortedBy
rises_none A = tt

-- ## Places

-- what was read at a place
pub read_is : {A : Type 0} (ps : List (ℕ × A)) (k : ℕ) (e x : ℕ × A) → slice_get ps k ≡ Some e → x ≡ get_or ps k x → x ≡ e
read_is ps k e x g h = h ∙ get_or_from_slice_get ps k e x g

pub held_at : {A : Type 0} (ps : List (ℕ × A)) → AreRising ps → (k q : ℕ) (p : A) → slice_get ps k ≡ Some (q, p) → under ps q ≡ Some p
held_at ps r k q p g = lookup_from_place (eq_by_cmp_equiv nat_cmp_total) ps k q p (IsDistinct-from_sorted nat_cmp (keys_of ps) r) g

-- each later number is above
above_at : {A : Type 0} (x : ℕ) (ps : List (ℕ × A)) → AllByRecursion (λ y. nat_cmp x y ≡ Less) (keys_of ps) → (k q : ℕ) (p : A) → slice_get ps k ≡ Some (q, p) → x < q
above_at x [] a k q p g = cc
above_at {A} x (e ∷ es) a zero q p g = less_is x q (ap (nat_cmp x) (same_number e q p g) ∙ a.0) where
  same_number : (e : ℕ × A) (q : ℕ) (p : A) → Some e ≡ Some (q, p) → q ≡ e.0
  same_number e q p g = cc
above_at x (e ∷ es) a (suc k) q p g = above_at x es a.1 k q p g

-- ## A search

module _ {A : Type 0} (ps : List (ℕ × A)) (r : AreRising ps) (q : ℕ) where
  number_at : (i : ℕ) (d : ℕ × A) → i < length ps → get_or (keys_of ps) i d.0 ≡ (get_or ps i d).0
  number_at i d h = get_or-map (λ (e : ℕ × A). e.0) ps i d d.0 h

  numbers_rise : (i j : ℕ) (d : ℕ × A) → i ≤ j → j < length ps → (get_or ps i d).0 ≤ (get_or ps j d).0
  numbers_rise i j d le h = by_same i j
      (λ _ e. omega (arith, ap (λ k. (get_or ps k d).0) e))
      (λ _ n. omega (arith, number_at i d (omega (arith, le, h)), number_at j d h, below_from_sorted (keys_of ps) i j d.0 r (omega (arith, le, n)) (omega (arith, h, length-keys_of ps))))

  pub none_past : (k m : ℕ) (p v : A) → slice_get ps k ≡ Some (m, p) → slice_get ps (length ps - 1) ≡ Some (q, v) → m ≤ q
  none_past k m p v g last =
      let inside = get_inside ps k (m, p) g in
      let at_k : (get_or ps k (m, p)).0 ≡ m = ap (λ (e : ℕ × A). e.0) (get_or_from_slice_get ps k (m, p) (m, p) g) in
      let at_last : (get_or ps (length ps - 1) (m, p)).0 ≡ q = ap (λ (e : ℕ × A). e.0) (get_or_from_slice_get ps (length ps - 1) (q, v) (m, p) last) in
      omega (arith, at_k, at_last, numbers_rise k (length ps - 1) (m, p) (omega (arith, inside)) (omega (arith, inside)))

  rise : IsNonDecreasingBy (λ (e : ℕ × A). ordering_index (nat_cmp e.0 q)) ps
  rise i j d le h = index_rises (get_or ps i d).0 (get_or ps j d).0 q (numbers_rise i j d le h)

  pub ended : (blank : A) (f : Result ℕ ℕ) → IsSearchInRange f (length ps) → IsBinarySearchResult (λ (e : ℕ × A). nat_cmp e.0 q) ps f
      → MatchResult f (λ k. (p : A) × (slice_get ps k ≡ Some (q, p))) (λ _. under ps q ≡ None)
  ended blank (Ok k) inside here =
      let d : ℕ × A = (0, blank) in let same : (get_or ps k d).0 ≡ q = ranked (get_or ps k d).0 q Equal (sym (here d)) in
      ((get_or ps k d).1, slice_get-get_or ps k d inside ∙ ap (λ n. Some (n, (get_or ps k d).1)) same)
  ended blank (Err i) inside at_or_after =
      let p = at_or_after rise in
      lookup_at_gap nat_cmp_total q ps i r
      (λ j e h g. sym (nat_cmp_is q e.0 Greater (subst (λ (z : ℕ × A). z.0 < q) (get_or_from_slice_get ps j e e g) (less_is (get_or ps j e).0 q (p.0 j e (omega arith) h)))))
      (λ e g. sym (nat_cmp_is q e.0 Less (subst (λ (z : ℕ × A). q < z.0) (get_or_from_slice_get ps i e e g) (ranked (get_or ps i e).0 q Greater (sym (p.1 i e (omega arith) (within e g)))))))
    where
      within : (e : ℕ × A) → slice_get ps i ≡ Some e → i < length ps
      within e g = get_inside ps i e g

-- ## A new page

all_push : {A : Type 0} (x : ℕ) (es : List (ℕ × A)) (q : ℕ) (p : A) → AllByRecursion (λ y. nat_cmp x y ≡ Less) (keys_of es) → x < q → AllByRecursion (λ y. nat_cmp x y ≡ Less) (keys_of (es ++ (q, p) ∷ []))
all_push x [] q p a h = (sym (nat_cmp_is x q Less h), tt)
all_push x (e ∷ es) q p a h = (a.0, all_push x es q p a.1 h)

pub rises_push : {A : Type 0} (ps : List (ℕ × A)) (q : ℕ) (p : A) → AreRising ps → ((k r : ℕ) (v : A) → slice_get ps k ≡ Some (r, v) → r < q) → AreRising (ps ++ (q, p) ∷ [])
unfolding IsStrictlySortedBy
rises_push [] q p s below = (tt, tt)
rises_push (e ∷ es) q p s below = (all_push e.0 es q p s.0 (below 0 e.0 e.1 refl), rises_push es q p s.1 (λ k r v g. below (suc k) r v g))

-- ## A write

set_is : {A : Type 0} (ps : List (ℕ × A)) (k q : ℕ) (p w : A) → AreRising ps → slice_get ps k ≡ Some (q, p) → slice_set ps k (q, w) ≡ set_value (is_at (nat_cmp q)) ps w
unfolding IsStrictlySortedBy
set_is [] k q p w s g = refl
set_is {A} (e ∷ es) zero q p w s g = first e q p g where
  first : (e : ℕ × A) (q : ℕ) (p : A) → Some e ≡ Some (q, p) → (q, w) ∷ es ≡ cond (is_at (nat_cmp q) e.0) ((e.0, w) ∷ es) (e ∷ set_value (is_at (nat_cmp q)) es w)
  first e q p g = let n : e.0 ≡ q = cc in let t : is_at (nat_cmp q) e.0 ≡ true = ap (is_at (nat_cmp q)) n ∙ is_at_same q in
      ap (λ m. (m, w) ∷ es) (sym n) ∙ sym (ap (λ b. cond b ((e.0, w) ∷ es) (e ∷ set_value (is_at (nat_cmp q)) es w)) t)
set_is (e ∷ es) (suc k) q p w s g =
    ap (λ l. e ∷ l) (set_is es k q p w s.1 g) ∙ sym (ap (λ b. cond b ((e.0, w) ∷ es) (e ∷ set_value (is_at (nat_cmp q)) es w)) (other_below e.0 q (above_at e.0 es s.0 k q p g)))

module _ {A : Type 0} (ps : List (ℕ × A)) (r : AreRising ps) (k q : ℕ) (p : A) (g : slice_get ps k ≡ Some (q, p)) (w : A) where
  pub written : slice_set ps k (q, w) ≡ set_value (is_at (nat_cmp q)) ps w
  written = set_is ps k q p w r g

  pub rises_written : AreRising (slice_set ps k (q, w))
  rises_written = subst (IsStrictlySortedBy nat_cmp) (sym (ap keys_of written ∙ keys-set_value (is_at (nat_cmp q)) ps w)) r

-- ## A removal

pub absent : {A : Type 0} (test : ℕ → Bool) (ps : List (ℕ × A)) → lookup test ps ≡ None → remove_entry test ps ≡ ps
absent test [] h = refl
absent test (e ∷ es) h = (elim (test e.0) as (λ b. cond b (Some e.1) (lookup test es) ≡ None → cond b es (e ∷ remove_entry test es) ≡ e ∷ es) [ true ↦ λ z. cc | false ↦ λ z. ap (λ l. e ∷ l) (absent test es z) ]) h

pub updates_without : {A : Type 0} (ps : List (ℕ × A)) → AreRising ps → (q n : ℕ) → under (remove_entry (is_at (nat_cmp q)) ps) n ≡ cond (is_at (nat_cmp q) n) None (under ps n)
updates_without ps r q n = lookup-remove_entry (eq_by_cmp_equiv nat_cmp_total) (is_at (nat_cmp q)) (one_number q) n ps (IsDistinct-from_sorted nat_cmp (keys_of ps) r)
