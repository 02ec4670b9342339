-- The pages that a row of spots holds: what is found, and what a new page, a write, a page that goes and a row without empty
-- spots leave.
use Rattle.std.proofs.Common.{◌≡◌, ℕ, zero, suc, ◌+◌, ◌<◌, Bool, true, false, cond, [], ◌∷◌, ◌++◌, length, slice_get, slice_set, Option, Some, None, IsSome, refl, sym, ap, subst, ◌∙◌, arith}
use Rattle.std.specs.Prelude.{is_some, IfSome}
use Rattle.std.specs.Ordering.{nat_cmp}
use Rattle.std.specs.declared.cmp.Ordering.TheVariants.{Less}
use Rattle.std.specs.BTreeMap.{is_at}
use Rattle.std.specs.Map.{lookup, keys_of, set_value, remove_entry}
use Rattle.std.specs.List.{AllByRecursion, filter}
use Rattle.std.specs.List.Sorted.{IsStrictlySortedBy}
use Rattle.std.proofs.lemmas.List.{length-append}
use Rattle.ss_records_blocks.specs.Pages.{Page, Pages, Spots, AreRising, under, page_of, with_page, pages_held}
use Rattle.ss_records_blocks.proofs.Same.{by_same}
use Rattle.ss_records_blocks.proofs.Paging.{is_at_same, is_at_other}
use Rattle.ss_records_blocks.proofs.Rising.{less_is, held_at, one_number, written, updates_without, absent}
use Rattle.std.proofs.lemmas.Option.{none-some, same_Some, some_pair_parts}
use Rattle.std.proofs.lemmas.Cmp.{nat_cmp_total, eq_by_cmp_equiv}
use Rattle.std.proofs.lemmas.Map.{lookup-set_value, length-set_value}

-- ## What is found

abbrev pub in_spot : Option (Option Page) → Option Page
in_spot None = None
in_spot (Some s) = s

above : (x : ℕ) (ss : Spots) → AllByRecursion (λ y. nat_cmp x y ≡ Less) (keys_of ss) → AllByRecursion (λ y. nat_cmp x y ≡ Less) (keys_of (pages_held ss))
above x [] a = a
above x (s ∷ ss) a = elim s.1 as (λ o. AllByRecursion (λ y. nat_cmp x y ≡ Less) (keys_of (with_page s.0 o (pages_held ss)))) [ None ↦ above x ss a.1 | Some p ↦ (a.0, above x ss a.1) ]

pub rises_held : (ss : Spots) → AreRising ss → AreRising (pages_held ss)
unfolding IsStrictlySortedBy
rises_held [] r = r
rises_held (s ∷ ss) r = elim s.1 as (λ o. AreRising (with_page s.0 o (pages_held ss))) [ None ↦ rises_held ss r.1 | Some p ↦ (above s.0 ss r.0, rises_held ss r.1) ]

-- no later page has the first number
none_later : (x q : ℕ) (ps : Pages) → AllByRecursion (λ y. nat_cmp x y ≡ Less) (keys_of ps) → q ≡ x → page_of ps q ≡ None
none_later x q [] a e = refl
none_later x q (p ∷ ps) a e = ap (λ b. cond b (Some p.1) (page_of ps q)) (is_at_other q p.0 (λ s. omega (arith, less_is x p.0 a.0, s, e))) ∙ none_later x q ps a.1 e

pub page_held : (ss : Spots) → AreRising ss → (q : ℕ) → page_of (pages_held ss) q ≡ in_spot (under ss q)
unfolding IsStrictlySortedBy
page_held [] r q = refl
page_held (s ∷ ss) r q = elim s.1 as (λ o. page_of (with_page s.0 o (pages_held ss)) q ≡ in_spot (cond (is_at (nat_cmp q) s.0) (Some o) (under ss q))) [
  | None ↦ by_same q s.0
      (λ _ same. none_later s.0 q (pages_held ss) (above s.0 ss r.0) same ∙ sym (ap (λ b. in_spot (cond b (Some None) (under ss q))) (ap (is_at (nat_cmp q)) (sym same) ∙ is_at_same q)))
      (λ _ apart. page_held ss r.1 q ∙ sym (ap (λ b. in_spot (cond b (Some None) (under ss q))) (is_at_other q s.0 apart)))
  | Some p ↦ elim (is_at (nat_cmp q) s.0) as (λ b. cond b (Some p) (page_of (pages_held ss) q) ≡ in_spot (cond b (Some (Some p)) (under ss q))) [ true ↦ refl | false ↦ page_held ss r.1 q ]
]

-- the page of a spot
pub page_in : (ss : Spots) → AreRising ss → (k q : ℕ) (o : Option Page) → slice_get ss k ≡ Some (q, o) → page_of (pages_held ss) q ≡ o
page_in ss r k q o g = page_held ss r q ∙ ap in_spot (held_at ss r k q o g)

pub no_page : (ss : Spots) → AreRising ss → (q : ℕ) → under ss q ≡ None → page_of (pages_held ss) q ≡ None
no_page ss r q e = page_held ss r q ∙ ap in_spot e

-- ## A new page

pub held_pushed : (ss : Spots) (q : ℕ) (p : Page) → pages_held (ss ++ (q, Some p) ∷ []) ≡ pages_held ss ++ (q, p) ∷ []
held_pushed [] q p = refl
held_pushed (s ∷ ss) q p = elim s.1 as (λ o. with_page s.0 o (pages_held (ss ++ (q, Some p) ∷ [])) ≡ with_page s.0 o (pages_held ss) ++ (q, p) ∷ []) [ None ↦ held_pushed ss q p | Some v ↦ ap (λ l. (s.0, v) ∷ l) (held_pushed ss q p) ]

pub count_pushed : (n : ℕ) (ss : Spots) (q : ℕ) (p : Page) → n + length (pages_held ss) ≡ length ss → n + length (pages_held (ss ++ (q, Some p) ∷ [])) ≡ length (ss ++ (q, Some p) ∷ [])
count_pushed n ss q p h =
    let page : Pages = (q, p) ∷ [] in let spot : Spots = (q, Some p) ∷ [] in
    omega (arith, h, ap length (held_pushed ss q p), length-append (pages_held ss) page, length-append ss spot)

-- ## A write, and a page that goes

pub held_written : (test : ℕ → Bool) (ss : Spots) (p w : Page) → lookup test ss ≡ Some (Some p) → pages_held (set_value test ss (Some w)) ≡ set_value test (pages_held ss) w
held_written test [] p w h = cc
held_written test (s ∷ ss) p w h = (elim s.1 as (λ o. cond (test s.0) (Some o) (lookup test ss) ≡ Some (Some p) → pages_held (cond (test s.0) ((s.0, Some w) ∷ ss) ((s.0, o) ∷ set_value test ss (Some w))) ≡ set_value test (with_page s.0 o (pages_held ss)) w) [
  | None ↦ elim (test s.0) as (λ b. cond b (Some None) (lookup test ss) ≡ Some (Some p) → pages_held (cond b ((s.0, Some w) ∷ ss) ((s.0, None) ∷ set_value test ss (Some w))) ≡ set_value test (pages_held ss) w) [
    | true ↦ λ e. absurd (none-some p (same_Some None (Some p) e))
    | false ↦ λ e. held_written test ss p w e
  ]
  | Some v ↦ elim (test s.0) as (λ b. cond b (Some (Some v)) (lookup test ss) ≡ Some (Some p) → pages_held (cond b ((s.0, Some w) ∷ ss) ((s.0, Some v) ∷ set_value test ss (Some w))) ≡ cond b ((s.0, w) ∷ pages_held ss) ((s.0, v) ∷ set_value test (pages_held ss) w)) [
    | true ↦ λ e. refl
    | false ↦ λ e. ap (λ l. (s.0, v) ∷ l) (held_written test ss p w e)
  ]
]) h

pub held_emptied : (test : ℕ → Bool) (ss : Spots) (p : Page) → lookup test ss ≡ Some (Some p) → pages_held (set_value test ss None) ≡ remove_entry test (pages_held ss)
held_emptied test [] p h = cc
held_emptied test (s ∷ ss) p h = (elim s.1 as (λ o. cond (test s.0) (Some o) (lookup test ss) ≡ Some (Some p) → pages_held (cond (test s.0) ((s.0, None) ∷ ss) ((s.0, o) ∷ set_value test ss None)) ≡ remove_entry test (with_page s.0 o (pages_held ss))) [
  | None ↦ elim (test s.0) as (λ b. cond b (Some None) (lookup test ss) ≡ Some (Some p) → pages_held (cond b ((s.0, None) ∷ ss) ((s.0, None) ∷ set_value test ss None)) ≡ remove_entry test (pages_held ss)) [
    | true ↦ λ e. absurd (none-some p (same_Some None (Some p) e))
    | false ↦ λ e. held_emptied test ss p e
  ]
  | Some v ↦ elim (test s.0) as (λ b. cond b (Some (Some v)) (lookup test ss) ≡ Some (Some p) → pages_held (cond b ((s.0, None) ∷ ss) ((s.0, Some v) ∷ set_value test ss None)) ≡ cond b (pages_held ss) ((s.0, v) ∷ remove_entry test (pages_held ss))) [
    | true ↦ λ e. refl
    | false ↦ λ e. ap (λ l. (s.0, v) ∷ l) (held_emptied test ss p e)
  ]
]) h

pub one_fewer : (test : ℕ → Bool) (ps : Pages) (p : Page) → lookup test ps ≡ Some p → length (remove_entry test ps) + 1 ≡ length ps
one_fewer test [] p h = cc
one_fewer test (e ∷ ps) p h = (elim (test e.0) as (λ b. cond b (Some e.1) (lookup test ps) ≡ Some p → length (cond b ps (e ∷ remove_entry test ps)) + 1 ≡ suc (length ps)) [ true ↦ λ z. omega arith | false ↦ λ z. omega (arith, one_fewer test ps p z) ]) h

-- a spot with a page, which is written to, or whose page goes
module _ (ss : Spots) (r : AreRising ss) (k q : ℕ) (p : Page) (g : slice_get ss k ≡ Some (q, Some p)) where
  abbrev at_it : ℕ → Bool
  at_it = is_at (nat_cmp q)

  it_is : page_of (pages_held ss) q ≡ Some p
  it_is = page_in ss r k q (Some p) g

  pub page_written : (w : Page) → pages_held (slice_set ss k (q, Some w)) ≡ set_value at_it (pages_held ss) w
  page_written w = ap pages_held (written ss r k q (Some p) g (Some w)) ∙ held_written at_it ss p w (held_at ss r k q (Some p) g)

  pub written_updates : (w : Page) (n : ℕ) → page_of (pages_held (slice_set ss k (q, Some w))) n ≡ cond (at_it n) (Some w) (page_of (pages_held ss) n)
  written_updates w n = ap (λ (ps : Pages). page_of ps n) (page_written w) ∙ lookup-set_value (eq_by_cmp_equiv nat_cmp_total) at_it (one_number q) n w (pages_held ss) (subst IsSome (sym it_is) refl)

  pub written_count : (w : Page) (n : ℕ) → n + length (pages_held ss) ≡ length ss → n + length (pages_held (slice_set ss k (q, Some w))) ≡ length (slice_set ss k (q, Some w))
  written_count w n h = omega (arith, h, ap length (page_written w), length-set_value at_it (pages_held ss) w, ap length (written ss r k q (Some p) g (Some w)), length-set_value at_it ss (Some w))

  pub page_gone : pages_held (slice_set ss k (q, None)) ≡ remove_entry at_it (pages_held ss)
  page_gone = ap pages_held (written ss r k q (Some p) g None) ∙ held_emptied at_it ss p (held_at ss r k q (Some p) g)

  pub gone_count : (n : ℕ) → n + length (pages_held ss) ≡ length ss → (n + 1) + length (pages_held (slice_set ss k (q, None))) ≡ length (slice_set ss k (q, None))
  gone_count n h = omega (arith, h, ap length page_gone, one_fewer at_it (pages_held ss) p it_is, ap length (written ss r k q (Some p) g None), length-set_value at_it ss None)

pub gone_updates : (ss : Spots) → AreRising ss → (q n : ℕ) (ps : Pages) → ps ≡ remove_entry (is_at (nat_cmp q)) (pages_held ss) → page_of ps n ≡ cond (is_at (nat_cmp q) n) None (page_of (pages_held ss) n)
gone_updates ss r q n ps is = ap (λ (xs : Pages). page_of xs n) is ∙ updates_without (pages_held ss) (rises_held ss r) q n

-- an empty spot that is emptied
pub same_again : (ss : Spots) (k : ℕ) (s : ℕ × Option Page) → slice_get ss k ≡ Some s → slice_set ss k s ≡ ss
same_again [] k s g = refl
same_again (x ∷ ss) zero s g = ap (λ y. y ∷ ss) (sym (same_Some x s g))
same_again (x ∷ ss) (suc k) s g = ap (λ l. x ∷ l) (same_again ss k s g)

-- no page has this number
pub none_gone : (ss : Spots) (q : ℕ) → page_of (pages_held ss) q ≡ None → pages_held ss ≡ remove_entry (is_at (nat_cmp q)) (pages_held ss)
none_gone ss q e = sym (absent (is_at (nat_cmp q)) (pages_held ss) e)

-- ## A row without empty spots

abbrev pub has_page : ℕ × Option Page → Bool
has_page s = is_some s.1

pub held_cut : (ss : Spots) → pages_held (filter has_page ss) ≡ pages_held ss
held_cut [] = refl
held_cut (s ∷ ss) = elim s.1 as (λ o. pages_held (cond (is_some o) ((s.0, o) ∷ filter has_page ss) (filter has_page ss)) ≡ with_page s.0 o (pages_held ss)) [ None ↦ held_cut ss | Some v ↦ ap (λ l. (s.0, v) ∷ l) (held_cut ss) ]

pub all_held : (ss : Spots) → length (pages_held (filter has_page ss)) ≡ length (filter has_page ss)
all_held [] = refl
all_held (s ∷ ss) = elim s.1 as (λ o. length (pages_held (cond (is_some o) ((s.0, o) ∷ filter has_page ss) (filter has_page ss))) ≡ length (cond (is_some o) ((s.0, o) ∷ filter has_page ss) (filter has_page ss))) [ None ↦ all_held ss | Some v ↦ ap suc (all_held ss) ]

above_cut : (x : ℕ) (ss : Spots) → AllByRecursion (λ y. nat_cmp x y ≡ Less) (keys_of ss) → AllByRecursion (λ y. nat_cmp x y ≡ Less) (keys_of (filter has_page ss))
above_cut x [] a = a
above_cut x (s ∷ ss) a = elim s.1 as (λ o. AllByRecursion (λ y. nat_cmp x y ≡ Less) (keys_of (cond (is_some o) ((s.0, o) ∷ filter has_page ss) (filter has_page ss)))) [ None ↦ above_cut x ss a.1 | Some p ↦ (a.0, above_cut x ss a.1) ]

pub rises_cut : (ss : Spots) → AreRising ss → AreRising (filter has_page ss)
unfolding IsStrictlySortedBy
rises_cut [] r = r
rises_cut (s ∷ ss) r = elim s.1 as (λ o. AreRising (cond (is_some o) ((s.0, o) ∷ filter has_page ss) (filter has_page ss))) [ None ↦ rises_cut ss r.1 | Some p ↦ (above_cut s.0 ss r.0, rises_cut ss r.1) ]

abbrev before : ℕ → Option Page → Spots → Spots
before n o ss = (n, o) ∷ ss

first_or : (n : ℕ) (v : Page) (ss : Spots) (q : ℕ) (o : Option Page) (k : ℕ) → slice_get (before n (Some v) ss) k ≡ Some (q, o) → ((j : ℕ) → slice_get ss j ≡ Some (q, o) → (p : Page) × (o ≡ Some p)) → (p : Page) × (o ≡ Some p)
first_or n v ss q o zero g later = (v, sym (some_pair_parts n q (Some v) o g).1)
first_or n v ss q o (suc k) g later = later k g

each_has : (ss : Spots) (q : ℕ) (o : Option Page) (k : ℕ) → slice_get (filter has_page ss) k ≡ Some (q, o) → (p : Page) × (o ≡ Some p)
each_has [] q o k g = cc
each_has (s ∷ ss) q o k g = (elim s.1 as (λ (e : Option Page). slice_get (cond (is_some e) (before s.0 e (filter has_page ss)) (filter has_page ss)) k ≡ Some (q, o) → (p : Page) × (o ≡ Some p)) [
  | None ↦ λ h. each_has ss q o k h
  | Some v ↦ λ h. first_or s.0 v (filter has_page ss) q o k h (λ j e. each_has ss q o j e)
]) g

pub all_below : (ss : Spots) → AreRising ss → (n : ℕ) → ((q : ℕ) (p : Page) → page_of (pages_held ss) q ≡ Some p → q < n) → (k q : ℕ) (o : Option Page) → slice_get (filter has_page ss) k ≡ Some (q, o) → q < n
all_below ss r n low k q o g =
    let is = each_has ss q o k g in
    low q is.0 (sym (ap (λ ps. page_of ps q) (held_cut ss)) ∙ page_in (filter has_page ss) (rises_cut ss r) k q o g ∙ is.1)

-- ## What a read says

pub if_held : (x y : Option Page) → x ≡ y → IfSome x (λ p. y ≡ Some p)
if_held x y e = subst (λ (z : Option Page). IfSome z (λ p. y ≡ Some p)) (sym e) (itself y) where
  itself : (o : Option Page) → IfSome o (λ p. o ≡ Some p)
  itself None = tt
  itself (Some p) = refl
