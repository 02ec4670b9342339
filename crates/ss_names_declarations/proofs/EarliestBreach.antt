-- What is so of the earliest of some breaches.
use Rattle.std.proofs.Common.{◌≡◌, ℕ, ◌≤◌, Bool, true, false, cond, nat_le, List, [], ◌∷◌, ◌++◌, Option, Some, None, inl, inr, ⊎_elim, refl, sym, ap, subst, ◌∙◌, true≢false, arith}
use Rattle.std.specs.List.{AllByRecursion, filter, find, fold, list_all}
use Rattle.std.proofs.lemmas.Bool.{and_from, and_parts, cases_Bool, cond-false, cond-true, eq-eqb, eqb-false, eqb-true, leb-true, ne_eqb}
use Rattle.std.proofs.lemmas.Bool.Decides.{nat_tests}
use Rattle.std.proofs.lemmas.Option.{none-some, same_Some}
use Rattle.ss_names_declarations.specs.Earliest.{EarliestIsFirst, EarliestIsLeast, EarliestOfParts, precedes, earlier, earlier_of, earliest, is_in_order, is_of_rule}

-- ---- places

rule_first : (p q : ℕ × ℕ) → precedes p q ≡ true → p.0 ≤ q.0
rule_first p q e = grind (arith, nat_tests)

rule_after : (p q : ℕ × ℕ) → precedes p q ≡ false → q.0 ≤ p.0
rule_after p q e = grind (arith, nat_tests)

onward : (p q r : ℕ × ℕ) → precedes p q ≡ true → precedes q r ≡ true → precedes p r ≡ true
onward p q r e f = grind (arith, nat_tests)

one_way : (p q : ℕ × ℕ) → precedes p q ≡ true → precedes q p ≡ false
one_way p q e = grind (arith, nat_tests)

not_itself : (p : ℕ × ℕ) → precedes p p ≡ false
not_itself p = grind (arith, nat_tests)

-- a place that does not come before a second, which does not come before a third, does not come before the third
chain : (p q r : ℕ × ℕ) → precedes p q ≡ false → precedes q r ≡ false → precedes p r ≡ false
chain p q r e f = grind (arith, nat_tests)

-- of two of one rule that with the earlier line does not come after the other
in_line_order : (p q : ℕ × ℕ) → q.0 ≡ p.0 → p.1 ≤ q.1 → precedes q p ≡ false
in_line_order p q same le = grind (arith, nat_tests)

module _ {E : Type 0} (order : E → ℕ × ℕ) where
  -- ---- parts

  of_none : (o : Option E) → earlier_of order None o ≡ o
  of_none None = refl
  of_none (Some e) = refl

  -- the earlier of three, from either end
  of_three : (a : Option E) (b c : E) → earlier_of order a (earlier order (Some b) c) ≡ earlier order (earlier order a b) c
  of_three None b c = of_none (earlier order (Some b) c)
  of_three (Some x) b c =
      elim (cases_Bool (precedes (order c) (order b))) [
        | inl cb ↦ elim (cases_Bool (precedes (order b) (order x))) [
          | inl bx ↦ (let cx : precedes (order c) (order x) ≡ true = onward (order c) (order b) (order x) cb bx in rw (bx, cb, cx) refl)
          | inr bx ↦ rw (bx, cb) refl
        ]
        | inr cb ↦ elim (cases_Bool (precedes (order b) (order x))) [
          | inl bx ↦ rw (cb, bx, cb) refl
          | inr bx ↦ (let cx : precedes (order c) (order x) ≡ false = chain (order c) (order b) (order x) cb bx in rw (cb, bx, cx) refl)
        ]
      ]

  of_three_maybe : (a : Option E) (b : E) (o : Option E) → earlier_of order (earlier order a b) o ≡ earlier_of order a (earlier_of order (Some b) o)
  of_three_maybe a b None = refl
  of_three_maybe a b (Some c) = sym (of_three a b c)

  -- what was found so far, and then the breaches of a list
  pub found_and_rest : (found : Option E) (xs : List E) → fold (earlier order) found xs ≡ earlier_of order found (earliest order xs)
  found_and_rest found [] = refl
  found_and_rest found (x ∷ xs) =
      found_and_rest (earlier order found x) xs ∙ of_three_maybe found x (earliest order xs) ∙
      ap (earlier_of order found) (sym (found_and_rest (Some x) xs))

  fold_both : (found : Option E) (xs ys : List E) → fold (earlier order) found (xs ++ ys) ≡ fold (earlier order) (fold (earlier order) found xs) ys
  fold_both found [] ys = refl
  fold_both found (x ∷ xs) ys = fold_both (earlier order found x) xs ys

  pub earliest_of_parts : EarliestOfParts order
  earliest_of_parts xs ys = fold_both None xs ys ∙ found_and_rest (earliest order xs) ys

  -- ---- the least

  -- one breach more, which comes before what was found or does not
  taken : (found y : E) (ys : List E) {t : Bool} → precedes (order y) (order found) ≡ t → fold (earlier order) (cond t (Some y) (Some found)) ys ≡ fold (earlier order) (Some found) (y ∷ ys)
  taken found y ys t = sym (ap (λ (c : Bool). fold (earlier order) (cond c (Some y) (Some found)) ys) t)

  least_from : (found : E) (xs : List E) (b : E) → fold (earlier order) (Some found) xs ≡ Some b → (precedes (order found) (order b) ≡ false) × AllByRecursion (λ c. precedes (order c) (order b) ≡ false) xs
  least_from found [] b e = (subst (λ x. precedes (order found) (order x) ≡ false) (same_Some found b e) (not_itself (order found)), tt)
  least_from found (y ∷ ys) b e = ⊎_elim
      (λ (t : precedes (order y) (order found) ≡ true).
      let r = least_from y ys b (taken found y ys t ∙ e) in
      (chain (order found) (order y) (order b) (one_way (order y) (order found) t) r.0, (r.0, r.1)))
      (λ (t : precedes (order y) (order found) ≡ false).
      let r = least_from found ys b (taken found y ys t ∙ e) in
      (r.0, (chain (order y) (order found) (order b) t r.0, r.1)))
      (cases_Bool (precedes (order y) (order found)))

  pub earliest_is_least : EarliestIsLeast order
  earliest_is_least [] b e = tt
  earliest_is_least (x ∷ xs) b e = least_from x xs b e

  -- ---- the first of its rule

  -- the earliest is of no later rule than what was found
  no_later : (found : E) (xs : List E) (b : E) → fold (earlier order) (Some found) xs ≡ Some b → (order b).0 ≤ (order found).0
  no_later found [] b e =
      let same : (order found).0 ≡ (order b).0 = ap (λ (x : E). (order x).0) (same_Some found b e) in
      omega arith
  no_later found (y ∷ ys) b e = ⊎_elim
      (λ (t : precedes (order y) (order found) ≡ true).
      let low : (order b).0 ≤ (order y).0 = no_later y ys b (taken found y ys t ∙ e) in
      let high : (order y).0 ≤ (order found).0 = rule_first (order y) (order found) t in
      omega arith)
      (λ (t : precedes (order y) (order found) ≡ false). no_later found ys b (taken found y ys t ∙ e))
      (cases_Bool (precedes (order y) (order found)))

  abbrev reaches : E → E → Bool
  reaches x c = nat_le (order x).1 (order c).1

  in_order_on : (t : Bool) (x : E) (l : List E) → is_in_order order (cond t (x ∷ l) l) ≡ true → is_in_order order l ≡ true
  in_order_on true x l e = (and_parts (list_all (reaches x) l) (is_in_order order l) e).1
  in_order_on false x l e = e

  without_second : (t u : Bool) (x y : E) (l : List E) → is_in_order order (cond t (x ∷ cond u (y ∷ l) l) (cond u (y ∷ l) l)) ≡ true → is_in_order order (cond t (x ∷ l) l) ≡ true
  without_second true true x y l e =
      let outer = and_parts (list_all (reaches x) (y ∷ l)) (is_in_order order (y ∷ l)) e in
      and_from (list_all (reaches x) l) (is_in_order order l) (and_parts (reaches x y) (list_all (reaches x) l) outer.0).1
      (and_parts (list_all (reaches y) l) (is_in_order order l) outer.1).1
  without_second true false x y l e = e
  without_second false true x y l e = (and_parts (list_all (reaches y) l) (is_in_order order l) e).1
  without_second false false x y l e = e

  first_two : (x y : E) (l : List E) → is_in_order order (x ∷ y ∷ l) ≡ true → (order x).1 ≤ (order y).1
  first_two x y l e =
      let outer = and_parts (list_all (reaches x) (y ∷ l)) (is_in_order order (y ∷ l)) e in
      leb-true (order x).1 (order y).1 (and_parts (reaches x y) (list_all (reaches x) l) outer.0).0

  -- where the next breach replaces what was found, that is of a later rule than the earliest
  of_other_rule : (t u : Bool) (b x y : E) (l : List E) → is_of_rule order b x ≡ t → is_of_rule order b y ≡ u → (order b).0 ≤ (order y).0 → precedes (order y) (order x) ≡ true →
      is_in_order order (cond t (x ∷ cond u (y ∷ l) l) (cond u (y ∷ l) l)) ≡ true → is_of_rule order b x ≡ false
  of_other_rule true true b x y l p q low before e =
      let one : (order x).0 ≡ (order b).0 = eqb-true (order x).0 (order b).0 p in
      let two : (order y).0 ≡ (order b).0 = eqb-true (order y).0 (order b).0 q in
      absurd (true≢false (sym before ∙ in_line_order (order x) (order y) (two ∙ sym one) (first_two x y l e)))
  of_other_rule true false b x y l p q low before e =
      let one : (order x).0 ≡ (order b).0 = eqb-true (order x).0 (order b).0 p in
      let high : (order y).0 ≤ (order x).0 = rule_first (order y) (order x) before in
      let same : (order y).0 ≡ (order b).0 = omega arith in
      absurd (eqb-false (order y).0 (order b).0 q same)
  of_other_rule false u b x y l p q low before e = p

  -- a breach of a later rule, and one that does not come before what was found, are not the first of the rule
  passed : (b x y : E) (ys : List E) → is_of_rule order b x ≡ false → find (is_of_rule order b) (y ∷ ys) ≡ Some b → find (is_of_rule order b) (x ∷ y ∷ ys) ≡ Some b
  passed b x y ys other e = cond-false (is_of_rule order b x) (Some x) (find (is_of_rule order b) (y ∷ ys)) other ∙ e

  passed_second : (b x y : E) (ys : List E) → (order b).0 ≤ (order x).0 → precedes (order y) (order x) ≡ false → find (is_of_rule order b) (x ∷ ys) ≡ Some b → find (is_of_rule order b) (x ∷ y ∷ ys) ≡ Some b
  passed_second b x y ys low after e = ⊎_elim
      (λ (p : is_of_rule order b x ≡ true). cond-true (is_of_rule order b x) (Some x) (find (is_of_rule order b) (y ∷ ys)) p ∙ sym (cond-true (is_of_rule order b x) (Some x) (find (is_of_rule order b) ys) p) ∙ e)
      (λ (p : is_of_rule order b x ≡ false).
      let other : (order x).0 ≡ (order b).0 → ⊥ = eqb-false (order x).0 (order b).0 p in
      let high : (order x).0 ≤ (order y).0 = rule_after (order y) (order x) after in
      let apart : (order y).0 ≡ (order b).0 → ⊥ = λ (same : (order y).0 ≡ (order b).0). omega arith in
      cond-false (is_of_rule order b x) (Some x) (find (is_of_rule order b) (y ∷ ys)) p ∙
      cond-false (is_of_rule order b y) (Some y) (find (is_of_rule order b) ys) (ne_eqb (order y).0 (order b).0 apart) ∙
      sym (cond-false (is_of_rule order b x) (Some x) (find (is_of_rule order b) ys) p) ∙ e)
      (cases_Bool (is_of_rule order b x))

  first_from : (found : E) (xs : List E) (b : E) → is_in_order order (filter (is_of_rule order b) (found ∷ xs)) ≡ true → fold (earlier order) (Some found) xs ≡ Some b → find (is_of_rule order b) (found ∷ xs) ≡ Some b
  first_from found [] b sorted e =
      let same : (order found).0 ≡ (order b).0 = ap (λ (x : E). (order x).0) (same_Some found b e) in
      cond-true (is_of_rule order b found) (Some found) None (eq-eqb (order found).0 (order b).0 same) ∙ e
  first_from found (y ∷ ys) b sorted e = ⊎_elim
      (λ (t : precedes (order y) (order found) ≡ true).
      let there : fold (earlier order) (Some y) ys ≡ Some b = taken found y ys t ∙ e in
      let low : (order b).0 ≤ (order y).0 = no_later y ys b there in
      let rest : is_in_order order (filter (is_of_rule order b) (y ∷ ys)) ≡ true = in_order_on (is_of_rule order b found) found (filter (is_of_rule order b) (y ∷ ys)) sorted in
      let other : is_of_rule order b found ≡ false = of_other_rule (is_of_rule order b found) (is_of_rule order b y) b found y (filter (is_of_rule order b) ys) refl refl low t sorted in
      passed b found y ys other (first_from y ys b rest there))
      (λ (t : precedes (order y) (order found) ≡ false).
      let there : fold (earlier order) (Some found) ys ≡ Some b = taken found y ys t ∙ e in
      let low : (order b).0 ≤ (order found).0 = no_later found ys b there in
      let rest : is_in_order order (filter (is_of_rule order b) (found ∷ ys)) ≡ true = without_second (is_of_rule order b found) (is_of_rule order b y) found y (filter (is_of_rule order b) ys) sorted in
      passed_second b found y ys low t (first_from found ys b rest there))
      (cases_Bool (precedes (order y) (order found)))

  pub earliest_is_first : EarliestIsFirst order
  earliest_is_first [] b sorted e = absurd (none-some b e)
  earliest_is_first (x ∷ xs) b sorted e = first_from x xs b sorted e
