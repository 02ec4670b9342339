-- Lists that calls change.
use Rattle.std.proofs.Common.{◌≡◌, ℕ, zero, suc, ◌+◌, ◌-◌, ◌<◌, Bool, true, false, cond, ltb, Vec, List, [], ◌∷◌, length, get_or, set, take, swap, position, Option, Some, None, is_some, refl, sym, ap, ◌∙◌, ⊎_elim, arith}
use Rattle.ss_events_entries.proofs.Common.{cases_lt, list_any, nat_tests, swap_remove, with_items}
use Rattle.std.proofs.lemmas.Bool.{or_parts, or_from, lt-ltb, le-ltb}
use Rattle.std.proofs.lemmas.List.{with_items_is, take-set}
use Rattle.std.proofs.lemmas.List.Edits.{swap_is}
use Rattle.std.proofs.lemmas.List.Folds.{list_any_at}
use Rattle.std.proofs.lemmas.List.Sums.{fails_before_first, passes_at_first, position_or_len_is}
use Rattle.std.specs.List.{position_or_len}
use Rattle.ss_events_entries.proofs.Exchanging.{exchange}

-- ---- what a call left

-- a vector whose items a call wrote as a slice
pub written : {X Z : Type 0} (v : Vec X Z) (ws xs : List X) → ws ≡ xs → length xs ≡ v.len → (with_items v ws).items ≡ xs
written v ws xs is long = with_items_is v ws (ap length is ∙ long) ∙ is

-- where a test passes, by index

module _ {X : Type 0} (p : X → Bool) where
  pub each_fails : (xs : List X) (d : X) → list_any p xs ≡ false → (k : ℕ) → k < length xs → p (get_or xs k d) ≡ false
  each_fails [] d e k lt = absurd (omega arith)
  each_fails (x ∷ xs) d e zero lt = (or_parts (p x) (list_any p xs) e).0
  each_fails (x ∷ xs) d e (suc k) lt = each_fails xs d (or_parts (p x) (list_any p xs) e).1 k (omega arith)

  pub none_passes : (xs : List X) (d : X) → ((k : ℕ) → k < length xs → p (get_or xs k d) ≡ false) → list_any p xs ≡ false
  none_passes [] d h = refl
  none_passes (x ∷ xs) d h = or_from (p x) (list_any p xs) (h zero (omega arith)) (none_passes xs d (λ k lt. h (suc k) (omega arith)))

  pub first_at : (xs : List X) (i : ℕ) (d : X) → i < length xs → ((k : ℕ) → k < i → p (get_or xs k d) ≡ false) → p (get_or xs i d) ≡ true → position p xs ≡ Some i
  first_at xs i d within before here =
      ap (λ n. cond (ltb n (length xs)) (Some n) None) (position_or_len_is p xs i d (omega arith) before (λ _. here))
      ∙ ap (λ b. cond b (Some i) None) (lt-ltb i (length xs) within)

  pub first_nowhere : (xs : List X) (d : X) → ((k : ℕ) → k < length xs → p (get_or xs k d) ≡ false) → position p xs ≡ None
  first_nowhere xs d fails =
      ap (λ n. cond (ltb n (length xs)) (Some n) None) (position_or_len_is p xs (length xs) d (omega arith) fails (λ lt. absurd (omega (arith, lt))))
      ∙ ap (λ b. cond b (Some (length xs)) None) (le-ltb (length xs) (length xs) (omega arith))

  pub found_position : (xs : List X) (d : X) (r : Option ℕ) → r ≡ position p xs → is_some r ≡ list_any p xs
  found_position xs d r is =
      let n = position_or_len p xs in
      ap is_some is ∙ ⊎_elim
      (λ lt. ap (λ b. is_some (cond b (Some n) None)) (lt-ltb n (length xs) lt) ∙ sym (list_any_at p xs n d lt (passes_at_first p xs d lt)))
      (λ past. ap (λ b. is_some (cond b (Some n) None)) (le-ltb n (length xs) past) ∙ sym (none_passes xs d (λ k lt. fails_before_first p xs k d (omega arith))))
      (cases_lt n (length xs))

-- ---- two numbers in each other's place

pub exchange-first : (a b m : ℕ) → m ≡ a → exchange a b m ≡ b
exchange-first a b m e = grind (arith, nat_tests)

pub exchange-second : (a b m : ℕ) → m ≡ b → exchange a b m ≡ a
exchange-second a b m e = grind (arith, nat_tests)

pub exchange-other : (a b m : ℕ) → (m ≡ a → ⊥) → (m ≡ b → ⊥) → exchange a b m ≡ m
exchange-other a b m na nb = grind (arith, nat_tests)

-- ---- parts of lists

-- the last in the place of one, as an exchange with the last and a cut
pub removed_by_swap : {X : Type 0} (xs : List X) (i n : ℕ) (d : X) → length xs ≡ n + 1 → i < length xs → swap_remove xs i d ≡ take n (swap xs i n)
removed_by_swap xs i n d long within =
    let less : length xs - 1 ≡ n = omega (arith, long) in
    ap (λ m. take m (set xs i (get_or xs m d))) less
    ∙ sym (take-set (set xs i (get_or xs n d)) n (get_or xs i d))
    ∙ ap (take n) (swap_is xs i n d within (omega (arith, long)))
