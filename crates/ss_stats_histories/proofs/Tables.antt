-- Rows of a table.
use Rattle.std.proofs.Common.{◌≡◌, ℕ, zero, suc, Bool, true, false, ◌<◌, ◌==◌, ◌&&◌, if◌then◌else◌, List, [], ◌∷◌, ◌++◌, length, Some, slice_get, slice_set, get_or, sym, subst, ap, ◌∙◌, eqb→eq, T, refl, arith}
use lib.Dec.{eqb_refl}
use Rattle.ss_stats_histories.specs.Places.{row_at, table_or_empty, table_cell}

-- an empty row after the last one changes no row
pub one_row : (rows : List (List ℕ)) (k : ℕ) → row_at (rows ++ [] ∷ []) k ≡ row_at rows k
one_row [] zero = refl
one_row [] (suc k) = refl
one_row (r ∷ rows) zero = refl
one_row (r ∷ rows) (suc k) = one_row rows k

-- an empty table after the last one changes no cell
pub one_table : (tables : List (List (List ℕ))) (j k : ℕ) → table_cell (tables ++ [] ∷ []) j k ≡ table_cell tables j k
one_table [] zero k = refl
one_table [] (suc j) k = refl
one_table (t ∷ tables) zero k = refl
one_table (t ∷ tables) (suc j) k = one_table tables j k

-- ## The items of a list once one was written

pub at_written : {X : Type 0} → (xs : List X) (i : ℕ) (x : X) → i < length xs → slice_get (slice_set xs i x) i ≡ Some x
at_written [] i x h = absurd (omega arith)
at_written (y ∷ xs) zero x h = refl
at_written (y ∷ xs) (suc i) x h = at_written xs i x (omega arith)

pub at_others : {X : Type 0} → (xs : List X) (i j : ℕ) (x : X) → (i ≡ j → ⊥) → slice_get (slice_set xs i x) j ≡ slice_get xs j
at_others [] i j x n = refl
at_others (y ∷ xs) zero zero x n = absurd (n refl)
at_others (y ∷ xs) zero (suc j) x n = refl
at_others (y ∷ xs) (suc i) zero x n = refl
at_others (y ∷ xs) (suc i) (suc j) x n = at_others xs i j x (λ e. n (ap suc e))

pub at_index : {X : Type 0} → (xs : List X) (i : ℕ) (x : X) → i < length xs → x ≡ get_or xs i x → slice_get xs i ≡ Some x
at_index [] i x h e = absurd (omega arith)
at_index (y ∷ xs) zero x h e = ap Some (sym e)
at_index (y ∷ xs) (suc i) x h e = at_index xs i x (omega arith) e

true_is : (b : Bool) → b ≡ true → T b
true_is b e = subst T (sym e) tt

false_differs : (b : Bool) → b ≡ false → T b → ⊥
false_differs true e t = cc
false_differs false e t = t

-- ## A table in which one row is longer by one number

pub longer_cell : (tables : List (List (List ℕ))) (first second n : ℕ) (old table : List (List ℕ)) → first < length tables → old ≡ get_or tables first old →
    ((k : ℕ) → row_at table k ≡ (if second == k then row_at old k ++ n ∷ [] else row_at old k)) →
    (j k : ℕ) → table_cell (slice_set tables first table) j k ≡ (if (first == j) && (second == k) then table_cell tables j k ++ n ∷ [] else table_cell tables j k)
longer_cell tables first second n old table h is e j k =
    let there = at_index tables first old h is in
    (elim (first == j) as (λ b. (first == j) ≡ b → table_cell (slice_set tables first table) j k ≡ (if b && (second == k) then table_cell tables j k ++ n ∷ [] else table_cell tables j k)) [
      | true ↦ λ q. subst (λ i. table_cell (slice_set tables first table) i k ≡ (if second == k then table_cell tables i k ++ n ∷ [] else table_cell tables i k)) (eqb→eq first j (true_is _ q))
          (ap (λ o. row_at (table_or_empty o) k) (at_written tables first table h) ∙ e k ∙ ap (λ o. if second == k then row_at (table_or_empty o) k ++ n ∷ [] else row_at (table_or_empty o) k) (sym there))
      | false ↦ λ q. ap (λ o. row_at (table_or_empty o) k) (at_others tables first j table (λ p. false_differs _ q (subst (λ i. T (first == i)) p (eqb_refl first))))
    ]) refl
