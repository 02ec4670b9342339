-- The history of the system, which is stored apart from those of the other entities.
use Rattle.std.proofs.Common.{◌≡◌, ℤ, pos, Bool, true, false, List, Option, Some, None, cond, int_eq, refl, sym, ap, ◌∙◌}
use Rattle.ss_stats_histories.proofs.Common.{by_number, Column, column_of, Decides-int_eq, found_in, fun_ext, History, noted_column, noted_to, noted_value, renewed_column, renewed_to, restarted, Rows}
use Rattle.ss_stats_histories.proofs.Rising.{found_by_number, same_by_number}

-- that of the system, and those of the others by their numbers
abbrev pub in_two : Option History → List (ℤ × History) → Rows
in_two s es = record { system = s; others = by_number es }

-- the history of the system, and those of the others in any order
abbrev mixed : Option History → List (ℤ × History) → Rows
mixed s es = record { system = s; others = es }

in_any_order : (s : Option History) (es : List (ℤ × History)) → column_of (in_two s es) ≡ column_of (mixed s es)
in_any_order s es = fun_ext (λ x. ap (cond (int_eq (pos 0) x) s) (found_by_number es x))

-- where an entity isn't the system, its history is the one in the list
pub other_there : (s : Option History) (es : List (ℤ × History)) (y : ℤ) → int_eq (pos 0) y ≡ false → column_of (in_two s es) y ≡ found_in es y
other_there s es y apart = ap (λ b. cond b s (found_in (by_number es) y)) apart ∙ found_by_number es y

-- ---- what becomes of the others

not_both : true ≡ false → ⊥
not_both e = cc

not_both_at : (x y : ℤ) → int_eq (pos 0) y ≡ false → int_eq (pos 0) x ≡ true → int_eq y x ≡ true → ⊥
not_both_at x y apart p q =
    let a : pos 0 ≡ x = (Decides-int_eq (pos 0) x).0 p in
    let b : y ≡ x = (Decides-int_eq y x).0 q in
    not_both (sym ((Decides-int_eq (pos 0) y).1 (a ∙ sym b)) ∙ apart)

mixed_placed : (s : Option History) (es fs : List (ℤ × History)) (y : ℤ) (o : Option History) → int_eq (pos 0) y ≡ false →
    ((x : ℤ) → found_in fs x ≡ cond (int_eq y x) o (found_in es x)) → column_of (mixed s fs) ≡ (λ x. cond (int_eq y x) o (column_of (mixed s es) x))
mixed_placed s es fs y o apart e = fun_ext (λ x. by x (int_eq (pos 0) x) (int_eq y x) refl refl (e x)) where
  by : (x : ℤ) (b d : Bool) → int_eq (pos 0) x ≡ b → int_eq y x ≡ d → found_in fs x ≡ cond d o (found_in es x) → cond b s (found_in fs x) ≡ cond d o (cond b s (found_in es x))
  by x false d p q e = e
  by x true false p q e = refl
  by x true true p q e = absurd (not_both_at x y apart p q)

-- another history of one of them, or none
pub other_placed : (s : Option History) (es fs : List (ℤ × History)) (y : ℤ) (o : Option History) → int_eq (pos 0) y ≡ false →
    ((x : ℤ) → found_in fs x ≡ cond (int_eq y x) o (found_in es x)) → column_of (in_two s fs) ≡ (λ x. cond (int_eq y x) o (column_of (in_two s es) x))
other_placed s es fs y o apart e =
    let f : Column → Column = λ c x. cond (int_eq y x) o (c x) in in_any_order s fs ∙ mixed_placed s es fs y o apart e ∙ ap f (sym (in_any_order s es))

mixed_there : (s : Option History) (es : List (ℤ × History)) (y : ℤ) → int_eq (pos 0) y ≡ false → column_of (mixed s es) y ≡ found_in es y
mixed_there s es y apart = ap (λ b. cond b s (found_in es y)) apart

pub other_noted : (s : Option History) (es fs : List (ℤ × History)) (y now value : ℤ) → int_eq (pos 0) y ≡ false →
    found_in fs ≡ noted_column y now value (found_in es) → column_of (in_two s fs) ≡ noted_column y now value (column_of (in_two s es))
other_noted s es fs y now value apart e =
    in_any_order s fs ∙ by (found_in es y) e ∙ sym (ap (λ o. noted_to y now value o (column_of (mixed s es))) (mixed_there s es y apart)) ∙ ap (noted_column y now value) (sym (in_any_order s es)) where
      by : (o : Option History) → found_in fs ≡ noted_to y now value o (found_in es) → column_of (mixed s fs) ≡ noted_to y now value o (column_of (mixed s es))
      by None e = let f : Column → Column = λ c x. cond (int_eq (pos 0) x) s (c x) in ap f e
      by (Some h) e = mixed_placed s es fs y (Some (noted_value now value h)) apart (λ x. ap (λ (c : Column). c x) e)

pub other_renewed : (s : Option History) (es fs : List (ℤ × History)) (y now present : ℤ) → int_eq (pos 0) y ≡ false →
    found_in fs ≡ renewed_column y now present (found_in es) → column_of (in_two s fs) ≡ renewed_column y now present (column_of (in_two s es))
other_renewed s es fs y now present apart e =
    in_any_order s fs ∙ by (found_in es y) e ∙ sym (ap (λ o. renewed_to y now present o (column_of (mixed s es))) (mixed_there s es y apart)) ∙ ap (renewed_column y now present) (sym (in_any_order s es)) where
      by : (o : Option History) → found_in fs ≡ renewed_to y now present o (found_in es) → column_of (mixed s fs) ≡ renewed_to y now present o (column_of (mixed s es))
      by None e = let f : Column → Column = λ c x. cond (int_eq (pos 0) x) s (c x) in ap f e
      by (Some h) e = mixed_placed s es fs y (Some (restarted h now present)) apart (λ x. ap (λ (c : Column). c x) e)

-- two lists of the others that differ only in their order
pub same_in_two : (s : Option History) (es fs : List (ℤ × History)) → ((x : ℤ) → found_in fs x ≡ found_in es x) → in_two s fs ≡ in_two s es
same_in_two s es fs e = let same = same_by_number fs es e in λ j. record { system = s; others = same j }
