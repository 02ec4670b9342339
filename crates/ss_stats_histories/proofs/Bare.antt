-- Statistics that keep their histories as they were.
use Rattle.std.proofs.Common.{◌≡◌, zero, suc, ℤ, pos, Bool, true, false, cond, int_eq, List, [], ◌∷◌, map, get_or, All, Option, None, sym, ap, ◌∙◌, subst, refl, arith}
use Rattle.ss_stats_histories.proofs.Common.{bare, column_of, columns_of, fun_ext, History, IsKeptUntil, IsUntil, none_in, none_yet, Recorded, Rows, rows_of, shown, Statistic, StatisticHistories}
use mathlib.Core.List.{map-map}
use Rattle.ss_meaning.specs.Histories.{no_histories}
use Rattle.ss_stats_histories.proofs.Columns.{head_of, tail_of, not_none, joined, none_is}

pub until_bare : (latest : ℤ) (ks ns : List Recorded) → map bare ns ≡ map bare ks → All (IsKeptUntil latest) ks → All (IsKeptUntil latest) ns
until_bare latest ks [] e u k d h = absurd (omega (arith, h))
until_bare latest [] (n ∷ ns) e u k d h = absurd (not_none _ _ e)
until_bare latest (k ∷ ks) (n ∷ ns) e u zero d h =
    subst (λ (z : Statistic × Rows). IsUntil latest (column_of z.1)) (sym (ap (head_of (bare n)) e)) (u zero d (omega arith))
until_bare latest (k ∷ ks) (n ∷ ns) e u (suc j) d h = until_bare latest ks ns (ap tail_of e) (λ m f l. u (suc m) f (omega (arith, l))) j d (omega (arith, h))

pub all_later : (P Q : Recorded → Type 0) (ks : List Recorded) → ((k : Recorded) → P k → Q k) → All P ks → All Q ks
all_later P Q ks f a j d h = f (get_or ks j d) (a j d h)

abbrev pub pair_of : Statistic × Rows → StatisticHistories
pair_of z = (z.0, column_of z.1)

pub shown_bare : (ks ns : List Recorded) → map bare ns ≡ map bare ks → map shown ns ≡ map shown ks
shown_bare ks ns e = sym (map-map pair_of bare ns) ∙ ap (map pair_of) e ∙ map-map pair_of bare ks

none_there : (x : ℤ) → column_of none_yet x ≡ None
none_there x = by (int_eq (pos 0) x) None where
  by : (b : Bool) (o : Option History) → cond b o o ≡ o
  by true o = refl
  by false o = refl

empty_until : (latest : ℤ) (rows : Rows) → rows ≡ none_yet → IsUntil latest (column_of rows)
empty_until latest rows e = subst (λ (r : Rows). IsUntil latest (column_of r)) (sym e) (λ x h p. absurd (none_is h (sym (none_there x) ∙ p)))

pub fresh_until : (latest : ℤ) (ss : List Statistic) (ks : List Recorded) → rows_of ks ≡ map none_in ss → All (IsKeptUntil latest) ks
fresh_until latest ss [] e k d h = absurd (omega (arith, h))
fresh_until latest [] (n ∷ ns) e k d h = absurd (not_none _ _ e)
fresh_until latest (s ∷ ss) (n ∷ ns) e zero d h = empty_until latest n.rows (ap (head_of n.rows) e)
fresh_until latest (s ∷ ss) (n ∷ ns) e (suc k) d h = fresh_until latest ss ns (ap tail_of e) k d (omega (arith, h))

pub none_columns : (rows : List Rows) (ss : List Statistic) → rows ≡ map none_in ss → columns_of rows ≡ no_histories ss
none_columns [] [] e = refl
none_columns [] (s ∷ ss) e = absurd (not_none _ _ (sym e))
none_columns (r ∷ rows) [] e = absurd (not_none _ _ e)
none_columns (r ∷ rows) (s ∷ ss) e = joined _ _ _ _ (ap column_of (ap (head_of r) e) ∙ fun_ext none_there) (none_columns rows ss (ap tail_of e))
