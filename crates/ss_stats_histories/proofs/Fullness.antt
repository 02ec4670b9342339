-- When a history takes no further value.
use Rattle.std.proofs.Common.{◌≡◌, ℕ, zero, suc, true, false, ◌<◌, ◌+◌, if◌then◌else◌, ℤ, List, [], ◌∷◌, ◌++◌, length, map, take, get_or, Option, Some, None, is_some, slice_get, Result, Ok, Err, is_ok, subst, sym, ap, ◌∙◌, refl, arith}
use Rattle.ss_stats_histories.proofs.Common.{column_of, first_at, has_at, option_or, Overflow, Recorded, refused_at, refused_in, shown, take_more, Unnoted, ⊤}
use Rattle.ss_base.specs.declared.fault.FaultKind.{FaultKind}
use Rattle.std.proofs.lemmas.Option.{slice_get-map}
use Rattle.std.specs.Option.{option_map}
use Rattle.ss_stats_histories.specs.Each.{has_of}
use Rattle.ss_stats.specs.History.{History, is_full, note_outcome}

pub refused_is_full : (h : History) (r : Result ⊤ FaultKind) → r ≡ note_outcome h → is_ok r ≡ false → is_full h ≡ true
refused_is_full h r =
    elim (is_full h) as (λ b. r ≡ (if b then Err Overflow else Ok tt) → is_ok r ≡ false → b ≡ true) [
      | true ↦ λ e i. refl
      | false ↦ λ e i. let n : true ≡ false = subst (λ (a : Result ⊤ FaultKind). is_ok a ≡ false) e i in cc
    ]

pub refused_there : (x : ℤ) (ks : List Recorded) (j : ℕ) (d : Recorded) → j < length ks → refused_at x (map shown ks) j ≡ refused_in (column_of (get_or ks j d).rows x)
refused_there x [] j d h = absurd (omega arith)
refused_there x (k ∷ ks) zero d h = refl
refused_there x (k ∷ ks) (suc j) d h = refused_there x ks j d (omega arith)

pub or_none : (o : Option Unnoted) → option_or o None ≡ o
or_none None = refl
or_none (Some e) = refl

-- one reason more
or_one : (o p q : Option Unnoted) → option_or o (option_or p q) ≡ option_or (option_or o p) q
or_one None p q = refl
or_one (Some e) p q = refl

pub one_reason : (f : ℕ → Option Unnoted) (js : List ℕ) (j : ℕ) → first_at f (js ++ j ∷ []) ≡ option_or (first_at f js) (f j)
one_reason f [] j = or_none (f j)
one_reason f (k ∷ js) j = ap (option_or (f k)) (one_reason f js j) ∙ or_one (f k) (first_at f js) (f j)

pub next_reason : (f : ℕ → Option Unnoted) (js : List ℕ) (i d : ℕ) → i < length js → first_at f (take (i + 1) js) ≡ option_or (first_at f (take i js)) (f (get_or js i d))
next_reason f js i d h = ap (first_at f) (take_more js i d h) ∙ one_reason f (take i js) (get_or js i d)

pub has_within : (x : ℤ) (ks : List Recorded) (j : ℕ) → has_at x (map shown ks) j ≡ true → j < length ks
has_within x [] j e = cc
has_within x (k ∷ ks) zero e = omega arith
has_within x (k ∷ ks) (suc j) e = omega (arith, has_within x ks j e)

pub has_there : (x : ℤ) (ks : List Recorded) (j : ℕ) (k : Recorded) → slice_get ks j ≡ Some k → has_at x (map shown ks) j ≡ is_some (column_of k.rows x)
has_there x ks j k e = ap (has_of x) (slice_get-map shown ks j ∙ ap (option_map shown) e)

pub has_nowhere : (x : ℤ) (ks : List Recorded) (j : ℕ) → slice_get ks j ≡ None → has_at x (map shown ks) j ≡ false
has_nowhere x ks j e = ap (has_of x) (slice_get-map shown ks j ∙ ap (option_map shown) e)
