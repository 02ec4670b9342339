-- Steps for each number below a bound, and lists put together.
use Rattle.std.proofs.Common.{◌≡◌, ℕ, zero, suc, ◌+◌, ◌<◌, List, [], ◌∷◌, ◌++◌, length, get_or, take, Option, Some, None, refl, sym, ap, subst, ◌∙◌, arith, add-one, inl, inr}
use Rattle.std.specs.List.{flat_map}
use Rattle.std.proofs.lemmas.List.{take_more, flat_map_more}
use Rattle.std.proofs.lemmas.Bool.{cases_lt}
use Rattle.ss_names_meaning.specs.declared.error.ResolveError.{ResolveError}
use Rattle.ss_names_meaning.specs.declared.error.ResolveError.TheVariants.{Memory, Unresolved}
use Rattle.ss_names_meaning.specs.Answers.{each, upto, HasFailed}
use Rattle.ss_names_meaning.proofs.Each.{each_more}
use Rattle.ss_names_meaning.proofs.EachThat.{front_none, last_none}

upto_none : {B : Type 0} (step : ℕ → Option B) (n i : ℕ) → i < n → step i ≡ None → each step (upto n) ≡ None
unfolding upto
upto_none step zero i lt h = absurd (omega (arith, lt))
upto_none step (suc n) i lt h =
    elim (cases_lt i n) [
      | inl below ↦ front_none step (upto n) (n ∷ []) (upto_none step n i below h)
      | inr above ↦ let same : i ≡ n = omega (arith, lt, above) in last_none step (upto n) n (subst (λ k. step k ≡ None) same h)
    ]

pub numbers_fail : {B : Type 0} (step : ℕ → Option B) (n i : ℕ) (e : ResolveError) → i < n → HasFailed e (step i) → HasFailed e (each step (upto n))
numbers_fail step n i Memory lt h = tt
numbers_fail step n i Unresolved lt h = upto_none step n i lt h

pub no_plain_numbers : {B : Type 0} (step : ℕ → Option B) (ys : List B) → ys ≡ [] → each step (upto 0) ≡ Some ys
unfolding each upto
no_plain_numbers step ys e = rw e refl

pub plain_numbers_next : {B : Type 0} (step : ℕ → Option B) (i : ℕ) (old new : List B) (y : B) → new ≡ old ++ y ∷ [] →
    each step (upto i) ≡ Some old → step i ≡ Some y → each step (upto (i + 1)) ≡ Some new
unfolding upto
plain_numbers_next step i old new y e h g = rw (add-one, e) (each_more step (upto i) i old y h g)

-- ---- what each item of a list gives, one after the other

pub listed_next : {A B : Type 0} (f : A → List B) (xs : List A) (i : ℕ) (d : A) (old new : List B) → i < length xs →
    old ≡ flat_map f (take i xs) → new ≡ old ++ f (get_or xs i d) → new ≡ flat_map f (take (i + 1) xs)
listed_next f xs i d old new lt h e =
    e ∙ ap (λ l. l ++ f (get_or xs i d)) h ∙ flat_map_more f [] (take i xs) (get_or xs i d) ∙ ap (flat_map f) (sym (take_more xs i d lt))
