-- Steps for each item of a list and for each number below a bound.
use Rattle.std.proofs.Common.{◌≡◌, ℕ, zero, suc, inl, inr, ◌<◌, List, [], ◌∷◌, ◌++◌, length, get_or, slice_get, Option, Some, None, refl, ap, subst, ◌∙◌, arith, true, is_some, option_map}
use Rattle.std.proofs.Math.Seq.{get_or-append_seam}
use Rattle.ss_names_laws.proofs.Common.{cases_lt, option_to_list, same_Some, slice_get-get_or}
use Rattle.std.proofs.lemmas.List.{get_or_append_left, length-append}
use Rattle.ss_names_meaning.specs.Answers.{◌>>=◌, each, upto, of_two}

pub got : {A B : Type 0} (o : Option A) (f : A → Option B) (y : B) → (o >>= f) ≡ Some y → (x : A) × (o ≡ Some x) × (f x ≡ Some y)
got None f y e = absurd cc
got (Some x) f y e = (x, refl, e)

pub got_two : {A B C : Type 0} (o : Option A) (p : Option B) (f : A → B → C) (z : C) → of_two o p f ≡ Some z → (a : A) × (b : B) × (o ≡ Some a) × (p ≡ Some b) × (f a b ≡ z)
got_two (Some a) (Some b) f z e = (a, b, refl, refl, same_Some (f a b) z e)
got_two _ _ f z e = absurd cc

-- ---- options

-- what an option holds, by what holds its image
pub mapped : {A B : Type 0} (f : A → B) (o : Option A) (y : B) → option_map f o ≡ Some y → (x : A) × (o ≡ Some x) × (f x ≡ y)
mapped f None y h = absurd cc
mapped f (Some x) y h = (x, refl, same_Some (f x) y h)

pub some_there : {A : Type 0} (o : Option A) → is_some o ≡ true → (x : A) × (o ≡ Some x)
some_there None h = absurd cc
some_there (Some x) h = (x, refl)

pub none_listed : {A : Type 0} (o : Option A) → option_to_list o ≡ [] → o ≡ None
none_listed None h = refl
none_listed (Some x) h = absurd cc

-- ---- steps for each item

pub each_at : {A B : Type 0} (step : A → Option B) (xs : List A) (ys : List B) (i : ℕ) (x : A) → each step xs ≡ Some ys → slice_get xs i ≡ Some x → (y : B) × (slice_get ys i ≡ Some y) × (step x ≡ Some y)
unfolding each
each_at step [] ys i x e h = absurd cc
each_at step (a ∷ rest) ys zero x e h =
    let p = got_two (step a) (each step rest) (λ z zs. z ∷ zs) ys e in
    let s : a ≡ x = cc in
    (p.0, subst (λ l. slice_get l 0 ≡ Some p.0) p.4 refl, subst (λ b. step b ≡ Some p.0) s p.2)
each_at step (a ∷ rest) ys (suc i) x e h =
    let p = got_two (step a) (each step rest) (λ z zs. z ∷ zs) ys e in
    let r = each_at step rest p.1 i x p.3 h in
    (r.0, subst (λ l. slice_get l (suc i) ≡ Some r.0) p.4 r.1, r.2)

-- ---- numbers below a bound

pub upto_length : (n : ℕ) → length (upto n) ≡ n
unfolding upto
upto_length zero = refl
upto_length (suc n) = omega (arith, upto_length n, length-append (upto n) (n ∷ []))

upto_get : (n i : ℕ) → i < n → get_or (upto n) i 0 ≡ i
unfolding upto
upto_get zero i lt = absurd (omega (arith, lt))
upto_get (suc n) i lt =
    elim (cases_lt i n) [
      | inl below ↦ get_or_append_left (upto n) (n ∷ []) 0 i (omega (arith, below, upto_length n)) ∙ upto_get n i below
      | inr above ↦
          let same : i ≡ length (upto n) = omega (arith, lt, above, upto_length n) in
          ap (λ k. get_or (upto n ++ n ∷ []) k 0) same ∙ get_or-append_seam (upto n) n [] 0 ∙ omega (arith, lt, above)
    ]

upto_at : (n i : ℕ) → i < n → slice_get (upto n) i ≡ Some i
upto_at n i lt = slice_get-get_or (upto n) i 0 (omega (arith, lt, upto_length n)) ∙ ap Some (upto_get n i lt)

pub numbers_at : {B : Type 0} (step : ℕ → Option B) (n : ℕ) (ys : List B) (i : ℕ) → each step (upto n) ≡ Some ys → i < n → (y : B) × (slice_get ys i ≡ Some y) × (step i ≡ Some y)
numbers_at step n ys i e lt = each_at step (upto n) ys i i e (upto_at n i lt)
