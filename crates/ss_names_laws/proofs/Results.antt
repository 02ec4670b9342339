-- Steps that have results, and what holds of all of them.
use Rattle.std.proofs.Common.{◌≡◌, ℕ, zero, suc, ◌<◌, List, [], ◌∷◌, Option, Some, refl, subst, arith}
use Rattle.std.specs.List.{AllByRecursion as Every, AllZip}
use Rattle.ss_names_meaning.specs.Answers.{◌>>=◌, each, upto}
use Rattle.ss_names_laws.proofs.Each.{joined}
use Rattle.ss_names_laws.proofs.Steps.{got_two}

pub goes : {A B : Type 0} (o : Option A) (f : A → Option B) (x : A) (y : B) → o ≡ Some x → f x ≡ Some y → (o >>= f) ≡ Some y
goes o f x y e h = rw e h

-- ---- steps for each item

-- where each step has a result of which something holds, all have, and it holds of each
pub each_made : {A B : Type 0} (step : A → Option B) (Q : B → Type 0) (xs : List A) → Every (λ x. (y : B) × (step x ≡ Some y) × Q y) xs →
    (ys : List B) × (each step xs ≡ Some ys) × Every Q ys
unfolding each
each_made step Q [] h = ([], refl, tt)
each_made step Q (x ∷ xs) h =
    let rest = each_made step Q xs h.1 in
    (h.0.0 ∷ rest.0, goes (step x) _ h.0.0 (h.0.0 ∷ rest.0) h.0.1 (goes (each step xs) _ rest.0 (h.0.0 ∷ rest.0) rest.1 refl), (h.0.2, rest.2))

pub each_every : {A B : Type 0} (step : A → Option B) (P : B → Type 0) (xs : List A) (ys : List B) → each step xs ≡ Some ys → ((x : A) (y : B) → step x ≡ Some y → P y) → Every P ys
unfolding each
each_every step P [] ys e h =
    let s : [] ≡ ys = cc in
    subst (Every P) s tt
each_every step P (a ∷ rest) ys e h =
    let p = got_two (step a) (each step rest) (λ z zs. z ∷ zs) ys e in
    subst (Every P) p.4 (h a p.0 p.2, each_every step P rest p.1 p.3 h)

pub each_zip : {A B C : Type 0} (f : A → Option B) (g : A → Option C) (R : B → C → Type 0) (xs : List A) (ys : List B) (zs : List C) → each f xs ≡ Some ys → each g xs ≡ Some zs → ((x : A) (y : B) (z : C) → f x ≡ Some y → g x ≡ Some z → R y z) → AllZip R ys zs
unfolding each
each_zip f g R [] ys zs d e h =
    let s : [] ≡ ys = cc in
    let t : [] ≡ zs = cc in
    subst (λ l. AllZip R l zs) s (subst (AllZip R []) t tt)
each_zip f g R (a ∷ rest) ys zs d e h =
    let p = got_two (f a) (each f rest) (λ b bs. b ∷ bs) ys d in
    let q = got_two (g a) (each g rest) (λ c cs. c ∷ cs) zs e in
    subst (λ l. AllZip R l zs) p.4 (subst (AllZip R (p.0 ∷ p.1)) q.4 (h a p.0 q.0 p.2 q.2, each_zip f g R rest p.1 q.1 p.3 q.3 h))

-- ---- numbers below a bound

pub upto_every : (P : ℕ → Type 0) (n : ℕ) → ((i : ℕ) → i < n → P i) → Every P (upto n)
unfolding upto
upto_every P zero h = tt
upto_every P (suc n) h = joined P (upto n) (n ∷ []) (upto_every P n (λ i lt. h i (omega (arith, lt)))) (h n (omega arith), tt)
