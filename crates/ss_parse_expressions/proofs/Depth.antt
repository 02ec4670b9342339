-- With more levels allowed, a reader reads the same, unless it gave up before for depth. It gives up so only where many levels are opened.
use Rattle.std.proofs.Common.{◌≡◌, ℕ, suc, ◌<◌, ◌≤◌, Bool, true, false, cond, List, Result, Ok, Err, refl, ap, subst, arith, inl, inr, ◌⊎◌}
use Rattle.ss_parse_expressions.proofs.Common.{openers, ParseFault, Token}
use Rattle.ss_parse_expressions.specs.declared.failure.ParseFault.TheVariants.{Syntax, TooDeep}
use Rattle.ss_parse_expressions.specs.Reading.{◌>>=◌}

-- ---- more levels

abbrev pub Upto : {A : Type 0} → Result A ParseFault → Result A ParseFault → Type 0
Upto r r' = (r ≡ Err TooDeep) ⊎ (r ≡ r')

pub upto_same : {A : Type 0} (r : Result A ParseFault) → Upto r r
upto_same r = inr refl

pub upto_bind : {A B : Type 0} (r r' : Result A ParseFault) (f g : A → Result B ParseFault) → Upto r r' → ((x : A) → Upto (f x) (g x)) → Upto (r >>= f) (r' >>= g)
upto_bind r r' f g (inl e) h = inl (rw e refl)
upto_bind (Ok x) r' f g (inr e) h = subst (λ s. Upto (f x) (s >>= g)) e (h x)
upto_bind (Err d) r' f g (inr e) h = inr (ap (λ s. s >>= g) e)

pub upto_if : {A : Type 0} (b : Bool) (x x' y y' : Result A ParseFault) → Upto x x' → Upto y y' → Upto (cond b x y) (cond b x' y')
upto_if true x x' y y' h k = h
upto_if false x x' y y' h k = k

-- ---- many levels are opened

-- Of n tokens that open a level, the rest has no more. Where a reader finds them too deep, they are at least k.
abbrev pub Bounded : {A : Type 0} → ℕ → ℕ → Result (A × List Token) ParseFault → Type 0
Bounded k n (Ok x) = openers x.1 ≤ n
Bounded k n (Err Syntax) = Unit {0}
Bounded k n (Err TooDeep) = k ≤ n

pub bounded_more : {A : Type 0} (k m n : ℕ) (r : Result (A × List Token) ParseFault) → m ≤ n → Bounded k m r → Bounded k n r
bounded_more k m n (Ok x) le h = omega arith
bounded_more k m n (Err Syntax) le h = tt
bounded_more k m n (Err TooDeep) le h = omega arith

pub bounded_bind : {A B : Type 0} (k n : ℕ) (r : Result (A × List Token) ParseFault) (f : A × List Token → Result (B × List Token) ParseFault) → Bounded k n r → ((x : A × List Token) → Bounded k (openers x.1) (f x)) → Bounded k n (r >>= f)
bounded_bind k n (Ok x) f h g = bounded_more k (openers x.1) n (f x) h (g x)
bounded_bind k n (Err Syntax) f h g = tt
bounded_bind k n (Err TooDeep) f h g = h

pub bounded_if : {A : Type 0} (k n : ℕ) (b : Bool) (x y : Result (A × List Token) ParseFault) → Bounded k n x → Bounded k n y → Bounded k n (cond b x y)
bounded_if k n true x y h g = h
bounded_if k n false x y h g = g

-- a level is opened
pub bounded_opened : {A : Type 0} (k m n : ℕ) (r : Result (A × List Token) ParseFault) → m < n → Bounded k m r → Bounded (suc k) n r
bounded_opened k m n (Ok x) lt h = omega arith
bounded_opened k m n (Err Syntax) lt h = tt
bounded_opened k m n (Err TooDeep) lt h = omega arith
