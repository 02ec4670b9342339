-- Results, tests and pairs.
use Rattle.std.proofs.Common.{◌≡◌, Bool, true, false, cond, List, Result, Ok, Err, refl, subst, inl, inr, ◌⊎◌}
pub use Rattle.std.proofs.lemmas.Bool.{and_parts as and_true, cases_Bool as which, or_parts as or_false}
use Rattle.ss_parse_expressions.proofs.Common.{ParseFault, Token}
use Rattle.ss_parse_expressions.specs.Reading.{◌>>=◌}

pub bind_ok : {A B : Type 0} (r : Result A ParseFault) (f : A → Result B ParseFault) (y : B) → (r >>= f) ≡ Ok y → (x : A) × (r ≡ Ok x) × (f x ≡ Ok y)
bind_ok (Ok x) f y e = (x, refl, e)
bind_ok (Err d) f y e = absurd cc

pub chosen : {A : Type 0} (b : Bool) (x y z : A) → cond b x y ≡ z → ((b ≡ true) × (x ≡ z)) ⊎ ((b ≡ false) × (y ≡ z))
chosen true x y z e = inl (refl, e)
chosen false x y z e = inr (refl, e)

abbrev done : {A : Type 0} → A → Result A ParseFault
done x = Ok x

pub result_is : {A : Type 0} (x y : A) → done x ≡ done y → x ≡ y
result_is x y e = cc

pub carry : {A : Type 0} (P : A → List Token → Type 0) (x y : A) (a b : List Token) → done {A = A × List Token} (x, a) ≡ done {A = A × List Token} (y, b) → P x a → P y b
carry {A = A} P x y a b e h = subst (λ (p : A × List Token). P p.0 p.1) (result_is {A = A × List Token} (x, a) (y, b) e) h

pub ok_or_err : {A : Type 0} (r : Result A ParseFault) → ((x : A) × (r ≡ Ok x)) ⊎ ((f : ParseFault) × (r ≡ Err f))
ok_or_err (Ok x) = inl (x, refl)
ok_or_err (Err f) = inr (f, refl)
