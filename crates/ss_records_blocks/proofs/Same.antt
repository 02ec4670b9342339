-- Whether two numbers are the same.
use Rattle.std.proofs.Common.{◌≡◌, ℕ, true, false, ◌==◌, inl, inr, refl}
use Rattle.std.proofs.lemmas.Bool.{eq-eqb}
use Rattle.std.proofs.lemmas.Bool.Decides.{eqb_tells}
pub use Rattle.std.proofs.lemmas.Bool.{ne_eqb as differs, eqb-true as equal, false≢true as false_is_not_true}

pub same : (x : ℕ) → (x == x) ≡ true
same x = eq-eqb x x refl

-- by whether two numbers are the same
pub by_same : {P : Type 0} (x y : ℕ) → ((x == y) ≡ true → x ≡ y → P) → ((x == y) ≡ false → (x ≡ y → ⊥) → P) → P
by_same {P} x y here there = elim (eqb_tells x y) as (λ _. P) [ inl e ↦ here e.0 e.1 | inr n ↦ there n.0 n.1 ]
