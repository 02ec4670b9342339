-- Lists without repetition: first, last, what follows and what precedes.
use Rattle.std.specs.Prelude.{◌≡◌, ℕ, cond, ◌==◌, List, [], ◌∷◌, ◌⊎◌}

abbrev pub head0 : List ℕ → ℕ
head0 [] = 0
head0 (z ∷ zs) = z

-- the last, or p where there is none
abbrev pub last_or : ℕ → List ℕ → ℕ
last_or p [] = p
last_or p (z ∷ zs) = last_or z zs

-- what follows y: 0 at the end, and y itself where y is no member
abbrev pub succ : ℕ → List ℕ → ℕ
succ y [] = y
succ y (z ∷ zs) = cond (z == y) (head0 zs) (succ y zs)

-- what precedes y, p before the first
abbrev pub pred_from : ℕ → ℕ → List ℕ → ℕ
pred_from p y [] = y
pred_from p y (z ∷ zs) = cond (z == y) p (pred_from z y zs)

abbrev pub IsInList : ℕ → List ℕ → Type 0
IsInList y [] = ⊥
IsInList y (z ∷ zs) = (z ≡ y) ⊎ IsInList y zs

abbrev pub IsNotInList : ℕ → List ℕ → Type 0
IsNotInList y [] = Unit {0}
IsNotInList y (z ∷ zs) = (z ≡ y → ⊥) × IsNotInList y zs

abbrev pub AreAllDistinct : List ℕ → Type 0
AreAllDistinct [] = Unit {0}
AreAllDistinct (z ∷ zs) = IsNotInList z zs × AreAllDistinct zs

-- where f has the list l for o
abbrev pub with_list : (ℕ → List ℕ) → ℕ → List ℕ → ℕ → List ℕ
with_list f o l p = cond (o == p) l (f p)
