-- Items of lists.
use Rattle.std.proofs.Common.{◌≡◌, ℕ, suc, List, [], ◌∷◌, ◌++◌, map, slice_get, Contains, Some, ◌⊎◌, inl, inr, ⊎_elim, refl, sym, ap, subst}
use Rattle.std.specs.List.{AllByRecursion as Every, flat_map}
use Rattle.std.proofs.lemmas.Option.{get_or_from_slice_get, slice_get_within}

-- an item is one of a list
abbrev pub Among : {A : Type 0} → List A → A → Type 0
Among [] x = ⊥
Among (y ∷ ys) x = (y ≡ x) ⊎ Among ys x

-- ---- each item

pub at_item : {A : Type 0} (P : A → Type 0) (xs : List A) (x : A) → Every P xs → Among xs x → P x
at_item P [] x h a = absurd a
at_item P (y ∷ xs) x h (inl same) = subst P same h.0
at_item P (y ∷ xs) x h (inr later) = at_item P xs x h.1 later

pub each_item : {A : Type 0} (P : A → Type 0) (xs : List A) → ((x : A) → Among xs x → P x) → Every P xs
each_item P [] f = tt
each_item P (x ∷ xs) f = (f x (inl refl), each_item P xs (λ y a. f y (inr a)))

-- ---- two lists

pub in_left : {A : Type 0} (xs ys : List A) (x : A) → Among xs x → Among (xs ++ ys) x
in_left [] ys x a = absurd a
in_left (y ∷ xs) ys x (inl same) = inl same
in_left (y ∷ xs) ys x (inr later) = inr (in_left xs ys x later)

pub in_right : {A : Type 0} (xs ys : List A) (x : A) → Among ys x → Among (xs ++ ys) x
in_right [] ys x a = a
in_right (y ∷ xs) ys x a = inr (in_right xs ys x a)

pub in_one_of : {A : Type 0} (xs ys : List A) (x : A) → Among (xs ++ ys) x → Among xs x ⊎ Among ys x
in_one_of [] ys x a = inr a
in_one_of (y ∷ xs) ys x (inl same) = inl (inl same)
in_one_of (y ∷ xs) ys x (inr later) = ⊎_elim (λ a. inl (inr a)) inr (in_one_of xs ys x later)

pub both_empty : {A : Type 0} (xs ys : List A) → xs ++ ys ≡ [] → (xs ≡ []) × (ys ≡ [])
both_empty [] ys h = (refl, h)
both_empty (x ∷ xs) ys h = absurd cc

-- ---- what items give

pub in_image : {A B : Type 0} (f : A → B) (xs : List A) (x : A) → Among xs x → Among (map f xs) (f x)
in_image f [] x a = absurd a
in_image f (y ∷ xs) x (inl same) = inl (ap f same)
in_image f (y ∷ xs) x (inr later) = inr (in_image f xs x later)

pub from_image : {A B : Type 0} (f : A → B) (xs : List A) (y : B) → Among (map f xs) y → (x : A) × Among xs x × (f x ≡ y)
from_image f [] y a = absurd a
from_image f (x ∷ xs) y (inl same) = (x, inl refl, same)
from_image f (x ∷ xs) y (inr later) = let found = from_image f xs y later in (found.0, inr found.1, found.2)

-- what an item gives is among what all give
pub in_pieces : {A B : Type 0} (f : A → List B) (xs : List A) (x : A) (y : B) → Among xs x → Among (f x) y → Among (flat_map f xs) y
in_pieces f [] x y a b = absurd a
in_pieces f (z ∷ xs) x y (inl same) b = in_left (f z) (flat_map f xs) y (subst (λ w. Among (f w) y) (sym same) b)
in_pieces f (z ∷ xs) x y (inr later) b = in_right (f z) (flat_map f xs) y (in_pieces f xs x y later b)

pub from_pieces : {A B : Type 0} (f : A → List B) (xs : List A) (y : B) → Among (flat_map f xs) y → (x : A) × Among xs x × Among (f x) y
from_pieces f [] y a = absurd a
from_pieces f (x ∷ xs) y a =
    ⊎_elim (λ (b : Among (f x) y). (x, inl refl, b)) (λ (b : Among (flat_map f xs) y). let found = from_pieces f xs y b in (found.0, inr found.1, found.2))
    (in_one_of (f x) (flat_map f xs) y a)

-- ---- places

pub among_at : {A : Type 0} (xs : List A) (x : A) → Among xs x → (i : ℕ) × (slice_get xs i ≡ Some x)
among_at [] x a = absurd a
among_at (y ∷ xs) x (inl same) = (0, ap Some same)
among_at (y ∷ xs) x (inr later) = let found = among_at xs x later in (suc found.0, found.1)

pub contains : {A : Type 0} (xs : List A) (x : A) → Among xs x → Contains xs x
contains xs x a = let found = among_at xs x a in (found.0, slice_get_within xs found.0 x found.1, get_or_from_slice_get xs found.0 x x found.1)
