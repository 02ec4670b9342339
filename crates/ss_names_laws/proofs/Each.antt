-- Lists, item by item, and lists that come of items with their numbers.
use Rattle.std.proofs.Common.{◌≡◌, ℕ, zero, suc, ◌+◌, Bool, true, false, cond, List, [], ◌∷◌, ◌++◌, map, Option, Some, None, inl, inr, refl, sym, subst, ◌∙◌, arith}
use Rattle.ss_names_laws.proofs.Common.{entry_if, first_entries, flat_map_from, NameBytes, option_to_list, or_parts, slice_get, value_in_firsts}
use Rattle.std.specs.List.{AllByRecursion as Every, filter, flat_map, list_any}
use Rattle.ss_names_laws.proofs.NameTable.{value_among, value_of_entry}
use Rattle.ss_names_laws.proofs.Items.{Among, at_item, both_empty, each_item}
use Rattle.ss_names_laws.proofs.Steps.{none_listed}

-- ---- each item

module _ {A : Type 0} (P : A → Type 0) where
  pub joined : (xs ys : List A) → Every P xs → Every P ys → Every P (xs ++ ys)
  joined [] ys h g = g
  joined (x ∷ xs) ys h g = (h.0, joined xs ys h.1 g)

  pub in_parts : (xs ys : List A) → Every P (xs ++ ys) → Every P xs × Every P ys
  in_parts [] ys h = (tt, h)
  in_parts (x ∷ xs) ys h = let rest = in_parts xs ys h.1 in ((h.0, rest.0), rest.1)

  pub at_place : (xs : List A) (i : ℕ) (x : A) → Every P xs → slice_get xs i ≡ Some x → P x
  at_place [] i x h e = absurd cc
  at_place (y ∷ xs) zero x h e = let same : y ≡ x = cc in subst P same h.0
  at_place (y ∷ xs) (suc i) x h e = at_place xs i x h.1 e

  pub from_places : (xs : List A) → ((i : ℕ) (x : A) → slice_get xs i ≡ Some x → P x) → Every P xs
  from_places [] h = tt
  from_places (x ∷ xs) h = (h 0 x refl, from_places xs (λ i y e. h (suc i) y e))

  pub every_listed : (o : Option A) → ((x : A) → o ≡ Some x → P x) → Every P (option_to_list o)
  every_listed None h = tt
  every_listed (Some x) h = (h x refl, tt)

  pub every_image : {B : Type 0} (f : B → A) (xs : List B) → ((x : B) → Among xs x → P (f x)) → Every P (map f xs)
  every_image f [] h = tt
  every_image f (x ∷ xs) h = (h x (inl refl), every_image f xs (λ y a. h y (inr a)))

  pub every_piece : {B : Type 0} (f : B → List A) (xs : List B) → ((x : B) → Among xs x → Every P (f x)) → Every P (flat_map f xs)
  every_piece f [] h = tt
  every_piece f (x ∷ xs) h = joined (f x) (flat_map f xs) (h x (inl refl)) (every_piece f xs (λ y a. h y (inr a)))

  pub every_passed : (Q : A → Type 0) (test : A → Bool) → ((x : A) → P x → test x ≡ true → Q x) → (xs : List A) → Every P xs → Every Q (filter test xs)
  every_passed Q test f [] h = tt
  every_passed Q test f (x ∷ xs) h = by (test x) refl (every_passed Q test f xs h.1)
    where
      by : (b : Bool) → test x ≡ b → Every Q (filter test xs) → Every Q (cond b (x ∷ filter test xs) (filter test xs))
      by true e rest = (f x h.0 e, rest)
      by false e rest = rest

pub each_empty : {A B : Type 0} (f : A → List B) (xs : List A) → flat_map f xs ≡ [] → Every (λ x. f x ≡ []) xs
each_empty f [] h = tt
each_empty f (x ∷ xs) h = let parts = both_empty (f x) (flat_map f xs) h in (parts.0, each_empty f xs parts.1)

pub each_none : {A B : Type 0} (f : A → Option B) (xs : List A) → flat_map (λ x. option_to_list (f x)) xs ≡ [] → Every (λ x. f x ≡ None) xs
each_none f xs h = each_item (λ x. f x ≡ None) xs (λ x a. none_listed (f x) (at_item (λ y. option_to_list (f y) ≡ []) xs x (each_empty (λ y. option_to_list (f y)) xs h) a))

pub none_of_any : {A : Type 0} (test : A → Bool) (xs : List A) → list_any test xs ≡ false → Every (λ x. test x ≡ false) xs
none_of_any test [] h = tt
none_of_any test (x ∷ xs) h = let parts = or_parts (test x) (list_any test xs) h in (parts.0, none_of_any test xs parts.1)

-- ---- entries of names

-- of each name the first entry is one of all
pub every_first : {V : Type 0} (P : NameBytes × V → Type 0) (all : List (NameBytes × V)) → Every P all → Every P (first_entries all)
every_first P all h = each_item P (first_entries all) (λ e a. at_item P all e h (value_among all e.0 e.1 (sym (value_in_firsts all e.0) ∙ value_of_entry all e.0 e.1 a)))

-- what holds of names holds of the first entries of these names
pub every_named : {V : Type 0} (P : NameBytes → Type 0) (f : NameBytes → NameBytes × V) → ((name : NameBytes) → P name → P (f name).0) → (names : List NameBytes) → Every P names → Every (λ (e : NameBytes × V). P e.0) (first_entries (map f names))
every_named {V} P f good names h =
    let Q = λ (e : NameBytes × V). P e.0 in
    every_first Q (map f names) (every_image Q f names (λ name a. good name (at_item P names name h a)))

pub every_if : {V : Type 0} (P : NameBytes × V → Type 0) (name : NameBytes) (o : Option V) → ((v : V) → o ≡ Some v → P (name, v)) → Every P (entry_if name o)
every_if P name None h = tt
every_if P name (Some v) h = (h v refl, tt)

-- ---- items with their numbers

module _ {A B : Type 0} (f : ℕ → A → List B) where
  from_each : (P : B → Type 0) (n : ℕ) (xs : List A) → ((k i : ℕ) (x : A) → slice_get xs i ≡ Some x → k ≡ n + i → Every P (f k x)) → Every P (flat_map_from f n xs)
  from_each P n [] h = tt
  from_each P n (x ∷ xs) h =
      joined P (f n x) (flat_map_from f (n + 1) xs) (h n 0 x refl (omega arith)) (from_each P (n + 1) xs (λ k i y e same. h k (suc i) y e (omega (arith, same))))

  pub every_numbered : (P : B → Type 0) (xs : List A) → ((k : ℕ) (x : A) → slice_get xs k ≡ Some x → Every P (f k x)) → Every P (flat_map_from f 0 xs)
  every_numbered P xs h =
      from_each P 0 xs (λ k i x e same. let number : i ≡ k = omega (arith, same) in h k x (subst (λ (j : ℕ). slice_get xs j ≡ Some x) number e))

  from_number : (S : List B → Type 0) → ((xs ys : List B) → S (xs ++ ys) → S xs × S ys) → (n : ℕ) (xs : List A) (i k : ℕ) (x : A) → S (flat_map_from f n xs) → slice_get xs i ≡ Some x → k ≡ n + i → S (f k x)
  from_number S parts n [] i k x h e same = absurd cc
  from_number S parts n (y ∷ ys) zero k x h e same =
      let number : n ≡ k = omega (arith, same) in
      let item : y ≡ x = cc in
      subst (λ (j : ℕ). S (f j x)) number (subst (λ (z : A). S (f n z)) item (parts (f n y) (flat_map_from f (n + 1) ys) h).0)
  from_number S parts n (y ∷ ys) (suc i) k x h e same =
      from_number S parts (n + 1) ys i k x (parts (f n y) (flat_map_from f (n + 1) ys) h).1 e (omega (arith, same))

  -- what a list has, and parts of it too, the list of each number has
  pub at_number : (S : List B → Type 0) → ((xs ys : List B) → S (xs ++ ys) → S xs × S ys) → (xs : List A) (k : ℕ) (x : A) → S (flat_map_from f 0 xs) → slice_get xs k ≡ Some x → S (f k x)
  at_number S parts xs k x h e = from_number S parts 0 xs k k x h e (omega arith)
