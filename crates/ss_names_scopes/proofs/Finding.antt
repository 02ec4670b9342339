-- What was found so far, and what some more items give.
use Rattle.std.proofs.Common.{◌≡◌, ℕ, ◌+◌, ◌<◌, List, [], ◌∷◌, ◌++◌, length, get_or, map, take, Option, Some, None, refl, sym, ap, ◌∙◌, append-nil}
use Rattle.std.specs.List.{flat_map, fold}
use Rattle.std.proofs.lemmas.Grind.{flat_map-append}
use Rattle.std.proofs.lemmas.List.{map_push, take_more}
use Rattle.std.proofs.lemmas.List.Folds.{flat_map-map}
use Rattle.std.proofs.lemmas.List.Sums.{fold-append}
use Rattle.std.specs.Prelude.{option_to_list}
use Rattle.ss_names_declarations.specs.Earliest.{earlier, earlier_of}

-- ---- loops

next_one : {X : Type 0} (xs : List X) (i : ℕ) (x : X) → i < length xs → x ≡ get_or xs i x → take (i + 1) xs ≡ take i xs ++ x ∷ []
next_one xs i x lt is = take_more xs i x lt ∙ ap (λ y. take i xs ++ y ∷ []) (sym is)

pub list_more : {X A : Type 0} (f : X → List A) (xs : List X) (i : ℕ) (x : X) → i < length xs → x ≡ get_or xs i x → flat_map f (take i xs) ++ f x ≡ flat_map f (take (i + 1) xs)
list_more f xs i x lt is =
    sym (ap (flat_map f) (next_one xs i x lt is) ∙ flat_map-append f (take i xs) (x ∷ []) ∙ ap (λ l. flat_map f (take i xs) ++ l) (append-nil (f x)))

-- what was found before one item, and after it
pub found_after : {X A B : Type 0} (step : B → A → B) (f : X → List A) (start before after : B) (xs : List X) (i : ℕ) (x : X) → i < length xs → x ≡ get_or xs i x → before ≡ fold step start (flat_map f (take i xs)) → after ≡ fold step before (f x) → after ≡ fold step start (flat_map f (take (i + 1) xs))
found_after step f start before after xs i x lt is b a =
    a ∙ ap (λ z. fold step z (f x)) b ∙ sym (fold-append step start (flat_map f (take i xs)) (f x)) ∙ ap (fold step start) (list_more f xs i x lt is)

-- what was found before one item, and after it, where the items are seen as others
pub viewed_after : {X Y A B : Type 0} (view : X → Y) (step : B → A → B) (f : Y → List A) (start before after : B) (xs : List X) (i : ℕ) (x : X) → i < length xs → x ≡ get_or xs i x
    → before ≡ fold step start (flat_map f (map view (take i xs))) → after ≡ fold step before (f (view x)) → after ≡ fold step start (flat_map f (map view (take (i + 1) xs)))
viewed_after view step f start before after xs i x lt is b a =
    found_after step (λ y. f (view y)) start before after xs i x lt is (b ∙ ap (fold step start) (flat_map-map f view (take i xs))) a
    ∙ ap (fold step start) (sym (flat_map-map f view (take (i + 1) xs)))

-- a loop that adds the image of each item
pub mapped_after : {X A B : Type 0} (view : X → B) (f : B → A) (xs : List X) (i : ℕ) (x : X) (y : A) (before after : List A) → i < length xs → x ≡ get_or xs i x → before ≡ map f (map view (take i xs)) → y ≡ f (view x) → after ≡ before ++ y ∷ [] → after ≡ map f (map view (take (i + 1) xs))
mapped_after view f xs i x y before after lt is b e a =
    a ∙ (λ k. b k ++ e k ∷ [])
    ∙ sym (ap (λ l. map f (map view l)) (next_one xs i x lt is) ∙ ap (map f) (map_push view (take i xs) x) ∙ map_push f (map view (take i xs)) (view x))

-- ---- one breach

pub earlier_of_list : {E : Type 0} (order : E → ℕ × ℕ) (found breach : Option E) → earlier_of order found breach ≡ fold (earlier order) found (option_to_list breach)
earlier_of_list order found None = refl
earlier_of_list order found (Some b) = refl
