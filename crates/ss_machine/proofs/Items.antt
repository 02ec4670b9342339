-- The items of a PRINT, made one by one.
use Rattle.std.proofs.Common.{◌≡◌, ℕ, ◌+◌, ◌<◌, ◌^◌, List, [], ◌∷◌, ◌++◌, length, map, get_or, drop, Option, Some, None, Ok, Err, ℤ, pos, refl, sym, ap, ◌∙◌, subst, arith}
use Rattle.ss_machine.proofs.Common.{AllByRecursion, append-nil, append_assoc, AreValuesAt, drop_all, drop_more, due, Fails, Failure, FaultKind, Is, Item, item_modes, ItemKind, kind_of_item, Mean, mean, Result, slice_get, Store, Text, TwoRows, TypeError, Value, Whole}
use Rattle.ss_machine.specs.Shown.{AreShown, CanShow, IsPrintable, IsShown, CanShowOne, cells_of}
use Rattle.ss_machine_world.specs.Seen.{Seen, with_seen, IsRight}
use Rattle.ss_meaning.specs.Fitting.{AreOfModes}
use Rattle.ss_code_instructions.specs.declared.item.ItemKind.TheVariants as shows
use Rattle.ss_code_instructions.specs.Machine.{item_before, mean_item, values_shown}

-- ## One item

-- an item before others that there are
pub record Before (x : Item) (o : Option (List Item)) (given : List Item) : Type 0 where
  pub later : List Item
  pub there : o ≡ Some later
  pub is : given ≡ x ∷ later

before_some : (x : Item) (o : Option (List Item)) (given : List Item) → item_before (Some x) o ≡ Some given → Before x o given
before_some x None given e = absurd cc
before_some x (Some xs) given e = let q : x ∷ xs ≡ given = cc in record { later = xs; there = refl; is = sym q }

before_item : (item : Item) (x : Option Item) (o : Option (List Item)) (given : List Item) → ((y : Item) → x ≡ Some y → y ≡ item) → item_before x o ≡ Some given → Before item o given
before_item item None o given h e = absurd cc
before_item item (Some y) o given h e =
    let b = before_some y o given e in
    record { later = b.later; there = b.there; is = b.is ∙ ap (λ z. z ∷ b.later) (h y refl) }

module _ (e : Seen) (r : TwoRows) (at : ℕ) where
  pub number_first : (n : ℤ) → slice_get r.numbers at ≡ Some n → IsShown e r at shows.Number (Is (Whole n))
  number_first n has s ks [] given lie modes shown = absurd cc
  number_first n has s ks (Whole z ∷ vs) given lie modes shown =
      let b = before_some (Is (Whole z)) (values_shown (map kind_of_item ks) vs (with_seen s e)) given shown in
      let q : Some z ≡ Some n = sym lie.0 ∙ has in
      let same : z ≡ n = cc in
      record { later = b.later; rest = vs; is = b.is ∙ ap (λ k. Is (Whole k) ∷ b.later) same; lie = lie.1; modes = cc; shown = b.there }
  number_first n has s ks (Text t ∷ vs) given lie modes shown = absurd cc

  pub text_first : (t : List ℕ) → slice_get r.texts at ≡ Some t → IsShown e r at shows.Text (Is (Text t))
  text_first t has s ks [] given lie modes shown = absurd cc
  text_first t has s ks (Text u ∷ vs) given lie modes shown =
      let b = before_some (Is (Text u)) (values_shown (map kind_of_item ks) vs (with_seen s e)) given shown in
      let q : Some u ≡ Some t = sym lie.0 ∙ has in
      let same : u ≡ t = cc in
      record { later = b.later; rest = vs; is = b.is ∙ ap (λ k. Is (Text k) ∷ b.later) same; lie = lie.1; modes = cc; shown = b.there }
  text_first t has s ks (Whole z ∷ vs) given lie modes shown = absurd cc

  pub mean_first : (j : ℕ) (item : Item) → ((s : Store) (x : Item) → mean_item (mean j None (with_seen s e)) ≡ Some x → x ≡ item) → IsShown e r at (shows.Mean j) item
  mean_first j item h s ks vs given lie modes shown =
      let b = before_item item (mean_item (mean j None (with_seen s e))) (values_shown (map kind_of_item ks) vs (with_seen s e)) given (h s) shown in
      let n : at ≡ at + 0 = omega arith in
      record { later = b.later; rest = vs; is = b.is; lie = subst (λ k. AreValuesAt r k vs) n lie; modes = modes; shown = b.there }

  pub mean_of_first : (j : ℕ) (n : ℤ) (item : Item) → slice_get r.numbers at ≡ Some n → ((s : Store) (x : Item) → mean_item (mean j (Some (Whole n)) (with_seen s e)) ≡ Some x → x ≡ item) → IsShown e r at (shows.MeanOf j) item
  mean_of_first j n item has h s ks [] given lie modes shown = absurd cc
  mean_of_first j n item has h s ks (Whole z ∷ vs) given lie modes shown =
      let q : Some z ≡ Some n = sym lie.0 ∙ has in
      let same : z ≡ n = cc in
      let b = before_item item (mean_item (mean j (Some (Whole z)) (with_seen s e))) (values_shown (map kind_of_item ks) vs (with_seen s e)) given
      (λ y p. h s y (ap (λ k. mean_item (mean j (Some (Whole k)) (with_seen s e))) (sym same) ∙ p)) shown in
      record { later = b.later; rest = vs; is = b.is; lie = lie.1; modes = cc; shown = b.there }
  mean_of_first j n item has h s ks (Text t ∷ vs) given lie modes shown = absurd cc

-- ## A mean, by what the world answers

abbrev pub item_for : Result (ℤ × ℤ) FaultKind → Item
item_for (Ok m) = Mean m.0 m.1
item_for (Err kind) = Mean (pos 0) (pos 0)

pub mean_is : (answer : Result (ℤ × ℤ) FaultKind) (m : Result (ℤ × ℤ) Failure) → (IsRight m → m ≡ due answer) → (x : Item) → mean_item m ≡ Some x → x ≡ item_for answer
mean_is (Ok a) (Ok m) h x e =
    let q : Ok m ≡ Ok a = h (λ q. cc) in
    let same : m ≡ a = cc in
    let is : Mean m.0 m.1 ≡ x = cc in
    sym is ∙ ap (λ (p : ℤ × ℤ). Mean p.0 p.1) same
mean_is (Err kind) (Ok m) h x e = let q : Ok m ≡ due (Err kind) = h (λ q. cc) in absurd cc
mean_is (Ok a) (Err (Fails kind)) h x e = let q : Err (Fails kind) ≡ due (Ok a) = h (λ q. cc) in absurd cc
mean_is (Err found) (Err (Fails kind)) h x e = let is : Mean (pos 0) (pos 0) ≡ x = cc in sym is
mean_is answer (Err TypeError) h x e = absurd cc

-- the place after the cells of an item is one
pub place_small : (e : Seen) (r : TwoRows) (at : ℕ) (k : ItemKind) → CanShowOne e r at k → length r.numbers < 2 ^ 63 → at < 2 ^ 64 → at + cells_of k < 2 ^ 64
place_small e r at shows.Number h few low = omega (arith, h, few)
place_small e r at shows.Text h few low = omega (arith, h, few)
place_small e r at (shows.Mean j) h few low = omega (arith, low)
place_small e r at (shows.MeanOf j) h few low = omega (arith, h.0, few)

-- ## The items so far

pub record ShownSoFar (e : Seen) (r : TwoRows) (at : ℕ) (ks : List ItemKind) (xs : List Item) (s : Store) (given : List Item) : Type 0 where
  pub later : List Item
  pub rest : List Value
  pub is : given ≡ xs ++ later
  pub lie : AreValuesAt r at rest
  pub modes : AreOfModes rest (item_modes ks)
  pub shown : values_shown (map kind_of_item ks) rest (with_seen s e) ≡ Some later

abbrev pub AreSoFar : Seen → TwoRows → (from at : ℕ) → (all ks : List ItemKind) → List Item → Type 0
AreSoFar e r from at all ks xs =
    (s : Store) (vs : List Value) (given : List Item) → AreValuesAt r from vs → AreOfModes vs (item_modes all) →
    values_shown (map kind_of_item all) vs (with_seen s e) ≡ Some given → ShownSoFar e r at ks xs s given

module _ (e : Seen) (r : TwoRows) (from : ℕ) (all : List ItemKind) where
  -- none yet
  pub none_yet : AreSoFar e r from from all all []
  none_yet s vs given lie modes shown = record { later = given; rest = vs; is = refl; lie = lie; modes = modes; shown = shown }

  module _ (at i : ℕ) (d : ItemKind) (lt : i < length all) where
    -- the next kind
    abbrev pub kind : ItemKind
    kind = get_or all i d

    left : drop i all ≡ kind ∷ drop (i + 1) all
    left = drop_more all i d lt

    can_both : CanShow e r at (drop i all) → CanShowOne e r at kind × CanShow e r (at + cells_of kind) (drop (i + 1) all)
    can_both h = subst (CanShow e r at) left h

    -- it can be shown
    pub can_now : CanShow e r at (drop i all) → CanShowOne e r at kind
    can_now h = (can_both h).0

    more : (xs : List Item) (item : Item) → AreSoFar e r from at all (drop i all) xs → IsShown e r at kind item → AreSoFar e r from (at + cells_of kind) all (drop (i + 1) all) (xs ++ item ∷ [])
    more xs item h first s vs given lie modes shown =
        let f = h s vs given lie modes shown in
        let ms : AreOfModes f.rest (item_modes (kind ∷ drop (i + 1) all)) = subst (λ ks. AreOfModes f.rest (item_modes ks)) left f.modes in
        let sh : values_shown (map kind_of_item (kind ∷ drop (i + 1) all)) f.rest (with_seen s e) ≡ Some f.later = subst (λ ks. values_shown (map kind_of_item ks) f.rest (with_seen s e) ≡ Some f.later) left f.shown in
        let n = first s (drop (i + 1) all) f.rest f.later f.lie ms sh in
        record {
          later = n.later;
          rest = n.rest;
          is = f.is ∙ ap (λ l. xs ++ l) n.is ∙ sym (append_assoc xs (item ∷ []) n.later);
          lie = n.lie;
          modes = n.modes;
          shown = n.shown;
        }

    module _ (n : ℕ) (cells : n ≡ cells_of kind) where
      -- and so can those after it
      pub can_then : CanShow e r at (drop i all) → CanShow e r (at + n) (drop (i + 1) all)
      can_then h = subst (λ n. CanShow e r (at + n) (drop (i + 1) all)) (sym cells) (can_both h).1

      -- the place after its cells is one
      pub small_then : CanShow e r at (drop i all) → length r.numbers < 2 ^ 63 → at < 2 ^ 64 → at + n < 2 ^ 64
      small_then h few low = subst (λ n. at + n < 2 ^ 64) (sym cells) (place_small e r at kind (can_both h).0 few low)

      -- one more
      pub one_more : (xs ys : List Item) (item : Item) → AreSoFar e r from at all (drop i all) xs → IsShown e r at kind item → ys ≡ xs ++ item ∷ [] → AreSoFar e r from (at + n) all (drop (i + 1) all) ys
      one_more xs ys item h first same =
          subst (λ n. AreSoFar e r from (at + n) all (drop (i + 1) all) ys) (sym cells)
          (subst (λ ys. AreSoFar e r from (at + cells_of kind) all (drop (i + 1) all) ys) (sym same) (more xs item h first))

  -- all of them
  pub all_shown : (at i : ℕ) (xs : List Item) → length all < i + 1 → AreSoFar e r from at all (drop i all) xs → AreShown e r from all xs
  all_shown at i xs past h s vs given lie modes shown =
      let none : drop i all ≡ [] = drop_all i all (omega (arith, past)) in
      let f = h s vs given lie modes shown in
      let sh : values_shown [] f.rest (with_seen s e) ≡ Some f.later = subst (λ ks. values_shown (map kind_of_item ks) f.rest (with_seen s e) ≡ Some f.later) none f.shown in
      f.is ∙ ap (λ l. xs ++ l) (nothing f.rest f.later sh) ∙ append-nil xs
    where
      nothing : (rest : List Value) (later : List Item) → values_shown [] rest (with_seen s e) ≡ Some later → later ≡ []
      nothing [] later e = let q : [] ≡ later = cc in sym q
      nothing (v ∷ rest) later e = absurd cc

-- one more that can be printed
pub printable_more : (xs : List Item) (x : Item) → AllByRecursion IsPrintable xs → IsPrintable x → AllByRecursion IsPrintable (xs ++ x ∷ [])
printable_more [] x h p = (p, tt)
printable_more (y ∷ xs) x h p = (h.0, printable_more xs x h.1 p)
