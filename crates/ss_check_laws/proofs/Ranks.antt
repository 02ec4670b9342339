-- The order of rank has all classes of notices, and no other.
use Rattle.std.proofs.Common.{◌≡◌, ℕ, Bool, true, false, cond, ◌||◌, List, [], ◌∷◌, ◌++◌, Option, Some, None, ⊎_elim, refl, sym, ap, ◌∙◌, nat_eq, slice_get}
use Rattle.std.specs.List.{AllByRecursion as Every, fold, list_any}
use Rattle.std.proofs.lemmas.Bool.{eq-eqb, eqb-true, false≢true, or_cases, or_left, or_right}
use Rattle.std.proofs.lemmas.List.Folds.{list_any-append}
use Rattle.ss_check_laws.proofs.Common.{at_item, at_place, ClassKind, Declaration, Declared, each_item, every_first, every_piece, firsts_once, joined, NameBytes, Notice, option_to_list, place_from, place_in, value_by_place, value_for, value_from_place}
use Rattle.ss_names.specs.Entries.{class_by, given_by, classes, is_notice_class, notice_by, notice_number, priority_by, ranks, number_added}
use Rattle.ss_names_declarations.specs.declared.declaration.Declared.TheVariants as d

-- ---- numbers, each once

numbers_every : (P : ℕ → Type 0) (acc ns : List ℕ) → Every P acc → Every P ns → Every P (fold number_added acc ns)
numbers_every P acc [] h k = h
numbers_every P acc (n ∷ ns) h k = numbers_every P (number_added acc n) ns (by (list_any (nat_eq n) acc)) k.1
  where
    by : (b : Bool) → Every P (cond b acc (acc ++ n ∷ []))
    by true = h
    by false = joined P acc (n ∷ []) h (k.0, tt)

kept : (n : ℕ) (acc ns : List ℕ) → list_any (nat_eq n) acc ≡ true → list_any (nat_eq n) (fold number_added acc ns) ≡ true
kept n acc [] h = h
kept n acc (m ∷ ns) h = kept n (number_added acc m) ns (by (list_any (nat_eq m) acc))
  where
    by : (b : Bool) → list_any (nat_eq n) (cond b acc (acc ++ m ∷ [])) ≡ true
    by true = h
    by false = list_any-append (nat_eq n) acc (m ∷ []) ∙ or_left (list_any (nat_eq n) acc) (nat_eq n m || false) h

taken : (n : ℕ) (acc ns : List ℕ) → list_any (nat_eq n) ns ≡ true → list_any (nat_eq n) (fold number_added acc ns) ≡ true
taken n acc [] h = absurd (false≢true h)
taken n acc (m ∷ ns) h =
    ⊎_elim
    (λ (e : nat_eq n m ≡ true). kept n (number_added acc m) ns (by (list_any (nat_eq m) acc) refl e))
    (λ (e : list_any (nat_eq n) ns ≡ true). taken n (number_added acc m) ns e)
    (or_cases (nat_eq n m) (list_any (nat_eq n) ns) h)
  where
    by : (b : Bool) → list_any (nat_eq m) acc ≡ b → nat_eq n m ≡ true → list_any (nat_eq n) (cond b acc (acc ++ m ∷ [])) ≡ true
    by true is e = ap (λ k. list_any (nat_eq k) acc) (eqb-true n m e) ∙ is
    by false is e = list_any-append (nat_eq n) acc (m ∷ []) ∙ or_right (list_any (nat_eq n) acc) (nat_eq n m || false) (or_left (nat_eq n m) false e)

-- ---- classes of notices

module _ (cs : List (NameBytes × ClassKind)) where
  -- a class of notices has this number
  abbrev pub IsNotice : ℕ → Type 0
  IsNotice class = (name : NameBytes) × (slice_get cs class ≡ Some (name, Notice))

  notice_kind : (kind : ClassKind) → is_notice_class (Some kind) ≡ true → kind ≡ Notice
  notice_kind Notice e = refl
  notice_kind _ e = absurd cc

  number_is : (name : NameBytes) (b : Bool) (o : Option ℕ) → is_notice_class (value_for cs name) ≡ b → place_in cs name ≡ o → Every IsNotice (cond b (option_to_list o) [])
  number_is name false o e f = tt
  number_is name true None e f = tt
  number_is name true (Some class) e f =
      let v = value_by_place cs name class f in
      let kind = notice_kind v.0 (sym (ap is_notice_class v.1) ∙ e) in
      ((name, v.2 ∙ ap (λ k. Some (name, k)) kind), tt)

  all_notices : (name : NameBytes) → Every IsNotice (notice_number cs name)
  all_notices name = number_is name (is_notice_class (value_for cs name)) (place_in cs name) refl refl

  priorities : (w : Declared) → Every IsNotice (priority_by cs w)
  priorities (d.Priority class) = all_notices class
  priorities _ = tt

  notices : (w : Declared) → Every IsNotice (notice_by cs w)
  notices (d.Class class kind) = all_notices class
  notices _ = tt

  -- the number of the class is among those of the classes of some declarations
  abbrev IsAmong : List ℕ → NameBytes × ClassKind → Type 0
  IsAmong ns e = (class : ℕ) → notice_number cs e.0 ≡ class ∷ [] → list_any (nat_eq class) ns ≡ true

  one_among : (w : Declared) (ns : List ℕ) → Every (IsAmong (notice_by cs w ++ ns)) (class_by w)
  one_among (d.Class name kind) ns =
      ((λ class e. ap (λ l. list_any (nat_eq class) (l ++ ns)) e ∙ or_left (nat_eq class class) (list_any (nat_eq class) ns) (eq-eqb class class refl)), tt)
  one_among _ ns = tt

  all_among : (ds : List Declaration) → Every (IsAmong (given_by (notice_by cs) ds)) (given_by class_by ds)
  all_among [] = tt
  all_among (x ∷ ds) =
      let rest = given_by (notice_by cs) ds in
      joined (IsAmong (notice_by cs x.what ++ rest)) (class_by x.what) (given_by class_by ds) (one_among x.what rest)
      (each_item (IsAmong (notice_by cs x.what ++ rest)) (given_by class_by ds) (λ e a class n.
      list_any-append (nat_eq class) (notice_by cs x.what) rest
      ∙ or_right (list_any (nat_eq class) (notice_by cs x.what)) (list_any (nat_eq class) rest) (at_item (IsAmong rest) (given_by class_by ds) e (all_among ds) a class n)))

module _ (ds : List Declaration) where
  pub ranks_are_notices : Every (IsNotice (classes ds)) (ranks ds)
  ranks_are_notices =
      let cs = classes ds in
      numbers_every (IsNotice cs) [] (given_by (priority_by cs) ds ++ given_by (notice_by cs) ds) tt
      (joined (IsNotice cs) (given_by (priority_by cs) ds) (given_by (notice_by cs) ds)
      (every_piece (IsNotice cs) (λ (x : Declaration). priority_by cs x.what) ds (λ x a. priorities cs x.what))
      (every_piece (IsNotice cs) (λ (x : Declaration). notice_by cs x.what) ds (λ x a. notices cs x.what)))

  pub notice_is_ranked : (class : ℕ) → IsNotice (classes ds) class → list_any (nat_eq class) (ranks ds) ≡ true
  notice_is_ranked class h =
      let cs = classes ds in
      let first = given_by (priority_by cs) ds in
      let rest = given_by (notice_by cs) ds in
      let once = firsts_once (given_by class_by ds) in
      let value = value_from_place cs class h.0 Notice once h.1 in
      let place = place_from cs class h.0 Notice once h.1 in
      let number : notice_number cs h.0 ≡ class ∷ [] = λ i. cond (is_notice_class (value i)) (option_to_list (place i)) [] in
      let among = at_place (IsAmong cs rest) cs class (h.0, Notice) (every_first (IsAmong cs rest) (given_by class_by ds) (all_among cs ds)) h.1 in
      taken class [] (first ++ rest) (list_any-append (nat_eq class) first rest ∙ or_right (list_any (nat_eq class) first) (list_any (nat_eq class) rest) (among class number))
