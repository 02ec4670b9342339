-- Entries by their places and by their names, and the first of each name.
use Rattle.std.proofs.Common.{◌≡◌, ℕ, zero, suc, ◌+◌, ◌<◌, Bool, true, false, not, cond, nat_lt, List, [], ◌∷◌, ◌++◌, length, Option, Some, None, is_some, refl, sym, ap, subst, ◌∙◌, arith}
use Rattle.ss_names_declarations.proofs.Common.{is_some-lookup, keys_of, values_of}
use Rattle.ss_names_declarations.specs.NameTable.{entry_beside, first_entries, place_in, same_name, value_for, with_first}
use Rattle.std.specs.Prelude.{slice_get, option_map}
use Rattle.std.specs.List.{AllByRecursion as Every, IsDistinct, fold, list_any, position_or_len}
use Rattle.std.specs.Option.{option_or}
use Rattle.std.specs.Cmp.Lexicographic.{bytes_decides}
use Rattle.std.proofs.lemmas.Bool.Decides.{nat_tests}
use Rattle.std.proofs.lemmas.Cmp.{nat_list_eq_equiv}
use Rattle.std.proofs.lemmas.Map.Entries.{lookup_from_place}
use Rattle.std.proofs.lemmas.Map.Keys.{IsDistinct-push}
use Rattle.std.proofs.lemmas.Option.{slice_get-map}

-- ---- by places

pub there : {A : Type 0} (xs : List A) (i : ℕ) → i < length xs → (x : A) × (slice_get xs i ≡ Some x)
there [] i lt = absurd (omega (arith, lt))
there (x ∷ xs) zero lt = (x, refl)
there (x ∷ xs) (suc i) lt = there xs i (omega (arith, lt))

pub number : (b : Bool) (n m : ℕ) → cond (nat_lt (cond (not b) (1 + n) 0) (suc m)) (Some (cond (not b) (1 + n) 0)) None ≡ cond b (Some 0) (option_map suc (cond (nat_lt n m) (Some n) None))
number true n m = grind (arith, nat_tests)
number false n m = counted (nat_lt n m) refl
  where
    counted : (b : Bool) → nat_lt n m ≡ b → cond (nat_lt (1 + n) (suc m)) (Some (1 + n)) None ≡ option_map suc (cond b (Some n) None)
    counted true e = grind (arith, nat_tests, e)
    counted false e = grind (arith, nat_tests, e)

none_once : IsDistinct same_name []
unfolding IsDistinct
none_once = tt

module _ {V : Type 0} where
  pub keys_append : (xs ys : List (List ℕ × V)) → keys_of (xs ++ ys) ≡ keys_of xs ++ keys_of ys
  keys_append [] ys = refl
  keys_append (x ∷ xs) ys = ap (λ l. x.0 ∷ l) (keys_append xs ys)

  pub value_at : (es : List (List ℕ × V)) (i : ℕ) (k : List ℕ) (v : V) → slice_get es i ≡ Some (k, v) → slice_get (values_of es) i ≡ Some v
  value_at es i k v h = slice_get-map (λ (e : List ℕ × V). e.1) es i ∙ ap (option_map (λ (e : List ℕ × V). e.1)) h

  pub key_at : (es : List (List ℕ × V)) (i : ℕ) (k : List ℕ) (v : V) → slice_get es i ≡ Some (k, v) → slice_get (keys_of es) i ≡ Some k
  key_at es i k v h = slice_get-map (λ (e : List ℕ × V). e.0) es i ∙ ap (option_map (λ (e : List ℕ × V). e.0)) h

  pub entry_of_value : (es : List (List ℕ × V)) (i : ℕ) (v : V) → slice_get (values_of es) i ≡ Some v → (k : List ℕ) × (slice_get es i ≡ Some (k, v))
  entry_of_value [] i v h = absurd cc
  entry_of_value (e ∷ es) zero v h =
      let s : e.1 ≡ v = cc in
      (e.0, ap (λ w. Some (e.0, w)) s)
  entry_of_value (e ∷ es) (suc i) v h = entry_of_value es i v h

  pub entry_of_key : (es : List (List ℕ × V)) (i : ℕ) (k : List ℕ) → slice_get (keys_of es) i ≡ Some k → (v : V) × (slice_get es i ≡ Some (k, v))
  entry_of_key [] i k h = absurd cc
  entry_of_key (e ∷ es) zero k h =
      let s : e.0 ≡ k = cc in
      (e.1, ap (λ n. Some (n, e.1)) s)
  entry_of_key (e ∷ es) (suc i) k h = entry_of_key es i k h

  -- ---- by names

  place_cons : (name : List ℕ) (e : List ℕ × V) (es : List (List ℕ × V)) → place_in (e ∷ es) name ≡ cond (same_name name e.0) (Some 0) (option_map suc (place_in es name))
  place_cons name e es = number (same_name name e.0) (position_or_len (same_name name) (keys_of es)) (length (keys_of es))

  -- the place of a name that has an entry, and the value there
  abbrev pub IsPlacedAt : List (List ℕ × V) → List ℕ → V → ℕ → Type 0
  IsPlacedAt es name v i = (place_in es name ≡ Some i) × (slice_get es i ≡ Some (name, v))

  pub place_of_value : (es : List (List ℕ × V)) (name : List ℕ) (v : V) → value_for es name ≡ Some v → (i : ℕ) × IsPlacedAt es name v i
  place_of_value [] name v h = absurd cc
  place_of_value (e ∷ es) name v h = by (same_name name e.0) (place_of_value es name v) refl
    where
      by : (b : Bool) → (value_for es name ≡ Some v → (i : ℕ) × IsPlacedAt es name v i) → same_name name e.0 ≡ b → (i : ℕ) × IsPlacedAt (e ∷ es) name v i
      by true next is =
          let same : name ≡ e.0 = (bytes_decides name e.0).0 is in
          let here : cond true (Some e.1) (value_for es name) ≡ Some v = subst (λ b. cond b (Some e.1) (value_for es name) ≡ Some v) is h in
          let value : e.1 ≡ v = cc in
          (0, (place_cons name e es ∙ ap (λ b. cond b (Some 0) (option_map suc (place_in es name))) is, λ i. Some (sym same i, value i)))
      by false next is =
          let rest : value_for es name ≡ Some v = subst (λ b. cond b (Some e.1) (value_for es name) ≡ Some v) is h in
          let found = next rest in
          (suc found.0, (place_cons name e es ∙ ap (λ b. cond b (Some 0) (option_map suc (place_in es name))) is ∙ ap (option_map suc) found.1.0, found.1.1))

  pub no_place : (es : List (List ℕ × V)) (name : List ℕ) → value_for es name ≡ None → place_in es name ≡ None
  no_place [] name h = refl
  no_place (e ∷ es) name h = by (same_name name e.0) (no_place es name) refl
    where
      by : (b : Bool) → (value_for es name ≡ None → place_in es name ≡ None) → same_name name e.0 ≡ b → place_in (e ∷ es) name ≡ None
      by true next is =
          let here : cond true (Some e.1) (value_for es name) ≡ None = subst (λ b. cond b (Some e.1) (value_for es name) ≡ None) is h in
          absurd cc
      by false next is =
          let rest : value_for es name ≡ None = subst (λ b. cond b (Some e.1) (value_for es name) ≡ None) is h in
          place_cons name e es ∙ ap (λ b. cond b (Some 0) (option_map suc (place_in es name))) is ∙ ap (option_map suc) (next rest)

  -- the value for a name is the one at its place
  pub value_by_place : (es : List (List ℕ × V)) (name : List ℕ) (i : ℕ) → place_in es name ≡ Some i → (v : V) × (value_for es name ≡ Some v) × (slice_get es i ≡ Some (name, v))
  value_by_place es name i h = by (value_for es name) refl
    where
      by : (o : Option V) → value_for es name ≡ o → (v : V) × (value_for es name ≡ Some v) × (slice_get es i ≡ Some (name, v))
      by None e =
          let none = no_place es name e in
          absurd cc
      by (Some v) e =
          let found = place_of_value es name v e in
          let same : found.0 ≡ i = cc in
          (v, e, subst (λ k. slice_get es k ≡ Some (name, v)) same found.1.1)

  -- ---- each name once

  beside_once : (es : List (List ℕ × V)) (e : List ℕ × V) (known : Option V) → value_for es e.0 ≡ known → IsDistinct same_name (keys_of es) → IsDistinct same_name (keys_of (entry_beside es e known))
  beside_once es e None h d =
      let absent : list_any (same_name e.0) (keys_of es) ≡ false = sym (is_some-lookup (same_name e.0) es) ∙ ap is_some h in
      subst (IsDistinct same_name) (sym (keys_append es (e ∷ []))) (IsDistinct-push nat_list_eq_equiv (keys_of es) e.0 d absent)
  beside_once es e (Some v) h d = d

  folded_once : (start all : List (List ℕ × V)) → IsDistinct same_name (keys_of start) → IsDistinct same_name (keys_of (fold with_first start all))
  folded_once start [] d = d
  folded_once start (e ∷ es) d = folded_once (with_first start e) es (beside_once start e (value_for start e.0) refl d)

  pub firsts_once : (all : List (List ℕ × V)) → IsDistinct same_name (keys_of (first_entries all))
  firsts_once all = folded_once [] all none_once

  -- the value at a place is the value for its name, where each name has one entry
  pub value_from_place : (es : List (List ℕ × V)) (i : ℕ) (name : List ℕ) (v : V) → IsDistinct same_name (keys_of es) → slice_get es i ≡ Some (name, v) → value_for es name ≡ Some v
  value_from_place es i name v d h = lookup_from_place nat_list_eq_equiv es i name v d h

  -- the place of a name is where its entry is, where each name has one entry
  pub place_from : (es : List (List ℕ × V)) (i : ℕ) (name : List ℕ) (v : V) → IsDistinct same_name (keys_of es) → slice_get es i ≡ Some (name, v) → place_in es name ≡ Some i
  unfolding IsDistinct
  place_from [] i name v d h = absurd cc
  place_from (e ∷ es) zero name v d h =
      let same : e ≡ (name, v) = cc in
      let is : same_name name e.0 ≡ true = ap (same_name name) (ap (λ (f : List ℕ × V). f.0) same) ∙ (bytes_decides name name).1 refl in
      place_cons name e es ∙ ap (λ b. cond b (Some 0) (option_map suc (place_in es name))) is
  place_from (e ∷ es) (suc i) name v d h =
      let other : same_name e.0 name ≡ false = key_apart (keys_of es) i name d.0 (key_at es i name v h) in
      let is : same_name name e.0 ≡ false = nat_list_eq_equiv.symm name e.0 ∙ other in
      place_cons name e es ∙ ap (λ b. cond b (Some 0) (option_map suc (place_in es name))) is ∙ ap (option_map suc) (place_from es i name v d.1 h)
    where
      key_apart : (ks : List (List ℕ)) (j : ℕ) (n : List ℕ) → Every (λ k. same_name e.0 k ≡ false) ks → slice_get ks j ≡ Some n → same_name e.0 n ≡ false
      key_apart [] j n a g = absurd cc
      key_apart (k ∷ ks) zero n a g = let same : k ≡ n = cc in subst (λ m. same_name e.0 m ≡ false) same a.0
      key_apart (k ∷ ks) (suc j) n a g = key_apart ks j n a.1 g

  -- ---- the first of each name

  one_or_more : (b : Bool) (u : V) (o p : Option V) → cond b (Some u) (option_or o p) ≡ option_or (cond b (Some u) o) p
  one_or_more true u o p = refl
  one_or_more false u o p = refl

  pub value_append : (xs ys : List (List ℕ × V)) (name : List ℕ) → value_for (xs ++ ys) name ≡ option_or (value_for xs name) (value_for ys name)
  value_append [] ys name = refl
  value_append (e ∷ xs) ys name =
      ap (cond (same_name name e.0) (Some e.1)) (value_append xs ys name) ∙ one_or_more (same_name name e.0) e.1 (value_for xs name) (value_for ys name)

  pub or_assoc : (a b c : Option V) → option_or (option_or a b) c ≡ option_or a (option_or b c)
  or_assoc None b c = refl
  or_assoc (Some a) b c = refl

  pub or_none : (a : Option V) → option_or a None ≡ a
  or_none None = refl
  or_none (Some a) = refl

  once_there : (b : Bool) (name : List ℕ) (e : List ℕ × V) (start : List (List ℕ × V)) (k : V) (rest : Option V) → same_name name e.0 ≡ b → value_for start e.0 ≡ Some k →
      option_or (value_for start name) rest ≡ option_or (value_for start name) (cond b (Some e.1) rest)
  once_there true name e start k rest is h =
      let there : value_for start name ≡ Some k = ap (value_for start) ((bytes_decides name e.0).0 is) ∙ h in
      ap (λ o. option_or o rest) there ∙ ap (λ o. option_or o (Some e.1)) (sym there)
  once_there false name e start k rest is h = refl

  with_one : (start : List (List ℕ × V)) (e : List ℕ × V) (known rest : Option V) (name : List ℕ) → value_for start e.0 ≡ known →
      option_or (value_for (entry_beside start e known) name) rest ≡ option_or (value_for start name) (cond (same_name name e.0) (Some e.1) rest)
  with_one start e None rest name h =
      ap (λ o. option_or o rest) (value_append start (e ∷ []) name) ∙ or_assoc (value_for start name) (value_for (e ∷ []) name) rest ∙
      ap (option_or (value_for start name)) (sym (one_or_more (same_name name e.0) e.1 None rest))
  with_one start e (Some k) rest name h =
      once_there (same_name name e.0) name e start k rest refl h ∙ refl

  value_folded : (start all : List (List ℕ × V)) (name : List ℕ) → value_for (fold with_first start all) name ≡ option_or (value_for start name) (value_for all name)
  value_folded start [] name = sym (or_none (value_for start name))
  value_folded start (e ∷ es) name =
      value_folded (with_first start e) es name ∙ with_one start e (value_for start e.0) (value_for es name) name refl

  -- of each name the first entry counts
  pub value_in_firsts : (all : List (List ℕ × V)) (name : List ℕ) → value_for (first_entries all) name ≡ value_for all name
  value_in_firsts all name = value_folded [] all name

-- one more entry, where its name has none yet
pub beside_if : {V : Type 0} (es : List (List ℕ × V)) (e : List ℕ × V) (earlier : Option V) → cond (is_some earlier) es (es ++ e ∷ []) ≡ entry_beside es e earlier
beside_if es e None = refl
beside_if es e (Some v) = refl
