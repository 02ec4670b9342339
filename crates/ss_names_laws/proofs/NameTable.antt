-- Entries of names, of which the first of each name counts, and the declarations that give them.
use Rattle.std.proofs.Common.{◌≡◌, ℕ, ◌<◌, Bool, true, false, cond, List, [], ◌∷◌, length, Option, Some, None, inl, inr, refl, sym, ap, ◌∙◌}
use Rattle.ss_names_laws.proofs.Common.{bytes_decides, Declaration, Declared, entry_if, first_entries, firsts_once, NameBytes, place_among, place_in, same_name, same_Some, slice_get_within, value_by_place, value_for, value_from_place, value_in_firsts}
use Rattle.std.proofs.lemmas.List.Quantifiers.{position-Some}
use Rattle.ss_names.specs.Entries.{given_by, named_by}
use Rattle.ss_names_laws.proofs.Items.{Among, among_at, from_pieces, in_pieces}

pub place_below : (names : List NameBytes) (name : NameBytes) (k : ℕ) → place_among names name ≡ Some k → k < length names
place_below names name k h = (position-Some (same_name name) names k [] h).0

module _ {V : Type 0} where
  -- ---- single entries

  pub entry_from : (n name : NameBytes) (o : Option V) (v : V) → Among (entry_if n o) (name, v) → (n ≡ name) × (o ≡ Some v)
  entry_from n name None v a = absurd a
  entry_from n name (Some u) v (inl same) = (ap (λ (e : NameBytes × V). e.0) same, ap (λ (e : NameBytes × V). Some e.1) same)
  entry_from n name (Some u) v (inr none) = absurd none

  pub entry_here : (name : NameBytes) (o : Option V) (v : V) → o ≡ Some v → Among (entry_if name o) (name, v)
  entry_here name None v h = absurd cc
  entry_here name (Some u) v h = inl (λ i. (name, same_Some u v h i))

  -- ---- values and places

  -- the value for a name is one of the entries
  pub value_among : (es : List (NameBytes × V)) (name : NameBytes) (v : V) → value_for es name ≡ Some v → Among es (name, v)
  value_among [] name v h = absurd cc
  value_among (e ∷ es) name v h = by (same_name name e.0) refl (value_among es name v) h
    where
      by : (b : Bool) → same_name name e.0 ≡ b → (value_for es name ≡ Some v → Among es (name, v)) → cond b (Some e.1) (value_for es name) ≡ Some v → Among (e ∷ es) (name, v)
      by true is next g = inl (λ i. (sym ((bytes_decides name e.0).0 is) i, same_Some e.1 v g i))
      by false is next g = inr (next g)

  either : (b : Bool) (u : V) (o : Option V) → (w : V) × (o ≡ Some w) → (w : V) × (cond b (Some u) o ≡ Some w)
  either true u o h = (u, refl)
  either false u o h = h

  -- a name that has an entry has a value
  pub has_value : (es : List (NameBytes × V)) (name : NameBytes) (v : V) → Among es (name, v) → (w : V) × (value_for es name ≡ Some w)
  has_value [] name v a = absurd a
  has_value (e ∷ es) name v (inl same) =
      let is : same_name name e.0 ≡ true = ap (same_name name) (ap (λ (f : NameBytes × V). f.0) same) ∙ (bytes_decides name name).1 refl in
      (e.1, ap (λ (b : Bool). cond b (Some e.1) (value_for es name)) is)
  has_value (e ∷ es) name v (inr later) = either (same_name name e.0) e.1 (value_for es name) (has_value es name v later)

  -- the value for a name is that of each of its entries, where the first counts
  pub value_of_entry : (all : List (NameBytes × V)) (name : NameBytes) (v : V) → Among (first_entries all) (name, v) → value_for (first_entries all) name ≡ Some v
  value_of_entry all name v a = let found = among_at (first_entries all) (name, v) a in value_from_place (first_entries all) found.0 name v (firsts_once all) found.1

  pub place_in_below : (es : List (NameBytes × V)) (name : NameBytes) (k : ℕ) → place_in es name ≡ Some k → k < length es
  place_in_below es name k h = let found = value_by_place es name k h in slice_get_within es k (name, found.0) found.2

  -- ---- declarations

  -- the value for a name comes from a declaration
  pub value_declared : (f : Declared → List (NameBytes × V)) (ds : List Declaration) (name : NameBytes) (v : V) → value_for (named_by f ds) name ≡ Some v → (x : Declaration) × Among ds x × Among (f x.what) (name, v)
  value_declared f ds name v h =
      from_pieces (λ (x : Declaration). f x.what) ds (name, v) (value_among (given_by f ds) name v (sym (value_in_firsts (given_by f ds) name) ∙ h))

  -- a declaration that gives an entry for a name gives it a value
  pub declared_value : (f : Declared → List (NameBytes × V)) (ds : List Declaration) (x : Declaration) (name : NameBytes) (v : V) → Among ds x → Among (f x.what) (name, v) → (w : V) × (value_for (named_by f ds) name ≡ Some w)
  declared_value f ds x name v a b =
      let found = has_value (given_by f ds) name v (in_pieces (λ (y : Declaration). f y.what) ds x (name, v) a b) in
      (found.0, value_in_firsts (given_by f ds) name ∙ found.1)
