-- Each set has an owner and a class of members, which are there.
use Rattle.std.proofs.Common.{◌≡◌, ℕ, nat_lt, not, Bool, true, false, List, [], length, get_or, Option, Some, None, option_map, refl, sym, ap, subst, ◌∙◌}
use Rattle.ss_names_laws.proofs.Common.{bytes_decides, ClassKind, declarations, Declared, Line, NameBytes, Owner, owns_among, place_among, place_in, ProgramTree, refusal_of_declarations, same_name, Set, slice_get, slice_get-get_or, slice_get-map, Table, table, value_for}
use Rattle.std.specs.List.{AllByRecursion as Every}
use Rattle.std.proofs.lemmas.Bool.{both_ways, lt-ltb}
use Rattle.std.proofs.lemmas.List.Quantifiers.{position-Some}
use Rattle.ss_names.specs.Entries.{classes, given_by, set_names, set_of, member_by, owner_entry, owner_named, set_by}
use Rattle.ss_tables_rules.specs.Rules.{broken_in, has_member, has_owner, is_too_many, table_set_at, set_by_name}
use Rattle.ss_base.specs.declared.layout.Owner.TheVariants as owners
use Rattle.ss_names_declarations.specs.declared.declaration.Declared.TheVariants as d
use Rattle.ss_tables_rules.specs.declared.error.TableError.TheVariants as errors
use Rattle.ss_names_laws.proofs.Each.{every_if}
use Rattle.ss_names_laws.proofs.NameTable.{place_in_below}
use Rattle.ss_names_laws.proofs.Names.{every_once}
use Rattle.ss_names_laws.proofs.Steps.{mapped, some_there}
use Rattle.ss_names_laws.proofs.Unbroken.{every_given, given_so, two_fit}

-- ---- owners and members are classes of the table

module _ (cs : List (NameBytes × ClassKind)) where
  owner_fits : (w : Declared) → Every (λ (e : NameBytes × Owner). owns_among (length cs) e.1 ≡ true) (owner_entry cs w)
  owner_fits (d.Owner set None) = (refl, tt)
  owner_fits (d.Owner set (Some class)) =
      every_if (λ (e : NameBytes × Owner). owns_among (length cs) e.1 ≡ true) set (option_map owners.Class (place_in cs class)) (λ owner is.
      let found = mapped owners.Class (place_in cs class) owner is in
      subst (λ (o : Owner). owns_among (length cs) o ≡ true) found.2 (lt-ltb found.0 (length cs) (place_in_below cs class found.0 found.1)))
  owner_fits _ = tt

  member_fits : (w : Declared) → Every (λ (e : NameBytes × ℕ). nat_lt e.1 (length cs) ≡ true) (member_by cs w)
  member_fits (d.Member set class) =
      every_if (λ (e : NameBytes × ℕ). nat_lt e.1 (length cs) ≡ true) set (place_in cs class) (λ n is. lt-ltb n (length cs) (place_in_below cs class n is))
  member_fits _ = tt

-- ---- what owners and members say of each other

module _ (t : Table) (cs : List (NameBytes × ClassKind)) (line : Line) where
  owner_says : (w : Declared) → broken_in t line w ≡ None → Every (λ (e : NameBytes × Owner). has_member (set_by_name t e.0) ≡ true) (owner_entry cs w)
  owner_says (d.Owner set class) h =
      every_if (λ (e : NameBytes × Owner). has_member (set_by_name t e.0) ≡ true) set (owner_named cs class)
      (λ owner is. (two_fit (has_member (set_by_name t set)) (not (is_too_many (place_among t.set_names set))) (errors.NoMember line) (errors.TooMany line) h).0)
  owner_says _ h = tt

  member_says : (w : Declared) → broken_in t line w ≡ None → Every (λ (e : NameBytes × ℕ). has_owner (set_by_name t e.0) ≡ true) (member_by cs w)
  member_says (d.Member set class) h =
      every_if (λ (e : NameBytes × ℕ). has_owner (set_by_name t e.0) ≡ true) set (place_in cs class)
      (λ n is. (two_fit (has_owner (set_by_name t set)) (not (is_too_many (place_among t.set_names set))) (errors.NoOwner line) (errors.TooMany line) h).0)
  member_says _ h = tt

named_at : (names : List NameBytes) (name : NameBytes) (k : ℕ) → place_among names name ≡ Some k → slice_get names k ≡ Some name
named_at names name k is =
    let found = position-Some (same_name name) names k [] is in
    slice_get-get_or names k [] found.0 ∙ ap Some (sym ((bytes_decides name (get_or names k [])).0 found.1))

-- a set of this name, with its owner and the class of its members
pub record IsOwned (p : ProgramTree) (name : NameBytes) : Type 0 where
  pub owner : Owner
  pub member : ℕ
  pub known : set_by_name (table p) name ≡ Some (set_of (classes (declarations p)) (declarations p) name)
  pub owned : (set_of (classes (declarations p)) (declarations p) name).owner ≡ Some owner
  pub filled : (set_of (classes (declarations p)) (declarations p) name).member ≡ Some member
  pub owner_below : owns_among (length (classes (declarations p))) owner ≡ true
  pub member_below : nat_lt member (length (classes (declarations p))) ≡ true

module _ (p : ProgramTree) (kept : refusal_of_declarations p ≡ None) where
  abbrev said : NameBytes → Set
  said name = set_of (classes (declarations p)) (declarations p) name

  known_set : (test : Option Set → Bool) (name : NameBytes) → test None ≡ false → test (set_by_name (table p) name) ≡ true → set_by_name (table p) name ≡ Some (said name)
  known_set test name none h = by (place_among (set_names (declarations p)) name) refl h
    where
      by : (o : Option ℕ) → place_among (set_names (declarations p)) name ≡ o → test (table_set_at (table p) o) ≡ true → table_set_at (table p) o ≡ Some (said name)
      by None is g = absurd (both_ways (test None) none g)
      by (Some k) is g = slice_get-map said (set_names (declarations p)) k ∙ ap (option_map said) (named_at (set_names (declarations p)) name k is)

  owner_there : (name : NameBytes) → has_owner (set_by_name (table p) name) ≡ true → (owner : Owner) × (value_for (given_by (owner_entry (classes (declarations p))) (declarations p)) name ≡ Some owner)
  owner_there name h = some_there (said name).owner (sym (ap has_owner (known_set has_owner name refl h)) ∙ h)

  member_there : (name : NameBytes) → has_member (set_by_name (table p) name) ≡ true → (member : ℕ) × (value_for (given_by (member_by (classes (declarations p))) (declarations p)) name ≡ Some member)
  member_there name h = some_there (said name).member (sym (ap has_member (known_set has_member name refl h)) ∙ h)

  is_owned : (name : NameBytes) → has_owner (set_by_name (table p) name) ≡ true → has_member (set_by_name (table p) name) ≡ true → IsOwned p name
  is_owned name h g =
      let cs = classes (declarations p) in
      let owner = owner_there name h in
      let member = member_there name g in
      record {
        owner = owner.0;
        member = member.0;
        known = known_set has_owner name refl h;
        owned = owner.1;
        filled = member.1;
        owner_below = given_so p kept (λ (e : NameBytes × Owner). owns_among (length cs) e.1 ≡ true) (owner_entry cs) (λ line w k. owner_fits cs w) name owner.0 owner.1;
        member_below = given_so p kept (λ (e : NameBytes × ℕ). nat_lt e.1 (length cs) ≡ true) (member_by cs) (λ line w k. member_fits cs w) name member.0 member.1;
      }

  owner_of_filled : (name : NameBytes) → has_member (set_by_name (table p) name) ≡ true → has_owner (set_by_name (table p) name) ≡ true
  owner_of_filled name h =
      let cs = classes (declarations p) in
      let member = member_there name h in
      given_so p kept (λ (e : NameBytes × ℕ). has_owner (set_by_name (table p) e.0) ≡ true) (member_by cs) (member_says (table p) cs) name member.0 member.1

  member_of_owned : (name : NameBytes) → has_owner (set_by_name (table p) name) ≡ true → has_member (set_by_name (table p) name) ≡ true
  member_of_owned name h =
      let cs = classes (declarations p) in
      let owner = owner_there name h in
      given_so p kept (λ (e : NameBytes × Owner). has_member (set_by_name (table p) e.0) ≡ true) (owner_entry cs) (owner_says (table p) cs) name owner.0 owner.1

  owned_so : (line : Line) (w : Declared) → broken_in (table p) line w ≡ None → Every (IsOwned p) (set_by w)
  owned_so line (d.Owner set class) h =
      let filled = (two_fit (has_member (set_by_name (table p) set)) (not (is_too_many (place_among (table p).set_names set))) (errors.NoMember line) (errors.TooMany line) h).0 in
      (is_owned set (owner_of_filled set filled) filled, tt)
  owned_so line (d.Member set class) h =
      let owned = (two_fit (has_owner (set_by_name (table p) set)) (not (is_too_many (place_among (table p).set_names set))) (errors.NoOwner line) (errors.TooMany line) h).0 in
      (is_owned set owned (member_of_owned set owned), tt)
  owned_so line _ h = tt

  pub all_owned : Every (IsOwned p) (set_names (declarations p))
  all_owned = every_once (IsOwned p) (given_by set_by (declarations p)) (every_given p kept (IsOwned p) set_by owned_so)
