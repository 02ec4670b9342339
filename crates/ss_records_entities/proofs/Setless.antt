-- Entities of a class that joins no set, or owns none.
use Rattle.std.proofs.Common.{◌≡◌, ℕ, zero, suc, ◌+◌, ◌==◌, Bool, drop, slice_get, Some, ap, true, false, List, [], ◌∷◌, refl, sym, ◌∙◌, arith}
use Rattle.ss_records_entities.proofs.Common.{by_same, Class, count_sets, false_is_not_true, joins, nat_eq, not, owned_by, Owner, owner_in, same, SetLayout, System}
use Rattle.ss_world.specs.State.{in_a_set, Members, owns_members, is_owner_class}
use Rattle.ss_records_words.proofs.Filed.{drop_at}
use Rattle.ss_base.specs.Layout.{same_owner}

none_of : (p : SetLayout → Bool) (t : SetLayout) (ts : List SetLayout) → count_sets p (t ∷ ts) ≡ 0 → (p t ≡ false) × (count_sets p ts ≡ 0)
none_of p t ts h = by_test (p t) refl where
  by_test : (b : Bool) → p t ≡ b → (p t ≡ false) × (count_sets p ts ≡ 0)
  by_test true e = let z : 1 + count_sets p ts ≡ 0 = sym (rw e refl) ∙ h in absurd (omega (arith, z))
  by_test false e = let z : 0 + count_sets p ts ≡ 0 = sym (rw e refl) ∙ h in (e, omega (arith, z))

pub in_none : (ts : List SetLayout) (s c x : ℕ) (ms : List Members) → count_sets (joins c) ts ≡ 0 → in_a_set ts s ms c x ≡ false
in_none [] s c x ms h = refl
in_none (t ∷ ts) s c x ms h =
    let n = none_of (joins c) t ts h in let e : (t.member == c) ≡ false = n.0 in
    rw e (in_none ts (s + 1) c x ms n.1)

pub as_owner : (o : Owner) (c : ℕ) → is_owner_class o c ≡ same_owner o (Class c)
as_owner System c = refl
as_owner (Class d) c = refl

pub owns_none : (ts : List SetLayout) (s c x : ℕ) (ms : List Members) → count_sets (owned_by (Class c)) ts ≡ 0 → owns_members ts s ms c x ≡ false
owns_none [] s c x ms h = refl
owns_none (t ∷ ts) s c x ms h =
    let n = none_of (owned_by (Class c)) t ts h in let e : is_owner_class t.owner c ≡ false = as_owner t.owner c ∙ n.0 in
    rw e (owns_none ts (s + 1) c x ms n.1)

module _ (p : SetLayout → Bool) (ts : List SetLayout) (s : ℕ) (t : SetLayout) (g : slice_get ts s ≡ Some t) where
  pub counts_one : p t ≡ true → count_sets p (drop s ts) ≡ 1 + count_sets p (drop (s + 1) ts)
  counts_one e = ap (count_sets p) (drop_at ts s t g) ∙ rw e refl

  pub counts_none : p t ≡ false → count_sets p (drop s ts) ≡ count_sets p (drop (s + 1) ts)
  counts_none e = ap (count_sets p) (drop_at ts s t g) ∙ rw e (omega arith)

-- the sets of a class that owns none
pub owned_by_none : (ts : List SetLayout) (c : ℕ) → count_sets (owned_by (Class c)) ts ≡ 0 → (k : ℕ) → owner_in (slice_get ts k) ≡ Class c → ⊥
owned_by_none [] c h k e = absurd cc
owned_by_none (t ∷ ts) c h zero e = false_is_not_true (sym (none_of (owned_by (Class c)) t ts h).0 ∙ ap (λ o. same_owner o (Class c)) e ∙ same c)
owned_by_none (t ∷ ts) c h (suc k) e = owned_by_none ts c (none_of (owned_by (Class c)) t ts h).1 k e

-- a number that is not other than 0
pub none_counted : (n : ℕ) → not (nat_eq n 0) ≡ false → n ≡ 0
none_counted n e = by_same n 0 (λ z q. q) (λ z q. absurd (false_is_not_true (sym e ∙ ap not z)))
