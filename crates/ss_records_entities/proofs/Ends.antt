-- Taking the first or the last member out of a set, and the test of membership.
use Rattle.std.proofs.Common.{◌≡◌, ℕ, zero, suc, Bool, true, false, ◌+◌, ◌≤◌, ◌<◌, length, Ok, Err, refl, sym, ap, subst, ◌∙◌, arith}
use Rattle.std.specs.Prelude.{if◌then◌else◌}
use Rattle.ss_records_entities.proofs.Common.{and_then, CanJoin, contains, EntityBlock, FaultKind, first_in, get_there, head0, in_contains, IsEntityOf, IsInList, IsInPlace, IsKept, last_in, last_or, MatchResult, members_of, places, pos, Records, Result, State, state, ℤ}
use Rattle.ss_world.specs.Sets.{joiner, less, member_in, owner, with_list_of, removed}
use Rattle.ss_base.specs.declared.fault.FaultKind.TheVariants.{EmptySet}
use Rattle.ss_world.specs.Disciplines.{take, first_removed, last_removed, member_test}
use Rattle.ss_records_entities.proofs.Cuts.{out_done}
use Rattle.ss_records_entities.proofs.Apart.{sets_apart}

-- a member that was found at an end
module _ (r : Records) (K : IsKept r) (s : ℕ) (inside : s < length r.layout.sets) (o : ℕ) (q : EntityBlock) (lies : IsInPlace r s q) (inn : IsInList q.number (members_of r.notes.lists s o)) where
  pub joins_it : CanJoin r s q
  joins_it =
      let y = get_there r.layout.sets s inside in
      record { lies = lies; is = subst (λ c. IsEntityOf r.blocks.cells (places r) c q.number) (sym (ap member_in y.1)) ((K.names s y.0 y.1).members o q.number inn).0 }

  pub has_it : contains (members_of r.notes.lists s o) q.number ≡ true
  has_it = in_contains (members_of r.notes.lists s o) q.number inn

  some_it : 0 ≡ q.number → ⊥
  some_it = let y = get_there r.layout.sets s inside in ((K.names s y.0 y.1).members o q.number inn).1

  joined_it : joiner (state r) s (pos q.number) ≡ Ok q.number
  joined_it = ((sets_apart r.layout r.blocks.cells r.system.at (places r) r.notes.lists K).members s o q.number inside inn).1

  took : (n : ℕ) (x : ℤ) (new : State) → (0 ≡ n → ⊥) → removed (state r) s x (pos n) ≡ Ok new → take (state r) s x (pos n) ≡ Ok (pos n, new)
  took zero x new h e = absurd (h refl)
  took (suc n) x new h e = ap (λ z. and_then z (λ t. Ok (pos (suc n), t))) e

  taken : (x y : ℤ) (new : State) (look : Result ℤ FaultKind) → owner (state r) s x ≡ Ok o → look ≡ Ok y → y ≡ pos q.number → new ≡ with_list_of (state r) s o (less q.number (members_of r.notes.lists s o)) → and_then look (take (state r) s x) ≡ Ok (y, new)
  taken x y new look om found is e =
      ap (λ z. and_then z (take (state r) s x)) (found ∙ ap (λ z. Ok z) is)
      ∙ took q.number x new some_it (out_done (state r) s x (pos q.number) o q.number joined_it om new has_it e)
      ∙ ap (λ z. Ok (z, new)) (sym is)

  pub end_taken : (last : Bool) (x y : ℤ) (new : State) → owner (state r) s x ≡ Ok o → (if last then last_in (state r) s x else first_in (state r) s x) ≡ Ok y → y ≡ pos q.number → new ≡ with_list_of (state r) s o (less q.number (members_of r.notes.lists s o))
      → (if last then last_removed else first_removed) (state r) s x ≡ Ok (y, new)
  end_taken false x y new om found is e = taken x y new (first_in (state r) s x) om found is e
  end_taken true x y new om found is e = taken x y new (last_in (state r) s x) om found is e

-- none to take
none_taken : (st : State) (s n : ℕ) (x y : ℤ) (look : Result ℤ FaultKind) → look ≡ Ok y → y ≡ pos n → n ≡ 0 → and_then look (take st s x) ≡ Err EmptySet
none_taken st s n x y look found is none = ap (λ z. and_then z (take st s x)) (found ∙ ap (λ z. Ok z) (is ∙ ap pos none))

pub none_at_end : (last : Bool) (st : State) (s n : ℕ) (x y : ℤ) → (if last then last_in st s x else first_in st s x) ≡ Ok y → y ≡ pos n → n ≡ 0 → (if last then last_removed else first_removed) st s x ≡ Err EmptySet
none_at_end false st s n x y found is none = none_taken st s n x y (first_in st s x) found is none
none_at_end true st s n x y found is none = none_taken st s n x y (last_in st s x) found is none

pub end_refused : (last : Bool) (st : State) (s : ℕ) (x : ℤ) (e : FaultKind) → owner st s x ≡ Err e → (if last then last_removed else first_removed) st s x ≡ Err e
end_refused false st s x e h = ap (λ z. and_then (and_then z (λ n. Ok (pos (head0 (members_of st.lists s n))))) (take st s x)) h
end_refused true st s x e h = ap (λ z. and_then (and_then z (λ n. Ok (pos (last_or 0 (members_of st.lists s n))))) (take st s x)) h

-- one at an end is taken, or there is none, for every reference to the owner
pub drawn : (last : Bool) (st new : State) (s m : ℕ) (x : ℤ) → owner st s x ≡ Ok m → (r : Result ℤ FaultKind)
    → MatchResult r (λ y. (z : ℤ) → owner st s z ≡ Ok m → (if last then last_removed else first_removed) st s z ≡ Ok (y, new)) (λ e. ((z : ℤ) → owner st s z ≡ Ok m → (if last then last_removed else first_removed) st s z ≡ Err e) × (new ≡ st))
    → MatchResult r (λ y. (if last then last_removed else first_removed) st s x ≡ Ok (y, new)) (λ e. ((if last then last_removed else first_removed) st s x ≡ Err e) × (new ≡ st))
drawn last st new s m x om (Ok y) h = h x om
drawn last st new s m x om (Err e) h = (h.0 x om, h.1)

-- ## The test of membership

pub tested : (st : State) (s : ℕ) (o x : ℤ) (n m : ℕ) (b : Bool) → joiner st s x ≡ Ok n → owner st s o ≡ Ok m → b ≡ contains (members_of st.lists s m) n → Ok b ≡ member_test st s o x
tested st s o x n m b j w h =
    ap (λ z. Ok z) h ∙ sym (ap (λ r. and_then r (λ k. and_then (owner st s o) (λ i. Ok (contains (members_of st.lists s i) k)))) j ∙ ap (λ r. and_then r (λ i. Ok (contains (members_of st.lists s i) n))) w)

untested_by : (a b : Result ℕ FaultKind) (st : State) (g : ℕ → ℕ → Bool) (f : FaultKind) → and_then a (λ n. and_then b (λ m. Ok st)) ≡ Err f → Err f ≡ and_then a (λ n. and_then b (λ m. Ok (g n m)))
untested_by (Ok n) (Ok m) st g f h = cc
untested_by (Ok n) (Err e) st g f h = let q : e ≡ f = cc in ap (λ z. Err z) (sym q)
untested_by (Err e) b st g f h = let q : e ≡ f = cc in ap (λ z. Err z) (sym q)

pub untested : (st : State) (s : ℕ) (o x : ℤ) (f : FaultKind) → ((g : ℕ → ℕ → Result State FaultKind) → and_then (joiner st s x) (λ n. and_then (owner st s o) (g n)) ≡ Err f) → Err f ≡ member_test st s o x
untested st s o x f h = untested_by (joiner st s x) (owner st s o) st (λ n m. contains (members_of st.lists s m) n) f (h (λ n m. Ok st))

-- ## Touches

module _ (a A : ℕ) (none : a ≡ 0) where
  pub untouched : (k : ℕ) → (a ≤ k) × (A ≡ A + a)
  untouched k = (omega (arith, none), omega (arith, none))

  module _ (b B : ℕ) where
    pub two_at_most : (b ≤ a + 2) × (B + a ≡ A + b) → (b ≤ 2) × (B ≡ A + b)
    two_at_most more = (omega (arith, none, more.0), omega (arith, none, more.1))
