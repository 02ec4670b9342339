-- Filing and removing change the members of sets alone.
use Rattle.std.proofs.Common.{◌≡◌, ℕ, ℤ, Bool, true, false, List, [], ◌∷◌, ◌++◌, Ok, Err, refl, ap, subst}
use Rattle.std.specs.Prelude.{pos, negsuc, zero, suc, if◌then◌else◌, MatchResult, Result as OkOr}
use Rattle.ss_base.specs.declared.fault.FaultKind.{FaultKind}
use Rattle.ss_base.specs.declared.fault.FaultKind.TheVariants.{FiledTwice, NotFiled}
use Rattle.ss_base.specs.declared.layout.Discipline.{Discipline}
use Rattle.ss_base.specs.declared.layout.Discipline.TheVariants.{Fifo, Lifo, Ranked}
use Rattle.ss_records.specs.State.{State, Members, and_then, members_of, contains, is_filed, with_members}
use Rattle.ss_records.specs.Sets.{joiner, owner, member_class, first_in, last_in, put_in, put_beside, put_before, put_after, less, taken_out, filed_first, filed_last, filed_before, filed_after, removed}
use Rattle.ss_sets.specs.Disciplines.{put_ranked, filed, take, first_removed, last_removed}
use Rattle.ss_machine_entities.specs.Counts.{counts_of}
use Rattle.ss_machine_entities.proofs.Counting.{Keeps, keeps_same, keeps_done, keeps_drawn, state_after, state_with}

-- ## Parts of what is done

-- what holds of all that comes of the second part holds of all that comes of both
when_ok : {A B : Type 0} (P : B → Type 0) (r : OkOr A FaultKind) (f : A → OkOr B FaultKind) → ((a : A) (b : B) → f a ≡ Ok b → P b) → (b : B) → and_then r f ≡ Ok b → P b
when_ok P (Ok a) f h b e = h a b e
when_ok P (Err k) f h b e = absurd cc

-- the lists alone change, if anything does
abbrev Lists : State → State → Type 0
Lists st t = t ≡ record st { lists = t.lists }

listed : (st t : State) (l : List Members) → (let r : OkOr State FaultKind = Ok (record st { lists = l }) in r ≡ Ok t) → Lists st t
listed st t l e = let same : record st { lists = l } ≡ t = cc in subst (Lists st) same refl

put_kept : (a b : Bool) (st t : State) (l : List Members) → (if a then Err FiledTwice else (if b then Ok (record st { lists = l }) else Err NotFiled)) ≡ Ok t → Lists st t
put_kept true b st t l e = absurd cc
put_kept false true st t l e = listed st t l e
put_kept false false st t l e = absurd cc

-- ## Filing and removing

module _ (st t : State) (s : ℕ) (o x : ℤ) where
  put_refiled : (put : ℕ → List ℕ → List ℕ) → and_then (joiner st s x) (λ n. and_then (owner st s o) (λ m. put_in put st s m n)) ≡ Ok t → Lists st t
  put_refiled put e =
      when_ok (Lists st) (joiner st s x) (λ n. and_then (owner st s o) (λ m. put_in put st s m n))
      (λ n. when_ok (Lists st) (owner st s o) (λ m. put_in put st s m n) (λ m t. put_kept (is_filed st.lists s n) true st t (with_members st.lists s m (put n (members_of st.lists s m))))) t e

  beside_refiled : (put : ℕ → ℕ → List ℕ → List ℕ) (y : ℤ) → and_then (joiner st s x) (λ n. and_then (joiner st s y) (λ k. and_then (owner st s o) (λ m. put_beside put st s m n k))) ≡ Ok t → Lists st t
  beside_refiled put y e =
      when_ok (Lists st) (joiner st s x) (λ n. and_then (joiner st s y) (λ k. and_then (owner st s o) (λ m. put_beside put st s m n k)))
      (λ n. when_ok (Lists st) (joiner st s y) (λ k. and_then (owner st s o) (λ m. put_beside put st s m n k))
      (λ k. when_ok (Lists st) (owner st s o) (λ m. put_beside put st s m n k) (λ m t. put_kept (is_filed st.lists s n) (contains (members_of st.lists s m) k) st t (with_members st.lists s m (put k n (members_of st.lists s m)))))) t e

  pub first_refiled : filed_first st s o x ≡ Ok t → t ≡ record st { lists = t.lists }
  first_refiled e = put_refiled (λ y l. y ∷ l) e

  pub last_refiled : filed_last st s o x ≡ Ok t → t ≡ record st { lists = t.lists }
  last_refiled e = put_refiled (λ y l. l ++ y ∷ []) e

  pub before_refiled : (y : ℤ) → filed_before st s o x y ≡ Ok t → t ≡ record st { lists = t.lists }
  before_refiled y e = beside_refiled put_before y e

  pub after_refiled : (y : ℤ) → filed_after st s o x y ≡ Ok t → t ≡ record st { lists = t.lists }
  after_refiled y e = beside_refiled put_after y e

  pub filed_refiled : (d : Discipline) → filed st d s o x ≡ Ok t → t ≡ record st { lists = t.lists }
  filed_refiled Fifo e = last_refiled e
  filed_refiled Lifo e = first_refiled e
  filed_refiled (Ranked ks) e = put_refiled (put_ranked st (member_class st.layout s) ks) e

  pub out_refiled : removed st s o x ≡ Ok t → t ≡ record st { lists = t.lists }
  out_refiled e =
      when_ok (Lists st) (joiner st s x) (λ n. and_then (owner st s o) (λ m. taken_out st s m n))
      (λ n. when_ok (Lists st) (owner st s o) (λ m. taken_out st s m n) (λ m t. put_kept false (contains (members_of st.lists s m) n) st t (with_members st.lists s m (less n (members_of st.lists s m))))) t e

module _ (st t : State) (s : ℕ) (o x : ℤ) where
  rest_refiled : (y : ℤ) → and_then {B = ℤ × State} (removed st s o y) (λ u. Ok (y, u)) ≡ Ok (x, t) → Lists st t
  rest_refiled y e = by (removed st s o y) (λ u. out_refiled st u s o y) e
    where
      by : (r : OkOr State FaultKind) → ((u : State) → r ≡ Ok u → Lists st u) → and_then {B = ℤ × State} r (λ u. Ok (y, u)) ≡ Ok (x, t) → Lists st t
      by (Ok u) h e = subst (Lists st) (ap (state_with t) e) (h u refl)
      by (Err k) h e = absurd cc

  take_refiled : (y : ℤ) → take st s o y ≡ Ok (x, t) → Lists st t
  take_refiled (pos zero) e = absurd cc
  take_refiled (pos (suc n)) e = rest_refiled (pos (suc n)) e
  take_refiled (negsuc k) e = rest_refiled (negsuc k) e

  drawn_refiled : (r : OkOr ℤ FaultKind) → and_then r (take st s o) ≡ Ok (x, t) → Lists st t
  drawn_refiled (Ok y) e = take_refiled y e
  drawn_refiled (Err k) e = absurd cc

  pub first_out_refiled : first_removed st s o ≡ Ok (x, t) → t ≡ record st { lists = t.lists }
  first_out_refiled e = drawn_refiled (first_in st s o) e

  pub last_out_refiled : last_removed st s o ≡ Ok (x, t) → t ≡ record st { lists = t.lists }
  last_out_refiled e = drawn_refiled (last_in st s o) e

-- ## What they keep

lists_keep : (h g : State) → g ≡ record h { lists = g.lists } → Keeps h g
lists_keep h g e = record { layout = ap (λ (y : State). y.layout) e; counts = ap (λ (y : State). counts_of y.permanents) e }

keeps_if : (h : State) (f : OkOr State FaultKind) → ((t : State) → f ≡ Ok t → t ≡ record h { lists = t.lists }) → Keeps h (state_after h f)
keeps_if h (Ok t) k = lists_keep h t (k t refl)
keeps_if h (Err e) k = keeps_same h h refl

drawn_if : (h : State) (f : OkOr (ℤ × State) FaultKind) → ((x : ℤ) (t : State) → f ≡ Ok (x, t) → t ≡ record h { lists = t.lists }) → Keeps h (state_with h f)
drawn_if h (Ok p) k = lists_keep h p.1 (k p.0 p.1 refl)
drawn_if h (Err e) k = keeps_same h h refl

module _ (h g : State) (r : OkOr (Unit {0}) FaultKind) (s : ℕ) (o x : ℤ) where
  refiled_keeps : (f : OkOr State FaultKind) → ((t : State) → f ≡ Ok t → t ≡ record h { lists = t.lists }) → MatchResult r (λ _. f ≡ Ok g) (λ k. (f ≡ Err k) × (g ≡ h)) → Keeps h g
  refiled_keeps f kept d = keeps_done h g f r (keeps_if h f kept) d

  pub filed_keeps : (c : Discipline) → MatchResult r (λ _. filed h c s o x ≡ Ok g) (λ k. (filed h c s o x ≡ Err k) × (g ≡ h)) → Keeps h g
  filed_keeps c d = refiled_keeps (filed h c s o x) (λ t e. filed_refiled h t s o x c e) d

  pub first_keeps : MatchResult r (λ _. filed_first h s o x ≡ Ok g) (λ k. (filed_first h s o x ≡ Err k) × (g ≡ h)) → Keeps h g
  first_keeps d = refiled_keeps (filed_first h s o x) (λ t e. first_refiled h t s o x e) d

  pub last_keeps : MatchResult r (λ _. filed_last h s o x ≡ Ok g) (λ k. (filed_last h s o x ≡ Err k) × (g ≡ h)) → Keeps h g
  last_keeps d = refiled_keeps (filed_last h s o x) (λ t e. last_refiled h t s o x e) d

  pub before_keeps : (y : ℤ) → MatchResult r (λ _. filed_before h s o x y ≡ Ok g) (λ k. (filed_before h s o x y ≡ Err k) × (g ≡ h)) → Keeps h g
  before_keeps y d = refiled_keeps (filed_before h s o x y) (λ t e. before_refiled h t s o x y e) d

  pub after_keeps : (y : ℤ) → MatchResult r (λ _. filed_after h s o x y ≡ Ok g) (λ k. (filed_after h s o x y ≡ Err k) × (g ≡ h)) → Keeps h g
  after_keeps y d = refiled_keeps (filed_after h s o x y) (λ t e. after_refiled h t s o x y e) d

  pub removed_keeps : MatchResult r (λ _. removed h s o x ≡ Ok g) (λ k. (removed h s o x ≡ Err k) × (g ≡ h)) → Keeps h g
  removed_keeps d = refiled_keeps (removed h s o x) (λ t e. out_refiled h t s o x e) d

module _ (h g : State) (r : OkOr ℤ FaultKind) (s : ℕ) (o : ℤ) where
  pub first_out_keeps : MatchResult r (λ x. first_removed h s o ≡ Ok (x, g)) (λ k. (first_removed h s o ≡ Err k) × (g ≡ h)) → Keeps h g
  first_out_keeps d = keeps_drawn h g (first_removed h s o) r (drawn_if h (first_removed h s o) (λ x t e. first_out_refiled h t s o x e)) d

  pub last_out_keeps : MatchResult r (λ x. last_removed h s o ≡ Ok (x, g)) (λ k. (last_removed h s o ≡ Err k) × (g ≡ h)) → Keeps h g
  last_out_keeps d = keeps_drawn h g (last_removed h s o) r (drawn_if h (last_removed h s o) (λ x t e. last_out_refiled h t s o x e)) d
