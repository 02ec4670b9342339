-- Filing by ranks is filing before the first member that ranks after, or last.
use Rattle.std.proofs.Common.{◌≡◌, ℕ, suc, Bool, true, false, List, [], ◌∷◌, ◌++◌, ◌==◌, ◌<◌, length, Ok, Err, inl, inr, refl, sym, ap, subst, ◌∙◌, arith}
use Rattle.std.specs.Prelude.{ℤ, pos, negsuc, Result, IsOk, MatchResult, cond, if◌then◌else◌}
use Rattle.ss_sets.proofs.Common.{FaultKind, first_where, before_where, is_after, IsInList, RankKey, Value, value_of}
use Rattle.ss_records.specs.Passing.{ranks_past}
use Rattle.ss_base.specs.declared.fault.FaultKind.TheVariants.{FiledTwice, NotFiled}
use Rattle.ss_base.specs.declared.layout.ClassKind.{ClassKind}
use Rattle.ss_base.specs.declared.layout.ClassKind.TheVariants.{Permanent, Temporary, Notice}
use Rattle.ss_world.specs.State.{State, Record, and_then, entity_in, entity_of_kind, kind_of, members_of, contains, is_filed, no_value}
use Rattle.ss_world.specs.Lists.{IsNotInList}
use Rattle.ss_world.specs.Sets.{joiner, owner, member_class, put_before, put_in, put_beside, with_list_of, filed_last, filed_before, AreMembersApart}
use Rattle.ss_world.specs.Disciplines.{members_passed, put_ranked, members_owned_by, owned, filed_ranked}
use Rattle.ss_records.proofs.Same.{same, differs, false_is_not_true}
use Rattle.ss_records.proofs.Splice.{not_in}
use Rattle.ss_sets.proofs.Walking.{member_by}

-- by whether a test holds
by_test : {P : Type 0} (b : Bool) → (b ≡ true → P) → (b ≡ false → P) → P
by_test true h k = h refl
by_test false h k = k refl

put_last : (x : ℕ) (l : List ℕ) → IsNotInList 0 l → put_before 0 x l ≡ l ++ x ∷ []
put_last x [] n = refl
put_last x (z ∷ zs) n = rw (differs z 0 n.0) (ap (λ l. z ∷ l) (put_last x zs n.1))

module _ (t : ℕ → Bool) where
  -- the first member for which a test holds
  it_holds : (l : List ℕ) → (first_where t l ≡ 0 → ⊥) → (t (first_where t l) ≡ true) × (contains l (first_where t l) ≡ true) × IsInList (first_where t l) l
  it_holds [] some = absurd (some refl)
  it_holds (z ∷ zs) some = by_test (t z)
      (λ e. let q : first_where t (z ∷ zs) ≡ z = rw e refl in subst (λ k. (t k ≡ true) × (contains (z ∷ zs) k ≡ true) × IsInList k (z ∷ zs)) (sym q) (e, rw (same z) refl, inl refl))
      (λ e. let q : first_where t (z ∷ zs) ≡ first_where t zs = rw e refl in let h = it_holds zs (λ i. some (q ∙ i)) in
      subst (λ k. (t k ≡ true) × (contains (z ∷ zs) k ≡ true) × IsInList k (z ∷ zs)) (sym q) (h.0, by_test (z == first_where t zs) (λ i. rw i refl) (λ i. rw i h.1), inr h.2))

pub before_is : (st : State) (c : ℕ) (ks : List RankKey) (x : ℤ) (l : List ℕ) → before_where (is_after st c ks x) l ≡ members_passed st c ks x l
before_is st c ks x [] = refl
before_is st c ks x (y ∷ ys) = ap (λ n. cond (is_after st c ks x y) 0 (suc n)) (before_is st c ks x ys)

-- without a key none ranks after
pub none_after : (st : State) (c : ℕ) (ks : List RankKey) (x : ℤ) (l : List ℕ) → length ks ≡ 0 → first_where (is_after st c ks x) l ≡ 0
none_after st c [] x [] h = refl
none_after st c [] x (y ∷ ys) h = none_after st c [] x ys h
none_after st c (k ∷ ks) x l h = absurd (omega arith)

-- by one key, where v is the value of x
pub is_past : (st : State) (c : ℕ) (k : RankKey) (ks : List RankKey) (x : ℤ) (v : Value) → length ks < 1 → value_of st c k.field x ≡ v → ranks_past st c k.field k.high v ≡ is_after st c (k ∷ ks) x
is_past st c k [] x v h e = ap (ranks_past st c k.field k.high) (sym e)
is_past st c k (l ∷ ks) x v h e = absurd (omega (arith, h))

module _ (st : State) (c : ℕ) (ks : List RankKey) (x : ℕ) where
  abbrev after : ℕ → Bool
  after = is_after st c ks (pos x)

  put_is : (l : List ℕ) → IsNotInList 0 l → put_ranked st c ks x l ≡ put_before (first_where after l) x l
  put_is [] n = refl
  put_is (z ∷ zs) n = by_test (after z) (λ e. rw (e, same z) refl)
      (λ e.
      let w = first_where after zs in
      let apart = differs z w (λ q. false_is_not_true (sym e ∙ ap after q ∙ (it_holds after zs (λ i. n.0 (q ∙ i))).0)) in
      let there : put_ranked st c ks x (z ∷ zs) ≡ z ∷ put_ranked st c ks x zs = rw e refl in
      let here : put_before w x (z ∷ zs) ≡ z ∷ put_before w x zs = rw apart refl in
      let first : first_where after (z ∷ zs) ≡ w = rw e refl in
      there ∙ ap (λ l. z ∷ l) (put_is zs n.1) ∙ sym here ∙ ap (λ k. put_before k x (z ∷ zs)) (sym first))

-- ## Who x is

no_negative : (st : State) (kind : ClassKind) (c k : ℕ) (r : Record) → entity_of_kind st kind c (negsuc k) ≡ Ok r → ⊥
no_negative st Permanent c k r h = cc
no_negative st Temporary c k r h = cc
no_negative st Notice c k r h = cc

pub joined : (st : State) (s : ℕ) (x : ℤ) (n : ℕ) → joiner st s x ≡ Ok n → x ≡ pos n
joined st s (pos k) n = by (entity_in st (member_class st.layout s) (pos k)) where
  by : (r : Result Record FaultKind) → and_then r (λ _. Ok k) ≡ Ok n → pos k ≡ pos n
  by (Ok r) h = let q : k ≡ n = cc in ap pos q
  by (Err e) h = cc
joined st s (negsuc k) n = by (entity_in st (member_class st.layout s) (negsuc k)) (no_negative st (kind_of st.layout (member_class st.layout s)) (member_class st.layout s) k) where
  by : (r : Result Record FaultKind) → ((a : Record) → r ≡ Ok a → ⊥) → and_then r (λ _. Ok 0) ≡ Ok n → negsuc k ≡ pos n
  by (Ok r) never h = absurd (never r refl)
  by (Err e) never h = cc

-- ## Filing

-- what a call that only looks finds
pub looked : (r : Result ℕ FaultKind) (q : Result (Unit {0}) FaultKind) → q ≡ no_value r → MatchResult q (λ _. IsOk r) (λ e. r ≡ Err e)
looked (Ok m) (Ok u) h = refl
looked (Ok m) (Err e) h = cc
looked (Err f) (Ok u) h = cc
looked (Err f) (Err e) h = let q : f ≡ e = cc in ap Err q

agree : (j r : Result ℕ FaultKind) (f g : ℕ → ℕ → Result State FaultKind) → ((n m : ℕ) → j ≡ Ok n → r ≡ Ok m → f n m ≡ g n m) → and_then j (λ n. and_then r (λ m. f n m)) ≡ and_then j (λ n. and_then r (λ m. g n m))
agree (Ok n) (Ok m) f g h = h n m refl refl
agree (Ok n) (Err e) f g h = refl
agree (Err e) r f g h = refl

module _ (st : State) (A : AreMembersApart st) (s : ℕ) (inside : s < length st.layout.sets) (ks : List RankKey) (o x : ℤ) where
  abbrev class : ℕ
  class = member_class st.layout s

  abbrev first : ℕ
  first = first_where (is_after st class ks x) (owned st s o)

  no_zero : (m : ℕ) → IsNotInList 0 (members_of st.lists s m)
  no_zero m = not_in 0 (members_of st.lists s m) (λ i. (A.members s m 0 inside i).0 refl)

  put : (n m : ℕ) → joiner st s x ≡ Ok n → owner st s o ≡ Ok m → put_ranked st class ks n (members_of st.lists s m) ≡ put_before first n (members_of st.lists s m)
  put n m j r =
      let l = members_of st.lists s m in
      put_is st class ks n l (no_zero m) ∙ ap (λ (v : ℤ). put_before (first_where (is_after st class ks v) l) n l) (sym (joined st s x n j))
      ∙ ap (λ (q : Result ℕ FaultKind). put_before (first_where (is_after st class ks x) (members_owned_by st s q)) n l) (sym r)

  pub ranked_last : pos 0 ≡ pos first → filed_last st s o x ≡ filed_ranked st ks s o x
  ranked_last f = agree (joiner st s x) (owner st s o) (λ n m. put_in (λ y l. l ++ y ∷ []) st s m n) (λ n m. put_in (put_ranked st class ks) st s m n)
      (λ n m j r. let q : 0 ≡ first = cc in ap (λ l. if is_filed st.lists s n then Err FiledTwice else Ok (with_list_of st s m l))
      (sym (put n m j r ∙ ap (λ k. put_before k n (members_of st.lists s m)) (sym q) ∙ put_last n (members_of st.lists s m) (no_zero m))))

  pub ranked_before : (y : ℤ) → (y ≡ pos 0 → ⊥) → y ≡ pos first → filed_before st s o x y ≡ filed_ranked st ks s o x
  ranked_before y some is =
      let it = it_holds (is_after st class ks x) (owned st s o) (λ i. some (is ∙ ap pos i)) in
      ap (λ (q : Result ℕ FaultKind). and_then (joiner st s x) (λ n. and_then q (λ k. and_then (owner st s o) (λ m. put_beside put_before st s m n k)))) (ap (joiner st s) is ∙ (member_by st A s inside (owner st s o) first it.2).1)
      ∙ agree (joiner st s x) (owner st s o) (λ n m. put_beside put_before st s m n first) (λ n m. put_in (put_ranked st class ks) st s m n)
      (λ n m j r.
      ap (λ b. if is_filed st.lists s n then Err FiledTwice else (if b then Ok (with_list_of st s m (put_before first n (members_of st.lists s m))) else Err NotFiled)) (sym (ap (λ (q : Result ℕ FaultKind). contains (members_owned_by st s q) first) r) ∙ it.1)
      ∙ ap (λ l. if is_filed st.lists s n then Err FiledTwice else Ok (with_list_of st s m l)) (sym (put n m j r)))
