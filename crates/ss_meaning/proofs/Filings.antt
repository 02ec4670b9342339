-- Filing and removing change nothing but the members of a set, each of which was there or may be one.
use Rattle.std.proofs.Common.{inl, inr, ◌⊎◌, ◌≡◌, ℕ, Bool, true, false, List, [], ◌∷◌, ◌++◌, Ok, Err, ℤ, pos, negsuc, zero, suc, refl, subst}
use Rattle.std.specs.Prelude.{cond, ◌==◌, Result, if◌then◌else◌}
use Rattle.ss_meaning.proofs.Common.{Discipline, End, FaultKind, Fifo, IsFittingHeap, Lifo, living, RankKey, Ranked}
use Rattle.ss_base.specs.declared.fault.FaultKind.TheVariants as faults
use Rattle.ss_base.specs.declared.words.End.TheVariants as ends
use Rattle.ss_world.specs.Lists.{IsInList}
use Rattle.ss_world.specs.State.{State, Members, and_then, is_filed, contains, members_of}
use Rattle.ss_world.specs.Sets.{joiner, owner, put_in, put_beside, put_before, put_after, taken_out, with_list_of, filed_first, filed_last, filed_before, filed_after, removed, first_in, last_in, member_class, less}
use Rattle.ss_world.specs.Disciplines.{take, filed, put_ranked, ranks_after}
use Rattle.ss_meaning.specs.Sets.{end_removed}
use Rattle.ss_meaning.proofs.Fine.{Sane, Any, sane_then}
use Rattle.ss_meaning.proofs.Heaps.{Changed}

-- ## Lists with another item, or without one

abbrev Puts : (ℕ → List ℕ → List ℕ) → Type 0
Puts put = (x : ℕ) (l : List ℕ) (y : ℕ) → IsInList y (put x l) → (x ≡ y) ⊎ IsInList y l

puts_first : Puts (λ y l. y ∷ l)
puts_first x l y m = m

-- after an item that stays
passed : (x z y : ℕ) (zs : List ℕ) (l : List ℕ) → (IsInList y l → (x ≡ y) ⊎ IsInList y zs) → IsInList y (z ∷ l) → (x ≡ y) ⊎ IsInList y (z ∷ zs)
passed x z y zs l f (inl e) = inr (inl e)
passed x z y zs l f (inr m) = by (f m)
  where
    by : (x ≡ y) ⊎ IsInList y zs → (x ≡ y) ⊎ IsInList y (z ∷ zs)
    by (inl e) = inl e
    by (inr m) = inr (inr m)

puts_last : Puts (λ y l. l ++ y ∷ [])
puts_last x [] y m = m
puts_last x (z ∷ zs) y m = passed x z y zs (zs ++ x ∷ []) (λ g. puts_last x zs y g) m

-- before an item, or after it
either_side : (b : Bool) (x z y : ℕ) (zs l : List ℕ) → (IsInList y l → (x ≡ y) ⊎ IsInList y zs) → IsInList y (cond b (x ∷ (z ∷ zs)) (z ∷ l)) → (x ≡ y) ⊎ IsInList y (z ∷ zs)
either_side true x z y zs l f m = m
either_side false x z y zs l f m = passed x z y zs l f m

puts_before : (k : ℕ) → Puts (put_before k)
puts_before k x [] y m = m
puts_before k x (z ∷ zs) y m = either_side (z == k) x z y zs (put_before k x zs) (λ g. puts_before k x zs y g) m

puts_after : (k : ℕ) → Puts (put_after k)
puts_after k x [] y m = m
puts_after k x (z ∷ zs) y m = by (z == k) (λ g. puts_after k x zs y g) m
  where
    by : (b : Bool) → (IsInList y (put_after k x zs) → (x ≡ y) ⊎ IsInList y zs) → IsInList y (cond b (z ∷ (x ∷ zs)) (z ∷ put_after k x zs)) → (x ≡ y) ⊎ IsInList y (z ∷ zs)
    by true f m = passed x z y zs (x ∷ zs) (λ g. g) m
    by false f m = passed x z y zs (put_after k x zs) f m

puts_ranked : (h : State) (c : ℕ) (ks : List RankKey) → Puts (put_ranked h c ks)
puts_ranked h c ks x [] y m = m
puts_ranked h c ks x (z ∷ zs) y m = either_side (ranks_after h c ks (pos z) (pos x)) x z y zs (put_ranked h c ks x zs) (λ g. puts_ranked h c ks x zs y g) m

less_in : (x : ℕ) (l : List ℕ) (y : ℕ) → IsInList y (less x l) → IsInList y l
less_in x [] y m = m
less_in x (z ∷ zs) y m = by (z == x) (λ g. less_in x zs y g) m
  where
    by : (b : Bool) → (IsInList y (less x zs) → IsInList y zs) → IsInList y (cond b zs (z ∷ less x zs)) → IsInList y (z ∷ zs)
    by true f m = inr m
    by false f (inl e) = inl e
    by false f (inr m) = inr (f m)

-- ## Sets

any_sane : {A : Type 0} (r : Result A FaultKind) → Sane Any r
any_sane (Ok a) = tt
any_sane (Err k) = tt

-- what may be a member of a set
abbrev pub MayJoin : State → ℕ → ℕ → Type 0
MayJoin h s y = (x : ℤ) × (joiner h s x ≡ Ok y)

joins : (h : State) (s : ℕ) (x : ℤ) → Sane (MayJoin h s) (joiner h s x)
joins h s x = by (joiner h s x) refl
  where
    by : (r : Result ℕ FaultKind) → joiner h s x ≡ r → Sane (MayJoin h s) r
    by (Ok n) e = (x, e)
    by (Err k) e = tt

-- what holds once a set has another list, each member of which was there or may be one
abbrev pub Keeps : (State → Type 0) → State → ℕ → Type 0
Keeps Q h s = (o : ℕ) (l : List ℕ) → ((y : ℕ) → IsInList y l → MayJoin h s y ⊎ IsInList y (members_of h.lists s o)) → Q (with_list_of h s o l)

put_known : (put : ℕ → List ℕ → List ℕ) → Puts put → (h : State) (s o x : ℕ) → MayJoin h s x → (y : ℕ) → IsInList y (put x (members_of h.lists s o)) → MayJoin h s y ⊎ IsInList y (members_of h.lists s o)
put_known put p h s o x known y m = by (p x (members_of h.lists s o) y m)
  where
    by : (x ≡ y) ⊎ IsInList y (members_of h.lists s o) → MayJoin h s y ⊎ IsInList y (members_of h.lists s o)
    by (inl e) = inl (subst (λ z. MayJoin h s z) e known)
    by (inr m) = inr m

put_sane : (Q : State → Type 0) (put : ℕ → List ℕ → List ℕ) → Puts put → (h : State) (s o x : ℕ) → MayJoin h s x → Keeps Q h s → Sane Q (put_in put h s o x)
put_sane Q put p h s o x known keeps = by (is_filed h.lists s x)
  where
    by : (b : Bool) → Sane Q (if b then Err faults.FiledTwice else Ok (with_list_of h s o (put x (members_of h.lists s o))))
    by true = tt
    by false = keeps o (put x (members_of h.lists s o)) (λ y m. put_known put p h s o x known y m)

beside_sane : (Q : State → Type 0) (put : ℕ → ℕ → List ℕ → List ℕ) → ((k : ℕ) → Puts (put k)) → (h : State) (s o x k : ℕ) → MayJoin h s x → Keeps Q h s → Sane Q (put_beside put h s o x k)
beside_sane Q put p h s o x k known keeps = by (is_filed h.lists s x) (contains (members_of h.lists s o) k)
  where
    by : (b c : Bool) → Sane Q (if b then Err faults.FiledTwice else (if c then Ok (with_list_of h s o (put k x (members_of h.lists s o))) else Err faults.NotFiled))
    by true c = tt
    by false true = keeps o (put k x (members_of h.lists s o)) (λ y m. put_known (put k) (p k) h s o x known y m)
    by false false = tt

out_sane : (Q : State → Type 0) (h : State) (s o x : ℕ) → Keeps Q h s → Sane Q (taken_out h s o x)
out_sane Q h s o x keeps = by (contains (members_of h.lists s o) x)
  where
    by : (b : Bool) → Sane Q (if b then Ok (with_list_of h s o (less x (members_of h.lists s o))) else Err faults.NotFiled)
    by true = keeps o (less x (members_of h.lists s o)) (λ y m. inr (less_in x (members_of h.lists s o) y m))
    by false = tt

-- a call that looks at a member and at an owner first
on_both : (Q : State → Type 0) (h : State) (s : ℕ) (o x : ℤ) (go : ℕ → ℕ → Result State FaultKind) → ((n m : ℕ) → MayJoin h s n → Sane Q (go n m)) → Sane Q (and_then (joiner h s x) (λ n. and_then (owner h s o) (λ m. go n m)))
on_both Q h s o x go g =
    sane_then Q (joiner h s x) (λ n. and_then (owner h s o) (λ m. go n m)) (joins h s x) (λ n known.
    sane_then Q (owner h s o) (λ m. go n m) (any_sane (owner h s o)) (λ m v. g n m known))

pub first_sane : (Q : State → Type 0) (h : State) (s : ℕ) (o x : ℤ) → Keeps Q h s → Sane Q (filed_first h s o x)
first_sane Q h s o x keeps = on_both Q h s o x (λ n m. put_in (λ y l. y ∷ l) h s m n) (λ n m known. put_sane Q (λ y l. y ∷ l) puts_first h s m n known keeps)

pub last_sane : (Q : State → Type 0) (h : State) (s : ℕ) (o x : ℤ) → Keeps Q h s → Sane Q (filed_last h s o x)
last_sane Q h s o x keeps = on_both Q h s o x (λ n m. put_in (λ y l. l ++ y ∷ []) h s m n) (λ n m known. put_sane Q (λ y l. l ++ y ∷ []) puts_last h s m n known keeps)

pub before_sane : (Q : State → Type 0) (h : State) (s : ℕ) (o x y : ℤ) → Keeps Q h s → Sane Q (filed_before h s o x y)
before_sane Q h s o x y keeps =
    sane_then Q (joiner h s x) (λ n. and_then (joiner h s y) (λ k. and_then (owner h s o) (λ m. put_beside put_before h s m n k))) (joins h s x) (λ n known.
    on_both Q h s o y (λ k m. put_beside put_before h s m n k) (λ k m u. beside_sane Q put_before puts_before h s m n k known keeps))

pub after_sane : (Q : State → Type 0) (h : State) (s : ℕ) (o x y : ℤ) → Keeps Q h s → Sane Q (filed_after h s o x y)
after_sane Q h s o x y keeps =
    sane_then Q (joiner h s x) (λ n. and_then (joiner h s y) (λ k. and_then (owner h s o) (λ m. put_beside put_after h s m n k))) (joins h s x) (λ n known.
    on_both Q h s o y (λ k m. put_beside put_after h s m n k) (λ k m u. beside_sane Q put_after puts_after h s m n k known keeps))

pub removed_sane : (Q : State → Type 0) (h : State) (s : ℕ) (o x : ℤ) → Keeps Q h s → Sane Q (removed h s o x)
removed_sane Q h s o x keeps = on_both Q h s o x (λ n m. taken_out h s m n) (λ n m u. out_sane Q h s m n keeps)

pub filed_sane : (Q : State → Type 0) (h : State) (d : Discipline) (s : ℕ) (o x : ℤ) → Keeps Q h s → Sane Q (filed h d s o x)
filed_sane Q h Fifo s o x keeps = last_sane Q h s o x keeps
filed_sane Q h Lifo s o x keeps = first_sane Q h s o x keeps
filed_sane Q h (Ranked ks) s o x keeps =
    on_both Q h s o x (λ n m. put_in (put_ranked h (member_class h.layout s) ks) h s m n) (λ n m known. put_sane Q (put_ranked h (member_class h.layout s) ks) (puts_ranked h (member_class h.layout s) ks) h s m n known keeps)

take_sane : (Q : State → Type 0) (h : State) (s : ℕ) (o z : ℤ) → Keeps Q h s → Sane (λ (r : ℤ × State). Q r.1) (take h s o z)
take_sane Q h s o (pos zero) keeps = tt
take_sane Q h s o (pos (suc n)) keeps = sane_then (λ (r : ℤ × State). Q r.1) (removed h s o (pos (suc n))) (λ t. Ok (pos (suc n), t)) (removed_sane Q h s o (pos (suc n)) keeps) (λ t g. g)
take_sane Q h s o (negsuc k) keeps = sane_then (λ (r : ℤ × State). Q r.1) (removed h s o (negsuc k)) (λ t. Ok (negsuc k, t)) (removed_sane Q h s o (negsuc k) keeps) (λ t g. g)

pub end_sane : (Q : State → Type 0) (end : End) (h : State) (s : ℕ) (o : ℤ) → Keeps Q h s → Sane (λ (r : ℤ × State). Q r.1) (end_removed end h s o)
end_sane Q ends.First h s o keeps = sane_then (λ (r : ℤ × State). Q r.1) (first_in h s o) (take h s o) (any_sane (first_in h s o)) (λ z u. take_sane Q h s o z keeps)
end_sane Q ends.Last h s o keeps = sane_then (λ (r : ℤ × State). Q r.1) (last_in h s o) (take h s o) (any_sane (last_in h s o)) (λ z u. take_sane Q h s o z keeps)

-- ## A heap that fits

relisted : (h : State) (ms : List Members) → IsFittingHeap h → Changed h (record h { lists = ms })
relisted h ms f = (f, record { layout = refl; living = lives; made = λ k. refl })
  where
    lives : (x : ℤ) → living (record h { lists = ms }) x ≡ living h x
    lives (pos zero) = refl
    lives (pos (suc j)) = refl
    lives (negsuc k) = refl

pub keeps_fit : (h : State) (s : ℕ) → IsFittingHeap h → Keeps (Changed h) h s
keeps_fit h s f o l known = relisted h (with_list_of h s o l).lists f
