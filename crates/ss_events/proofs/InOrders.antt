-- Entries in the order of scheduling: the same list for every order in which a heap may hold them.
use Rattle.std.proofs.Common.{◌≡◌, ◌≢◌, ℕ, zero, suc, ◌+◌, ◌<◌, ◌≤◌, nat_eq, map, false, List, [], ◌∷◌, ◌++◌, length, get_or, refl, sym, ap, subst, ◌∙◌, ◌⊎◌, ⊎_elim, inl, inr, arith, Contains}
use Rattle.std.specs.List.{IsDistinct, AllByRecursion}
use Rattle.ss_events.proofs.Common.{All, cases_lt, Entry, int_eq, notices_of, IsDistinct-head, IsDistinct-IsPermutation, IsDistinct-tail, IsPermutation, IsPermutation-cons, IsPermutation-sym, IsPermutation-trans, nat_tests}
use Rattle.std.proofs.lemmas.List.Elements.{All-nil, All-cons, All-tail, All-contains}
use Rattle.std.proofs.lemmas.List.Sorted.{All-permutation, Contains-permutation, IsPermutation-map, IsPermutation-refl}
use Rattle.std.specs.Cmp.{int_eq_equiv, nat_eq_equiv}
use Rattle.ss_events_entries.proofs.HeadsAndFollowers.{swap_two}
use Rattle.ss_events.specs.InOrder.{put_in_order, in_order, numbers_of}

-- ---- putting one in order

pub put_first : (e f : Entry) (fs : List Entry) → e.number < f.number → put_in_order e (f ∷ fs) ≡ e ∷ f ∷ fs
put_first e f fs lt = grind (arith, nat_tests)

pub put_later : (e f : Entry) (fs : List Entry) → f.number ≤ e.number → put_in_order e (f ∷ fs) ≡ f ∷ put_in_order e fs
put_later e f fs le = grind (arith, nat_tests)

put_permutes : (e : Entry) (es : List Entry) → IsPermutation (e ∷ es) (put_in_order e es)
put_permutes e [] = IsPermutation-refl (e ∷ [])
put_permutes e (f ∷ fs) = ⊎_elim
    (λ lt. subst (IsPermutation (e ∷ f ∷ fs)) (sym (put_first e f fs lt)) (IsPermutation-refl (e ∷ f ∷ fs)))
    (λ le. subst (IsPermutation (e ∷ f ∷ fs)) (sym (put_later e f fs le))
    (IsPermutation-trans (e ∷ f ∷ fs) (f ∷ e ∷ fs) (f ∷ put_in_order e fs) (swap_two e f fs) (IsPermutation-cons f (e ∷ fs) (put_in_order e fs) (put_permutes e fs))))
    (cases_lt e.number f.number)

pub permutes : (es : List Entry) → IsPermutation es (in_order es)
unfolding in_order
permutes [] = IsPermutation-refl []
permutes (e ∷ es) = IsPermutation-trans (e ∷ es) (e ∷ in_order es) (put_in_order e (in_order es)) (IsPermutation-cons e es (in_order es) (permutes es)) (put_permutes e (in_order es))

-- an entry with the greatest number goes last
pub put_last : (e : Entry) (es : List Entry) → All (λ x. x.number < e.number) es → put_in_order e es ≡ es ++ e ∷ []
put_last e [] h = refl
put_last e (f ∷ fs) h =
    let first : f.number < e.number = h 0 f (omega arith) in
    put_later e f fs (omega arith) ∙ ap (λ l. f ∷ l) (put_last e fs (All-tail (λ x. x.number < e.number) f fs h))

-- ---- the numbers rise

-- each comes before those after it
abbrev pub Rising : List Entry → Type 0
Rising [] = Unit {0}
Rising (e ∷ es) = All (λ x. e.number < x.number) es × Rising es

rising-put_in_order : (e : Entry) (es : List Entry) → Rising es → All (λ x. nat_eq e.number x.number ≡ false) es → Rising (put_in_order e es)
rising-put_in_order e [] r apart = (All-nil (λ x. e.number < x.number), tt)
rising-put_in_order e (f ∷ fs) r apart = ⊎_elim
    (λ lt. subst Rising (sym (put_first e f fs lt)) (All-cons (λ x. e.number < x.number) f fs lt (λ k d within. omega (arith, r.0 k d within)), r))
    (λ le.
    let other : f.number ≢ e.number = (let t = apart 0 f (omega arith) in grind (arith, nat_tests)) in
    subst Rising (sym (put_later e f fs le)) (
      All-permutation (λ x. f.number < x.number) (e ∷ fs) (put_in_order e fs) (put_permutes e fs) (All-cons (λ x. f.number < x.number) e fs (omega arith) r.0),
      rising-put_in_order e fs r.1 (All-tail (λ x. nat_eq e.number x.number ≡ false) f fs apart),
    ))
    (cases_lt e.number f.number)

-- from a fact of what is read of each
pub all_of_map : {Y : Type 0} (P : Y → Type 0) (f : Entry → Y) (es : List Entry) → AllByRecursion P (map f es) → All (λ x. P (f x)) es
all_of_map P f [] a = All-nil (λ x. P (f x))
all_of_map P f (e ∷ es) a = All-cons (λ x. P (f x)) e es a.0 (all_of_map P f es a.1)

pub rising-in_order : (es : List Entry) → IsDistinct nat_eq (numbers_of es) → Rising (in_order es)
unfolding in_order
rising-in_order [] d = tt
rising-in_order (e ∷ es) d = rising-put_in_order e (in_order es) (rising-in_order es (IsDistinct-tail nat_eq e.number (numbers_of es) d))
    (All-permutation (λ x. nat_eq e.number x.number ≡ false) es (in_order es) (permutes es) (all_of_map (λ m. nat_eq e.number m ≡ false) (λ x. x.number) es (IsDistinct-head nat_eq e.number (numbers_of es) d)))

-- ---- rising lists of the same entries are one list

-- what isn't the first is one of the others
in_tail : (x y : Entry) (ys : List Entry) (k : ℕ) → k < length (y ∷ ys) → get_or (y ∷ ys) k x ≡ x → (x ≡ y) ⊎ Contains ys x
in_tail x y ys zero within is = inl (sym is)
in_tail x y ys (suc k) within is = inr (k, omega (arith, within), is)

same_heads : (x y : Entry) (xs ys : List Entry) → Rising (x ∷ xs) → Rising (y ∷ ys) → Contains (y ∷ ys) x → Contains (x ∷ xs) y → x ≡ y
same_heads x y xs ys r s m n = ⊎_elim (λ is. is)
    (λ ahead. ⊎_elim (λ is. sym is)
    (λ behind. absurd (omega (arith, All-contains (λ z. y.number < z.number) ys x s.0 ahead, All-contains (λ z. x.number < z.number) xs y r.0 behind)))
    (in_tail y x xs n.0 n.1 n.2))
    (in_tail x y ys m.0 m.1 m.2)

-- an entry that isn't the first comes after it
following : (x : Entry) (xs ys : List Entry) (e : Entry) → Rising (x ∷ xs) → Contains xs e → Contains (x ∷ ys) e → Contains ys e
following x xs ys e r m n = ⊎_elim (λ is. absurd (omega (arith, ap (λ z. z.number) is, All-contains (λ z. x.number < z.number) xs e r.0 m))) (λ rest. rest) (in_tail e x ys n.0 n.1 n.2)

same_rising : (xs ys : List Entry) → Rising xs → Rising ys → ((e : Entry) → Contains xs e → Contains ys e) → ((e : Entry) → Contains ys e → Contains xs e) → xs ≡ ys
same_rising [] [] r s f g = refl
same_rising [] (y ∷ ys) r s f g = let m = g y (0, omega arith, refl) in absurd (omega (arith, m.1))
same_rising (x ∷ xs) [] r s f g = let m = f x (0, omega arith, refl) in absurd (omega (arith, m.1))
same_rising (x ∷ xs) (y ∷ ys) r s f g =
    let is = same_heads x y xs ys r s (f x (0, omega arith, refl)) (g y (0, omega arith, refl)) in
    let s' : Rising (x ∷ ys) = subst (λ z. Rising (z ∷ ys)) (sym is) s in
    (λ i. is i ∷ same_rising xs ys r.1 s.1
    (λ e m. following x xs ys e r m (subst (λ z. Contains (z ∷ ys) e) (sym is) (f e (suc m.0, omega (arith, m.1), m.2))))
    (λ e m. following x ys xs e s' m (g e (suc m.0, omega (arith, m.1), m.2))) i)

-- entries of one number are one
pub one_each : (es : List Entry) (x y : Entry) → Rising es → Contains es x → Contains es y → x.number ≡ y.number → x ≡ y
one_each [] x y r m n e = absurd (omega (arith, m.1))
one_each (f ∷ fs) x y r m n e = ⊎_elim
    (λ is. ⊎_elim (λ same. is ∙ sym same) (λ later. absurd (omega (arith, ap (λ z. z.number) is, All-contains (λ z. f.number < z.number) fs y r.0 later))) (in_tail y f fs n.0 n.1 n.2))
    (λ rest. ⊎_elim (λ is. absurd (omega (arith, ap (λ z. z.number) is, All-contains (λ z. f.number < z.number) fs x r.0 rest))) (λ later. one_each fs x y r.1 rest later e) (in_tail y f fs n.0 n.1 n.2))
    (in_tail x f fs m.0 m.1 m.2)

-- ---- the order in which they are held doesn't matter

pub numbers-permutation : (xs ys : List Entry) → IsPermutation xs ys → IsDistinct nat_eq (numbers_of xs) → IsDistinct nat_eq (numbers_of ys)
numbers-permutation xs ys p d = IsDistinct-IsPermutation nat_eq nat_eq_equiv.symm (numbers_of xs) (numbers_of ys) (IsPermutation-map (λ e. e.number) xs ys p) d

pub notices-permutation : (xs ys : List Entry) → IsPermutation xs ys → IsDistinct int_eq (notices_of xs) → IsDistinct int_eq (notices_of ys)
notices-permutation xs ys p d = IsDistinct-IsPermutation int_eq int_eq_equiv.symm (notices_of xs) (notices_of ys) (IsPermutation-map (λ e. e.notice) xs ys p) d

pub in_order-permutation : (xs ys : List Entry) → IsDistinct nat_eq (numbers_of xs) → IsPermutation xs ys → in_order xs ≡ in_order ys
in_order-permutation xs ys d p =
    let q = IsPermutation-trans (in_order xs) xs (in_order ys) (IsPermutation-sym xs (in_order xs) (permutes xs)) (IsPermutation-trans xs ys (in_order ys) p (permutes ys)) in
    same_rising (in_order xs) (in_order ys) (rising-in_order xs d) (rising-in_order ys (numbers-permutation xs ys p d))
    (λ e. Contains-permutation (in_order xs) (in_order ys) e q)
    (λ e. Contains-permutation (in_order ys) (in_order xs) e (IsPermutation-sym (in_order xs) (in_order ys) q))
