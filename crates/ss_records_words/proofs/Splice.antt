-- A list with one member put in: first, last, what follows and what precedes.
use Rattle.std.proofs.Common.{append-nil, ◌≡◌, ℕ, ◌+◌, cond, ◌==◌, List, [], ◌∷◌, ◌++◌, length, ◌⊎◌, inl, inr, refl, sym, ap, subst, ◌∙◌, arith}
use Rattle.ss_world.specs.Lists.{head0, last_or, succ, pred_from, IsInList, IsNotInList, AreAllDistinct}
use Rattle.ss_records_blocks.proofs.Same.{same, differs, by_same}

-- what is not in a list is in no part of it
not_in_parts : (y : ℕ) (xs : List ℕ) (x : ℕ) (ys : List ℕ) → IsNotInList y (xs ++ x ∷ ys) → IsNotInList y xs × (x ≡ y → ⊥) × IsNotInList y ys
not_in_parts y [] x ys h = (tt, h.0, h.1)
not_in_parts y (z ∷ zs) x ys h = let r = not_in_parts y zs x ys h.1 in ((h.0, r.0), r.1, r.2)

pub not_in_mid : (y : ℕ) (xs : List ℕ) (x : ℕ) (ys : List ℕ) → IsNotInList y (xs ++ x ∷ ys) → (x ≡ y → ⊥)
not_in_mid y xs x ys h = (not_in_parts y xs x ys h).1

pub not_last : (y z : ℕ) (zs : List ℕ) → (z ≡ y → ⊥) → IsNotInList y zs → last_or z zs ≡ y → ⊥
not_last y z [] h n = h
not_last y z (w ∷ ws) h n = not_last y w ws n.0 n.1

pub not_head : (y : ℕ) (ys : List ℕ) → (0 ≡ y → ⊥) → IsNotInList y ys → head0 ys ≡ y → ⊥
not_head y [] h n = h
not_head y (z ∷ zs) h n = n.0

-- what follows y once x is between xs and ys
pub succ_splice : (y : ℕ) (xs : List ℕ) (x : ℕ) (ys : List ℕ) → (0 ≡ y → ⊥) → AreAllDistinct (xs ++ x ∷ ys)
    → succ y (xs ++ x ∷ ys) ≡ cond (x == y) (head0 ys) (cond (last_or 0 xs == y) x (succ y (xs ++ ys)))
succ_splice y [] x ys h d = rw (differs 0 y h) refl
succ_splice y (z ∷ []) x ys h d = by_same z y
    (λ e q. rw (e, differs x y (λ r. d.0.0 (r ∙ sym q))) refl)
    (λ e q. rw e refl)
succ_splice y (z ∷ w ∷ ws) x ys h d = by_same z y
    (λ e q. let n = subst (λ v. IsNotInList v (w ∷ ws ++ x ∷ ys)) q d.0 in
    rw (e, differs x y (not_in_mid y (w ∷ ws) x ys n), differs (last_or w ws) y (not_last y w ws n.0 (not_in_parts y ws x ys n.1).0)) refl)
    (λ e q. rw e (succ_splice y (w ∷ ws) x ys h d.1))

pub pred_splice : (p y : ℕ) (xs : List ℕ) (x : ℕ) (ys : List ℕ) → (0 ≡ y → ⊥) → AreAllDistinct (xs ++ x ∷ ys)
    → pred_from p y (xs ++ x ∷ ys) ≡ cond (x == y) (last_or p xs) (cond (head0 ys == y) x (pred_from p y (xs ++ ys)))
pred_splice p y [] x [] h d = rw (differs 0 y h) refl
pred_splice p y [] x (w ∷ ws) h d = by_same w y (λ e q. rw e refl) (λ e q. rw e refl)
pred_splice p y (z ∷ zs) x ys h d = by_same z y
    (λ e q. let n = subst (λ v. IsNotInList v (zs ++ x ∷ ys)) q d.0 in
    rw (e, differs x y (not_in_mid y zs x ys n), differs (head0 ys) y (not_head y ys h (not_in_parts y zs x ys n).2)) refl)
    (λ e q. rw e (pred_splice z y zs x ys h d.1))

pub in_left : (y : ℕ) (xs : List ℕ) (x : ℕ) (ys : List ℕ) → IsInList y (xs ++ ys) → IsInList y (xs ++ x ∷ ys)
in_left y [] x ys h = inr h
in_left y (z ∷ zs) x ys (inl e) = inl e
in_left y (z ∷ zs) x ys (inr h) = inr (in_left y zs x ys h)

pub in_mid : (xs : List ℕ) (x : ℕ) (ys : List ℕ) → IsInList x (xs ++ x ∷ ys)
in_mid [] x ys = inl refl
in_mid (z ∷ zs) x ys = inr (in_mid zs x ys)

-- a member of the longer list is x or a member of the shorter
pub in_splice : (y : ℕ) (xs : List ℕ) (x : ℕ) (ys : List ℕ) → IsInList y (xs ++ x ∷ ys) → (x ≡ y) ⊎ IsInList y (xs ++ ys)
in_splice y [] x ys h = h
in_splice y (z ∷ zs) x ys (inl e) = inr (inl e)
in_splice y (z ∷ zs) x ys (inr h) = elim (in_splice y zs x ys h) as (λ _. (x ≡ y) ⊎ IsInList y (z ∷ zs ++ ys)) [ inl e ↦ inl e | inr k ↦ inr (inr k) ]

pub not_and_in : (y : ℕ) (l : List ℕ) → IsNotInList y l → IsInList y l → ⊥
not_and_in y [] n h = absurd h
not_and_in y (z ∷ zs) n (inl e) = n.0 e
not_and_in y (z ∷ zs) n (inr h) = not_and_in y zs n.1 h

pub not_in : (y : ℕ) (l : List ℕ) → (IsInList y l → ⊥) → IsNotInList y l
not_in y [] h = tt
not_in y (z ∷ zs) h = ((λ e. h (inl e)), not_in y zs (λ k. h (inr k)))

pub last_in : (z : ℕ) (zs ys : List ℕ) → IsInList (last_or z zs) (z ∷ zs ++ ys)
last_in z [] ys = inl refl
last_in z (w ∷ ws) ys = inr (last_in w ws ys)

pub head_in : (xs : List ℕ) (z : ℕ) (zs : List ℕ) → IsInList z (xs ++ z ∷ zs)
head_in xs z zs = in_mid xs z zs

-- the neighbours of the place are members, or 0
pub before_in : (y : ℕ) (xs ys : List ℕ) → last_or 0 xs ≡ y → (0 ≡ y → ⊥) → IsInList y (xs ++ ys)
before_in y [] ys e h = absurd (h e)
before_in y (z ∷ zs) ys e h = subst (λ v. IsInList v (z ∷ zs ++ ys)) e (last_in z zs ys)

pub after_in : (y : ℕ) (xs ys : List ℕ) → head0 ys ≡ y → (0 ≡ y → ⊥) → IsInList y (xs ++ ys)
after_in y xs [] e h = absurd (h e)
after_in y xs (z ∷ zs) e h = subst (λ v. IsInList v (xs ++ z ∷ zs)) e (head_in xs z zs)

pub distinct_splice : (xs : List ℕ) (x : ℕ) (ys : List ℕ) → AreAllDistinct (xs ++ ys) → IsNotInList x (xs ++ ys) → AreAllDistinct (xs ++ x ∷ ys)
distinct_splice [] x ys d n = (n, d)
distinct_splice (z ∷ zs) x ys d n = (not_in z (zs ++ x ∷ ys) (λ h. elim (in_splice z zs x ys h) as (λ _. ⊥) [ inl e ↦ n.0 (sym e) | inr k ↦ not_and_in z (zs ++ ys) d.0 k ]), distinct_splice zs x ys d.1 n.1)

pub distinct_less : (xs : List ℕ) (x : ℕ) (ys : List ℕ) → AreAllDistinct (xs ++ x ∷ ys) → AreAllDistinct (xs ++ ys) × IsNotInList x (xs ++ ys)
distinct_less [] x ys d = (d.1, d.0)
distinct_less (z ∷ zs) x ys d = let r = distinct_less zs x ys d.1 in
    ((not_in z (zs ++ ys) (λ h. not_and_in z (zs ++ x ∷ ys) d.0 (in_left z zs x ys h)), r.0), ((λ e. not_in_mid z zs x ys d.0 (sym e)), r.1))

pub length_splice : (xs : List ℕ) (x : ℕ) (ys : List ℕ) → length (xs ++ x ∷ ys) ≡ length (xs ++ ys) + 1
length_splice [] x ys = omega arith
length_splice (z ∷ zs) x ys = omega (arith, length_splice zs x ys)

pub last_splice : (p : ℕ) (xs : List ℕ) (x : ℕ) (ys : List ℕ) → last_or p (xs ++ x ∷ ys) ≡ last_or x ys
last_splice p [] x ys = refl
last_splice p (z ∷ zs) x ys = last_splice z zs x ys

in_part : (xs ys : List ℕ) → IsNotInList 0 (xs ++ ys) → IsNotInList 0 xs
in_part [] ys n = tt
in_part (z ∷ zs) ys n = (n.0, in_part zs ys n.1)

pub head_splice : (xs : List ℕ) (x : ℕ) (ys : List ℕ) → IsNotInList 0 (xs ++ ys) → head0 (xs ++ x ∷ ys) ≡ cond (last_or 0 xs == 0) x (head0 (xs ++ ys))
head_splice [] x ys n = refl
head_splice (z ∷ zs) x ys n = rw (differs (last_or z zs) 0 (not_last 0 z zs n.0 (in_part zs ys n.1))) refl

pub tail_splice : (xs : List ℕ) (x : ℕ) (ys : List ℕ) → IsNotInList 0 (xs ++ ys) → last_or 0 (xs ++ x ∷ ys) ≡ cond (head0 ys == 0) x (last_or 0 (xs ++ ys))
tail_splice xs x [] n = last_splice 0 xs x []
tail_splice xs x (w ∷ ws) n = rw (differs w 0 (not_in_mid 0 xs w ws n)) (last_splice 0 xs x (w ∷ ws) ∙ sym (last_splice 0 xs w ws))

pub head_less : (xs : List ℕ) (x : ℕ) (ys : List ℕ) → IsNotInList 0 (xs ++ ys) → head0 (xs ++ ys) ≡ cond (last_or 0 xs == 0) (head0 ys) (head0 (xs ++ x ∷ ys))
head_less [] x ys n = refl
head_less (z ∷ zs) x ys n = rw (differs (last_or z zs) 0 (not_last 0 z zs n.0 (in_part zs ys n.1))) refl

pub tail_less : (xs : List ℕ) (x : ℕ) (ys : List ℕ) → IsNotInList 0 (xs ++ ys) → last_or 0 (xs ++ ys) ≡ cond (head0 ys == 0) (last_or 0 xs) (last_or 0 (xs ++ x ∷ ys))
tail_less xs x [] n = ap (last_or 0) (append-nil xs)
tail_less xs x (w ∷ ws) n = rw (differs w 0 (not_in_mid 0 xs w ws n)) (last_splice 0 xs w ws ∙ sym (last_splice 0 xs x (w ∷ ws)))

pub succ_last : (y : ℕ) (xs ys : List ℕ) → last_or 0 xs ≡ y → (0 ≡ y → ⊥) → AreAllDistinct (xs ++ ys) → succ y (xs ++ ys) ≡ head0 ys
succ_last y [] ys e h d = absurd (h e)
succ_last y (z ∷ []) ys e h d = rw (e, same y) refl
succ_last y (z ∷ w ∷ ws) ys e h d = rw (differs z y (λ q. not_and_in z (w ∷ ws ++ ys) d.0 (subst (λ v. IsInList v (w ∷ ws ++ ys)) (e ∙ sym q) (last_in w ws ys)))) (succ_last y (w ∷ ws) ys e h d.1)

pub pred_head : (p y : ℕ) (xs ys : List ℕ) → head0 ys ≡ y → (0 ≡ y → ⊥) → AreAllDistinct (xs ++ ys) → pred_from p y (xs ++ ys) ≡ last_or p xs
pred_head p y [] [] e h d = absurd (h e)
pred_head p y [] (w ∷ ws) e h d = rw (e, same y) refl
pred_head p y (z ∷ zs) ys e h d = rw (differs z y (λ q. not_and_in z (zs ++ ys) d.0 (subst (λ v. IsInList v (zs ++ ys)) (sym q) (after_in y zs ys e h)))) (pred_head z y zs ys e h d.1)

pub in_or_not : (y : ℕ) (l : List ℕ) → IsInList y l ⊎ IsNotInList y l
in_or_not y [] = inr tt
in_or_not y (z ∷ zs) = by_same z y (λ e q. inl (inl q)) (λ e n. elim (in_or_not y zs) as (λ _. IsInList y (z ∷ zs) ⊎ IsNotInList y (z ∷ zs)) [ inl h ↦ inl (inr h) | inr k ↦ inr (n, k) ])

pub head_is : (l : List ℕ) → (head0 l ≡ 0) ⊎ IsInList (head0 l) l
head_is [] = inl refl
head_is (z ∷ zs) = inr (inl refl)

pub last_is : (p : ℕ) (l : List ℕ) → (last_or p l ≡ p) ⊎ IsInList (last_or p l) l
last_is p [] = inl refl
last_is p (z ∷ zs) = elim (last_is z zs) as (λ _. (last_or z zs ≡ p) ⊎ IsInList (last_or z zs) (z ∷ zs)) [ inl e ↦ inr (inl (sym e)) | inr h ↦ inr (inr h) ]

-- what follows a member is a member or 0, and is not that member
pub succ_is : (y : ℕ) (l : List ℕ) → IsInList y l → (succ y l ≡ 0) ⊎ IsInList (succ y l) l
succ_is y [] h = absurd h
succ_is y (z ∷ zs) h = by_same z y
    (λ e q. let is : succ y (z ∷ zs) ≡ head0 zs = rw e refl in subst (λ v. (v ≡ 0) ⊎ IsInList v (z ∷ zs)) (sym is) (elim (head_is zs) as (λ _. (head0 zs ≡ 0) ⊎ IsInList (head0 zs) (z ∷ zs)) [ inl i ↦ inl i | inr i ↦ inr (inr i) ]))
    (λ e n. let is : succ y (z ∷ zs) ≡ succ y zs = rw e refl in subst (λ v. (v ≡ 0) ⊎ IsInList v (z ∷ zs)) (sym is)
    (elim (succ_is y zs (elim h as (λ _. IsInList y zs) [ inl i ↦ absurd (n i) | inr i ↦ i ])) as (λ _. (succ y zs ≡ 0) ⊎ IsInList (succ y zs) (z ∷ zs)) [ inl i ↦ inl i | inr i ↦ inr (inr i) ]))

pub succ_differs : (y : ℕ) (l : List ℕ) → IsInList y l → AreAllDistinct l → (0 ≡ y → ⊥) → succ y l ≡ y → ⊥
succ_differs y [] h d n = λ e. h
succ_differs y (z ∷ zs) h d n = by_same z y
    (λ e q. rw e (λ i. not_head y zs n (subst (λ v. IsNotInList v zs) q d.0) i))
    (λ e m. rw e (λ i. succ_differs y zs (elim h as (λ _. IsInList y zs) [ inl j ↦ absurd (m j) | inr j ↦ j ]) d.1 n i))

-- a member cuts its list in two
pub cut : (x : ℕ) (l : List ℕ) → IsInList x l → (xs : List ℕ) × (ys : List ℕ) × (l ≡ xs ++ x ∷ ys)
cut x [] h = absurd h
cut x (z ∷ zs) (inl e) = ([], zs, ap (λ v. v ∷ zs) e)
cut x (z ∷ zs) (inr h) = let r = cut x zs h in (z ∷ r.0, r.1, ap (λ l. z ∷ l) r.2)

-- the neighbours of the member where a list is cut
pub succ_cut : (xs : List ℕ) (x : ℕ) (ys : List ℕ) → (0 ≡ x → ⊥) → AreAllDistinct (xs ++ x ∷ ys) → succ x (xs ++ x ∷ ys) ≡ head0 ys
succ_cut xs x ys h d = rw (succ_splice x xs x ys h d, same x) refl

pub pred_cut : (xs : List ℕ) (x : ℕ) (ys : List ℕ) → (0 ≡ x → ⊥) → AreAllDistinct (xs ++ x ∷ ys) → pred_from 0 x (xs ++ x ∷ ys) ≡ last_or 0 xs
pred_cut xs x ys h d = rw (pred_splice 0 x xs x ys h d, same x) refl

-- what precedes a member is a member or p
pub pred_is : (p y : ℕ) (l : List ℕ) → IsInList y l → (pred_from p y l ≡ p) ⊎ IsInList (pred_from p y l) l
pred_is p y [] h = absurd h
pred_is p y (z ∷ zs) h = by_same z y
    (λ e q. let is : pred_from p y (z ∷ zs) ≡ p = rw e refl in inl is)
    (λ e n. let is : pred_from p y (z ∷ zs) ≡ pred_from z y zs = rw e refl in subst (λ v. (v ≡ p) ⊎ IsInList v (z ∷ zs)) (sym is)
    (elim (pred_is z y zs (elim h as (λ _. IsInList y zs) [ inl i ↦ absurd (n i) | inr i ↦ i ])) as (λ _. (pred_from z y zs ≡ p) ⊎ IsInList (pred_from z y zs) (z ∷ zs)) [ inl i ↦ inr (inl (sym i)) | inr i ↦ inr (inr i) ]))
