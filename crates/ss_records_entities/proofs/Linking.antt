-- Linking a member in and taking one out keeps the words in step with the lists.
use Rattle.std.proofs.Common.{◌≡◌, ℕ, ◌+◌, ◌-◌, true, false, cond, ◌==◌, List, ◌∷◌, ◌++◌, length, ◌⊎◌, inl, inr, refl, sym, ap, subst, ◌∙◌, arith}
use denote.RawPtr.{Ptr}
use Rattle.ss_records_entities.proofs.Common.{AreAllDistinct, AreShowing, by_same, counter, differs, head0, IsInList, IsLinkedIn, IsNotInList, IsUnlinked, last_or, link, pred_from, same, succ, with_list, Words}
use Rattle.ss_records_words.proofs.Splice.{after_in, before_in, distinct_less, in_left, in_mid, length_splice, not_and_in, not_in, succ_splice, pred_splice, in_splice, distinct_splice, head_splice, tail_splice, not_in_mid, head_less, tail_less, succ_last, pred_head}

module _ (m m' : Words) (at home : ℕ → Ptr) (alive owns : ℕ → Type 0) (f : ℕ → List ℕ) (o x : ℕ) (xs ys : List ℕ) where
  abbrev a : ℕ
  a = last_or 0 xs

  abbrev b : ℕ
  b = head0 ys

  abbrev g : ℕ → List ℕ
  g = with_list f o (xs ++ x ∷ ys)

  module _ (s : AreShowing m at home alive owns f) (was : f o ≡ xs ++ ys) (lives : alive x) (some : 0 ≡ x → ⊥) (lo : owns o) (free : (p : ℕ) → IsNotInList x (f p)) (k : IsLinkedIn m m' at home alive owns o a x b (length (f o))) where
    in_old : (y : ℕ) → IsInList y (xs ++ ys) → IsInList y (f o)
    in_old y h = subst (λ l. IsInList y l) (sym was) h

    fresh : IsNotInList x (xs ++ ys)
    fresh = subst (λ l. IsNotInList x l) was (free o)

    dist : AreAllDistinct (xs ++ x ∷ ys)
    dist = distinct_splice xs x ys (subst AreAllDistinct was (s.distinct o)) fresh

    a_is_not_x : a ≡ x → ⊥
    a_is_not_x e = not_and_in x (xs ++ ys) fresh (before_in x xs ys e some)

    b_is_not_x : b ≡ x → ⊥
    b_is_not_x e = not_and_in x (xs ++ ys) fresh (after_in x xs ys e some)

    -- a member of another list is neither x nor a neighbour
    not_x : (p y : ℕ) → IsInList y (f p) → x ≡ y → ⊥
    not_x p y h e = not_and_in x (f p) (free p) (subst (λ v. IsInList v (f p)) (sym e) h)

    not_a : (p y : ℕ) → (o ≡ p → ⊥) → IsInList y (f p) → a ≡ y → ⊥
    not_a p y other h e = other (s.sole o p y (in_old y (before_in y xs ys e (s.members p y h).1)) h)

    not_b : (p y : ℕ) → (o ≡ p → ⊥) → IsInList y (f p) → b ≡ y → ⊥
    not_b p y other h e = other (s.sole o p y (in_old y (after_in y xs ys e (s.members p y h).1)) h)

    members : (p y : ℕ) → IsInList y (g p) → alive y × (0 ≡ y → ⊥) × owns p
    members p y = by_same o p
        (λ e q. rw e (λ h. elim (in_splice y xs x ys h) as (λ _. alive y × (0 ≡ y → ⊥) × owns p) [
          | inl i ↦ (subst alive i lives, subst (λ v. 0 ≡ v → ⊥) i some, subst owns q lo)
          | inr j ↦ let r = s.members o y (in_old y j) in (r.0, r.1, subst owns q r.2)
        ]))
        (λ e q. rw e (λ h. s.members p y h))

    -- a member of the longer list other than x is one of the shorter
    rest : (y : ℕ) → (x ≡ y → ⊥) → IsInList y (xs ++ x ∷ ys) → IsInList y (xs ++ ys)
    rest y n h = elim (in_splice y xs x ys h) as (λ _. IsInList y (xs ++ ys)) [ inl e ↦ absurd (n e) | inr j ↦ j ]

    none0 : IsNotInList 0 (xs ++ ys)
    none0 = not_in 0 (xs ++ ys) (λ h. (s.members o 0 (in_old 0 h)).1 refl)

    first : (p : ℕ) → owns p → m'.first p ≡ link (at (head0 (g p)))
    first p al = by_same o p
        (λ e q. rw (k.first p al, e, head_splice xs x ys none0) (elim (a == 0) as (λ t. cond t (link (at x)) (m.first p) ≡ link (at (cond t x (head0 (xs ++ ys))))) [
          | true ↦ refl
          | false ↦ subst (λ v. m.first v ≡ link (at (head0 (xs ++ ys)))) q (s.first o lo ∙ ap (λ l. link (at (head0 l))) was)
        ]))
        (λ e q. rw (k.first p al, e) (elim (a == 0) as (λ t. cond t (m.first p) (m.first p) ≡ link (at (head0 (f p)))) [ true ↦ s.first p al | false ↦ s.first p al ]))

    last : (p : ℕ) → owns p → m'.last p ≡ link (at (last_or 0 (g p)))
    last p al = by_same o p
        (λ e q. rw (k.last p al, e, tail_splice xs x ys none0) (elim (b == 0) as (λ t. cond t (link (at x)) (m.last p) ≡ link (at (cond t x (last_or 0 (xs ++ ys))))) [
          | true ↦ refl
          | false ↦ subst (λ v. m.last v ≡ link (at (last_or 0 (xs ++ ys)))) q (s.last o lo ∙ ap (λ l. link (at (last_or 0 l))) was)
        ]))
        (λ e q. rw (k.last p al, e) (elim (b == 0) as (λ t. cond t (m.last p) (m.last p) ≡ link (at (last_or 0 (f p)))) [ true ↦ s.last p al | false ↦ s.last p al ]))

    count : (p : ℕ) → owns p → m'.count p ≡ counter (length (g p))
    count p al = by_same o p
        (λ e q. rw (k.count p al, e, length_splice xs x ys) (ap (λ l. counter (length l + 1)) was))
        (λ e q. rw (k.count p al, e) (s.count p al))

    next : (p y : ℕ) → IsInList y (g p) → m'.next y ≡ link (at (succ y (g p)))
    next p y h = let r = members p y h in by_same o p
        (λ e q. rw (k.next y r.0 r.1, e, succ_splice y xs x ys r.1 dist) (by_same x y
        (λ e' q'. rw (e', differs a y (λ i. a_is_not_x (i ∙ sym q'))) refl)
        (λ e' n'. rw e' (elim (a == y) as (λ t. cond t (link (at x)) (m.next y) ≡ link (at (cond t x (succ y (xs ++ ys))))) [
          | true ↦ refl
          | false ↦ s.next o y (in_old y (rest y n' (subst (λ l. IsInList y l) (ap (λ t. cond t (xs ++ x ∷ ys) (f p)) e) h))) ∙ ap (λ l. link (at (succ y l))) was
        ]))))
        (λ e n. let h' = subst (λ l. IsInList y l) (ap (λ t. cond t (xs ++ x ∷ ys) (f p)) e) h in
        rw (k.next y r.0 r.1, e, differs a y (not_a p y n h'), differs x y (not_x p y h')) (s.next p y h'))

    prev : (p y : ℕ) → IsInList y (g p) → m'.prev y ≡ link (at (pred_from 0 y (g p)))
    prev p y h = let r = members p y h in by_same o p
        (λ e q. rw (k.prev y r.0 r.1, e, pred_splice 0 y xs x ys r.1 dist) (by_same x y
        (λ e' q'. rw (e', differs b y (λ i. b_is_not_x (i ∙ sym q'))) refl)
        (λ e' n'. rw e' (elim (b == y) as (λ t. cond t (link (at x)) (m.prev y) ≡ link (at (cond t x (pred_from 0 y (xs ++ ys))))) [
          | true ↦ refl
          | false ↦ s.prev o y (in_old y (rest y n' (subst (λ l. IsInList y l) (ap (λ t. cond t (xs ++ x ∷ ys) (f p)) e) h))) ∙ ap (λ l. link (at (pred_from 0 y l))) was
        ]))))
        (λ e n. let h' = subst (λ l. IsInList y l) (ap (λ t. cond t (xs ++ x ∷ ys) (f p)) e) h in
        rw (k.prev y r.0 r.1, e, differs b y (not_b p y n h'), differs x y (not_x p y h')) (s.prev p y h'))

    owner : (p y : ℕ) → IsInList y (g p) → m'.owner y ≡ link (home p)
    owner p y h = let r = members p y h in by_same o p
        (λ e q. rw (k.owner y r.0) (by_same x y
        (λ e' q'. rw e' (ap (λ v. link (home v)) q))
        (λ e' n'. rw e' (s.owner o y (in_old y (rest y n' (subst (λ l. IsInList y l) (ap (λ t. cond t (xs ++ x ∷ ys) (f p)) e) h))) ∙ ap (λ v. link (home v)) q))))
        (λ e n. let h' = subst (λ l. IsInList y l) (ap (λ t. cond t (xs ++ x ∷ ys) (f p)) e) h in
        rw (k.owner y r.0, differs x y (not_x p y h')) (s.owner p y h'))

    unfiled : (y : ℕ) → alive y → (0 ≡ y → ⊥) → ((p : ℕ) → IsNotInList y (g p)) → (m'.next y ≡ link (at y)) × (m'.prev y ≡ link (at y)) × (m'.owner y ≡ link (at y))
    unfiled y al pos out =
        let here : IsNotInList y (xs ++ x ∷ ys) = subst (λ t. IsNotInList y (cond t (xs ++ x ∷ ys) (f o))) (same o) (out o) in
        let ne : x ≡ y → ⊥ = not_in_mid y xs x ys here in
        let less : (h : IsInList y (xs ++ ys)) → ⊥ = λ h. not_and_in y (xs ++ x ∷ ys) here (in_left y xs x ys h) in
        let old : (p : ℕ) → IsNotInList y (f p) = λ p. by_same o p
        (λ e q. subst (λ v. IsNotInList y (f v)) q (not_in y (f o) (λ h. less (subst (λ l. IsInList y l) was h))))
        (λ e n. subst (λ t. IsNotInList y (cond t (xs ++ x ∷ ys) (f p))) e (out p)) in
        let w = s.unfiled y al pos old in (
          rw (k.next y al pos, differs a y (λ i. less (before_in y xs ys i pos)), differs x y ne) w.0,
          rw (k.prev y al pos, differs b y (λ i. less (after_in y xs ys i pos)), differs x y ne) w.1,
          rw (k.owner y al, differs x y ne) w.2,
        )

    dists : (p : ℕ) → AreAllDistinct (g p)
    dists p = by_same o p (λ e q. rw e dist) (λ e n. rw e (s.distinct p))

    -- a member of a list of g is x, in the list of o, or was in that list of f
    was_in : (p y : ℕ) → IsInList y (g p) → ((x ≡ y) × (o ≡ p)) ⊎ IsInList y (f p)
    was_in p y h = by_same o p
        (λ e q. elim (in_splice y xs x ys (subst (λ l. IsInList y l) (ap (λ t. cond t (xs ++ x ∷ ys) (f p)) e) h)) as (λ _. ((x ≡ y) × (o ≡ p)) ⊎ IsInList y (f p)) [ inl i ↦ inl (i, q) | inr j ↦ inr (subst (λ v. IsInList y (f v)) q (in_old y j)) ])
        (λ e n. inr (subst (λ l. IsInList y l) (ap (λ t. cond t (xs ++ x ∷ ys) (f p)) e) h))

    sole : (p r y : ℕ) → IsInList y (g p) → IsInList y (g r) → p ≡ r
    sole p r y h j = elim (was_in p y h) as (λ _. p ≡ r) [
      | inl u ↦ elim (was_in r y j) as (λ _. p ≡ r) [ inl v ↦ sym u.1 ∙ v.1 | inr v ↦ absurd (not_x r y v u.0) ]
      | inr u ↦ elim (was_in r y j) as (λ _. p ≡ r) [ inl v ↦ absurd (not_x p y u v.0) | inr v ↦ s.sole p r y u v ]
    ]

    pub any_linked : AreShowing m' at home alive owns g
    any_linked = record { first = first; last = last; count = count; next = next; prev = prev; owner = owner; unfiled = unfiled; members = members; distinct = dists; sole = sole }

module _ (m m' : Words) (at home : ℕ → Ptr) (alive owns : ℕ → Type 0) (f : ℕ → List ℕ) (o x : ℕ) (xs ys : List ℕ) where
  abbrev c : ℕ
  c = last_or 0 xs

  abbrev d : ℕ
  d = head0 ys

  abbrev h : ℕ → List ℕ
  h = with_list f o (xs ++ ys)

  module _ (s : AreShowing m at home alive owns f) (was : f o ≡ xs ++ x ∷ ys) (k : IsUnlinked m m' at home alive owns o c x d (length (f o))) where
    in_old' : (y : ℕ) → IsInList y (xs ++ x ∷ ys) → IsInList y (f o)
    in_old' y j = subst (λ l. IsInList y l) (sym was) j

    kept : (y : ℕ) → IsInList y (xs ++ ys) → IsInList y (f o)
    kept y j = in_old' y (in_left y xs x ys j)

    its : alive x × (0 ≡ x → ⊥) × owns o
    its = s.members o x (in_old' x (in_mid xs x ys))

    apart : AreAllDistinct (xs ++ ys) × IsNotInList x (xs ++ ys)
    apart = distinct_less xs x ys (subst AreAllDistinct was (s.distinct o))

    c_is_not_x : c ≡ x → ⊥
    c_is_not_x e = not_and_in x (xs ++ ys) apart.1 (before_in x xs ys e its.1)

    d_is_not_x : d ≡ x → ⊥
    d_is_not_x e = not_and_in x (xs ++ ys) apart.1 (after_in x xs ys e its.1)

    -- a member of a list of h was one of f, and is not x
    was_in' : (p y : ℕ) → IsInList y (h p) → IsInList y (f p) × (x ≡ y → ⊥)
    was_in' p y j = by_same o p
        (λ e q. let i = subst (λ l. IsInList y l) (ap (λ t. cond t (xs ++ ys) (f p)) e) j in (subst (λ v. IsInList y (f v)) q (kept y i), λ z. not_and_in x (xs ++ ys) apart.1 (subst (λ v. IsInList v (xs ++ ys)) (sym z) i)))
        (λ e n. let i = subst (λ l. IsInList y l) (ap (λ t. cond t (xs ++ ys) (f p)) e) j in (i, λ z. n (s.sole o p y (in_old' y (subst (λ v. IsInList v (xs ++ x ∷ ys)) z (in_mid xs x ys))) i)))

    none0' : IsNotInList 0 (xs ++ ys)
    none0' = not_in 0 (xs ++ ys) (λ j. (s.members o 0 (kept 0 j)).1 refl)

    first' : (p : ℕ) → owns p → m'.first p ≡ link (at (head0 (h p)))
    first' p al = by_same o p
        (λ e q. rw (k.first p al, e, head_less xs x ys none0') (elim (c == 0) as (λ t. cond t (link (at d)) (m.first p) ≡ link (at (cond t d (head0 (xs ++ x ∷ ys))))) [
          | true ↦ refl
          | false ↦ subst (λ v. m.first v ≡ link (at (head0 (xs ++ x ∷ ys)))) q (s.first o its.2 ∙ ap (λ l. link (at (head0 l))) was)
        ]))
        (λ e n. rw (k.first p al, e) (elim (c == 0) as (λ t. cond t (m.first p) (m.first p) ≡ link (at (head0 (f p)))) [ true ↦ s.first p al | false ↦ s.first p al ]))

    last' : (p : ℕ) → owns p → m'.last p ≡ link (at (last_or 0 (h p)))
    last' p al = by_same o p
        (λ e q. rw (k.last p al, e, tail_less xs x ys none0') (elim (d == 0) as (λ t. cond t (link (at c)) (m.last p) ≡ link (at (cond t c (last_or 0 (xs ++ x ∷ ys))))) [
          | true ↦ refl
          | false ↦ subst (λ v. m.last v ≡ link (at (last_or 0 (xs ++ x ∷ ys)))) q (s.last o its.2 ∙ ap (λ l. link (at (last_or 0 l))) was)
        ]))
        (λ e n. rw (k.last p al, e) (elim (d == 0) as (λ t. cond t (m.last p) (m.last p) ≡ link (at (last_or 0 (f p)))) [ true ↦ s.last p al | false ↦ s.last p al ]))

    count' : (p : ℕ) → owns p → m'.count p ≡ counter (length (h p))
    count' p al = by_same o p
        (λ e q. let n : length (f o) - 1 ≡ length (xs ++ ys) = omega (arith, ap length was, length_splice xs x ys) in rw (k.count p al, e) (ap counter n))
        (λ e n. rw (k.count p al, e) (s.count p al))

    next' : (p y : ℕ) → IsInList y (h p) → m'.next y ≡ link (at (succ y (h p)))
    next' p y j = let i = was_in' p y j in let r = s.members p y i.0 in by_same o p
        (λ e q. let v : m.next y ≡ link (at (succ y (xs ++ x ∷ ys))) = s.next o y (subst (λ z. IsInList y (f z)) (sym q) i.0) ∙ ap (λ l. link (at (succ y l))) was in
        rw (k.next y r.0 r.1, differs x y i.1, e) (by_same c y
        (λ e' q'. rw (e', succ_last y xs ys q' r.1 apart.0) refl)
        (λ e' n'. rw e' (v ∙ ap (λ z. link (at z)) (rw (succ_splice y xs x ys r.1 (subst AreAllDistinct was (s.distinct o)), differs x y i.1, e') refl)))))
        (λ e n. rw (k.next y r.0 r.1, differs x y i.1, differs c y (λ z. n (s.sole o p y (kept y (before_in y xs ys z r.1)) i.0)), e) (s.next p y i.0))

    prev' : (p y : ℕ) → IsInList y (h p) → m'.prev y ≡ link (at (pred_from 0 y (h p)))
    prev' p y j = let i = was_in' p y j in let r = s.members p y i.0 in by_same o p
        (λ e q. let v : m.prev y ≡ link (at (pred_from 0 y (xs ++ x ∷ ys))) = s.prev o y (subst (λ z. IsInList y (f z)) (sym q) i.0) ∙ ap (λ l. link (at (pred_from 0 y l))) was in
        rw (k.prev y r.0 r.1, differs x y i.1, e) (by_same d y
        (λ e' q'. rw (e', pred_head 0 y xs ys q' r.1 apart.0) refl)
        (λ e' n'. rw e' (v ∙ ap (λ z. link (at z)) (rw (pred_splice 0 y xs x ys r.1 (subst AreAllDistinct was (s.distinct o)), differs x y i.1, e') refl)))))
        (λ e n. rw (k.prev y r.0 r.1, differs x y i.1, differs d y (λ z. n (s.sole o p y (kept y (after_in y xs ys z r.1)) i.0)), e) (s.prev p y i.0))

    owner' : (p y : ℕ) → IsInList y (h p) → m'.owner y ≡ link (home p)
    owner' p y j = let i = was_in' p y j in rw (k.owner y (s.members p y i.0).0, differs x y i.1) (s.owner p y i.0)

    unfiled' : (y : ℕ) → alive y → (0 ≡ y → ⊥) → ((p : ℕ) → IsNotInList y (h p)) → (m'.next y ≡ link (at y)) × (m'.prev y ≡ link (at y)) × (m'.owner y ≡ link (at y))
    unfiled' y al pos out = by_same x y
        (λ e q. rw (k.next y al pos, k.prev y al pos, k.owner y al, differs c y (λ i. c_is_not_x (i ∙ sym q)), differs d y (λ i. d_is_not_x (i ∙ sym q)), e) (ap (λ z. link (at z)) q, ap (λ z. link (at z)) q, ap (λ z. link (at z)) q))
        (λ e n.
        let here : IsNotInList y (xs ++ ys) = subst (λ t. IsNotInList y (cond t (xs ++ ys) (f o))) (same o) (out o) in
        let old : (p : ℕ) → IsNotInList y (f p) = λ p. by_same o p
        (λ e' q. subst (λ v. IsNotInList y (f v)) q (not_in y (f o) (λ j. elim (in_splice y xs x ys (subst (λ l. IsInList y l) was j)) as (λ _. ⊥) [ inl i ↦ n i | inr i ↦ not_and_in y (xs ++ ys) here i ])))
        (λ e' n'. subst (λ t. IsNotInList y (cond t (xs ++ ys) (f p))) e' (out p)) in
        let w = s.unfiled y al pos old in (
          rw (k.next y al pos, e, differs c y (λ i. not_and_in y (xs ++ ys) here (before_in y xs ys i pos))) w.0,
          rw (k.prev y al pos, e, differs d y (λ i. not_and_in y (xs ++ ys) here (after_in y xs ys i pos))) w.1,
          rw (k.owner y al, e) w.2,
        ))

    pub any_unlinked : AreShowing m' at home alive owns h
    any_unlinked = record { first = first'; last = last'; count = count'; next = next'; prev = prev'; owner = owner'; unfiled = unfiled'; members = λ p y j. s.members p y (was_in' p y j).0; distinct = λ p. by_same o p (λ e q. rw e apart.0) (λ e n. rw e (s.distinct p)); sole = λ p r y j i. s.sole p r y (was_in' p y j).0 (was_in' r y i).0 }
