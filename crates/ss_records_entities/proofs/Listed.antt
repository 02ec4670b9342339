-- The lists of the sets once one of them has changed, and lists with a member put in or taken out.
use Rattle.std.proofs.Common.{◌≡◌, ℕ, zero, suc, ◌≤◌, Bool, true, false, cond, ◌==◌, List, [], ◌∷◌, ◌++◌, length, inl, inr, refl, sym, ap, subst, ◌∙◌, arith}
use Rattle.std.specs.Prelude.{◌&&◌}
use Rattle.ss_records_entities.proofs.Common.{AreAllDistinct, by_same, differs, follower, head0, IsInList, IsNotInList, less, Members, members_of, precursor, pred_from, put_after, put_before, same, succ, with_list, with_members}
use Rattle.ss_records_words.proofs.Splice.{distinct_less, in_left, length_splice, not_and_in, cut, in_or_not, not_in_mid}

both : (b c : Bool) → b ≡ true → c ≡ true → (b && c) ≡ true
both b c e f = (λ i. e i && f i)

not_left : (b c : Bool) → b ≡ false → (b && c) ≡ false
not_left b c e = λ i. e i && c

not_right : (b c : Bool) → c ≡ false → (b && c) ≡ false
not_right true c e = e
not_right false c e = refl

pick_yes : {A : Type 0} {b : Bool} (x y : A) → b ≡ true → cond b x y ≡ x
pick_yes x y e = λ i. cond (e i) x y

pick_no : {A : Type 0} {b : Bool} (x y : A) → b ≡ false → cond b x y ≡ y
pick_no x y e = λ i. cond (e i) x y

-- the lists of the name s
pub members_with : (ms : List Members) (s o : ℕ) (l : List ℕ) (p : ℕ) → members_of (with_members ms s o l) s p ≡ with_list (members_of ms s) o l p
members_with [] s o l p = rw (same s) refl
members_with (m ∷ ms) s o l p = by_same m.set s
    (λ e q. by_same m.owner o
    (λ f r.
    let is : with_members (m ∷ ms) s o l ≡ record { set = s; owner = o; list = l } ∷ ms = pick_yes (record { set = s; owner = o; list = l } ∷ ms) (m ∷ with_members ms s o l) (both (m.set == s) (m.owner == o) e f) in
    ap (λ (ns : List Members). members_of ns s p) is ∙ rw (same s, e) (by_same o p
    (λ g z. rw g refl)
    (λ g z. rw (g, differs m.owner p (λ y. z (sym r ∙ y))) refl)))
    (λ f n. past (members_with ms s o l p) (not_right (m.set == s) (m.owner == o) f) (λ z. not_right (m.set == s) (m.owner == p) (differs m.owner p (λ y. n (y ∙ sym z))))))
    (λ e n. past (members_with ms s o l p) (not_left (m.set == s) (m.owner == o) e) (λ z. not_left (m.set == s) (m.owner == p) e)) where
      past : members_of (with_members ms s o l) s p ≡ with_list (members_of ms s) o l p → ((m.set == s) && (m.owner == o)) ≡ false → (o ≡ p → ((m.set == s) && (m.owner == p)) ≡ false) → members_of (with_members (m ∷ ms) s o l) s p ≡ with_list (members_of (m ∷ ms) s) o l p
      past k e f =
          let is : with_members (m ∷ ms) s o l ≡ m ∷ with_members ms s o l = pick_no (record { set = s; owner = o; list = l } ∷ ms) (m ∷ with_members ms s o l) e in
          ap (λ (ns : List Members). members_of ns s p) is ∙ ap (λ xs. cond ((m.set == s) && (m.owner == p)) m.list xs) k
          ∙ by_same o p
          (λ g z. rw (g, f z) refl)
          (λ g z. rw g refl)

-- those of another name
pub members_other : (ms : List Members) (s o : ℕ) (l : List ℕ) (r p : ℕ) → (s ≡ r → ⊥) → members_of (with_members ms s o l) r p ≡ members_of ms r p
members_other [] s o l r p n = rw (differs s r n) refl
members_other (m ∷ ms) s o l r p n = by_case (members_other ms s o l r p n) ((m.set == s) && (m.owner == o)) refl where
  first_of : (b c : Bool) → (b && c) ≡ true → b ≡ true
  first_of true c e = refl
  first_of false c e = cc

  set_is : (m.set == s) ≡ true → m.set ≡ s
  set_is e = by_same m.set s (λ f q. q) (λ f q. absurd (clash (sym f ∙ e))) where
    clash : false ≡ true → ⊥
    clash z = cc

  by_case : members_of (with_members ms s o l) r p ≡ members_of ms r p → (b : Bool) → ((m.set == s) && (m.owner == o)) ≡ b → members_of (with_members (m ∷ ms) s o l) r p ≡ members_of (m ∷ ms) r p
  by_case k true e =
      let is : with_members (m ∷ ms) s o l ≡ record { set = s; owner = o; list = l } ∷ ms = pick_yes (record { set = s; owner = o; list = l } ∷ ms) (m ∷ with_members ms s o l) e in
      let q : m.set ≡ s = set_is (first_of (m.set == s) (m.owner == o) e) in
      ap (λ (ns : List Members). members_of ns r p) is ∙ rw (differs s r n, differs m.set r (λ z. n (sym q ∙ z))) refl
  by_case k false e =
      let is : with_members (m ∷ ms) s o l ≡ m ∷ with_members ms s o l = pick_no (record { set = s; owner = o; list = l } ∷ ms) (m ∷ with_members ms s o l) e in
      ap (λ (ns : List Members). members_of ns r p) is ∙ ap (λ xs. cond ((m.set == r) && (m.owner == p)) m.list xs) k

-- what follows and what precedes a member
pub follower_is : (y : ℕ) (l : List ℕ) → IsInList y l → follower y l ≡ succ y l
follower_is y [] h = absurd h
follower_is y (z ∷ zs) h = by_same z y
    (λ e q. rw e refl)
    (λ e n. rw e (follower_is y zs (elim h as (λ _. IsInList y zs) [ inl i ↦ absurd (n i) | inr i ↦ i ])))

pub precursor_is : (p y : ℕ) (l : List ℕ) → IsInList y l → precursor p y l ≡ pred_from p y l
precursor_is p y [] h = absurd h
precursor_is p y (z ∷ zs) h = by_same z y
    (λ e q. rw e refl)
    (λ e n. rw e (precursor_is z y zs (elim h as (λ _. IsInList y zs) [ inl i ↦ absurd (n i) | inr i ↦ i ])))

pub pred_differs : (p y : ℕ) (l : List ℕ) → IsInList y l → AreAllDistinct l → (p ≡ y → ⊥) → pred_from p y l ≡ y → ⊥
pred_differs p y [] h d n = λ e. h
pred_differs p y (z ∷ zs) h d n = by_same z y
    (λ e q. rw e n)
    (λ e m. rw e (λ i. pred_differs z y zs (elim h as (λ _. IsInList y zs) [ inl j ↦ absurd (m j) | inr j ↦ j ]) d.1 m i))

-- x before the member at which a list is cut, or at its end
pub put_cut : (xs : List ℕ) (x : ℕ) (ys : List ℕ) → AreAllDistinct (xs ++ ys) → IsNotInList 0 (xs ++ ys) → put_before (head0 ys) x (xs ++ ys) ≡ xs ++ x ∷ ys
put_cut [] x [] d n = refl
put_cut [] x (y ∷ ys) d n = rw (same y) refl
put_cut (z ∷ zs) x ys d n = rw (differs z (head0 ys) (λ e. not_it ys (sym e) d.0 n.0)) (ap (λ l. z ∷ l) (put_cut zs x ys d.1 n.1)) where
  not_it : (us : List ℕ) → head0 us ≡ z → IsNotInList z (zs ++ us) → (z ≡ 0 → ⊥) → ⊥
  not_it [] e h k = k (sym e)
  not_it (u ∷ us) e h k = not_in_mid z zs u us h e

pub put_before_cut : (xs : List ℕ) (y x : ℕ) (ys : List ℕ) → IsNotInList y xs → put_before y x (xs ++ y ∷ ys) ≡ xs ++ x ∷ y ∷ ys
put_before_cut [] y x ys n = rw (same y) refl
put_before_cut (z ∷ zs) y x ys n = rw (differs z y n.0) (ap (λ l. z ∷ l) (put_before_cut zs y x ys n.1))

pub put_after_cut : (xs : List ℕ) (y x : ℕ) (ys : List ℕ) → IsNotInList y xs → put_after y x (xs ++ y ∷ ys) ≡ xs ++ y ∷ x ∷ ys
put_after_cut [] y x ys n = rw (same y) refl
put_after_cut (z ∷ zs) y x ys n = rw (differs z y n.0) (ap (λ l. z ∷ l) (put_after_cut zs y x ys n.1))

pub less_cut : (xs : List ℕ) (x : ℕ) (ys : List ℕ) → IsNotInList x xs → less x (xs ++ x ∷ ys) ≡ xs ++ ys
less_cut [] x ys n = rw (same x) refl
less_cut (z ∷ zs) x ys n = rw (differs z x n.0) (ap (λ l. z ∷ l) (less_cut zs x ys n.1))

pub not_in_front : (y : ℕ) (xs ys : List ℕ) → IsNotInList y (xs ++ ys) → IsNotInList y xs
not_in_front y [] ys n = tt
not_in_front y (z ∷ zs) ys n = (n.0, not_in_front y zs ys n.1)

-- a list of different numbers from 1 to n has at most n
pub few : (n : ℕ) (l : List ℕ) → AreAllDistinct l → ((y : ℕ) → IsInList y l → (0 ≡ y → ⊥) × (y ≤ n)) → length l ≤ n
few zero [] d h = omega arith
few zero (z ∷ zs) d h = let k = h z (inl refl) in absurd (k.0 (omega (arith, k.1)))
few (suc n) l d h = elim (in_or_not (suc n) l) as (λ _. length l ≤ suc n) [
  | inl i ↦
      let c = cut (suc n) l i in
      let e = subst AreAllDistinct c.2 d in
      let k = distinct_less c.0 (suc n) c.1 e in
      let r = few n (c.0 ++ c.1) k.0 (λ y j. let a = h y (subst (IsInList y) (sym c.2) (in_left y c.0 (suc n) c.1 j)) in (a.0, under y a.1 (λ q. not_and_in (suc n) (c.0 ++ c.1) k.1 (subst (λ v. IsInList v (c.0 ++ c.1)) q j)))) in
      omega (arith, r, length_splice c.0 (suc n) c.1, ap length c.2)
  | inr i ↦ let r = few n l d (λ y j. let a = h y j in (a.0, under y a.1 (λ q. not_and_in (suc n) l i (subst (λ v. IsInList v l) q j)))) in omega (arith, r)
] where
  under : (y : ℕ) → y ≤ suc n → (y ≡ suc n → ⊥) → y ≤ n
  under y a b = omega (arith, a, b)
