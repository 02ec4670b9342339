-- Uses that break no rule, and steps that go well.
use Rattle.std.proofs.Common.{◌≡◌, Bool, true, false, not, List, [], ◌∷◌, ◌++◌, Option, Some, None, refl, subst}
use Rattle.std.specs.List.{AllByRecursion as Every, flat_map}
use Rattle.ss_check_laws.proofs.Common.{Alpha, AreValid, CheckError, holds_unless, if_means, in_parts, Integer, Meaning, Mode, not-true, Scope, unless, Use, use_breaks}
use Rattle.ss_check_rules.specs.Modes.{differ}
use Rattle.ss_names_meaning.specs.Answers.{◌>>=◌, each}

-- ---- tests that break nothing

-- what has to mean something of a kind
pub meant : (o : Option Meaning) (kind : Meaning → Bool) → if_means kind o ≡ true → (m : Meaning) × (o ≡ Some m) × (kind m ≡ true)
meant None kind h = absurd cc
meant (Some m) kind h = (m, refl, h)

same_mode : (m n : Mode) → differ (Some m) (Some n) ≡ false → m ≡ n
same_mode Integer Integer h = refl
same_mode Alpha Alpha h = refl
same_mode _ _ h = absurd cc

-- two modes that don't differ are one
pub alike : (a b : Option Mode) (m n : Mode) → differ a b ≡ false → a ≡ Some m → b ≡ Some n → m ≡ n
alike a b m n h e f = same_mode m n (subst (λ o. differ o (Some n) ≡ false) e (subst (λ o. differ a o ≡ false) f h))

pub agree : (a b : Option Mode) (m n : Mode) (x : CheckError) → unless (not (differ a b)) x ≡ None → a ≡ Some m → b ≡ Some n → m ≡ n
agree a b m n x h e f = alike a b m n (not-true (differ a b) (holds_unless (not (differ a b)) x h)) e f

-- ---- steps

-- a step has a result, of which something holds
abbrev pub GoesWell : {B : Type 0} → (B → Type 0) → Option B → Type 0
GoesWell {B = B} Q o = (b : B) × (o ≡ Some b) × Q b

-- one step after the other
pub after : {A C : Type 0} (Q : C → Type 0) (o : Option A) (next : A → Option C) (a : A) → o ≡ Some a → GoesWell Q (next a) → GoesWell Q (o >>= next)
after Q o next a e x = (x.0, rw e x.1, x.2)

pub after_one : {A C : Type 0} {P : A → Type 0} (Q : C → Type 0) (o : Option A) (f : A → C) → GoesWell P o → ((a : A) → P a → Q (f a)) → GoesWell Q (o >>= λ a. Some (f a))
after_one Q o f x good = after Q o (λ a. Some (f a)) x.0 x.1 (f x.0, refl, good x.0 x.2)

pub after_two : {A B C : Type 0} {P : A → Type 0} {R : B → Type 0} (Q : C → Type 0) (o : Option A) (p : Option B) (f : A → B → C) → GoesWell P o → GoesWell R p →
    ((a : A) (b : B) → P a → R b → Q (f a b)) → GoesWell Q (o >>= λ a. p >>= λ b. Some (f a b))
after_two Q o p f x y good = after Q o (λ a. p >>= λ b. Some (f a b)) x.0 x.1 (after_one Q p (f x.0) y (λ b h. good x.0 b x.2 h))

-- ---- lists of uses

module _ (s : Scope) (in_main : Bool) where
  pub two_parts : (xs ys : List Use) → AreValid s in_main (xs ++ ys) → AreValid s in_main xs × AreValid s in_main ys
  two_parts xs ys h = in_parts (λ u. use_breaks s in_main u ≡ None) xs ys h

  pub three_parts : (xs ys zs : List Use) → AreValid s in_main (xs ++ ys ++ zs) → AreValid s in_main xs × AreValid s in_main ys × AreValid s in_main zs
  three_parts xs ys zs h =
      let r = two_parts (xs ++ ys) zs h in
      let q = two_parts xs ys r.0 in
      (q.0, q.1, r.1)

  -- the items of a list
  pub each_resolves : {A B : Type 0} (act : A → Option B) (uses : A → List Use) (Q : B → Type 0) → ((a : A) → AreValid s in_main (uses a) → GoesWell Q (act a)) →
      (xs : List A) → AreValid s in_main (flat_map uses xs) → GoesWell (Every Q) (each act xs)
  unfolding each
  each_resolves act uses Q good [] h = ([], refl, tt)
  each_resolves act uses Q good (a ∷ xs) h =
      let p = two_parts (uses a) (flat_map uses xs) h in
      after_two (Every Q) _ _ _ (good a p.0) (each_resolves act uses Q good xs p.1) (λ y ys k ks. (k, ks))
