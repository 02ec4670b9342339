-- The entries of classes: how they are gathered, and what follows where no statistic has a history of the entities of a class.
use Rattle.std.proofs.Common.{arith, ◌≡◌, ℕ, zero, suc, ◌+◌, ◌==◌, Bool, true, false, List, [], ◌∷◌, ◌++◌, length, drop, Option, Some, None, refl, ap, sym, ◌∙◌, subst, eqb→eq, T}
use Rattle.std.proofs.lemmas.Bool.{eqb-false}
use Rattle.std.proofs.lemmas.List.{length-append, length-set}
use Rattle.std.specs.Prelude.{ℤ, ◌||◌, slice_get, slice_set, IfSome, if◌then◌else◌}
use Rattle.ss_machine_world.proofs.Common.{Class, ClassEntry, Column, is_home, list_any, Notices, Owner, PlainLayout, Statistic}
use Rattle.ss_base.specs.Layout.{same_owner}
use Rattle.ss_machine_world.specs.Classes.{AreSaid, AreSaidFrom, IsSaid, has_keys, with_rank}
use Rattle.ss_meaning.specs.Events.{ranked_from, Ranked}
use Rattle.ss_meaning.specs.Histories.{ending, starting, home, at_start, begun_in, ended_in}

-- ## Where no statistic is kept of what an owner has, no history starts and none ends

module _ (l : PlainLayout) (whose : Owner) where
  pub none_start : (here : ℤ → Bool) (now : ℤ) (ss : List Statistic) (cs : List Column) → list_any (is_home l whose) ss ≡ false → starting l whose here now ss cs ≡ cs
  none_start here now [] cs none = refl
  none_start here now (s ∷ ss) [] none = refl
  none_start here now (s ∷ ss) (c ∷ cs) none = by (same_owner (home l s.subject) whose) none (λ none. none_start here now ss cs none)
    where
      by : (b : Bool) → (b || list_any (is_home l whose) ss) ≡ false → (list_any (is_home l whose) ss ≡ false → starting l whose here now ss cs ≡ cs) → (if b then begun_in here (at_start s.weighting now) c else c) ∷ starting l whose here now ss cs ≡ c ∷ cs
      by true none rest = absurd cc
      by false none rest = ap (λ ds. c ∷ ds) (rest none)

pub none_end : (l : PlainLayout) (class : ℕ) (x : ℤ) (ss : List Statistic) (cs : List Column) → list_any (is_home l (Class class)) ss ≡ false → ending l class x ss cs ≡ cs
none_end l class x [] cs none = refl
none_end l class x (s ∷ ss) [] none = refl
none_end l class x (s ∷ ss) (c ∷ cs) none = by (same_owner (home l s.subject) (Class class)) none (λ none. none_end l class x ss cs none)
  where
    by : (b : Bool) → (b || list_any (is_home l (Class class)) ss) ≡ false → (list_any (is_home l (Class class)) ss ≡ false → ending l class x ss cs ≡ cs) → (if b then ended_in x c else c) ∷ ending l class x ss cs ≡ c ∷ cs
    by true none rest = absurd cc
    by false none rest = ap (λ ds. c ∷ ds) (rest none)

-- ## Rows of entries

got : {A : Type 0} {x y : A} → Some x ≡ Some y → x ≡ y
got e = cc

-- what is found in a row with one item more: it was there, or it is that item
found_more : {A : Type 0} (P : ℕ → A → Type 0) (xs : List A) (x : A) → ((i : ℕ) (y : A) → slice_get xs i ≡ Some y → P i y) → P (length xs) x → (i : ℕ) (y : A) → slice_get (xs ++ x ∷ []) i ≡ Some y → P i y
found_more P [] x old new zero y e = subst (P zero) (got e) new
found_more P [] x old new (suc zero) y e = absurd cc
found_more P [] x old new (suc (suc i)) y e = absurd cc
found_more P (z ∷ zs) x old new zero y e = old zero y e
found_more P (z ∷ zs) x old new (suc i) y e = found_more (λ j. P (suc j)) zs x (λ j w d. old (suc j) w d) new i y e

-- what is found in a row of which one item is another now
nothing : {A : Type 0} (i : ℕ) (y : A) → slice_get [] i ≡ Some y → ⊥
nothing zero y e = cc
nothing (suc i) y e = cc

found_set : {A : Type 0} (xs : List A) (k : ℕ) (x : A) (i : ℕ) (y : A) → slice_get (slice_set xs k x) i ≡ Some y → (k ≡ i → y ≡ x) × ((k ≡ i → ⊥) → slice_get xs i ≡ Some y)
found_set [] zero x i y e = absurd (nothing i y e)
found_set [] (suc k) x i y e = absurd (nothing i y e)
found_set (z ∷ zs) zero x zero y e = (λ t. sym (got e), λ t. absurd (t refl))
found_set (z ∷ zs) zero x (suc i) y e = (λ t. absurd (omega (arith, t)), λ t. e)
found_set (z ∷ zs) (suc k) x zero y e = (λ t. absurd (omega (arith, t)), λ t. e)
found_set (z ∷ zs) (suc k) x (suc i) y e = let h = found_set zs k x i y e in (λ t. h.0 (omega (arith, t)), λ t. h.1 (λ q. t (ap suc q)))

-- what is left of a row after an item, and after its end
pub drop_one : {A : Type 0} (xs : List A) (k : ℕ) (x : A) → slice_get xs k ≡ Some x → drop k xs ≡ x ∷ drop (k + 1) xs
drop_one [] zero x e = absurd cc
drop_one [] (suc k) x e = absurd cc
drop_one (y ∷ ys) zero x e = ap (λ y. y ∷ ys) (got e)
drop_one (y ∷ ys) (suc k) x e = let next : suc (k + 1) ≡ suc k + 1 = omega arith in drop_one ys k x e ∙ ap (λ j. x ∷ drop j (y ∷ ys)) next

-- ## How entries are gathered

-- the entries of so many classes, but for the ranks
abbrev pub unranked_entry : PlainLayout → List Statistic → (class : ℕ) → ClassEntry
unranked_entry l ss class = record { is_watched = list_any (is_home l (Class class)) ss; has_ties = false; rank = 0 }

abbrev pub unranked_to : PlainLayout → List Statistic → (count : ℕ) → List ClassEntry
unranked_to l ss zero = []
unranked_to l ss (suc k) = unranked_to l ss k ++ unranked_entry l ss k ∷ []

unranked_length : (l : PlainLayout) (ss : List Statistic) (n : ℕ) → length (unranked_to l ss n) ≡ n
unranked_length l ss zero = refl
unranked_length l ss (suc k) = length-append (unranked_to l ss k) (unranked_entry l ss k ∷ []) ∙ omega (arith, unranked_length l ss k)

unranked_there : (l : PlainLayout) (ss : List Statistic) (n class : ℕ) (e : ClassEntry) → slice_get (unranked_to l ss n) class ≡ Some e → IsSaid 0 l [] ss class e
unranked_there l ss zero zero e found = absurd cc
unranked_there l ss zero (suc class) e found = absurd cc
unranked_there l ss (suc k) class e found =
    found_more (IsSaid 0 l [] ss) (unranked_to l ss k) (unranked_entry l ss k) (λ class e found. unranked_there l ss k class e found)
    (record {
      watched = ap (λ k. list_any (is_home l (Class k)) ss) (sym (unranked_length l ss k));
      ranked = λ r h. absurd (let none : None ≡ Some r = h in cc);
    })
    class e found

pub unranked_said : (l : PlainLayout) (ss : List Statistic) → AreSaid l [] ss (unranked_to l ss (length l.classes))
unranked_said l ss = (unranked_length l ss (length l.classes), λ class e found. unranked_there l ss (length l.classes) class e found)

-- the rank of one class of notices more
module _ (k : ℕ) (l : PlainLayout) (n : Notices) (es : List Notices) (ss : List Statistic) where
  -- the class is this one
  ranked_here : (entry : ClassEntry) → IsSaid (k + 1) l es ss n.class entry → (class : ℕ) → (n.class == class) ≡ true → n.class ≡ class → IsSaid k l (n ∷ es) ss class (with_rank k n entry)
  ranked_here entry said class same is = record {
    watched = said.watched ∙ ap (λ c. list_any (is_home l (Class c)) ss) is;
    ranked = λ r e.
        let here : record { rank = k; said = n } ≡ r = got (sym (ap (λ b. if b then Some (record { rank = k; said = n }) else ranked_from (k + 1) es class) same) ∙ e) in
        (ap (λ (r : Ranked). r.rank) here, ap (λ (r : Ranked). has_keys r.said.ties) here);
  }

  -- or another one
  ranked_later : (entry : ClassEntry) (class : ℕ) → IsSaid (k + 1) l es ss class entry → (n.class == class) ≡ false → IsSaid k l (n ∷ es) ss class entry
  ranked_later entry class said other = record {
    watched = said.watched;
    ranked = λ r e. said.ranked r (sym (ap (λ b. if b then Some (record { rank = k; said = n }) else ranked_from (k + 1) es class) other) ∙ e);
  }

  pub one_ranked : (old new : List ClassEntry) → IfSome (slice_get old n.class) (λ entry. new ≡ slice_set old n.class (with_rank k n entry)) → (slice_get old n.class ≡ None → new ≡ old) → AreSaidFrom (k + 1) l es ss old → AreSaidFrom k l (n ∷ es) ss new
  one_ranked old new known unknown said = by (slice_get old n.class) refl known unknown
    where
      there : (entry : ClassEntry) → slice_get old n.class ≡ Some entry → (class : ℕ) (e : ClassEntry) → slice_get (slice_set old n.class (with_rank k n entry)) class ≡ Some e → IsSaid k l (n ∷ es) ss class e
      there entry at class e found = sides (n.class == class) refl
        where
          sides : (b : Bool) → (n.class == class) ≡ b → IsSaid k l (n ∷ es) ss class e
          sides true same =
              let is = found_set old n.class (with_rank k n entry) class e found in
              let here = eqb→eq n.class class (subst T (sym same) tt) in
              subst (λ (e : ClassEntry). IsSaid k l (n ∷ es) ss class e) (sym (is.0 here))
              (ranked_here entry (said.1 n.class entry at) class same here)
          sides false other =
              let is = found_set old n.class (with_rank k n entry) class e found in
              ranked_later e class (said.1 class e (is.1 (eqb-false n.class class other))) other

      none : slice_get old n.class ≡ None → (class : ℕ) (e : ClassEntry) → slice_get old class ≡ Some e → IsSaid k l (n ∷ es) ss class e
      none at class e found = sides (n.class == class) refl
        where
          sides : (b : Bool) → (n.class == class) ≡ b → IsSaid k l (n ∷ es) ss class e
          sides true same = absurd (let is : n.class ≡ class = eqb→eq n.class class (subst T (sym same) tt) in let e : None ≡ Some e = sym at ∙ ap (slice_get old) is ∙ found in cc)
          sides false other = ranked_later e class (said.1 class e found) other

      by : (o : Option ClassEntry) → slice_get old n.class ≡ o → IfSome o (λ entry. new ≡ slice_set old n.class (with_rank k n entry)) → (o ≡ None → new ≡ old) → AreSaidFrom k l (n ∷ es) ss new
      by (Some entry) at known unknown =
          subst (λ (new : List ClassEntry). AreSaidFrom k l (n ∷ es) ss new) (sym known) (length-set old n.class (with_rank k n entry) ∙ said.0, there entry at)
      by None at known unknown = subst (λ (new : List ClassEntry). AreSaidFrom k l (n ∷ es) ss new) (sym (unknown refl)) (said.0, none at)

-- what is said stays so where the classes and sets are the same
pub said_of_layout : (l m : PlainLayout) (es : List Notices) (ss : List Statistic) (entries : List ClassEntry) → m ≡ l → AreSaid l es ss entries → AreSaid m es ss entries
said_of_layout l m es ss entries layout said = subst (λ (m : PlainLayout). AreSaid m es ss entries) (sym layout) said

-- and where the statistics are the same too
pub said_still : (l m : PlainLayout) (es : List Notices) (ss ts : List Statistic) (entries : List ClassEntry) → m ≡ l → ts ≡ ss → AreSaid l es ss entries → AreSaid m es ts entries
said_still l m es ss ts entries layout statistics said =
    subst (λ (m : PlainLayout). AreSaid m es ts entries) (sym layout) (subst (λ (ts : List Statistic). AreSaid l es ts entries) (sym statistics) said)

-- ## Ranks

-- what the program says of a class of notices is found at its rank
pub ranked_there : (k : ℕ) (es : List Notices) (class : ℕ) (r : Ranked) → ranked_from k es class ≡ Some r → (i : ℕ) × (r.rank ≡ k + i) × (slice_get es i ≡ Some r.said)
ranked_there k [] class r e = absurd cc
ranked_there k (n ∷ es) class r e = by (λ e. ranked_there (k + 1) es class r e) (n.class == class) e
  where
    by : (ranked_from (k + 1) es class ≡ Some r → (i : ℕ) × (r.rank ≡ k + 1 + i) × (slice_get es i ≡ Some r.said)) → (b : Bool) → (if b then Some (record { rank = k; said = n }) else ranked_from (k + 1) es class) ≡ Some r → (i : ℕ) × (r.rank ≡ k + i) × (slice_get (n ∷ es) i ≡ Some r.said)
    by rest true e = let is : record { rank = k; said = n } ≡ r = got e in (0, omega (arith, ap (λ (r : Ranked). r.rank) is), ap (λ (r : Ranked). Some r.said) is)
    by rest false e = let i = rest e in (suc i.0, omega (arith, i.1), i.2)
