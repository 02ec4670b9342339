-- Histories until a moment, and lists of which one item is changed.
use Rattle.std.proofs.Common.{◌≡◌, ℕ, zero, suc, Bool, true, false, ◌&&◌, ◌||◌, ◌<◌, ◌≤◌, ◌+◌, ◌≤ℤ◌, ◌+ℤ◌, int_le, ℤ, cond, List, [], ◌∷◌, ◌++◌, length, map, take, drop, Option, Some, None, slice_set, get_or, All, ◌∙◌, sym, ap, subst, int_eq, pos, refl, arith}
use Rattle.ss_stats_histories.proofs.Common.{at_start, begun_in, changed_at, Column, Decides-int_eq, ended_in, fun_ext, HasRoom, HasRooms, ints, is_up_to, IsUntil, Layout, noted_column, noted_to, noted_value, Owner, Recorded, renewed_column, renewed_to, rooms_of, statistics_of}
use Rattle.std.proofs.lemmas.List.{append-nil}
use Rattle.std.proofs.Math.Seq.{take-length}
use Rattle.std.proofs.Math.ListN.{drop_of_length-le}
use Rattle.ss_base.specs.declared.words.Weighting.{Weighting}
use Rattle.ss_base.specs.declared.words.Weighting.TheVariants as weightings
use Rattle.ss_stats.specs.History.{History, Tally, Accumulate, Change, last_of, last_moment, is_full, with_noted_value, restarted}

-- ## Histories until a moment

pub until_later : (a b : ℤ) (c : Column) → a ≤ℤ b → IsUntil a c → IsUntil b c
until_later a b c l u x h e = omega (arith, ints, l, u x h e)

some_is : (h g : History) → Some h ≡ Some g → h ≡ g
some_is h g e = cc

pub none_is : (g : History) → None ≡ Some g → ⊥
none_is g e = cc

-- where one history takes the place of another
put_until : (now : ℤ) (b : Bool) (h g : History) (o : Option History) → last_moment h ≤ℤ now → ((k : History) → o ≡ Some k → last_moment k ≤ℤ now) → cond b (Some h) o ≡ Some g → last_moment g ≤ℤ now
put_until now true h g o l u e = subst (λ (k : History). last_moment k ≤ℤ now) (some_is h g e) l
put_until now false h g o l u e = u g e

pub until_put : (now : ℤ) (here : ℤ → Bool) (h : History) (c : Column) → last_moment h ≤ℤ now → IsUntil now c → IsUntil now (begun_in here h c)
until_put now here h c l u x g e = put_until now (here x) h g (c x) l (u x) e

gone_until : (now : ℤ) (b : Bool) (g : History) (o : Option History) → ((k : History) → o ≡ Some k → last_moment k ≤ℤ now) → cond b None o ≡ Some g → last_moment g ≤ℤ now
gone_until now true g o u e = absurd (none_is g e)
gone_until now false g o u e = u g e

pub until_gone : (now entity : ℤ) (c : Column) → IsUntil now c → IsUntil now (ended_in entity c)
until_gone now entity c u x g e = gone_until now (int_eq entity x) g (c x) (u x) e

pub start_until : (w : Weighting) (now : ℤ) → pos 0 ≤ℤ now → last_moment (at_start w now) ≤ℤ now
start_until weightings.Tally now h = h
start_until weightings.Accumulate now h = omega (arith, ints)

last_noted : (start : Change) (changes : List Change) (now value : ℤ) → (last_of start (changes ++ (record { moment = now; value = value }) ∷ [])).moment ≡ now
last_noted start [] now value = refl
last_noted start (c ∷ changes) now value = last_noted c changes now value

value_until : (h : History) (now value : ℤ) → last_moment h ≤ℤ now → last_moment (with_noted_value h now value) ≤ℤ now
value_until (Tally values) now value l = l
value_until (Accumulate start changes) now value l = omega (arith, ints, last_noted start changes now value)

noted_until : (b : Bool) (h : History) (now value : ℤ) → last_moment h ≤ℤ now → last_moment (cond b h (with_noted_value h now value)) ≤ℤ now
noted_until true h now value l = l
noted_until false h now value l = value_until h now value l

pub until_noted : (now value entity : ℤ) (c : Column) → IsUntil now c → IsUntil now (noted_column entity now value c)
until_noted now value entity c u =
    (elim (c entity) as (λ o. c entity ≡ o → IsUntil now (noted_to entity now value o c)) [
      | None ↦ λ e. u
      | Some h ↦ λ e. until_put now (int_eq entity) (noted_value now value h) c (noted_until (is_full h) h now value (u entity h e)) u
    ]) refl

renewed_until : (h : History) (now value : ℤ) → last_moment h ≤ℤ now → last_moment (restarted h now value) ≤ℤ now
renewed_until (Tally values) now value l = l
renewed_until (Accumulate start changes) now value l = omega (arith, ints)

pub until_renewed : (now value entity : ℤ) (c : Column) → IsUntil now c → IsUntil now (renewed_column entity now value c)
until_renewed now value entity c u =
    (elim (c entity) as (λ o. c entity ≡ o → IsUntil now (renewed_to entity now value o c)) [
      | None ↦ λ e. u
      | Some h ↦ λ e. until_put now (int_eq entity) (restarted h now value) c (renewed_until h now value (u entity h e)) u
    ]) refl

-- ## Histories of the entities 1 to a number

not_both : true ≡ false → ⊥
not_both e = cc

one_less : (i x : ℤ) → (i +ℤ pos 1 ≡ x → ⊥) → int_le x (i +ℤ pos 1) ≡ int_le x i
one_less i x n =
    (elim (int_le x i) as (λ b. int_le x i ≡ b → int_le x (i +ℤ pos 1) ≡ b) [
      | true ↦ λ q. grind (arith, ints)
      | false ↦ λ q. grind (arith, ints)
    ]) refl

up_to_more : (i x : ℤ) → pos 0 ≤ℤ i → is_up_to (i +ℤ pos 1) x ≡ (int_eq (i +ℤ pos 1) x || is_up_to i x)
up_to_more i x h =
    (elim (int_eq (i +ℤ pos 1) x) as (λ b. int_eq (i +ℤ pos 1) x ≡ b → is_up_to (i +ℤ pos 1) x ≡ (b || is_up_to i x)) [
      | true ↦ λ q.
          let s : (i +ℤ pos 1) ≡ x = (Decides-int_eq _ _).0 q in
          let a : int_le (pos 1) x ≡ true = grind (arith, ints) in
          let r : int_le x (i +ℤ pos 1) ≡ true = grind (arith, ints) in rw (a, r) refl
      | false ↦ λ q.
          let n : (i +ℤ pos 1) ≡ x → ⊥ = λ s. not_both (sym ((Decides-int_eq _ _).1 s) ∙ q) in
          ap (λ (b : Bool). int_le (pos 1) x && b) (one_less i x n)
    ]) refl

begun_cond : (a b : Bool) (h o : Option History) → cond a h (cond b h o) ≡ cond (a || b) h o
begun_cond true b h o = refl
begun_cond false b h o = refl

pub begun_more : (i : ℤ) (h : History) (c d e : Column) → pos 0 ≤ℤ i → d ≡ begun_in (is_up_to i) h c → e ≡ begun_in (int_eq (i +ℤ pos 1)) h d → e ≡ begun_in (is_up_to (i +ℤ pos 1)) h c
begun_more i h c d e l p q =
    q ∙ ap (begun_in (int_eq (i +ℤ pos 1)) h) p ∙
    fun_ext (λ x. begun_cond (int_eq (i +ℤ pos 1) x) (is_up_to i x) (Some h) (c x) ∙ ap (λ (b : Bool). cond b (Some h) (c x)) (sym (up_to_more i x l)))

none_up_to : (i x : ℤ) → i ≤ℤ pos 0 → is_up_to i x ≡ false
none_up_to i x l =
    (elim (int_le (pos 1) x) as (λ b. int_le (pos 1) x ≡ b → (b && int_le x i) ≡ false) [
      | true ↦ λ q. let r : int_le x i ≡ false = grind (arith, ints) in r
      | false ↦ λ q. refl
    ]) refl

pub none_begun : (i : ℤ) (h : History) (c d : Column) → i ≤ℤ pos 0 → d ≡ c → d ≡ begun_in (is_up_to i) h c
none_begun i h c d l e = e ∙ fun_ext (λ x. ap (λ (b : Bool). cond b (Some h) (c x)) (sym (none_up_to i x l)))

-- the number up to which a count went
pub counted : (i count : ℤ) (h : History) (c d : Column) → count ≤ℤ i → (pos 1 ≤ℤ count → i ≤ℤ count) → (count ≤ℤ pos 0 → i ≤ℤ pos 0) →
    d ≡ begun_in (is_up_to i) h c → d ≡ begun_in (is_up_to count) h c
counted i count h c d l m n e =
    (elim (int_le (pos 1) count) as (λ b. int_le (pos 1) count ≡ b → d ≡ begun_in (is_up_to count) h c) [
      | true ↦ λ q.
          let one : pos 1 ≤ℤ count = grind (arith, ints) in
          let same : i ≡ count = omega (arith, ints, l, m one) in subst (λ k. d ≡ begun_in (is_up_to k) h c) same e
      | false ↦ λ q.
          let none : count ≤ℤ pos 0 = grind (arith, ints) in
          e ∙ fun_ext (λ x. ap (λ (b : Bool). cond b (Some h) (c x)) (none_up_to i x (n none) ∙ sym (none_up_to count x none)))
    ]) refl

-- ## Room

pub rooms_there : (l : Layout) (whose : Owner) (count : ℤ) (ks : List Recorded) → All (HasRoom l whose count) ks → HasRooms l whose count (statistics_of ks) (rooms_of ks)
rooms_there l whose count [] a = tt
rooms_there l whose count (k ∷ ks) a = (a zero k (omega arith), rooms_there l whose count ks (λ j d h. a (suc j) d (omega (arith, h))))

pub rooms_each : (l : Layout) (whose : Owner) (count : ℤ) (ks : List Recorded) → HasRooms l whose count (statistics_of ks) (rooms_of ks) → All (HasRoom l whose count) ks
rooms_each l whose count [] r j d h = absurd (omega (arith, h))
rooms_each l whose count (k ∷ ks) r zero d h = r.0
rooms_each l whose count (k ∷ ks) r (suc j) d h = rooms_each l whose count ks r.1 j d (omega (arith, h))

-- ## Lists of which an item is written

pub one_changed : {X Y : Type 0} → (g : X → Y) (f : Y → Y) (xs : List X) (j : ℕ) (x d : X) → j < length xs → g x ≡ f (g (get_or xs j d)) → map g (slice_set xs j x) ≡ changed_at f (map g xs) j
one_changed g f [] j x d h e = refl
one_changed g f (y ∷ xs) zero x d h e = ap (λ z. z ∷ map g xs) e
one_changed g f (y ∷ xs) (suc j) x d h e = ap (λ zs. g y ∷ zs) (one_changed g f xs j x d (omega arith) e)

abbrev pub head_of : {Y : Type 0} → Y → List Y → Y
head_of d [] = d
head_of d (y ∷ ys) = y

abbrev pub tail_of : {Y : Type 0} → List Y → List Y
tail_of [] = []
tail_of (y ∷ ys) = ys

pub not_none : {Y : Type 0} → (y : Y) (ys : List Y) → y ∷ ys ≡ [] → ⊥
not_none y ys e = cc

pub joined : {Y : Type 0} → (a b : Y) (us vs : List Y) → a ≡ b → us ≡ vs → a ∷ us ≡ b ∷ vs
joined a b us vs e f = λ i. e i ∷ f i

further : {X Y : Type 0} → (g : X → Y) (f : Y → Y) (zs : List Y) (xs : List X) (j : ℕ) (x d : X) → map g xs ≡ map f (take j zs) ++ drop j zs → j < length xs →
    g x ≡ f (g (get_or xs j d)) → map g (slice_set xs j x) ≡ map f (take (suc j) zs) ++ drop (suc j) zs
further g f zs [] j x d e h i = absurd (omega arith)
further g f [] (y ∷ xs) zero x d e h i = absurd (not_none _ _ e)
further g f [] (y ∷ xs) (suc j) x d e h i = absurd (not_none _ _ e)
further g f (z ∷ zs) (y ∷ xs) zero x d e h i = joined _ _ _ _ (i ∙ ap f (ap (head_of z) e)) (ap tail_of e)
further g f (z ∷ zs) (y ∷ xs) (suc j) x d e h i = joined _ _ _ _ (ap (head_of (g y)) e) (further g f zs xs j x d (ap tail_of e) (omega arith) i)

-- a list of which the items so far are changed, and one more
pub one_further : {X Y : Type 0} → (g : X → Y) (f : Y → Y) (zs : List Y) (xs : List X) (j : ℕ) (x d : X) → map g xs ≡ map f (take j zs) ++ drop j zs → j < length xs →
    g x ≡ f (g (get_or xs j d)) → map g (slice_set xs j x) ≡ map f (take (j + 1) zs) ++ drop (j + 1) zs
one_further g f zs xs j x d e h i =
    let n : suc j ≡ j + 1 = omega arith in
    subst (λ m. map g (slice_set xs j x) ≡ map f (take m zs) ++ drop m zs) n (further g f zs xs j x d e h i)

-- what holds of the items so far, and of one more
pub so_far : {X : Type 0} → (P : X → Type 0) (xs : List X) (j : ℕ) (x : X) → ((m : ℕ) (d : X) → m < j → P (get_or xs m d)) → P x → j < length xs →
    (m : ℕ) (d : X) → m < j + 1 → P (get_or (slice_set xs j x) m d)
so_far P [] j x a p h m d l = absurd (omega (arith, h))
so_far P (y ∷ xs) zero x a p h zero d l = p
so_far P (y ∷ xs) zero x a p h (suc m) d l = absurd (omega (arith, l))
so_far P (y ∷ xs) (suc j) x a p h zero d l = a zero d (omega arith)
so_far P (y ∷ xs) (suc j) x a p h (suc m) d l = so_far P xs j x (λ n e k. a (suc n) e (omega (arith, k))) p (omega (arith, h)) m d (omega (arith, l))

-- what holds of the items from a place on, and of those after it
pub from_on : {X : Type 0} → (P : X → Type 0) (xs : List X) (j : ℕ) (x : X) → ((m : ℕ) (d : X) → j ≤ m → m < length xs → P (get_or xs m d)) →
    (m : ℕ) (d : X) → j + 1 ≤ m → m < length (slice_set xs j x) → P (get_or (slice_set xs j x) m d)
from_on P [] j x a m d l h = absurd (omega (arith, h))
from_on P (y ∷ xs) zero x a zero d l h = absurd (omega (arith, l))
from_on P (y ∷ xs) zero x a (suc m) d l h = a (suc m) d (omega arith) h
from_on P (y ∷ xs) (suc j) x a zero d l h = absurd (omega (arith, l))
from_on P (y ∷ xs) (suc j) x a (suc m) d l h = from_on P xs j x (λ n e k u. a (suc n) e (omega (arith, k)) (omega (arith, u))) m d (omega (arith, l)) (omega (arith, h))

-- a list that was lent out as a whole
pub whole : {X : Type 0} → (n : ℕ) (new old : List X) → n ≡ length old → length new ≡ length old → take n (new ++ drop (length new) old) ≡ new
whole n new old e f =
    ap (λ rest. take n (new ++ rest)) (drop_of_length-le old (omega (arith, f))) ∙ ap (take n) (append-nil new) ∙ ap (λ m. take m new) (e ∙ sym f) ∙ take-length new
