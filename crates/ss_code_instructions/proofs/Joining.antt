-- Each member of a set of a heap lives, as an entity of the class of the set's members. So it may be one of the set. That is so at first, and no
-- operation changes it.
use Rattle.std.proofs.Common.{◌≡◌, ℕ, zero, suc, ◌+◌, ◌-◌, ◌<◌, Bool, true, false, List, [], ◌∷◌, ◌++◌, length, Option, Some, None, Ok, Err, ℤ, pos, negsuc, refl, sym, ap, ◌∙◌, subst, arith, ◌⊎◌, inl, inr, true≢false}
use Rattle.std.proofs.lemmas.Bool.{eqb-true, eqb-false, eq-eqb, and_parts, and_from, or_left, or_right}
use Rattle.std.specs.Prelude.{slice_get, slice_set, replicate, is_some, cond, nat_lt, ◌==◌, ◌&&◌, Result, if◌then◌else◌}
use Rattle.ss_code_instructions.proofs.Common.{FaultKind, IsInList, SetLayout, Value}
use Rattle.ss_world.specs.State.{assigned, created, State, timed, Record, Members, and_then, kind_of, issued_record, numbered_record, indexed_record, records_in, of_class, entity_of_kind, entity_in, notice, number_in, first_record, record_with_value, with_time, with_entity_of_kind, with_created, LAST_NUMBER, is_made_in, is_made, with_made, created_all, members_of, contains, owner_among, is_filed, with_members, in_a_set, destroyed, first_state}
use Rattle.ss_base.specs.declared.fault.FaultKind.TheVariants as faults
use Rattle.ss_base.specs.declared.layout.ClassKind.{ClassKind}
use Rattle.ss_base.specs.declared.layout.ClassKind.TheVariants.{Permanent, Temporary, Notice}
use Rattle.ss_base.specs.declared.layout.Layout.{Layout}
use Rattle.ss_world.specs.Sets.{member_in, member_class, joiner, with_list_of}
use Rattle.ss_meaning.specs.Fitting.{class_of_record, living, made, IsIndex, IsLivingAs, IsLiving}
use Rattle.ss_meaning.proofs.Fine.{Sane, sane_then}
use Rattle.ss_meaning.proofs.Filings.{Keeps, MayJoin}
use Rattle.ss_meaning.proofs.Heaps.{IsEntityAs, created_all_keeps, destroyed_keeps, entity_known, entity_lives, get_other, made_at, notice_known, number_is, set_class}

abbrev pub Joined : State → Type 0
Joined h = (s o x : ℕ) → s < length h.layout.sets → IsInList x (members_of h.lists s o) → IsLiving h (member_class h.layout s) (pos x)

-- ## What lives may be a member, and what may be one lives

there : {A : Type 0} (xs : List A) (k : ℕ) → k < length xs → (a : A) × (slice_get xs k ≡ Some a)
there [] k q = absurd (omega (arith, q))
there (x ∷ xs) zero q = (x, refl)
there (x ∷ xs) (suc k) q = let h : k < length xs = omega (arith, q) in there xs k h

single_known : (h : State) (c x : ℕ) → living h (pos x) ≡ Some c → (r : Record) × (and_then (numbered_record h (pos x)) (of_class c) ≡ Ok r)
single_known h c zero q = absurd cc
single_known h c (suc i) q = by (slice_get h.records i) q
  where
    by : (o : Option (Option Record)) → class_of_record o ≡ Some c → (r : Record) × (and_then (issued_record o) (of_class c) ≡ Ok r)
    by None q = absurd cc
    by (Some None) q = absurd cc
    by (Some (Some r)) q =
        let same : r.class ≡ c = cc in
        (r, ap (λ (b : Bool). if b then Ok r else Err faults.WrongClass) (eq-eqb r.class c same))

kind_known : (k : ClassKind) (h : State) (c x : ℕ) → IsLivingAs k h c (pos x) → (r : Record) × (entity_of_kind h k c (pos x) ≡ Ok r)
kind_known Permanent h c zero q = absurd q
kind_known Permanent h c (suc i) q = let r = there (records_in (slice_get h.permanents c)) i q in (r.0, ap indexed_record r.1)
kind_known Temporary h c x q = single_known h c x q
kind_known Notice h c x q = single_known h c x q

lives_joins : (h : State) (s x : ℕ) → IsLiving h (member_class h.layout s) (pos x) → joiner h s (pos x) ≡ Ok x
lives_joins h s x q =
    let e = kind_known (kind_of h.layout (member_class h.layout s)) h (member_class h.layout s) x q in
    ap (λ (r : Result Record FaultKind). and_then r (λ _. Ok x)) e.1

-- each member may be one
pub joined_joins : (h : State) → Joined h → (s o x : ℕ) → s < length h.layout.sets → IsInList x (members_of h.lists s o) → joiner h s (pos x) ≡ Ok x
joined_joins h j s o x i m = lives_joins h s x (j s o x i m)

no_negative : (k : ClassKind) (h : State) (c n : ℕ) (r : Record) → IsEntityAs k h c (negsuc n) r → ⊥
no_negative Permanent h c n r q = q
no_negative Temporary h c n r q = q.0
no_negative Notice h c n r q = q.0

joiner_lives : (h : State) (s : ℕ) (x : ℤ) → Sane (λ n. IsLiving h (member_class h.layout s) (pos n)) (joiner h s x)
joiner_lives h s (pos n) =
    sane_then (λ n. IsLiving h (member_class h.layout s) (pos n)) (entity_in h (member_class h.layout s) (pos n)) (λ r. Ok n) (entity_known h (member_class h.layout s) (pos n)) (λ r q.
    entity_lives h (member_class h.layout s) (pos n) r q)
joiner_lives h s (negsuc n) =
    sane_then (λ n. IsLiving h (member_class h.layout s) (pos n)) (entity_in h (member_class h.layout s) (negsuc n)) (λ r. Ok 0) (entity_known h (member_class h.layout s) (negsuc n)) (λ r q.
    absurd (no_negative (kind_of h.layout (member_class h.layout s)) h (member_class h.layout s) n r q))

-- and where there is no entity
pub first_joined : (l : Layout) → Joined (first_state l)
first_joined l s o x i m = absurd m

-- ## Other entities

-- another state, in which what lived goes on to live
lives_by : (k : ClassKind) (h g : State) (c x : ℕ) → (k ≡ Permanent → IsIndex (made h c) (pos x) → IsIndex (made g c) (pos x)) → ((i : ℕ) → x ≡ suc i → class_of_record (slice_get h.records i) ≡ Some c → class_of_record (slice_get g.records i) ≡ Some c) → IsLivingAs k h c (pos x) → IsLivingAs k g c (pos x)
lives_by Permanent h g c x p f q = p refl q
lives_by Temporary h g c zero p f q = absurd cc
lives_by Temporary h g c (suc i) p f q = f i refl q
lives_by Notice h g c zero p f q = absurd cc
lives_by Notice h g c (suc i) p f q = f i refl q

recorded : (h : State) (i : ℕ) (r q : Record) → slice_get h.records i ≡ Some (Some r) → q.class ≡ r.class → Joined h → Joined (record h { records = slice_set h.records i (Some q) })
recorded h i r q g c j s o x k m =
    lives_by (kind_of h.layout (member_class h.layout s)) h (record h { records = slice_set h.records i (Some q) }) (member_class h.layout s) x (λ _ p. p) (λ y e p. set_class h.records i r q g c y ∙ p) (j s o x k m)

indexed_set : (h : State) (c n : ℕ) (r : Record) → Joined h → Joined (with_entity_of_kind h Permanent c n r)
indexed_set h c n r j s o x k m =
    lives_by (kind_of h.layout (member_class h.layout s)) h (with_entity_of_kind h Permanent c n r) (member_class h.layout s) x
    (λ _ p. subst (λ y. IsIndex y (pos x)) (sym (made_at h.permanents c n r (member_class h.layout s))) p) (λ i e p. p) (j s o x k m)

-- ## Assigning

entity_set : (k : ClassKind) (h : State) (c : ℕ) (x : ℤ) (r q : Record) → IsEntityAs k h c x r → q.class ≡ r.class → Joined h → Joined (with_entity_of_kind h k c (number_in x) q)
entity_set Permanent h c x r q e g j = indexed_set h c (number_in x) q j
entity_set Temporary h c x r q e g j = recorded h (number_in x - 1) r q (number_is h x r e.0) g j
entity_set Notice h c x r q e g j = recorded h (number_in x - 1) r q (number_is h x r e.0) g j

pub assigned_joined : (h : State) (c f : ℕ) (x : ℤ) (v : Value) → Joined h → Sane Joined (assigned h c f x v)
assigned_joined h c f x v j =
    sane_then Joined (entity_in h c x) (λ r. Ok (with_entity_of_kind h (kind_of h.layout c) c (number_in x) (record_with_value r f v))) (entity_known h c x) (λ r e.
    entity_set (kind_of h.layout c) h c x r (record_with_value r f v) e refl j)

pub timed_joined : (h : State) (x t : ℤ) → Joined h → Sane Joined (timed h x t)
timed_joined h x t j =
    sane_then Joined (notice h x) (λ r. Ok (record h { records = slice_set h.records (number_in x - 1) (Some (with_time r t)) })) (notice_known h x) (λ r e.
    recorded h (number_in x - 1) r (with_time r t) (number_is h x r e.0) refl j)

-- ## Creating

class_before : (xs : List (Option Record)) (y : Option Record) (i c : ℕ) → class_of_record (slice_get xs i) ≡ Some c → class_of_record (slice_get (xs ++ y ∷ []) i) ≡ Some c
class_before [] y i c q = absurd cc
class_before (x ∷ xs) y zero c q = q
class_before (x ∷ xs) y (suc i) c q = class_before xs y i c q

with_created_joined : (h : State) (c : ℕ) → Joined h → Joined (with_created h c)
with_created_joined h c j s o x k m =
    lives_by (kind_of h.layout (member_class h.layout s)) h (with_created h c) (member_class h.layout s) x (λ _ p. p)
    (λ i e p. class_before h.records (Some (first_record h.layout c)) i (member_class h.layout s) p) (j s o x k m)

pub created_joined : (h : State) (c : ℕ) → Joined h → Sane (λ (b : ℤ × State). Joined b.1) (created h c)
created_joined h c j = by (nat_lt (length h.records) LAST_NUMBER)
  where
    by : (b : Bool) → Sane (λ (b : ℤ × State). Joined b.1) (if b then Ok (pos (length h.records + 1), with_created h c) else Err faults.Overflow)
    by true = with_created_joined h c j
    by false = tt

-- a class whose entities are not made has none
none_made : (o : Option (Option (List Record))) (x : ℕ) → is_made_in o ≡ false → IsIndex (length (records_in o)) (pos x) → ⊥
none_made o zero q p = p
none_made None (suc i) q p = omega (arith, p)
none_made (Some None) (suc i) q p = omega (arith, p)
none_made (Some (Some rs)) (suc i) q p = absurd (true≢false q)

with_made_joined : (h : State) (c n : ℕ) → is_made h c ≡ false → Joined h → Joined (with_made h c n)
with_made_joined h c n q j s o x k m =
    lives_by (kind_of h.layout (member_class h.layout s)) h (with_made h c n) (member_class h.layout s) x (λ _ p. rows (member_class h.layout s) (c == member_class h.layout s) refl p) (λ i e p. p) (j s o x k m)
  where
    rows : (d : ℕ) (b : Bool) → (c == d) ≡ b → IsIndex (made h d) (pos x) → IsIndex (length (records_in (slice_get (slice_set h.permanents c (Some (replicate n (first_record h.layout c)))) d))) (pos x)
    rows d true e p = absurd (none_made (slice_get h.permanents c) x q (subst (λ d. IsIndex (made h d) (pos x)) (sym (eqb-true c d e)) p))
    rows d false e p = subst (λ o. IsIndex (length (records_in o)) (pos x)) (sym (get_other h.permanents c (Some (replicate n (first_record h.layout c))) d (eqb-false c d e))) p

pub created_all_joined : (h : State) (c : ℕ) (z : ℤ) → Joined h → Sane Joined (created_all h c z)
created_all_joined h c z j = created_all_keeps Joined h c z (λ n q. with_made_joined h c n q j)

-- ## Other members

-- the members of a set once one of the lists is another
members_with : (ms : List Members) (s o : ℕ) (l : List ℕ) (s' o' x : ℕ) → IsInList x (members_of (with_members ms s o l) s' o') → ((s ≡ s') × IsInList x l) ⊎ IsInList x (members_of ms s' o')
members_with [] s o l s' o' x m = by ((s == s') && (o == o')) refl m
  where
    by : (b : Bool) → ((s == s') && (o == o')) ≡ b → IsInList x (cond b l []) → ((s ≡ s') × IsInList x l) ⊎ IsInList x []
    by true q m = inl (eqb-true s s' (and_parts (s == s') (o == o') q).0, m)
    by false q m = absurd m
members_with (y ∷ ms) s o l s' o' x m = by ((y.set == s) && (y.owner == o)) refl m (λ g. members_with ms s o l s' o' x g)
  where
    -- in the place of this list
    here : ((y.set == s) && (y.owner == o)) ≡ true → (b : Bool) → ((s == s') && (o == o')) ≡ b → IsInList x (cond b l (members_of ms s' o')) → ((s ≡ s') × IsInList x l) ⊎ IsInList x (members_of (y ∷ ms) s' o')
    here p true q m = inl (eqb-true s s' (and_parts (s == s') (o == o') q).0, m)
    here p false q m =
        let a = and_parts (y.set == s) (y.owner == o) p in
        let same : ((y.set == s') && (y.owner == o')) ≡ ((s == s') && (o == o')) = ap (λ k. (k == s') && (y.owner == o')) (eqb-true y.set s a.0) ∙ ap (λ k. (s == s') && (k == o')) (eqb-true y.owner o a.1) in
        inr (subst (λ (b : Bool). IsInList x (cond b y.list (members_of ms s' o'))) (sym (same ∙ q)) m)

    -- after it
    later : (b : Bool) → (IsInList x (members_of (with_members ms s o l) s' o') → ((s ≡ s') × IsInList x l) ⊎ IsInList x (members_of ms s' o')) → IsInList x (cond b y.list (members_of (with_members ms s o l) s' o')) → ((s ≡ s') × IsInList x l) ⊎ IsInList x (cond b y.list (members_of ms s' o'))
    later true f m = inr m
    later false f m = f m

    by : (b : Bool) → ((y.set == s) && (y.owner == o)) ≡ b → IsInList x (members_of (cond b (record { set = s; owner = o; list = l } ∷ ms) (y ∷ with_members ms s o l)) s' o') → (IsInList x (members_of (with_members ms s o l) s' o') → ((s ≡ s') × IsInList x l) ⊎ IsInList x (members_of ms s' o')) → ((s ≡ s') × IsInList x l) ⊎ IsInList x (members_of (y ∷ ms) s' o')
    by true p m f = here p ((s == s') && (o == o')) refl m
    by false p m f = later ((y.set == s') && (y.owner == o')) f m

-- another list, whose members live
listed : (h : State) (s o : ℕ) (l : List ℕ) → ((x : ℕ) → s < length h.layout.sets → IsInList x l → IsLiving h (member_class h.layout s) (pos x)) → Joined h → Joined (with_list_of h s o l)
listed h s o l f j s' o' x k m =
    lives_by (kind_of h.layout (member_class h.layout s')) h (with_list_of h s o l) (member_class h.layout s') x (λ _ p. p) (λ i e p. p) (by (members_with h.lists s o l s' o' x m))
  where
    by : ((s ≡ s') × IsInList x l) ⊎ IsInList x (members_of h.lists s' o') → IsLiving h (member_class h.layout s') (pos x)
    by (inl g) = subst (λ d. IsLiving h (member_class h.layout d) (pos x)) g.0 (f x (subst (λ d. d < length h.layout.sets) (sym g.0) k) g.1)
    by (inr g) = j s' o' x k g

-- ## Filing and removing

-- another list, each member of which was there or may be one
pub keeps_joined : (h : State) (s : ℕ) → Joined h → Keeps Joined h s
keeps_joined h s j o l known = listed h s o l (λ y k m. by y k (known y m)) j
  where
    by : (y : ℕ) → s < length h.layout.sets → MayJoin h s y ⊎ IsInList y (members_of h.lists s o) → IsLiving h (member_class h.layout s) (pos y)
    by y k (inl g) = subst (λ r. Sane (λ n. IsLiving h (member_class h.layout s) (pos n)) r) g.1 (joiner_lives h s g.0)
    by y k (inr m) = j s o y k m

-- ## Destroying: what is in a set stays

contains_so : (xs : List ℕ) (x : ℕ) → IsInList x xs → contains xs x ≡ true
contains_so [] x m = absurd m
contains_so (y ∷ ys) x (inl e) = or_left (y == x) (contains ys x) (eq-eqb y x e)
contains_so (y ∷ ys) x (inr m) = or_right (y == x) (contains ys x) (contains_so ys x m)

-- some list that is not empty has an owner
among_so : (some all : List Members) (s o x : ℕ) → contains (members_of all s o) x ≡ true → (members_of some s o ≡ [] → ⊥) → is_some (owner_among some all s x) ≡ true
among_so [] all s o x c f = absurd (f refl)
among_so (y ∷ ms) all s o x c f = by ((y.set == s) && contains (members_of all s y.owner) x) refl (λ g. among_so ms all s o x c g)
  where
    -- the list is not this one
    not_here : ((y.set == s) && contains (members_of all s y.owner) x) ≡ false → (b : Bool) → ((y.set == s) && (y.owner == o)) ≡ b → (cond b y.list (members_of ms s o) ≡ [] → ⊥) → members_of ms s o ≡ [] → ⊥
    not_here q true p f e =
        let a = and_parts (y.set == s) (y.owner == o) p in
        let has : contains (members_of all s y.owner) x ≡ true = ap (λ k. contains (members_of all s k) x) (eqb-true y.owner o a.1) ∙ c in
        true≢false (sym (and_from (y.set == s) (contains (members_of all s y.owner) x) a.0 has) ∙ q)
    not_here q false p f e = f e

    by : (b : Bool) → ((y.set == s) && contains (members_of all s y.owner) x) ≡ b → ((members_of ms s o ≡ [] → ⊥) → is_some (owner_among ms all s x) ≡ true) → is_some (if b then Some y.owner else owner_among ms all s x) ≡ true
    by true q later = refl
    by false q later = later (not_here q ((y.set == s) && (y.owner == o)) refl f)

filed_so : (ms : List Members) (s o x : ℕ) → IsInList x (members_of ms s o) → is_filed ms s x ≡ true
filed_so ms s o x m = among_so ms ms s o x (contains_so (members_of ms s o) x m) (λ e. subst (IsInList x) e m)

in_set_so : (ts : List SetLayout) (b k d : ℕ) (ms : List Members) (c x : ℕ) (t : SetLayout) → slice_get ts k ≡ Some t → d ≡ b + k → t.member ≡ c → is_filed ms d x ≡ true → in_a_set ts b ms c x ≡ true
in_set_so [] b k d ms c x t q e g f = absurd cc
in_set_so (u ∷ ts) b zero d ms c x t q e g f =
    let same : u ≡ t = cc in
    let at : d ≡ b = omega (arith, e) in
    let class : u.member ≡ c = ap (λ (y : SetLayout). y.member) same ∙ g in
    let filed_ : is_filed ms b x ≡ true = subst (λ y. is_filed ms y x ≡ true) at f in
    or_left ((u.member == c) && is_filed ms b x) (in_a_set ts (b + 1) ms c x) (and_from (u.member == c) (is_filed ms b x) (eq-eqb u.member c class) filed_)
in_set_so (u ∷ ts) b (suc k) d ms c x t q e g f =
    let at : d ≡ b + 1 + k = omega (arith, e) in
    or_right ((u.member == c) && is_filed ms b x) (in_a_set ts (b + 1) ms c x) (in_set_so ts (b + 1) k d ms c x t q at g f)

-- what is in no set goes
cut_joined : (h : State) (c i : ℕ) (r : Record) → slice_get h.records i ≡ Some (Some r) → r.class ≡ c → in_a_set h.layout.sets 0 h.lists c (suc i) ≡ false → Joined h → Joined (record h { records = slice_set h.records i None })
cut_joined h c i r g own apart j s o x k m =
    lives_by (kind_of h.layout (member_class h.layout s)) h (record h { records = slice_set h.records i None }) (member_class h.layout s) x (λ _ p. p) (λ n e p. by n e p (i == n) refl) (j s o x k m)
  where
    -- it is no member of this set
    never : (n : ℕ) → x ≡ suc n → i ≡ n → class_of_record (slice_get h.records n) ≡ Some (member_class h.layout s) → ⊥
    never n e same p =
        let t = there h.layout.sets s k in
        let here : class_of_record (slice_get h.records n) ≡ Some r.class = ap (λ y. class_of_record (slice_get h.records y)) (sym same) ∙ ap class_of_record g in
        let class : Some r.class ≡ Some (member_class h.layout s) = sym here ∙ p in
        let kind : r.class ≡ member_class h.layout s = cc in
        let its : t.0.member ≡ c = sym (ap member_in t.1) ∙ sym kind ∙ own in
        let number : x ≡ suc i = e ∙ ap suc (sym same) in
        let filed_ : is_filed h.lists s (suc i) ≡ true = subst (λ y. is_filed h.lists s y ≡ true) number (filed_so h.lists s o x m) in
        let zero_on : s ≡ 0 + s = omega arith in
        true≢false (sym (in_set_so h.layout.sets 0 s s h.lists c (suc i) t.0 t.1 zero_on its filed_) ∙ apart)

    by : (n : ℕ) → x ≡ suc n → class_of_record (slice_get h.records n) ≡ Some (member_class h.layout s) → (b : Bool) → (i == n) ≡ b → class_of_record (slice_get (slice_set h.records i None) n) ≡ Some (member_class h.layout s)
    by n e p true q = absurd (never n e (eqb-true i n q) p)
    by n e p false q = ap class_of_record (get_other h.records i None n (eqb-false i n q)) ∙ p

pub destroyed_joined : (h : State) (c : ℕ) (x : ℤ) → (kind_of h.layout c ≡ Permanent → ⊥) → Joined h → Sane Joined (destroyed h c x)
destroyed_joined h c x other j = destroyed_keeps Joined h c x other (λ i r e q own apart. cut_joined h c i r q own apart j)
