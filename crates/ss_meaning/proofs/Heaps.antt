-- The operations on entities: the entities that live, and the modes of their attributes.
use Rattle.std.proofs.Common.{arith, inl, inr, ◌⊎◌, ◌≡◌, ℕ, zero, suc, ◌+◌, ◌-◌, ◌<◌, Bool, true, false, List, [], ◌∷◌, ◌++◌, length, Option, Some, None, Ok, Err, ℤ, pos, negsuc, refl, sym, ap, ◌∙◌, subst}
use Rattle.ss_meaning.proofs.Common.{Alpha, ClassKind, eqb-true, FaultKind, first_value, Integer, Layout, Mode, mode_of, Notice, Permanent, Temporary, Value}
use Rattle.std.specs.Prelude.{slice_get, slice_set, slice_index_or, replicate, map, ◌==◌, nat_lt, nat_le, Result, if◌then◌else◌}
use Rattle.std.specs.List.{AllByRecursion as Every}
use Rattle.ss_world.specs.State.{Record, State, kind_of, modes_of, and_then, issued_record, numbered_record, indexed_record, indexed, records_in, of_class, of_notice, is_notice, entity_in, entity_of_kind, notice, number_in, record_with_value, with_time, with_entity, with_entity_of_kind, with_indexed, value_in, assigned, timed, created, with_created, first_record, created_all, is_made, with_made, made_many, destroyed, let_go, in_a_set, owns_members, LAST_NUMBER, MOST_ENTITIES}
use Rattle.ss_meaning.specs.Fitting.{AreOfModes, IsFittingRecord, IsFittingHeap, class_of_record, living, made, IsIndex, IsLivingAs, IsLiving}
use Rattle.ss_meaning.proofs.Fine.{Sane, sane_then}
use Rattle.ss_meaning.proofs.Lists.{every_get, every_set, every_both, every_replicate}

-- the same entities live
pub record Same (s t : State) : Type 0 where
  pub layout : t.layout ≡ s.layout
  pub living : (x : ℤ) → living t x ≡ living s x
  pub made : (k : ℕ) → made t k ≡ made s k

-- ## References

class_known : (c : ℕ) (r : Record) → Sane (λ (q : Record). (q ≡ r) × (r.class ≡ c)) (of_class c r)
class_known c r = by (r.class == c) refl
  where
    by : (b : Bool) → (r.class == c) ≡ b → Sane (λ (q : Record). (q ≡ r) × (r.class ≡ c)) (if b then Ok r else Err Rattle.ss_base.specs.declared.fault.FaultKind.TheVariants.WrongClass)
    by true q = (refl, eqb-true r.class c q)
    by false q = tt

-- a number that was issued has this record
abbrev pub HasRecord : State → ℤ → Record → Type 0
HasRecord h (pos zero) r = ⊥
HasRecord h (pos (suc i)) r = slice_get h.records i ≡ Some (Some r)
HasRecord h (negsuc k) r = ⊥

issued_known : (o : Option (Option Record)) → Sane (λ (r : Record). o ≡ Some (Some r)) (issued_record o)
issued_known None = tt
issued_known (Some None) = tt
issued_known (Some (Some r)) = refl

pub numbered_known : (h : State) (x : ℤ) → Sane (HasRecord h x) (numbered_record h x)
numbered_known h (pos zero) = tt
numbered_known h (pos (suc i)) = issued_known (slice_get h.records i)
numbered_known h (negsuc k) = tt

-- an entity of a permanent class has this record
abbrev pub HasIndexed : State → ℕ → ℤ → Record → Type 0
HasIndexed h c (pos zero) r = ⊥
HasIndexed h c (pos (suc i)) r = slice_get (records_in (slice_get h.permanents c)) i ≡ Some r
HasIndexed h c (negsuc k) r = ⊥

at_index : (o : Option Record) → Sane (λ (r : Record). o ≡ Some r) (indexed_record o)
at_index None = tt
at_index (Some r) = refl

indexed_known : (h : State) (c : ℕ) (x : ℤ) → Sane (HasIndexed h c x) (indexed h c x)
indexed_known h c (pos zero) = tt
indexed_known h c (pos (suc i)) = at_index (slice_get (records_in (slice_get h.permanents c)) i)
indexed_known h c (negsuc k) = tt

-- the record of an entity of a class
abbrev pub IsEntityAs : ClassKind → State → ℕ → ℤ → Record → Type 0
IsEntityAs Permanent h c x r = HasIndexed h c x r
IsEntityAs Temporary h c x r = HasRecord h x r × (r.class ≡ c)
IsEntityAs Notice h c x r = HasRecord h x r × (r.class ≡ c)

single_known : (h : State) (c : ℕ) (x : ℤ) → Sane (λ (r : Record). HasRecord h x r × (r.class ≡ c)) (and_then (numbered_record h x) (of_class c))
single_known h c x =
    sane_then (λ (r : Record). HasRecord h x r × (r.class ≡ c)) (numbered_record h x) (of_class c) (numbered_known h x) (λ r q.
    weaken r (of_class c r) (class_known c r) q)
  where
    weaken : (r : Record) (o : Result Record FaultKind) → Sane (λ (q : Record). (q ≡ r) × (r.class ≡ c)) o → HasRecord h x r → Sane (λ (q : Record). HasRecord h x q × (q.class ≡ c)) o
    weaken r (Ok q) g p = (subst (λ y. HasRecord h x y) (sym g.0) p, ap (λ (y : Record). y.class) g.0 ∙ g.1)
    weaken r (Err k) g p = tt

kind_known : (k : ClassKind) (h : State) (c : ℕ) (x : ℤ) → Sane (IsEntityAs k h c x) (entity_of_kind h k c x)
kind_known Permanent h c x = indexed_known h c x
kind_known Temporary h c x = single_known h c x
kind_known Notice h c x = single_known h c x

pub entity_known : (h : State) (c : ℕ) (x : ℤ) → Sane (IsEntityAs (kind_of h.layout c) h c x) (entity_in h c x)
entity_known h c x = kind_known (kind_of h.layout c) h c x

living_by : (h : State) (x : ℤ) (r : Record) → HasRecord h x r → living h x ≡ Some r.class
living_by h (pos zero) r q = absurd q
living_by h (pos (suc i)) r q = ap class_of_record q
living_by h (negsuc k) r q = absurd q

pub get_within : {A : Type 0} (xs : List A) (i : ℕ) (a : A) → slice_get xs i ≡ Some a → i < length xs
get_within [] i a q = absurd cc
get_within (x ∷ xs) zero a q = omega arith
get_within (x ∷ xs) (suc i) a q = let h : i < length xs = get_within xs i a q in omega (arith, h)

index_by : (h : State) (c : ℕ) (x : ℤ) (r : Record) → HasIndexed h c x r → IsIndex (made h c) x
index_by h c (pos zero) r q = absurd q
index_by h c (pos (suc i)) r q = get_within (records_in (slice_get h.permanents c)) i r q
index_by h c (negsuc k) r q = absurd q

lives_by : (k : ClassKind) (h : State) (c : ℕ) (x : ℤ) (r : Record) → IsEntityAs k h c x r → IsLivingAs k h c x
lives_by Permanent h c x r q = index_by h c x r q
lives_by Temporary h c x r q = living_by h x r q.0 ∙ ap Some q.1
lives_by Notice h c x r q = living_by h x r q.0 ∙ ap Some q.1

-- what a reference means lives
pub entity_lives : (h : State) (c : ℕ) (x : ℤ) (r : Record) → IsEntityAs (kind_of h.layout c) h c x r → IsLiving h c x
entity_lives h c x r q = lives_by (kind_of h.layout c) h c x r q

-- ## Attributes

made_modes : (o : Option (Option (List Record))) (modes : List Mode) → ((rs : List Record) → o ≡ Some (Some rs) → Every (λ (r : Record). AreOfModes r.values modes) rs) → Every (λ (r : Record). AreOfModes r.values modes) (records_in o)
made_modes None modes h = tt
made_modes (Some None) modes h = tt
made_modes (Some (Some rs)) modes h = h rs refl

record_modes : (h : State) (x : ℤ) (r : Record) → IsFittingHeap h → HasRecord h x r → AreOfModes r.values (modes_of h.layout r.class)
record_modes h (pos zero) r f q = absurd q
record_modes h (pos (suc i)) r f q = every_get (IsFittingRecord h.layout) h.records i (Some r) f.0 q
record_modes h (negsuc k) r f q = absurd q

indexed_modes : (h : State) (c : ℕ) (x : ℤ) (r : Record) → IsFittingHeap h → HasIndexed h c x r → AreOfModes r.values (modes_of h.layout c)
indexed_modes h c (pos zero) r f q = absurd q
indexed_modes h c (pos (suc i)) r f q =
    every_get (λ (r : Record). AreOfModes r.values (modes_of h.layout c)) (records_in (slice_get h.permanents c)) i r (made_modes (slice_get h.permanents c) (modes_of h.layout c) (f.1 c)) q
indexed_modes h c (negsuc k) r f q = absurd q

modes_by : (k : ClassKind) (h : State) (c : ℕ) (x : ℤ) (r : Record) → IsFittingHeap h → IsEntityAs k h c x r → AreOfModes r.values (modes_of h.layout c)
modes_by Permanent h c x r f q = indexed_modes h c x r f q
modes_by Temporary h c x r f q = subst (λ d. AreOfModes r.values (modes_of h.layout d)) q.1 (record_modes h x r f q.0)
modes_by Notice h c x r f q = subst (λ d. AreOfModes r.values (modes_of h.layout d)) q.1 (record_modes h x r f q.0)

mode_at : (vs : List Value) (ms : List Mode) (k : ℕ) (m : Mode) (d : Value) → AreOfModes vs ms → slice_get ms k ≡ Some m → mode_of (slice_index_or vs k d) ≡ m
mode_at vs [] k m d q g = absurd cc
mode_at [] (n ∷ ms) k m d q g = absurd cc
mode_at (v ∷ vs) (n ∷ ms) zero m d q g = cc
mode_at (v ∷ vs) (n ∷ ms) (suc k) m d q g = let rest : AreOfModes vs ms = cc in mode_at vs ms k m d rest g

pub value_sane : (h : State) (c f : ℕ) (x : ℤ) (m : Mode) → IsFittingHeap h → slice_get (modes_of h.layout c) f ≡ Some m → Sane (λ v. mode_of v ≡ m) (value_in h c f x)
value_sane h c f x m fits q =
    sane_then (λ v. mode_of v ≡ m) (entity_in h c x) (λ r. Ok (slice_index_or r.values f (Rattle.ss_base.specs.declared.value.Value.TheVariants.Whole (pos 0)))) (entity_known h c x) (λ r g.
    mode_at r.values (modes_of h.layout c) f m (Rattle.ss_base.specs.declared.value.Value.TheVariants.Whole (pos 0)) (modes_by (kind_of h.layout c) h c x r fits g) q)

set_modes : (vs : List Value) (ms : List Mode) (k : ℕ) (m : Mode) (v : Value) → AreOfModes vs ms → slice_get ms k ≡ Some m → mode_of v ≡ m → AreOfModes (slice_set vs k v) ms
set_modes vs [] k m v q g p = absurd cc
set_modes [] (n ∷ ms) k m v q g p = absurd cc
set_modes (w ∷ vs) (n ∷ ms) zero m v q g p = cc
set_modes (w ∷ vs) (n ∷ ms) (suc k) m v q g p =
    let rest : AreOfModes vs ms = cc in
    let later : AreOfModes (slice_set vs k v) ms = set_modes vs ms k m v rest g p in cc

-- another record of the same class in place of one
pub set_class : (rs : List (Option Record)) (i : ℕ) (r q : Record) → slice_get rs i ≡ Some (Some r) → q.class ≡ r.class → (j : ℕ) → class_of_record (slice_get (slice_set rs i (Some q)) j) ≡ class_of_record (slice_get rs j)
set_class [] i r q g c j = absurd cc
set_class (o ∷ rs) zero r q g c zero = let there : o ≡ Some r = cc in ap Some c ∙ sym (ap (λ y. class_of_record (Some y)) there)
set_class (o ∷ rs) zero r q g c (suc j) = refl
set_class (o ∷ rs) (suc i) r q g c zero = refl
set_class (o ∷ rs) (suc i) r q g c (suc j) = set_class rs i r q g c j

pub set_length : {A : Type 0} (xs : List A) (i : ℕ) (a : A) → length (slice_set xs i a) ≡ length xs
set_length [] i a = refl
set_length (x ∷ xs) zero a = refl
set_length (x ∷ xs) (suc i) a = ap suc (set_length xs i a)

-- ## Assigning

-- a heap with another record in place of that of a creation number, of the same class
set_same : (h : State) (i : ℕ) (r q : Record) → slice_get h.records i ≡ Some (Some r) → q.class ≡ r.class → Same h (record h { records = slice_set h.records i (Some q) })
set_same h i r q g c = record { layout = refl; living = lives; made = λ k. refl }
  where
    lives : (x : ℤ) → living (record h { records = slice_set h.records i (Some q) }) x ≡ living h x
    lives (pos zero) = refl
    lives (pos (suc j)) = set_class h.records i r q g c j
    lives (negsuc k) = refl

-- with the heap that fits
abbrev pub Changed : State → State → Type 0
Changed h t = IsFittingHeap t × Same h t

set_single : (h : State) (i : ℕ) (r q : Record) → IsFittingHeap h → slice_get h.records i ≡ Some (Some r) → q.class ≡ r.class → AreOfModes q.values (modes_of h.layout r.class) → Changed h (record h { records = slice_set h.records i (Some q) })
set_single h i r q f g c m =
    ((every_set (IsFittingRecord h.layout) h.records i (Some q) f.0 (subst (λ d. AreOfModes q.values (modes_of h.layout d)) (sym c) m), f.1), set_same h i r q g c)

-- the number of an entity that is there
pub number_is : (h : State) (x : ℤ) (r : Record) → HasRecord h x r → slice_get h.records (number_in x - 1) ≡ Some (Some r)
number_is h (pos zero) r q = absurd q
number_is h (pos (suc i)) r q = let one : suc i - 1 ≡ i = omega arith in subst (λ j. slice_get h.records j ≡ Some (Some r)) (sym one) q
number_is h (negsuc k) r q = absurd q

-- the records of permanent entities, one of which is another
made_set : (o : Option (Option (List Record))) (i : ℕ) (r : Record) → length (records_in (Some (with_indexed o i r))) ≡ length (records_in o)
made_set None i r = refl
made_set (Some None) i r = refl
made_set (Some (Some rs)) i r = set_length rs (i - 1) r

pub made_at : (ps : List (Option (List Record))) (c i : ℕ) (r : Record) (k : ℕ) → length (records_in (slice_get (slice_set ps c (with_indexed (slice_get ps c) i r)) k)) ≡ length (records_in (slice_get ps k))
made_at [] c i r k = refl
made_at (o ∷ ps) zero i r zero = made_set (Some o) i r
made_at (o ∷ ps) zero i r (suc k) = refl
made_at (o ∷ ps) (suc c) i r zero = refl
made_at (o ∷ ps) (suc c) i r (suc k) = made_at ps c i r k

-- they all hold these modes
abbrev pub RowFits : List Mode → Option (Option (List Record)) → Type 0
RowFits modes o = (rs : List Record) → o ≡ Some (Some rs) → Every (λ (r : Record). AreOfModes r.values modes) rs

row_set : (modes : List Mode) (o : Option (Option (List Record))) (i : ℕ) (r : Record) → RowFits modes o → AreOfModes r.values modes → RowFits modes (Some (with_indexed o i r))
row_set modes None i r h g rs q = absurd cc
row_set modes (Some None) i r h g rs q = absurd cc
row_set modes (Some (Some qs)) i r h g rs q =
    let there : slice_set qs (i - 1) r ≡ rs = cc in
    subst (λ xs. Every (λ (r : Record). AreOfModes r.values modes) xs) there (every_set (λ (r : Record). AreOfModes r.values modes) qs (i - 1) r (h qs refl) g)

rows_set : (ps : List (Option (List Record))) (modes : ℕ → List Mode) (c : ℕ) (o : Option (List Record)) → ((k : ℕ) → RowFits (modes k) (slice_get ps k)) → RowFits (modes c) (Some o) → (k : ℕ) → RowFits (modes k) (slice_get (slice_set ps c o) k)
rows_set [] modes c o h g k = h k
rows_set (p ∷ ps) modes zero o h g zero = g
rows_set (p ∷ ps) modes zero o h g (suc k) = h (suc k)
rows_set (p ∷ ps) modes (suc c) o h g zero = h zero
rows_set (p ∷ ps) modes (suc c) o h g (suc k) = rows_set ps (λ j. modes (suc j)) c o (λ j. h (suc j)) g k

indexed_changed : (h : State) (c : ℕ) (n : ℕ) (r : Record) → IsFittingHeap h → AreOfModes r.values (modes_of h.layout c) → Changed h (with_entity_of_kind h Permanent c n r)
indexed_changed h c n r f m = (
  (f.0, rows_set h.permanents (modes_of h.layout) c (with_indexed (slice_get h.permanents c) n r) f.1 (row_set (modes_of h.layout c) (slice_get h.permanents c) n r (f.1 c) m)),
  record { layout = refl; living = lives; made = made_at h.permanents c n r },
)
  where
    lives : (x : ℤ) → living (with_entity_of_kind h Permanent c n r) x ≡ living h x
    lives (pos zero) = refl
    lives (pos (suc j)) = refl
    lives (negsuc k) = refl

assigned_by : (k : ClassKind) (h : State) (c : ℕ) (x : ℤ) (r q : Record) → IsFittingHeap h → IsEntityAs k h c x r → q.class ≡ r.class → AreOfModes q.values (modes_of h.layout c) → Changed h (with_entity_of_kind h k c (number_in x) q)
assigned_by Permanent h c x r q f e g m = indexed_changed h c (number_in x) q f m
assigned_by Temporary h c x r q f e g m = set_single h (number_in x - 1) r q f (number_is h x r e.0) g (subst (λ d. AreOfModes q.values (modes_of h.layout d)) (sym e.1) m)
assigned_by Notice h c x r q f e g m = set_single h (number_in x - 1) r q f (number_is h x r e.0) g (subst (λ d. AreOfModes q.values (modes_of h.layout d)) (sym e.1) m)

-- an attribute is assigned a value of its mode
pub assigned_sane : (h : State) (c f : ℕ) (x : ℤ) (v : Value) (m : Mode) → IsFittingHeap h → slice_get (modes_of h.layout c) f ≡ Some m → mode_of v ≡ m → Sane (Changed h) (assigned h c f x v)
assigned_sane h c f x v m fits q g =
    sane_then (Changed h) (entity_in h c x) (λ r. Ok (with_entity h c (number_in x) (record_with_value r f v))) (entity_known h c x) (λ r e.
    assigned_by (kind_of h.layout c) h c x r (record_with_value r f v) fits e refl (set_modes r.values (modes_of h.layout c) f m v (modes_by (kind_of h.layout c) h c x r fits e) q g))

-- ## Notices

-- the record of a living notice
abbrev pub NoticeIs : State → ℤ → Record → Type 0
NoticeIs h x r = HasRecord h x r × (kind_of h.layout r.class ≡ Notice)

notice_class : (l : Layout) (k : ClassKind) (r : Record) → kind_of l r.class ≡ k → Sane (λ (q : Record). (q ≡ r) × (kind_of l r.class ≡ Notice)) (if is_notice k then Ok r else Err Rattle.ss_base.specs.declared.fault.FaultKind.TheVariants.WrongClass)
notice_class l Permanent r q = tt
notice_class l Temporary r q = tt
notice_class l Notice r q = (refl, q)

pub notice_known : (h : State) (x : ℤ) → Sane (NoticeIs h x) (notice h x)
notice_known h x =
    sane_then (NoticeIs h x) (numbered_record h x) (of_notice h.layout) (numbered_known h x) (λ r q. weaken r (of_notice h.layout r) (notice_class h.layout (kind_of h.layout r.class) r refl) q)
  where
    weaken : (r : Record) (o : Result Record FaultKind) → Sane (λ (q : Record). (q ≡ r) × (kind_of h.layout r.class ≡ Notice)) o → HasRecord h x r → Sane (NoticeIs h x) o
    weaken r (Ok q) g p = (subst (λ y. HasRecord h x y) (sym g.0) p, subst (λ (y : Record). kind_of h.layout y.class ≡ Notice) (sym g.0) g.1)
    weaken r (Err k) g p = tt

-- TIME.A of a notice is set
pub timed_sane : (h : State) (x t : ℤ) → IsFittingHeap h → Sane (Changed h) (timed h x t)
timed_sane h x t fits =
    sane_then (Changed h) (notice h x) (λ r. Ok (record h { records = slice_set h.records (number_in x - 1) (Some (with_time r t)) })) (notice_known h x) (λ r e.
    set_single h (number_in x - 1) r (with_time r t) fits (number_is h x r e.0) refl (record_modes h x r fits e.0))

-- ## Creating

-- one more record
get_before : {A : Type 0} (xs : List A) (y : A) (i : ℕ) (a : A) → slice_get xs i ≡ Some a → slice_get (xs ++ y ∷ []) i ≡ Some a
get_before [] y i a q = absurd cc
get_before (x ∷ xs) y zero a q = q
get_before (x ∷ xs) y (suc i) a q = get_before xs y i a q

-- what a longer list has was there, or is the new one
get_either : (xs : List (Option Record)) (y : Record) (i : ℕ) (c : ℕ) → class_of_record (slice_get (xs ++ Some y ∷ []) i) ≡ Some c → (class_of_record (slice_get xs i) ≡ Some c) ⊎ ((i ≡ length xs) × (y.class ≡ c))
get_either [] y zero c q = inr (refl, cc)
get_either [] y (suc i) c q = absurd cc
get_either (x ∷ xs) y zero c q = inl q
get_either (x ∷ xs) y (suc i) c q = by (get_either xs y i c q)
  where
    by : (class_of_record (slice_get xs i) ≡ Some c) ⊎ ((i ≡ length xs) × (y.class ≡ c)) → (class_of_record (slice_get (x ∷ xs) (suc i)) ≡ Some c) ⊎ ((suc i ≡ length (x ∷ xs)) × (y.class ≡ c))
    by (inl h) = inl h
    by (inr h) = inr (ap suc h.0, h.1)

get_last : (xs : List (Option Record)) (y : Record) → class_of_record (slice_get (xs ++ Some y ∷ []) (length xs)) ≡ Some y.class
get_last [] y = refl
get_last (x ∷ xs) y = get_last xs y

first_modes : (modes : List Mode) → AreOfModes (map first_value modes) modes
first_modes [] = refl
first_modes (m ∷ ms) = let here : mode_of (first_value m) ≡ m = first_mode m in let rest : AreOfModes (map first_value ms) ms = first_modes ms in cc
  where
    first_mode : (m : Mode) → mode_of (first_value m) ≡ m
    first_mode Integer = refl
    first_mode Alpha = refl

-- a heap with a new entity of a class
pub record Created (h : State) (class : ℕ) (b : ℤ × State) : Type 0 where
  pub fits : IsFittingHeap b.1
  pub layout : b.1.layout ≡ h.layout
  pub made : (k : ℕ) → made b.1 k ≡ made h k
  pub kept : (x : ℤ) (c : ℕ) → living h x ≡ Some c → living b.1 x ≡ Some c
  pub new : living b.1 b.0 ≡ Some class
  pub no_other : (x : ℤ) (c : ℕ) → living b.1 x ≡ Some c → (living h x ≡ Some c) ⊎ ((x ≡ b.0) × (class ≡ c))

with_created_is : (h : State) (class : ℕ) → IsFittingHeap h → Created h class (pos (length h.records + 1), with_created h class)
with_created_is h class f = record {
  fits = (every_both (IsFittingRecord h.layout) h.records (Some (first_record h.layout class) ∷ []) f.0 (first_modes (modes_of h.layout class), tt), f.1);
  layout = refl;
  made = λ k. refl;
  kept = kept;
  new = new;
  no_other = other;
}
  where
    one : length h.records + 1 ≡ suc (length h.records)
    one = omega arith

    kept : (x : ℤ) (c : ℕ) → living h x ≡ Some c → living (with_created h class) x ≡ Some c
    kept (pos zero) c q = absurd cc
    kept (pos (suc i)) c q = by (slice_get h.records i) refl q
      where
        by : (o : Option (Option Record)) → slice_get h.records i ≡ o → class_of_record o ≡ Some c → class_of_record (slice_get (h.records ++ Some (first_record h.layout class) ∷ []) i) ≡ Some c
        by None g p = absurd cc
        by (Some o) g p = ap class_of_record (get_before h.records (Some (first_record h.layout class)) i o g) ∙ p
    kept (negsuc k) c q = absurd cc

    new : living (with_created h class) (pos (length h.records + 1)) ≡ Some class
    new = subst (λ n. living (with_created h class) (pos n) ≡ Some class) (sym one) (get_last h.records (first_record h.layout class))

    other : (x : ℤ) (c : ℕ) → living (with_created h class) x ≡ Some c → (living h x ≡ Some c) ⊎ ((x ≡ pos (length h.records + 1)) × (class ≡ c))
    other (pos zero) c q = absurd cc
    other (pos (suc i)) c q = by (get_either h.records (first_record h.layout class) i c q)
      where
        by : (class_of_record (slice_get h.records i) ≡ Some c) ⊎ ((i ≡ length h.records) × (class ≡ c)) → (living h (pos (suc i)) ≡ Some c) ⊎ ((pos (suc i) ≡ pos (length h.records + 1)) × (class ≡ c))
        by (inl g) = inl g
        by (inr g) = inr (ap pos (ap suc g.0 ∙ sym one), g.1)
    other (negsuc k) c q = absurd cc

pub created_sane : (h : State) (class : ℕ) → IsFittingHeap h → Sane (Created h class) (created h class)
created_sane h class f = by (nat_lt (length h.records) LAST_NUMBER)
  where
    by : (b : Bool) → Sane (Created h class) (if b then Ok (pos (length h.records + 1), with_created h class) else Err Rattle.ss_base.specs.declared.fault.FaultKind.TheVariants.Overflow)
    by true = with_created_is h class f
    by false = tt

pub get_other : {A : Type 0} (xs : List A) (c : ℕ) (a : A) (k : ℕ) → (c ≡ k → ⊥) → slice_get (slice_set xs c a) k ≡ slice_get xs k
get_other [] c a k h = refl
get_other (x ∷ xs) zero a zero h = absurd (h refl)
get_other (x ∷ xs) zero a (suc k) h = refl
get_other (x ∷ xs) (suc c) a zero h = refl
get_other (x ∷ xs) (suc c) a (suc k) h = get_other xs c a k (λ q. h (ap suc q))

-- a heap with the entities of a permanent class
pub record Filled (h : State) (class : ℕ) (t : State) : Type 0 where
  pub fits : IsFittingHeap t
  pub layout : t.layout ≡ h.layout
  pub living : (x : ℤ) → living t x ≡ living h x
  pub others : (k : ℕ) → (class ≡ k → ⊥) → made t k ≡ made h k

with_made_is : (h : State) (class n : ℕ) → IsFittingHeap h → Filled h class (with_made h class n)
with_made_is h class n f = record {
  fits = (f.0, rows_set h.permanents (modes_of h.layout) class (Some (replicate n (first_record h.layout class))) f.1 here);
  layout = refl;
  living = lives;
  others = λ k no. ap (λ o. length (records_in o)) (get_other h.permanents class (Some (replicate n (first_record h.layout class))) k no);
}
  where
    here : RowFits (modes_of h.layout class) (Some (Some (replicate n (first_record h.layout class))))
    here rs q =
        let there : replicate n (first_record h.layout class) ≡ rs = cc in
        subst (λ xs. Every (λ (r : Record). AreOfModes r.values (modes_of h.layout class)) xs) there
        (every_replicate (λ (r : Record). AreOfModes r.values (modes_of h.layout class)) n (first_record h.layout class) (first_modes (modes_of h.layout class)))

    lives : (x : ℤ) → living (with_made h class n) x ≡ living h x
    lives (pos zero) = refl
    lives (pos (suc j)) = refl
    lives (negsuc k) = refl

-- what holds of a heap with the entities of a class that were not made
pub created_all_keeps : (Q : State → Type 0) (h : State) (class : ℕ) (z : ℤ) → ((n : ℕ) → is_made h class ≡ false → Q (with_made h class n)) → Sane Q (created_all h class z)
created_all_keeps Q h class z so = by (is_made h class) refl
  where
    in_range : is_made h class ≡ false → (n : ℕ) (b : Bool) → Sane Q (if b then Ok (with_made h class n) else Err Rattle.ss_base.specs.declared.fault.FaultKind.TheVariants.BadCount)
    in_range q n true = so n q
    in_range q n false = tt

    many : is_made h class ≡ false → (z : ℤ) → Sane Q (made_many h class z)
    many q (pos n) = in_range q n (nat_le n MOST_ENTITIES)
    many q (negsuc k) = tt

    by : (b : Bool) → is_made h class ≡ b → Sane Q (if b then Err Rattle.ss_base.specs.declared.fault.FaultKind.TheVariants.CreatedTwice else made_many h class z)
    by true q = tt
    by false q = many q z

pub created_all_sane : (h : State) (class : ℕ) (z : ℤ) → IsFittingHeap h → Sane (Filled h class) (created_all h class z)
created_all_sane h class z f = created_all_keeps (Filled h class) h class z (λ n q. with_made_is h class n f)

-- ## Destroying

-- a heap without an entity
pub record Gone (h : State) (x : ℤ) (t : State) : Type 0 where
  pub fits : IsFittingHeap t
  pub layout : t.layout ≡ h.layout
  pub made : (k : ℕ) → made t k ≡ made h k
  pub before : (y : ℤ) (c : ℕ) → living t y ≡ Some c → living h y ≡ Some c
  pub kept : (y : ℤ) (c : ℕ) → (x ≡ y → ⊥) → living h y ≡ Some c → living t y ≡ Some c
  pub absent : (c : ℕ) → living t x ≡ Some c → ⊥

cut_before : (rs : List (Option Record)) (i j c : ℕ) → class_of_record (slice_get (slice_set rs i None) j) ≡ Some c → class_of_record (slice_get rs j) ≡ Some c
cut_before [] i j c q = q
cut_before (r ∷ rs) zero zero c q = absurd cc
cut_before (r ∷ rs) zero (suc j) c q = q
cut_before (r ∷ rs) (suc i) zero c q = q
cut_before (r ∷ rs) (suc i) (suc j) c q = cut_before rs i j c q

cut_absent : (rs : List (Option Record)) (i c : ℕ) → class_of_record (slice_get (slice_set rs i None) i) ≡ Some c → ⊥
cut_absent [] i c q = absurd cc
cut_absent (r ∷ rs) zero c q = absurd cc
cut_absent (r ∷ rs) (suc i) c q = cut_absent rs i c q

cut_is : (h : State) (i : ℕ) → IsFittingHeap h → Gone h (pos (suc i)) (record h { records = slice_set h.records i None })
cut_is h i f = record {
  fits = (every_set (IsFittingRecord h.layout) h.records i None f.0 tt, f.1);
  layout = refl;
  made = λ k. refl;
  before = before;
  kept = kept;
  absent = cut_absent h.records i;
}
  where
    before : (y : ℤ) (c : ℕ) → living (record h { records = slice_set h.records i None }) y ≡ Some c → living h y ≡ Some c
    before (pos zero) c q = q
    before (pos (suc j)) c q = cut_before h.records i j c q
    before (negsuc k) c q = q

    kept : (y : ℤ) (c : ℕ) → (pos (suc i) ≡ y → ⊥) → living h y ≡ Some c → living (record h { records = slice_set h.records i None }) y ≡ Some c
    kept (pos zero) c other q = q
    kept (pos (suc j)) c other q = ap class_of_record (get_other h.records i None j (λ e. other (ap pos (ap suc e)))) ∙ q
    kept (negsuc k) c other q = q

-- what holds once the record of an entity that is in no set goes
abbrev pub LetsGo : (State → Type 0) → State → ℕ → ℤ → Type 0
LetsGo Q h c x = (i : ℕ) (r : Record) → x ≡ pos (suc i) → slice_get h.records i ≡ Some (Some r) → r.class ≡ c → in_a_set h.layout.sets 0 h.lists c (suc i) ≡ false → Q (record h { records = slice_set h.records i None })

let_go_keeps : (Q : State → Type 0) (h : State) (c : ℕ) (x : ℤ) (r : Record) → HasRecord h x r → r.class ≡ c → LetsGo Q h c x → Sane Q (let_go h c (number_in x))
let_go_keeps Q h c (pos zero) r q own go = absurd q
let_go_keeps Q h c (pos (suc i)) r q own go = first (in_a_set h.layout.sets 0 h.lists c (suc i)) refl
  where
    one : suc i - 1 ≡ i
    one = omega arith

    second : in_a_set h.layout.sets 0 h.lists c (suc i) ≡ false → (b : Bool) → Sane Q (if b then Err Rattle.ss_base.specs.declared.fault.FaultKind.TheVariants.OwnsMembers else Ok (record h { records = slice_set h.records (suc i - 1) None }))
    second apart true = tt
    second apart false = subst (λ k. Q (record h { records = slice_set h.records k None })) (sym one) (go i r refl q own apart)

    first : (b : Bool) → in_a_set h.layout.sets 0 h.lists c (suc i) ≡ b → Sane Q (if b then Err Rattle.ss_base.specs.declared.fault.FaultKind.TheVariants.InASet else (if owns_members h.layout.sets 0 h.lists c (suc i) then Err Rattle.ss_base.specs.declared.fault.FaultKind.TheVariants.OwnsMembers else Ok (record h { records = slice_set h.records (suc i - 1) None })))
    first true apart = tt
    first false apart = second apart (owns_members h.layout.sets 0 h.lists c (suc i))
let_go_keeps Q h c (negsuc k) r q own go = absurd q

single_by : (k : ClassKind) (h : State) (c : ℕ) (x : ℤ) (r : Record) → (k ≡ Permanent → ⊥) → IsEntityAs k h c x r → HasRecord h x r × (r.class ≡ c)
single_by Permanent h c x r other q = absurd (other refl)
single_by Temporary h c x r other q = q
single_by Notice h c x r other q = q

pub destroyed_keeps : (Q : State → Type 0) (h : State) (c : ℕ) (x : ℤ) → (kind_of h.layout c ≡ Permanent → ⊥) → LetsGo Q h c x → Sane Q (destroyed h c x)
destroyed_keeps Q h c x other go =
    sane_then Q (entity_in h c x) (λ r. let_go h c (number_in x)) (entity_known h c x) (λ r q.
    let e = single_by (kind_of h.layout c) h c x r other q in let_go_keeps Q h c x r e.0 e.1 go)

pub destroyed_sane : (h : State) (c : ℕ) (x : ℤ) → IsFittingHeap h → (kind_of h.layout c ≡ Permanent → ⊥) → Sane (Gone h x) (destroyed h c x)
destroyed_sane h c x f other =
    destroyed_keeps (Gone h x) h c x other (λ i r e q own apart. subst (λ y. Gone h y (record h { records = slice_set h.records i None })) (sym e) (cut_is h i f))
