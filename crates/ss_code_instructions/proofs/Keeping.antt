-- No operation changes what the program says once and for all, or that each member of a set lives, and none but that of a READ the input.
use Rattle.std.proofs.Common.{◌≡◌, ℕ, ◌+◌, Bool, true, false, List, [], ◌∷◌, Option, Some, None, Ok, Err, ℤ, pos, refl, sym, ap, ◌∙◌, true≢false}
use Rattle.ss_code_instructions.proofs.Common.{assigned_attribute, assigned_variable, ByRule, calculated, changed_attribute, ClassLayout, Code, count_in, CountedClass, due, End, end_removed, Failure, FaultKind, filed, filed_after, filed_before, filed_by, filed_first, filed_in, filed_last, Filing, Foremost, Given, Global, HasTakenIf, Hindmost, if_ok, int_lt, is_fit, is_of_mode, JustAfter, JustBefore, Local, member, Mode, number_of, OfAttribute, OfCount, OfVariable, operator_of, owner_number, Permanent, read_value, recounted, removed, removed_at, removed_from, Result, Sane, Sign, slice_get, Subject, sure, turned, unless_fault, Value, value_given, Variable, where_fit, Whole, with_input}
use Rattle.ss_meaning.specs.Entities.{attribute, class_at, entity, is_permanent, is_single, made_all, made_one, with_new, without, field_at, comes_singly, with_all, with_none, gone}
use Rattle.ss_meaning.specs.Events.{Beginning, Coming, event_begun, filed_notice, made_notice, next_event, rescheduled, unscheduled, Ranked, ranked, ties_of, attributes_given, with_notice_time, endowed, prepared, saved_or_gone, coming_as, coming_with, ranked_as}
use Rattle.ss_meaning.specs.Histories.{all_noting, noted, renewed}
use Rattle.ss_meaning.specs.Statistics.{reset, subject_of_statistic, bearer_number, present}
use Rattle.ss_meaning.specs.Store.{fetched, Setting, Store, with_heap, with_histories, with_pending, put_at, put}
use Rattle.ss_world.specs.State.{assigned, created, State, timed, kind_in, notice, created_all, destroyed}
use Rattle.ss_base.specs.declared.fault.FaultKind.TheVariants.{Scheduled, AlreadyScheduled, PastTime}
use Rattle.ss_world.specs.PendingList.{is_pending, scheduled, cancelled, least_event}
use Rattle.ss_meaning.proofs.Filings.{first_sane, last_sane, before_sane, after_sane, removed_sane, filed_sane, end_sane}
use Rattle.ss_code_instructions.proofs.Joining.{Joined, assigned_joined, timed_joined, created_joined, created_all_joined, keeps_joined, destroyed_joined}

-- what an operation gives, where it gives anything, has a property
abbrev pub Only : {A : Type 0} → (A → Type 0) → Result A Failure → Type 0
Only P (Ok a) = P a
Only P (Err t) = Unit {0}

abbrev pub Where : {A : Type 0} → (A → Type 0) → Option A → Type 0
Where P (Some a) = P a
Where P None = Unit {0}

module _ {B : Type 0} (P : B → Type 0) where
  pub each : {A : Type 0} (r : Result A Failure) (f : A → Result B Failure) → ((a : A) → Only P (f a)) → Only P (if_ok r f)
  each (Ok a) f h = h a
  each (Err t) f h = tt

  pub then_only : {A : Type 0} (Q : A → Type 0) (r : Result A Failure) (f : A → Result B Failure) → Only Q r → ((a : A) → Q a → Only P (f a)) → Only P (if_ok r f)
  then_only Q (Ok a) f q h = h a q
  then_only Q (Err t) f q h = tt

  pub made : {A : Type 0} (f : A → B) (r : Result A Failure) → ((a : A) → P (f a)) → Only P (turned f r)
  made f (Ok a) h = h a
  made f (Err t) h = tt

  pub made_from : {A : Type 0} (Q : A → Type 0) (f : A → B) (r : Result A Failure) → Only Q r → ((a : A) → Q a → P (f a)) → Only P (turned f r)
  made_from Q f (Ok a) q h = h a q
  made_from Q f (Err t) q h = tt

  pub fitting : (b : Bool) (r : Result B Failure) → Only P r → Only P (where_fit b r)
  fitting true r h = h
  fitting false r h = tt

  pub unless : (b : Bool) (kind : FaultKind) (r : Result B Failure) → Only P r → Only P (unless_fault b kind r)
  unless true kind r h = tt
  unless false kind r h = h

-- a store in which the program says the same
abbrev pub Says : Store → Store → Type 0
Says s t = t.world.setting ≡ s.world.setting

-- and where each member of a set lives in the one store, it does in the other
abbrev pub Lasts : Store → Store → Type 0
Lasts s t = Says s t × (Joined s.world.heap → Joined t.world.heap)

pub lasts_then : (s t u : Store) → Lasts s t → Lasts t u → Lasts s u
lasts_then s t u p q = (q.0 ∙ p.0, λ j. q.1 (p.1 j))

-- and in which the input is the same
abbrev pub said : Store → Setting × List ℕ
said s = (s.world.setting, s.world.input)

abbrev pub Same : Store → Store → Type 0
Same s t = (said t ≡ said s) × (Joined s.world.heap → Joined t.world.heap)

pub same_here : (s : Store) → Same s s
same_here s = (refl, λ j. j)

pub same_then : (s t u : Store) → Same s t → Same t u → Same s u
same_then s t u p q = (q.0 ∙ p.0, λ j. q.1 (p.1 j))

pub lasts_so : (s t : Store) → Same s t → Lasts s t
lasts_so s t p = (ap (λ (b : Setting × List ℕ). b.0) p.0, p.1)

-- a store in which the program says what its code says, and each member of a set lives
abbrev pub Suits : Code → Store → Type 0
Suits code s = (s.world.setting ≡ code.setting) × Joined s.world.heap

pub suits_on : (code : Code) (s t : Store) → Lasts s t → Suits code s → Suits code t
suits_on code s t p q = (p.0 ∙ q.0, p.1 q.1)

abbrev HeapLasts : Store → State → Type 0
HeapLasts s h = Joined s.world.heap → Joined h

abbrev pub SameWith : {A : Type 0} → Store → A × Store → Type 0
SameWith s b = Same s b.1

same_on : (s t : Store) (r : Result Store Failure) → Same s t → Only (Same t) r → Only (Same s) r
same_on s t (Ok u) p q = same_then s t u p q
same_on s t (Err e) p q = tt

-- what an operation of the heap gives
due_lasts : {A : Type 0} (s : Store) (P : A → Type 0) (r : Result A FaultKind) → (Joined s.world.heap → Sane P r) → Only (λ a. Joined s.world.heap → P a) (due r)
due_lasts s P (Ok a) f = f
due_lasts s P (Err k) f = tt

noted_same : (subject : Subject) (n : ℤ) (v : Value) (s : Store) → Only (Same s) (noted subject n v s)
noted_same subject n v s =
    made (Same s) (with_histories s) (all_noting subject n s.world.time v s.world.setting.statistics s.world.histories) (λ hs. same_here s)

-- once the heap has changed
heaped_same : (subject : Subject) (n : ℤ) (v : Value) (s : Store) (h : State) → HeapLasts s h → Only (Same s) (noted subject n v (with_heap s h))
heaped_same subject n v s h p = same_on s (with_heap s h) (noted subject n v (with_heap s h)) (refl, p) (noted_same subject n v (with_heap s h))

put_same : (x : Variable) (v : Value) (s : Store) → Only (Same s) (put x v s)
put_same (Global k) v s = made (Same s) (λ vs. record s { globals = vs }) (put_at s.globals k v) (λ vs. same_here s)
put_same (Local k) v s = made (Same s) (λ vs. record s { locals = vs }) (put_at s.locals k v) (λ vs. same_here s)

pub variable_same : (x : Variable) (v : Value) (s : Store) → Only (Same s) (assigned_variable x v s)
variable_same (Global k) v s =
    then_only (Same s) (Same s) (put (Global k) v s) (noted (OfVariable k) (pos 0) v) (put_same (Global k) v s) (λ t p.
    same_on s t (noted (OfVariable k) (pos 0) v t) p (noted_same (OfVariable k) (pos 0) v t))
variable_same (Local k) v s = put_same (Local k) v s

pub attribute_same : (class field : ℕ) (x v : Value) (s : Store) → Only (Same s) (assigned_attribute class field x v s)
attribute_same class field x v s =
    each (Same s) (entity class x s) _ (λ n. fitting (Same s) (is_of_mode v (field_at class field s)) _
    (then_only (Same s) (HeapLasts s) (due (assigned s.world.heap class field n v)) (λ h. noted (OfAttribute class field) n v (with_heap s h))
    (due_lasts s Joined (assigned s.world.heap class field n v) (λ j. assigned_joined s.world.heap class field n v j)) (λ h p. heaped_same (OfAttribute class field) n v s h p)))

pub changed_same : (sign : Sign) (class field : ℕ) (x y : Value) (s : Store) → Only (Same s) (changed_attribute sign class field x y s)
changed_same sign class field x y s = each (Same s) (attribute class field x s) _ (λ v. each (Same s) (calculated (operator_of sign) v y) _ (λ w. attribute_same class field x w s))

pub made_one_same : (class : ℕ) (s : Store) → Only (SameWith {A = Value} s) (made_one class s)
made_one_same class s =
    fitting (SameWith s) (is_single (class_at class s)) _
    (made_from (SameWith s) (λ (b : ℤ × State). HeapLasts s b.1) (with_new class s) (due (created s.world.heap class))
    (due_lasts s (λ (b : ℤ × State). Joined b.1) (created s.world.heap class) (λ j. created_joined s.world.heap class j)) (λ b p. (refl, p)))

pub made_all_same : (c : CountedClass) (s : Store) → Only (Same s) (made_all c s)
made_all_same c s =
    each (Same s) (sure (fetched (Global c.variable) s)) _ (λ v. each (Same s) (number_of v) _ (λ n.
    fitting (Same s) (is_permanent (class_at c.class s)) _
    (made_from (Same s) (HeapLasts s) (with_all c.class s) (due (created_all s.world.heap c.class n))
    (due_lasts s Joined (created_all s.world.heap c.class n) (λ j. created_all_joined s.world.heap c.class n j)) (λ h p. (refl, p)))))

-- a class whose entities come and go one by one is not permanent
not_permanent : (o : Option ClassLayout) → is_single o ≡ true → kind_in o ≡ Permanent → ⊥
not_permanent None q p = true≢false (sym q)
not_permanent (Some c) q p = true≢false (sym q ∙ ap comes_singly p)

pub gone_same : (class : ℕ) (x : Value) (s : Store) → Only (Same s) (gone class x s)
gone_same class x s = each (Same s) (number_of x) _ (λ n. by n (is_single (class_at class s)) refl)
  where
    by : (n : ℤ) (b : Bool) → is_single (class_at class s) ≡ b → Only (Same s) (where_fit b (turned (with_none class n s) (due (destroyed s.world.heap class n))))
    by n true q =
        made_from (Same s) (HeapLasts s) (with_none class n s) (due (destroyed s.world.heap class n))
        (due_lasts s Joined (destroyed s.world.heap class n) (λ j. destroyed_joined s.world.heap class n (not_permanent (class_at class s) q) j)) (λ h p. (refl, p))
    by n false q = tt

pub without_same : (class : ℕ) (x : Value) (s : Store) → Only (Same s) (without class x s)
without_same class x s = each (Same s) (entity class x s) _ (λ n. unless (Same s) (is_pending n s.world.pending.entries) Scheduled (gone class x s) (gone_same class x s))

recounted_same : (set : ℕ) (owner : ℤ) (s : Store) (h : State) → HeapLasts s h → Only (Same s) (recounted set owner s h)
recounted_same set owner s h p = each (Same s) (due (count_in h set owner)) _ (λ n. heaped_same (OfCount set) owner (Whole n) s h p)

filed_by_lasts : (f : Filing) (set : ℕ) (o x : ℤ) (s : Store) → Only (HeapLasts s) (filed_by f set o x s)
filed_by_lasts ByRule set o x s =
    each (HeapLasts s) (sure (slice_get s.world.setting.disciplines set)) _ (λ d. fitting (HeapLasts s) (is_fit s.world.heap.layout set d) _
    (due_lasts s Joined (filed s.world.heap d set o x) (λ j. filed_sane Joined s.world.heap d set o x (keeps_joined s.world.heap set j))))
filed_by_lasts Foremost set o x s = due_lasts s Joined (filed_first s.world.heap set o x) (λ j. first_sane Joined s.world.heap set o x (keeps_joined s.world.heap set j))
filed_by_lasts Hindmost set o x s = due_lasts s Joined (filed_last s.world.heap set o x) (λ j. last_sane Joined s.world.heap set o x (keeps_joined s.world.heap set j))
filed_by_lasts (JustBefore y) set o x s =
    each (HeapLasts s) (member set y s) _ (λ k. due_lasts s Joined (filed_before s.world.heap set o x k) (λ j. before_sane Joined s.world.heap set o x k (keeps_joined s.world.heap set j)))
filed_by_lasts (JustAfter y) set o x s =
    each (HeapLasts s) (member set y s) _ (λ k. due_lasts s Joined (filed_after s.world.heap set o x k) (λ j. after_sane Joined s.world.heap set o x k (keeps_joined s.world.heap set j)))

pub filed_same : (f : Filing) (set : ℕ) (x : Value) (o : Option Value) (s : Store) → Only (Same s) (filed_in f set x o s)
filed_same f set x o s =
    each (Same s) (member set x s) _ (λ n. each (Same s) (owner_number set o s) _ (λ m.
    then_only (Same s) (HeapLasts s) (filed_by f set m n s) (recounted set m s) (filed_by_lasts f set m n s) (λ h p. recounted_same set m s h p)))

pub removed_same : (set : ℕ) (x : Value) (o : Option Value) (s : Store) → Only (Same s) (removed_from set x o s)
removed_same set x o s =
    each (Same s) (member set x s) _ (λ n. each (Same s) (owner_number set o s) _ (λ m.
    then_only (Same s) (HeapLasts s) (due (removed s.world.heap set m n)) (recounted set m s)
    (due_lasts s Joined (removed s.world.heap set m n) (λ j. removed_sane Joined s.world.heap set m n (keeps_joined s.world.heap set j))) (λ h p. recounted_same set m s h p)))

pub end_same : (end : End) (set : ℕ) (o : Option Value) (s : Store) → Only (SameWith {A = Value} s) (removed_at end set o s)
end_same end set o s =
    each (SameWith s) (owner_number set o s) _ (λ m.
    then_only (SameWith s) (λ (r : ℤ × State). HeapLasts s r.1) (due (end_removed end s.world.heap set m)) _
    (due_lasts s (λ (r : ℤ × State). Joined r.1) (end_removed end s.world.heap set m) (λ j. end_sane Joined end s.world.heap set m (keeps_joined s.world.heap set j))) (λ r p.
    made_from (SameWith s) (Same s) (λ t. (Whole r.0, t)) (recounted set m s r.1) (recounted_same set m s r.1 p) (λ t q. q)))

endowed_same : (class field : ℕ) (x : Value) (vs : List Value) (s : Store) → Only (Same s) (endowed class field x vs s)
endowed_same class field x [] s = same_here s
endowed_same class field x (v ∷ vs) s =
    then_only (Same s) (Same s) (assigned_attribute class field x v s) (endowed class (field + 1) x vs) (attribute_same class field x v s) (λ t p.
    same_on s t (endowed class (field + 1) x vs t) p (endowed_same class (field + 1) x vs t))

timed_same : (x : Value) (time : ℤ) (s : Store) → Only (Same s) (with_notice_time x time s)
timed_same x time s =
    each (Same s) (number_of x) _ (λ n.
    made_from (Same s) (HeapLasts s) (with_heap s) (due (timed s.world.heap n time)) (due_lasts s Joined (timed s.world.heap n time) (λ j. timed_joined s.world.heap n time j)) (λ h p. (refl, p)))

prepared_same : (class : ℕ) (x : Value) (vs : List Value) (time : ℤ) (s : Store) → Only (Same s) (prepared class x vs time s)
prepared_same class x vs time s =
    then_only (Same s) (Same s) (endowed class 0 x vs s) (with_notice_time x time) (endowed_same class 0 x vs s) (λ t p.
    same_on s t (with_notice_time x time t) p (timed_same x time t))

pub notice_same : (class : ℕ) (vs : List Value) (time : ℤ) (s : Store) → Only (SameWith {A = Value} s) (made_notice class vs time s)
notice_same class vs time s =
    then_only (SameWith s) (SameWith s) (made_one class s) (λ b. turned (λ r. (b.0, r)) (prepared class b.0 vs time b.1)) (made_one_same class s) (λ b p.
    made_from (SameWith s) (Same b.1) (λ r. (b.0, r)) (prepared class b.0 vs time b.1) (prepared_same class b.0 vs time b.1) (λ r q. same_then s b.1 r p q))

pub pending_same : (class : ℕ) (x : Value) (time : ℤ) (s : Store) → Only (Same s) (filed_notice class x time s)
pending_same class x time s =
    each (Same s) (entity class x s) _ (λ n. each (Same s) (sure (ranked class s)) _ (λ r. each (Same s) (ties_of class x s r.said.ties) _ (λ ties.
    unless (Same s) (int_lt time s.world.time) PastTime _ (made (Same s) (with_pending s) (due (scheduled (record { time = time; rank = r.rank; ties = ties }) n s.world.pending)) (λ p. same_here s)))))

pub again_same : (class : ℕ) (x : Value) (vs : List Value) (time : ℤ) (s : Store) → Only (Same s) (rescheduled class x vs time s)
again_same class x vs time s =
    each (Same s) (entity class x s) _ (λ n. unless (Same s) (is_pending n s.world.pending.entries) AlreadyScheduled (if_ok (prepared class x vs time s) (filed_notice class x time))
    (then_only (Same s) (Same s) (prepared class x vs time s) (filed_notice class x time) (prepared_same class x vs time s) (λ t p.
    same_on s t (filed_notice class x time t) p (pending_same class x time t))))

pub cancelled_same : (class : ℕ) (x : Value) (s : Store) → Only (Same s) (unscheduled class x s)
cancelled_same class x s = each (Same s) (entity class x s) _ (λ n. made (Same s) (with_pending s) (due (cancelled n s.world.pending)) (λ p. same_here s))

-- a READ takes a word
abbrev pub TakesWord : (mode : Mode) (s t : Store) → Type 0
TakesWord mode s t = Lasts s t × HasTakenIf (Some mode) s.world.input t.world.input

pub read_takes : (mode : Mode) (s : Store) → Only (λ (b : Value × Store). TakesWord mode s b.1) (read_value mode s)
read_takes mode s = by (value_given mode s.world.input) refl
  where
    by : (r : Result (Given Value) FaultKind) → value_given mode s.world.input ≡ r → Only (λ (b : Value × Store). TakesWord mode s b.1) (turned (with_input s) (due r))
    by (Ok g) e = ((refl, λ j. j), (g.value, e))
    by (Err kind) e = tt

pub reset_same : (j : ℕ) (x : Option Value) (s : Store) → Only (Same s) (reset j x s)
reset_same j x s =
    each (Same s) (subject_of_statistic j s) _ (λ t. each (Same s) (bearer_number t x s) _ (λ n. each (Same s) (present t x s) _ (λ v. each (Same s) (number_of v) _ (λ z.
    made (Same s) (with_histories s) (renewed j n s.world.time z s.world.histories) (λ hs. same_here s)))))

-- ## Events

abbrev pub ComingSame : Store → Coming → Type 0
ComingSame s c = Same s c.store

coming_same : (o : Option Ranked) (time x : ℤ) (s : Store) → Where (ComingSame s) (coming_as o time x s)
coming_same None time x s = tt
coming_same (Some r) time x s = same_here s

next_same : (o : Option (ℤ × ℤ)) (s : Store) → Where (ComingSame s) (coming_with o s)
next_same None s = tt
next_same (Some n) s = coming_same (ranked_as (notice s.world.heap n.1) s) n.0 n.1 s

pub event_same : (s : Store) → Where (ComingSame s) (next_event s)
event_same s = next_same (least_event s.world.pending) s

saved_same : (saved : Option ℕ) (class : ℕ) (x : Value) (s : Store) → Only (Same s) (saved_or_gone saved class x s)
saved_same (Some k) class x s = variable_same (Global k) x s
saved_same None class x s = gone_same class x s

abbrev pub BeginningSame : Store → Beginning → Type 0
BeginningSame s b = Same s b.store

pub begun_same : (c : Coming) → Only (BeginningSame c.store) (event_begun c)
begun_same c =
    each (BeginningSame c.store) (attributes_given c.ranked.said.class 0 c.ranked.said.given c.notice c.store) _ (λ vs.
    made_from (BeginningSame c.store) (Same c.store) (λ t. record { rank = c.ranked.rank; given = vs; store = t }) (saved_or_gone c.ranked.said.saved c.ranked.said.class c.notice c.store) (saved_same c.ranked.said.saved c.ranked.said.class c.notice c.store) (λ t q. q))
