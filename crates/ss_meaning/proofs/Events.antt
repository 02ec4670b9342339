-- The operations on time and notices, for a well-typed program.
use Rattle.std.proofs.Common.{arith, ◌≡◌, ℕ, zero, suc, ◌+◌, Bool, true, false, List, [], ◌∷◌, length, Option, Some, None, Ok, Err, ℤ, pos, negsuc, refl, sym, ap, ◌∙◌, subst}
use Rattle.ss_meaning.proofs.Common.{AreOfModes, assigned_attribute, attribute, class_of_record, ClassKind, ClassLayout, Decides-int_eq, due, entity, eqb-false, eqb-true, Event, FaultKind, Global, if_ok, int_eq, Integer, IsFittingStore, IsLiving, IsLivingAs, IsNotice, made_one, Mode, mode_of, Notice, number_of, PendingNotice, Permanent, Program, RankKey, sure, Temporary, turned, unless_fault, Value, Whole}
use Rattle.std.specs.Prelude.{slice_get, map, take, fold, not, ◌==◌, int_lt, Result, is_some, if◌then◌else◌}
use Rattle.std.specs.List.{AllByRecursion as Every}
use Rattle.std.specs.Option.{option_map, option_map_or, option_and_then, IfSome}
use Rattle.ss_base.specs.declared.fault.FaultKind.TheVariants as faults
use Rattle.ss_base.specs.Arithmetic.{plus_of}
use Rattle.ss_world.specs.State.{Record, State, kind_of, kind_in, and_then, issued_record, of_notice, is_notice, notice, timed}
use Rattle.ss_world.specs.SortKey.{SortKey}
use Rattle.ss_world.specs.Order.{comes_before}
use Rattle.ss_world.specs.PendingList.{PendingList, scheduling_limit, is_pending, without_notice, earlier_notice, least, with_entry, scheduled, cancelled}
use Rattle.ss_program.specs.WellTyped.{IsWellTyped, field_mode, fields_of, kind_of_class as kind_said, is_created_singly, AreTypedKeys, IsTypedEvent, IsPlain}
use Rattle.ss_meaning.specs.Store.{Notices, Store, with_heap, with_pending}
use Rattle.ss_meaning.specs.Events.{Moment, AtTime, Later, AtOnce, not_past, time_at, endowed, with_notice_time, prepared, made_notice, Ranked, ranked_from, ranked, ties_of, filed_notice, rescheduled, unscheduled, is_awaited, Beginning, attributes_given, saved_or_gone, Coming, at_event, ranked_as, coming_as, coming_with, next_event, event_begun}
use Rattle.ss_meaning.specs.Meaning.{said_of}
use Rattle.ss_meaning.proofs.Fine.{Fine, Sane, There, Any, fine_then, fine_turned, due_fine, any_due, sure_fine, unless_fine}
use Rattle.ss_meaning.proofs.Lists.{every_get, every_both, every_filter}
use Rattle.ss_meaning.proofs.Heaps.{Changed, timed_sane}
use Rattle.ss_meaning.proofs.Kept.{number_fine}
use Rattle.ss_meaning.proofs.Stores.{heap_fits}
use Rattle.ss_meaning.proofs.Entities.{contains_get, class_said, entity_fine, attribute_fine, made_one_fine, gone_fine, attribute_assigned_fine, global_fine}

-- ## Lists

taken_get : {A : Type 0} (n : ℕ) (xs : List A) (i : ℕ) (a : A) → slice_get (take n xs) i ≡ Some a → slice_get xs i ≡ Some a
taken_get zero xs i a q = absurd cc
taken_get (suc n) [] i a q = absurd cc
taken_get (suc n) (x ∷ xs) zero a q = q
taken_get (suc n) (x ∷ xs) (suc i) a q = taken_get n xs i a q

earlier_is : (P : PendingNotice → Type 0) (a b : PendingNotice) → P a → P b → P (earlier_notice a b)
earlier_is P a b p q = by (comes_before b a)
  where
    by : (c : Bool) → P (if c then b else a)
    by true = q
    by false = p

fold_is : (P : PendingNotice → Type 0) (e : PendingNotice) (es : List PendingNotice) → P e → Every P es → P (fold earlier_notice e es)
fold_is P e [] p h = p
fold_is P e (x ∷ es) p h = fold_is P (earlier_notice e x) es (earlier_is P e x p h.0) h.1

least_is : (P : PendingNotice → Type 0) (es : List PendingNotice) (e : PendingNotice) → Every P es → least es ≡ Some e → P e
least_is P [] e h q = absurd cc
least_is P (x ∷ es) e h q = let same : fold earlier_notice x es ≡ e = cc in subst P same (fold_is P x es h.0 h.1)

-- ## A living notice

abbrev judged : ClassKind → Record → Result Record FaultKind
judged k r = if is_notice k then Ok r else Err faults.WrongClass

-- the time and the notice of an entry
abbrev event_of : PendingNotice → ℤ × ℤ
event_of e = (e.key.time, e.notice)

notice_there : (h : State) (x : ℤ) → IsNotice h x → (r : Record) × (notice h x ≡ Ok r) × (kind_of h.layout r.class ≡ Notice)
notice_there h (pos zero) n = absurd cc
notice_there h (pos (suc i)) n = by (slice_get h.records i) refl n.1
  where
    kind_test : (r : Record) (k : ClassKind) → k ≡ Notice → judged k r ≡ Ok r
    kind_test r Permanent q = absurd cc
    kind_test r Temporary q = absurd cc
    kind_test r Notice q = refl

    by : (o : Option (Option Record)) → slice_get h.records i ≡ o → class_of_record o ≡ Some n.0 → (r : Record) × (notice h (pos (suc i)) ≡ Ok r) × (kind_of h.layout r.class ≡ Notice)
    by None g q = absurd cc
    by (Some None) g q = absurd cc
    by (Some (Some r)) g q =
        let same : r.class ≡ n.0 = cc in
        let kind : kind_of h.layout r.class ≡ Notice = ap (λ c. kind_of h.layout c) same ∙ n.2 in
        (r, ap (λ o. and_then (issued_record o) (of_notice h.layout)) g ∙ kind_test r (kind_of h.layout r.class) kind, kind)
notice_there h (negsuc k) n = absurd cc

-- ## The rank of a class of notices

-- what a program says of a class of notices, by its rank
pub record RankedAs (events : List Event) (c : ℕ) (r : Ranked) : Type 0 where
  pub event : Event
  pub there : slice_get events r.rank ≡ Some event
  pub said : r.said ≡ said_of event
  pub class : event.class ≡ c

abbrev RankedFrom : ℕ → List Event → ℕ → Ranked → Type 0
RankedFrom k es c r = (j : ℕ) × (r.rank ≡ k + j) × ((e : Event) × (slice_get es j ≡ Some e) × (r.said ≡ said_of e) × (e.class ≡ c))

ranked_from_there : (es : List Event) (k i c : ℕ) → slice_get (map (λ (e : Event). e.class) es) i ≡ Some c → There (RankedFrom k es c) (ranked_from k (map said_of es) c)
ranked_from_there [] k i c q = absurd cc
ranked_from_there (e ∷ es) k i c q = by (e.class == c) refl i q (ranked_from_there es (k + 1))
  where
    later : (r : Ranked) → RankedFrom (k + 1) es c r → RankedFrom k (e ∷ es) c r
    later r h = let one : k + 1 + h.0 ≡ k + suc h.0 = omega arith in (suc h.0, h.1 ∙ one, h.2)

    weaker : (o : Option Ranked) → There (RankedFrom (k + 1) es c) o → There (RankedFrom k (e ∷ es) c) o
    weaker (Some r) h = later r h
    weaker None h = absurd h

    by : (b : Bool) → (e.class == c) ≡ b → (i : ℕ) → slice_get (map (λ (e : Event). e.class) (e ∷ es)) i ≡ Some c → ((i c : ℕ) → slice_get (map (λ (e : Event). e.class) es) i ≡ Some c → There (RankedFrom (k + 1) es c) (ranked_from (k + 1) (map said_of es) c))
        → There (RankedFrom k (e ∷ es) c) (if b then Some (record { rank = k; said = said_of e }) else ranked_from (k + 1) (map said_of es) c)
    by true g i q h = let none_on : k ≡ k + 0 = omega arith in (zero, none_on, (e, refl, refl, eqb-true e.class c g))
    by false g zero q h = let same : e.class ≡ c = cc in absurd (eqb-false e.class c g same)
    by false g (suc i) q h = weaker (ranked_from (k + 1) (map said_of es) c) (h i c q)

module _ (p : Program) (typed : IsWellTyped p) (ms : List Mode) where
  pub ranked_there : (c : ℕ) (s : Store) → kind_said p c ≡ Some Notice → IsFittingStore p ms s → There (RankedAs p.events c) (ranked c s)
  ranked_there c s q f =
      let found = contains_get (map (λ (e : Event). e.class) p.events) c (typed.served c q) in
      subst (λ t. There (RankedAs p.events c) (ranked_from 0 t.notices c)) (sym f.sound.world.setting)
      (weaker (ranked_from 0 (map said_of p.events) c) (ranked_from_there p.events 0 found.0 c found.1))
    where
      weaker : (o : Option Ranked) → There (RankedFrom 0 p.events c) o → There (RankedAs p.events c) o
      weaker (Some r) h =
          let one : 0 + h.0 ≡ h.0 = omega arith in
          record { event = h.2.0; there = subst (λ k. slice_get p.events k ≡ Some h.2.0) (sym (h.1 ∙ one)) h.2.1; said = h.2.2; class = h.2.3 }
      weaker None h = absurd h

  good_event : (k : ℕ) (e : Event) → slice_get p.events k ≡ Some e → IsTypedEvent p e
  good_event k e q = every_get (IsTypedEvent p) p.events k e typed.events q

  alone : (c : ℕ) → kind_said p c ≡ Some Notice → is_created_singly (kind_said p c) ≡ true
  alone c q = ap is_created_singly q

  -- ## Time

  abbrev pub MomentOk : Moment → Type 0
  MomentOk (AtTime v) = mode_of v ≡ Integer
  MomentOk (Later v) = mode_of v ≡ Integer
  MomentOk AtOnce = Unit {0}

  not_past_fine : (t : ℤ) (s : Store) → Fine Any (not_past t s)
  not_past_fine t s = unless_fine Any (int_lt t s.world.time) faults.PastTime (Ok t) (λ e. tt)

  pub time_at_fine : (m : Moment) (s : Store) → MomentOk m → Fine Any (time_at m s)
  time_at_fine (AtTime v) s q = fine_then Any (number_of v) (λ t. not_past t s) (number_fine v q) (λ t u. not_past_fine t s)
  time_at_fine (Later v) s q =
      fine_then Any (number_of v) (λ t. if_ok (due (plus_of s.world.time t)) (λ t. not_past t s)) (number_fine v q) (λ t u.
      fine_then Any (due (plus_of s.world.time t)) (λ t. not_past t s) (any_due (plus_of s.world.time t)) (λ t u. not_past_fine t s))
  time_at_fine AtOnce s q = tt

  -- ## Scheduling

  -- attributes of a class from a number on have these modes
  abbrev pub FieldsAre : (c k : ℕ) → List Mode → Type 0
  FieldsAre c k ns = (i : ℕ) (m : Mode) → slice_get ns i ≡ Some m → field_mode p c (k + i) ≡ Some m

  first_field : (c k : ℕ) (n : Mode) (ns : List Mode) → FieldsAre c k (n ∷ ns) → field_mode p c k ≡ Some n
  first_field c k n ns h = let none_on : k + 0 ≡ k = omega arith in subst (λ j. field_mode p c j ≡ Some n) none_on (h 0 n refl)

  later_fields : (c k : ℕ) (n : Mode) (ns : List Mode) → FieldsAre c k (n ∷ ns) → FieldsAre c (k + 1) ns
  later_fields c k n ns h i m q = let one : k + suc i ≡ k + 1 + i = omega arith in subst (λ j. field_mode p c j ≡ Some m) one (h (suc i) m q)

  pub fields_are : (c n : ℕ) (modes : List Mode) → fields_of p c ≡ Some modes → FieldsAre c 0 (take n modes)
  fields_are c n modes q i m g =
      let none_on : 0 + i ≡ i = omega arith in
      subst (λ j. field_mode p c j ≡ Some m) (sym none_on) (ap (λ o. option_and_then (λ fs. slice_get fs i) o) q ∙ taken_get n modes i m g)

  pub endowed_fine : (c k : ℕ) (x : Value) (vs : List Value) (ns : List Mode) (s : Store) → AreOfModes vs ns → FieldsAre c k ns → mode_of x ≡ Integer → IsFittingStore p ms s → Fine (IsFittingStore p ms) (endowed c k x vs s)
  endowed_fine c k x [] ns s h g m f = f
  endowed_fine c k x (v ∷ vs) [] s h g m f = absurd cc
  endowed_fine c k x (v ∷ vs) (n ∷ ns) s h g m f =
      let here : mode_of v ≡ n = cc in
      let rest : AreOfModes vs ns = cc in
      fine_then (IsFittingStore p ms) (assigned_attribute c k x v s) (endowed c (k + 1) x vs) (attribute_assigned_fine p typed ms c k n x v s (first_field c k n ns g) m here f) (λ t ft.
      endowed_fine c (k + 1) x vs ns t rest (later_fields c k n ns g) m ft)

  with_time_fine : (x : Value) (t : ℤ) (s : Store) → mode_of x ≡ Integer → IsFittingStore p ms s → Fine (IsFittingStore p ms) (with_notice_time x t s)
  with_time_fine x t s m f =
      fine_then (IsFittingStore p ms) (number_of x) (λ n. turned (with_heap s) (due (timed s.world.heap n t))) (number_fine x m) (λ n u.
      fine_turned (IsFittingStore p ms) (with_heap s) (due (timed s.world.heap n t)) (due_fine (Changed s.world.heap) (timed s.world.heap n t) (timed_sane s.world.heap n t f.sound.world.heap)) (λ h g. heap_fits p ms s h f g))

  prepared_fine : (c : ℕ) (x : Value) (vs : List Value) (ns : List Mode) (t : ℤ) (s : Store) → AreOfModes vs ns → FieldsAre c 0 ns → mode_of x ≡ Integer → IsFittingStore p ms s → Fine (IsFittingStore p ms) (prepared c x vs t s)
  prepared_fine c x vs ns t s h g m f =
      fine_then (IsFittingStore p ms) (endowed c 0 x vs s) (with_notice_time x t) (endowed_fine c 0 x vs ns s h g m f) (λ r fr. with_time_fine x t r m fr)

  pub made_notice_fine : (c : ℕ) (vs : List Value) (ns : List Mode) (t : ℤ) (s : Store) → kind_said p c ≡ Some Notice → AreOfModes vs ns → FieldsAre c 0 ns → IsFittingStore p ms s → Fine (λ b. (mode_of b.0 ≡ Integer) × IsFittingStore p ms b.1) (made_notice c vs t s)
  made_notice_fine c vs ns t s q h g f =
      fine_then (λ b. (mode_of b.0 ≡ Integer) × IsFittingStore p ms b.1) (made_one c s) (λ b. turned (λ r. (b.0, r)) (prepared c b.0 vs t b.1)) (made_one_fine p typed ms c s (alone c q) f) (λ b new.
      fine_turned (λ b. (mode_of b.0 ≡ Integer) × IsFittingStore p ms b.1) (λ r. (b.0, r)) (prepared c b.0 vs t b.1) (prepared_fine c b.0 vs ns t b.1 h g new.0 new.1) (λ r fr. (new.0, fr)))

  ties_fine : (c : ℕ) (x : Value) (s : Store) (keys : List RankKey) → AreTypedKeys p c keys → mode_of x ≡ Integer → IsFittingStore p ms s → Fine Any (ties_of c x s keys)
  ties_fine c x s [] h m f = tt
  ties_fine c x s (key ∷ keys) h m f =
      fine_then Any (attribute c key.field x s) (λ v. turned (λ ts. record { value = v; high = key.high } ∷ ts) (ties_of c x s keys)) (attribute_fine p typed ms c key.field h.0.0 x s h.0.1 m f) (λ v g.
      fine_turned Any (λ ts. record { value = v; high = key.high } ∷ ts) (ties_of c x s keys) (ties_fine c x s keys h.1 m f) (λ ts u. tt))

  pending_fits : (s : Store) (q : PendingList) → IsFittingStore p ms s → Every (λ (e : PendingNotice). IsNotice s.world.heap e.notice) q.entries → IsFittingStore p ms (with_pending s q)
  pending_fits s q f h = record {
    sound = record {
      globals = f.sound.globals;
      world = record { setting = f.sound.world.setting; layout = f.sound.world.layout; heap = f.sound.world.heap; pending = h; histories = f.sound.world.histories };
    };
    locals = f.locals;
  }

  kind_here : (c : ℕ) (s : Store) → kind_said p c ≡ Some Notice → IsFittingStore p ms s → kind_of s.world.heap.layout c ≡ Notice
  kind_here c s q f = let cl = class_said p c Notice q in ap (λ l. kind_in (slice_get l.classes c)) f.sound.world.layout ∙ ap kind_in cl.1 ∙ cl.2

  is_notice_here : (c : ℕ) (n : ℤ) (s : Store) → kind_said p c ≡ Some Notice → IsFittingStore p ms s → IsLiving s.world.heap c n → IsNotice s.world.heap n
  is_notice_here c n s q f l = (c, subst (λ k. IsLivingAs k s.world.heap c n) (kind_here c s q f) l, kind_here c s q f)

  scheduled_sane : (key : SortKey) (n : ℤ) (s : Store) → IsFittingStore p ms s → IsNotice s.world.heap n → Sane (λ (q : PendingList). Every (λ (e : PendingNotice). IsNotice s.world.heap e.notice) q.entries) (scheduled key n s.world.pending)
  scheduled_sane key n s f h = by (is_pending n s.world.pending.entries) (s.world.pending.schedulings == scheduling_limit)
    where
      by : (b c : Bool) → Sane (λ (q : PendingList). Every (λ (e : PendingNotice). IsNotice s.world.heap e.notice) q.entries) (if b then Err faults.AlreadyScheduled else if c then Err faults.Overflow else Ok (with_entry key n s.world.pending))
      by true c = tt
      by false true = tt
      by false false = every_both (λ (e : PendingNotice). IsNotice s.world.heap e.notice) s.world.pending.entries (record { key = key; number = s.world.pending.schedulings; notice = n } ∷ []) f.sound.world.pending (h, tt)

  pub filed_notice_fine : (c : ℕ) (x : Value) (t : ℤ) (s : Store) → kind_said p c ≡ Some Notice → mode_of x ≡ Integer → IsFittingStore p ms s → Fine (IsFittingStore p ms) (filed_notice c x t s)
  filed_notice_fine c x t s q m f =
      let cl = class_said p c Notice q in
      fine_then (IsFittingStore p ms) (entity c x s) (λ n. if_ok (sure (ranked c s)) (λ r. if_ok (ties_of c x s r.said.ties) (λ ties. unless_fault (int_lt t s.world.time) faults.PastTime (turned (with_pending s) (due (scheduled (record { time = t; rank = r.rank; ties = ties }) n s.world.pending)))))) (entity_fine p typed ms c cl.0 x s cl.1 m f) (λ n l.
      fine_then (IsFittingStore p ms) (sure (ranked c s)) (λ r. if_ok (ties_of c x s r.said.ties) (λ ties. unless_fault (int_lt t s.world.time) faults.PastTime (turned (with_pending s) (due (scheduled (record { time = t; rank = r.rank; ties = ties }) n s.world.pending))))) (sure_fine (RankedAs p.events c) (ranked c s) (ranked_there c s q f)) (λ r ok.
      fine_then (IsFittingStore p ms) (ties_of c x s r.said.ties) (λ ties. unless_fault (int_lt t s.world.time) faults.PastTime (turned (with_pending s) (due (scheduled (record { time = t; rank = r.rank; ties = ties }) n s.world.pending)))) (ties_fine c x s r.said.ties (keys r ok) m f) (λ ties u.
      unless_fine (IsFittingStore p ms) (int_lt t s.world.time) faults.PastTime (turned (with_pending s) (due (scheduled (record { time = t; rank = r.rank; ties = ties }) n s.world.pending))) (λ due_time.
      fine_turned (IsFittingStore p ms) (with_pending s) (due (scheduled (record { time = t; rank = r.rank; ties = ties }) n s.world.pending))
      (due_fine (λ (q : PendingList). Every (λ (e : PendingNotice). IsNotice s.world.heap e.notice) q.entries) (scheduled (record { time = t; rank = r.rank; ties = ties }) n s.world.pending) (scheduled_sane (record { time = t; rank = r.rank; ties = ties }) n s f (is_notice_here c n s q f l.1))) (λ d h. pending_fits s d f h)))))
    where
      keys : (r : Ranked) → RankedAs p.events c r → AreTypedKeys p c r.said.ties
      keys r ok =
          let good : IsTypedEvent p ok.event = good_event r.rank ok.event ok.there in
          subst (λ (n : Notices). AreTypedKeys p c n.ties) (sym ok.said) (subst (λ d. AreTypedKeys p d ok.event.ties) ok.class good.ties)

  pub rescheduled_fine : (c : ℕ) (x : Value) (vs : List Value) (ns : List Mode) (t : ℤ) (s : Store) → kind_said p c ≡ Some Notice → AreOfModes vs ns → FieldsAre c 0 ns → mode_of x ≡ Integer → IsFittingStore p ms s → Fine (IsFittingStore p ms) (rescheduled c x vs t s)
  rescheduled_fine c x vs ns t s q h g m f =
      let cl = class_said p c Notice q in
      fine_then (IsFittingStore p ms) (entity c x s) (λ n. unless_fault (is_pending n s.world.pending.entries) faults.AlreadyScheduled (if_ok (prepared c x vs t s) (filed_notice c x t))) (entity_fine p typed ms c cl.0 x s cl.1 m f) (λ n l.
      unless_fine (IsFittingStore p ms) (is_pending n s.world.pending.entries) faults.AlreadyScheduled (if_ok (prepared c x vs t s) (filed_notice c x t)) (λ e.
      fine_then (IsFittingStore p ms) (prepared c x vs t s) (filed_notice c x t) (prepared_fine c x vs ns t s h g m f) (λ r fr. filed_notice_fine c x t r q m fr)))

  cancelled_sane : (n : ℤ) (s : Store) → IsFittingStore p ms s → Sane (λ (q : PendingList). Every (λ (e : PendingNotice). IsNotice s.world.heap e.notice) q.entries) (cancelled n s.world.pending)
  cancelled_sane n s f = by (is_pending n s.world.pending.entries)
    where
      by : (b : Bool) → Sane (λ (q : PendingList). Every (λ (e : PendingNotice). IsNotice s.world.heap e.notice) q.entries) (if b then Ok (record s.world.pending { entries = without_notice n s.world.pending.entries }) else Err faults.NotScheduled)
      by true = every_filter (λ (e : PendingNotice). IsNotice s.world.heap e.notice) (λ (e : PendingNotice). IsNotice s.world.heap e.notice) (λ e. not (int_eq n e.notice)) s.world.pending.entries f.sound.world.pending (λ e h t. h)
      by false = tt

  pub unscheduled_fine : (c : ℕ) (x : Value) (s : Store) → kind_said p c ≡ Some Notice → mode_of x ≡ Integer → IsFittingStore p ms s → Fine (IsFittingStore p ms) (unscheduled c x s)
  unscheduled_fine c x s q m f =
      let cl = class_said p c Notice q in
      fine_then (IsFittingStore p ms) (entity c x s) (λ n. turned (with_pending s) (due (cancelled n s.world.pending))) (entity_fine p typed ms c cl.0 x s cl.1 m f) (λ n l.
      fine_turned (IsFittingStore p ms) (with_pending s) (due (cancelled n s.world.pending)) (due_fine (λ (q : PendingList). Every (λ (e : PendingNotice). IsNotice s.world.heap e.notice) q.entries) (cancelled n s.world.pending) (cancelled_sane n s f)) (λ d h. pending_fits s d f h))

  -- ## Events

  -- what comes next: a notice of a class, which is pending no longer, and a store that fits
  pub record ComingAs (c : Coming) : Type 0 where
    pub class : ℕ
    pub kind : kind_said p class ≡ Some Notice
    pub ranked : RankedAs p.events class c.ranked
    pub number : ℤ
    pub notice : c.notice ≡ Whole number
    pub apart : Every (λ (e : PendingNotice). number ≡ e.notice → ⊥) c.store.world.pending.entries
    pub fits : IsFittingStore p ms c.store

  said_kind : (c : ℕ) (s : Store) → IsFittingStore p ms s → kind_of s.world.heap.layout c ≡ Notice → kind_said p c ≡ Some Notice
  said_kind c s f q = by (slice_get p.layout.classes c) (sym (ap (λ l. kind_in (slice_get l.classes c)) f.sound.world.layout) ∙ q)
    where
      by : (o : Option ClassLayout) → kind_in o ≡ Notice → option_map (λ (d : ClassLayout). d.kind) o ≡ Some Notice
      by None h = absurd cc
      by (Some d) h = ap Some h

  event_fits : (t : ℤ) (s : Store) (e : PendingNotice) → least s.world.pending.entries ≡ Some e → IsFittingStore p ms s → IsFittingStore p ms (at_event t s) × Every (λ (i : PendingNotice). e.notice ≡ i.notice → ⊥) (at_event t s).world.pending.entries
  event_fits t s e q f = (
    record {
      sound = record {
        globals = f.sound.globals;
        world = record {
          setting = f.sound.world.setting;
          layout = f.sound.world.layout;
          heap = f.sound.world.heap;
          pending = subst (λ o. Every (λ (i : PendingNotice). IsNotice s.world.heap i.notice) (option_map_or (λ (i : PendingNotice). without_notice i.notice s.world.pending.entries) o [])) (sym q)
              (every_filter (λ (i : PendingNotice). IsNotice s.world.heap i.notice) (λ (i : PendingNotice). IsNotice s.world.heap i.notice) (λ i. not (int_eq e.notice i.notice)) s.world.pending.entries f.sound.world.pending (λ i h t. h));
          histories = f.sound.world.histories;
        };
      };
      locals = f.locals;
    },
    subst (λ o. Every (λ (i : PendingNotice). e.notice ≡ i.notice → ⊥) (option_map_or (λ (i : PendingNotice). without_notice i.notice s.world.pending.entries) o [])) (sym q)
        (every_filter (λ (i : PendingNotice). IsNotice s.world.heap i.notice) (λ (i : PendingNotice). e.notice ≡ i.notice → ⊥) (λ i. not (int_eq e.notice i.notice)) s.world.pending.entries f.sound.world.pending (λ i h t same. apart_by i t same)),
  )
    where
      apart_by : (i : PendingNotice) → not (int_eq e.notice i.notice) ≡ true → e.notice ≡ i.notice → ⊥
      apart_by i t same = let are : int_eq e.notice i.notice ≡ true = (Decides-int_eq e.notice i.notice).1 same in let back : not true ≡ true = sym (ap not are) ∙ t in absurd cc

  pub next_event_there : (s : Store) → is_awaited s ≡ true → IsFittingStore p ms s → There ComingAs (next_event s)
  next_event_there s a f = by (least s.world.pending.entries) refl a
    where
      with_class : (e : PendingNotice) → least s.world.pending.entries ≡ Some e → (class : ℕ) → kind_said p class ≡ Some Notice → (o : Option Ranked) → There (RankedAs p.events class) o → There ComingAs (coming_as o e.key.time e.notice s)
      with_class e q class k None h = absurd h
      with_class e q class k (Some r) h =
          let both = event_fits e.key.time s e q f in
          record { class = class; kind = k; ranked = h; number = e.notice; notice = refl; apart = both.1; fits = both.0 }

      by : (o : Option PendingNotice) → least s.world.pending.entries ≡ o → is_some (option_map event_of o) ≡ true → There ComingAs (next_event s)
      by None q h = absurd cc
      by (Some e) q h =
          let n = notice_there s.world.heap e.notice (least_is (λ (i : PendingNotice). IsNotice s.world.heap i.notice) s.world.pending.entries e f.sound.world.pending q) in
          let k : kind_said p n.0.class ≡ Some Notice = said_kind n.0.class s f n.2 in
          subst (λ o. There ComingAs (coming_with (option_map event_of o) s)) (sym q)
          (subst (λ r. There ComingAs (coming_as (ranked_as r s) e.key.time e.notice s)) (sym n.1)
          (with_class e q n.0.class k (ranked n.0.class s) (ranked_there n.0.class s k f)))

  attributes_fine : (c k : ℕ) (ns : List Mode) (x : Value) (s : Store) → FieldsAre c k ns → mode_of x ≡ Integer → IsFittingStore p ms s → Fine (λ vs. AreOfModes vs ns) (attributes_given c k (length ns) x s)
  attributes_fine c k [] x s g m f = refl
  attributes_fine c k (n ∷ ns) x s g m f =
      fine_then (λ vs. AreOfModes vs (n ∷ ns)) (attribute c k x s) (λ v. turned (λ vs. v ∷ vs) (attributes_given c (k + 1) (length ns) x s)) (attribute_fine p typed ms c k n x s (first_field c k n ns g) m f) (λ v h.
      fine_turned (λ vs. AreOfModes vs (n ∷ ns)) (λ vs. v ∷ vs) (attributes_given c (k + 1) (length ns) x s) (attributes_fine c (k + 1) ns x s (later_fields c k n ns g) m f) (λ vs hs. let all : AreOfModes (v ∷ vs) (n ∷ ns) = cc in all))

  saved_fine : (o : Option ℕ) (c : ℕ) (n : ℤ) (s : Store) → IfSome o (λ k. (slice_get p.globals k ≡ Some Integer) × IsPlain p (Global k)) → kind_said p c ≡ Some Notice → Every (λ (e : PendingNotice). n ≡ e.notice → ⊥) s.world.pending.entries → IsFittingStore p ms s → Fine (IsFittingStore p ms) (saved_or_gone o c (Whole n) s)
  saved_fine (Some k) c n s h q a f = global_fine p typed ms k Integer (Whole n) s h.0 refl f
  saved_fine None c n s h q a f = gone_fine p typed ms c n s (alone c q) a f

  -- an event as it begins, by its routine
  pub record BegunAs (b : Beginning) : Type 0 where
    pub event : Event
    pub there : slice_get p.events b.rank ≡ Some event
    pub given : AreOfModes b.given event.given
    pub fits : IsFittingStore p ms b.store

  pub begun_fine : (c : Coming) → ComingAs c → Fine BegunAs (event_begun c)
  begun_fine c ok =
      subst (λ (n : Notices). Fine BegunAs (if_ok (attributes_given n.class 0 n.given c.notice c.store) (λ vs. turned (λ t. record { rank = c.ranked.rank; given = vs; store = t }) (saved_or_gone n.saved n.class c.notice c.store)))) (sym ok.ranked.said)
      (fine_then BegunAs (attributes_given e.class 0 (length e.given) c.notice c.store) (λ vs. turned (λ t. record { rank = c.ranked.rank; given = vs; store = t }) (saved_or_gone e.saved e.class c.notice c.store))
      (attributes_fine e.class 0 e.given c.notice c.store (subst (λ ns. FieldsAre e.class 0 ns) (sym good.given) (fields_are e.class (length e.given) good.modes good.fields)) (ap mode_of ok.notice) ok.fits) (λ vs h.
      fine_turned BegunAs (λ t. record { rank = c.ranked.rank; given = vs; store = t }) (saved_or_gone e.saved e.class c.notice c.store)
      (subst (λ x. Fine (IsFittingStore p ms) (saved_or_gone e.saved e.class x c.store)) (sym ok.notice) (saved_fine e.saved e.class ok.number c.store good.saved good.notice ok.apart ok.fits)) (λ t ft.
      record { event = e; there = ok.ranked.there; given = h; fits = ft })))
    where
      e : Event
      e = ok.ranked.event

      good : IsTypedEvent p ok.ranked.event
      good = good_event c.ranked.rank ok.ranked.event ok.ranked.there
