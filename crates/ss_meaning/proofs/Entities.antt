-- The operations on entities, places and statistics, for a well-typed program.
use Rattle.std.proofs.Common.{◌≡◌, ℕ, Bool, true, false, List, [], ◌∷◌, Option, Some, None, Ok, Err, ℤ, pos, refl, sym, ap, ◌∙◌, subst}
use Rattle.ss_meaning.proofs.Common.{AreOfModes, ClassKind, ClassLayout, CountedClass, Decides-int_eq, due, ending, FaultKind, HasAllHistories, if_ok, int_eq, Integer, is_pending, IsFittingStore, IsLiving, IsNotice, Mode, mode_of, noted, Notice, number_of, OfAttribute, OfVariable, option_and_then, option_map, PendingNotice, Permanent, Program, same_mode, Statistic, Subject, sure, Temporary, Text, turned, unless_fault, Value, Variable, where_fit, Whole}
use Rattle.std.proofs.lemmas.Option.{slice_get-get_or}
use Rattle.std.specs.Prelude.{slice_get, ◌||◌, Result, is_some, Contains, not}
use Rattle.std.specs.List.{AllByRecursion as Every}
use Rattle.ss_base.specs.declared.fault.FaultKind.TheVariants.{Scheduled, CreatedTwice}
use Rattle.ss_world.specs.State.{Record, State, kind_of, modes_of, known_in, no_value, entity_in, time_in, assigned, created, created_all, destroyed, is_made, value_in}
use Rattle.ss_program.specs.declared.expression.Variable.TheVariants.{Global, Local}
use Rattle.ss_program.specs.WellTyped.{IsWellTyped, mode_at, field_mode, kind_of_class as kind_said, is_created_singly, IsTypedSubject, IsTypedCount}
use Rattle.ss_meaning.specs.Store.{Store, with_heap, fetched, put_at, put}
use Rattle.ss_meaning.specs.Entities.{class_at, field_at, entity, attribute, time_of, comes_singly, is_single, is_permanent, with_new, made_one, with_all, made_all, with_none, gone, without}
use Rattle.ss_meaning.specs.Places.{Spot, InVariable, InAttribute, InCount, held, is_of_mode, assigned_variable, assigned_attribute, assigned_count, written}
use Rattle.ss_meaning.proofs.Fine.{Fine, Sane, There, fine_then, fine_turned, due_fine, any_due, sure_fine, fit_fine, unless_fine}
use Rattle.ss_meaning.proofs.Lists.{every_get}
use Rattle.ss_meaning.proofs.Heaps.{Changed, Created, Filled, Gone, IsEntityAs, entity_known, entity_lives, value_sane, assigned_sane, created_sane, created_all_sane, destroyed_sane}
use Rattle.ss_meaning.proofs.Kept.{Noteworthy, number_fine, fit_gone}
use Rattle.ss_meaning.proofs.Stores.{same_is, held_there, put_at_fine, heap_fits, statistics_are, lives_on, noted_fine, created_fits, filled_fits}

-- ## What a program says

pub contains_get : {A : Type 0} (xs : List A) (x : A) → Contains xs x → (i : ℕ) × (slice_get xs i ≡ Some x)
contains_get xs x c = (c.0, slice_get-get_or xs c.0 x c.1 ∙ ap Some c.2)

-- the class of a number, of this kind
pub class_said : (p : Program) (c : ℕ) (k : ClassKind) → kind_said p c ≡ Some k → (cl : ClassLayout) × (slice_get p.layout.classes c ≡ Some cl) × (cl.kind ≡ k)
class_said p c k q = by (slice_get p.layout.classes c) refl q
  where
    by : (o : Option ClassLayout) → slice_get p.layout.classes c ≡ o → option_map (λ (d : ClassLayout). d.kind) o ≡ Some k → (cl : ClassLayout) × (slice_get p.layout.classes c ≡ Some cl) × (cl.kind ≡ k)
    by None g h = absurd cc
    by (Some d) g h = (d, g, cc)

-- an attribute that is there
pub record HasField (p : Program) (c f : ℕ) (m : Mode) : Type 0 where
  pub class : ClassLayout
  pub there : slice_get p.layout.classes c ≡ Some class
  pub field : slice_get (modes_of p.layout c) f ≡ Some m

pub field_said : (p : Program) (c f : ℕ) (m : Mode) → field_mode p c f ≡ Some m → HasField p c f m
field_said p c f m q = by (slice_get p.layout.classes c) refl q
  where
    by : (o : Option ClassLayout) → slice_get p.layout.classes c ≡ o → option_and_then (λ modes. slice_get modes f) (option_map (λ (d : ClassLayout). d.fields) o) ≡ Some m → HasField p c f m
    by None g h = absurd cc
    by (Some d) g h = record { class = d; there = g; field = ap (λ o. slice_get (Rattle.ss_world.specs.State.modes_in o) f) g ∙ h }

-- the kind of a class whose entities are created one by one
pub single_said : (p : Program) (c : ℕ) → is_created_singly (kind_said p c) ≡ true → (cl : ClassLayout) × (slice_get p.layout.classes c ≡ Some cl) × (comes_singly cl.kind ≡ true)
single_said p c q = by (slice_get p.layout.classes c) refl q
  where
    same : (k : ClassKind) → is_created_singly (Some k) ≡ true → comes_singly k ≡ true
    same Permanent h = h
    same Temporary h = h
    same Notice h = h

    by : (o : Option ClassLayout) → slice_get p.layout.classes c ≡ o → is_created_singly (option_map (λ (d : ClassLayout). d.kind) o) ≡ true → (cl : ClassLayout) × (slice_get p.layout.classes c ≡ Some cl) × (comes_singly cl.kind ≡ true)
    by None g h = absurd cc
    by (Some d) g h = (d, g, same d.kind h)

known_lives : (h : State) (c : ℕ) (n : ℤ) → Sane (λ u. IsLiving h c n) (known_in h c n)
known_lives h c n = by (entity_in h c n) (entity_known h c n)
  where
    by : (r : Result Record FaultKind) → Sane (IsEntityAs (kind_of h.layout c) h c n) r → Sane (λ u. IsLiving h c n) (no_value r)
    by (Ok r) q = entity_lives h c n r q
    by (Err k) q = tt

module _ (p : Program) (typed : IsWellTyped p) (ms : List Mode) where
  layout_is : (s : Store) → IsFittingStore p ms s → s.world.heap.layout ≡ p.layout
  layout_is s f = f.sound.world.layout

  class_here : (s : Store) (c : ℕ) (cl : ClassLayout) → IsFittingStore p ms s → slice_get p.layout.classes c ≡ Some cl → class_at c s ≡ Some cl
  class_here s c cl f q = ap (λ l. slice_get l.classes c) (layout_is s f) ∙ q

  field_here : (s : Store) (c k : ℕ) (m : Mode) → IsFittingStore p ms s → HasField p c k m → slice_get (modes_of s.world.heap.layout c) k ≡ Some m
  field_here s c k m f q = ap (λ l. slice_get (modes_of l c) k) (layout_is s f) ∙ q.field

  -- ## References and attributes

  -- a value is the number of an entity that lives
  abbrev pub Refers : State → ℕ → Value → ℤ → Type 0
  Refers h c x n = (x ≡ Whole n) × IsLiving h c n

  pub entity_fine : (c : ℕ) (cl : ClassLayout) (x : Value) (s : Store) → slice_get p.layout.classes c ≡ Some cl → mode_of x ≡ Integer → IsFittingStore p ms s → Fine (Refers s.world.heap c x) (entity c x s)
  entity_fine c cl (Whole n) s q m f =
      fit_fine (Refers s.world.heap c (Whole n)) (is_some (class_at c s)) (turned (λ u. n) (due (known_in s.world.heap c n))) (ap is_some (class_here s c cl f q))
      (fine_turned (Refers s.world.heap c (Whole n)) (λ u. n) (due (known_in s.world.heap c n)) (due_fine (λ u. IsLiving s.world.heap c n) (known_in s.world.heap c n) (known_lives s.world.heap c n)) (λ u g. (refl, g)))
  entity_fine c cl (Text t) s q m f = absurd cc

  pub attribute_fine : (c k : ℕ) (m : Mode) (x : Value) (s : Store) → field_mode p c k ≡ Some m → mode_of x ≡ Integer → IsFittingStore p ms s → Fine (λ v. mode_of v ≡ m) (attribute c k x s)
  attribute_fine c k m x s q g f =
      let there : HasField p c k m = field_said p c k m q in
      fine_then (λ v. mode_of v ≡ m) (entity c x s) (λ n. where_fit (is_some (field_at c k s)) (due (value_in s.world.heap c k n))) (entity_fine c there.class x s there.there g f) (λ n r.
      fit_fine (λ v. mode_of v ≡ m) (is_some (field_at c k s)) (due (value_in s.world.heap c k n)) (ap is_some (field_here s c k m f there))
      (due_fine (λ v. mode_of v ≡ m) (value_in s.world.heap c k n) (value_sane s.world.heap c k n m f.sound.world.heap (field_here s c k m f there))))

  pub time_of_fine : (x : Value) (s : Store) → mode_of x ≡ Integer → Fine (λ v. mode_of v ≡ Integer) (time_of x s)
  time_of_fine x s g =
      fine_then (λ v. mode_of v ≡ Integer) (number_of x) (λ n. turned Whole (due (time_in s.world.heap n))) (number_fine x g) (λ n u.
      fine_turned (λ v. mode_of v ≡ Integer) Whole (due (time_in s.world.heap n)) (any_due (time_in s.world.heap n)) (λ z w. refl))

  -- ## Creating and destroying

  pub made_one_fine : (c : ℕ) (s : Store) → is_created_singly (kind_said p c) ≡ true → IsFittingStore p ms s → Fine (λ b. (mode_of b.0 ≡ Integer) × IsFittingStore p ms b.1) (made_one c s)
  made_one_fine c s q f =
      let cl = single_said p c q in
      fit_fine (λ b. (mode_of b.0 ≡ Integer) × IsFittingStore p ms b.1) (is_single (class_at c s)) (turned (with_new c s) (due (created s.world.heap c))) (ap is_single (class_here s c cl.0 f cl.1) ∙ cl.2)
      (fine_turned (λ b. (mode_of b.0 ≡ Integer) × IsFittingStore p ms b.1) (with_new c s) (due (created s.world.heap c)) (due_fine (Created s.world.heap c) (created s.world.heap c) (created_sane s.world.heap c f.sound.world.heap)) (λ b new.
      (refl, created_fits p ms s c b f new)))

  pub count_said : (count : CountedClass) → Contains p.counts count → IsTypedCount p count
  count_said count c = let q = contains_get p.counts count c in every_get (IsTypedCount p) p.counts q.0 count typed.counts q.1

  pub permanent_here : (s : Store) (c : ℕ) → IsFittingStore p ms s → kind_said p c ≡ Some Permanent → is_permanent (class_at c s) ≡ true
  permanent_here s c f q =
      let cl = class_said p c Permanent q in
      ap is_permanent (class_here s c cl.0 f cl.1) ∙ ap (λ k. not (comes_singly k)) cl.2

  pub made_all_fine : (count : CountedClass) (s : Store) → Contains p.counts count → IsFittingStore p ms s → Fine (IsFittingStore p ms) (made_all count s)
  made_all_fine count s c f =
      let good : IsTypedCount p count = count_said count c in
      fine_then (IsFittingStore p ms) (sure (fetched (Global count.variable) s)) (λ v. if_ok (number_of v) (λ n. where_fit (is_permanent (class_at count.class s)) (turned (with_all count.class s) (due (created_all s.world.heap count.class n)))))
      (sure_fine (λ v. mode_of v ≡ Integer) (fetched (Global count.variable) s) (held_there s.globals p.globals count.variable Integer f.sound.globals good.1)) (λ v g.
      fine_then (IsFittingStore p ms) (number_of v) (λ n. where_fit (is_permanent (class_at count.class s)) (turned (with_all count.class s) (due (created_all s.world.heap count.class n)))) (number_fine v g) (λ n u.
      fit_fine (IsFittingStore p ms) (is_permanent (class_at count.class s)) (turned (with_all count.class s) (due (created_all s.world.heap count.class n))) (permanent_here s count.class f good.0)
      (fine_turned (IsFittingStore p ms) (with_all count.class s) (due (created_all s.world.heap count.class n)) (due_fine (Filled s.world.heap count.class) (created_all s.world.heap count.class n) (created_all_sane s.world.heap count.class n f.sound.world.heap)) (λ t new.
      filled_fits p ms s count.class t f new))))

  single_kind : (s : Store) (c : ℕ) (cl : ClassLayout) → IsFittingStore p ms s → slice_get p.layout.classes c ≡ Some cl → comes_singly cl.kind ≡ true → kind_of s.world.heap.layout c ≡ Permanent → ⊥
  single_kind s c cl f q g h =
      let same : cl.kind ≡ Permanent = sym (ap (λ o. Rattle.ss_world.specs.State.kind_in o) (class_here s c cl f q)) ∙ h in
      let no_way : true ≡ false = sym g ∙ ap comes_singly same in
      absurd cc

  gone_fits : (s : Store) (c : ℕ) (x : ℤ) (t : State) → IsFittingStore p ms s → Gone s.world.heap x t → (kind_of s.world.heap.layout c ≡ Permanent → ⊥) → Every (λ (e : PendingNotice). x ≡ e.notice → ⊥) s.world.pending.entries → IsFittingStore p ms (with_none c x s t)
  gone_fits s c x t f gone single apart = record {
    sound = record {
      globals = f.sound.globals;
      world = record {
        setting = f.sound.world.setting;
        layout = gone.layout ∙ f.sound.world.layout;
        heap = gone.fits;
        pending = live s.world.pending.entries f.sound.world.pending apart;
        histories =
            subst (λ ss. HasAllHistories p.statistics t (ending t.layout c x ss s.world.histories)) (sym (statistics_are p ms s f))
            (fit_gone p.statistics s.world.heap t c x s.world.histories gone (λ q. single (ap (λ l. kind_of l c) (sym gone.layout) ∙ q)) f.sound.world.histories);
      };
    };
    locals = f.locals;
  }
    where
      live : (es : List PendingNotice) → Every (λ (e : PendingNotice). IsNotice s.world.heap e.notice) es → Every (λ (e : PendingNotice). x ≡ e.notice → ⊥) es → Every (λ (e : PendingNotice). IsNotice t e.notice) es
      live [] h g = tt
      live (e ∷ es) h g = ((h.0.0, gone.kept e.notice h.0.0 g.0 h.0.1, ap (λ l. kind_of l h.0.0) gone.layout ∙ h.0.2), live es h.1 g.1)

  -- an entity goes that isn't pending
  pub gone_fine : (c : ℕ) (n : ℤ) (s : Store) → is_created_singly (kind_said p c) ≡ true → Every (λ (e : PendingNotice). n ≡ e.notice → ⊥) s.world.pending.entries → IsFittingStore p ms s → Fine (IsFittingStore p ms) (gone c (Whole n) s)
  gone_fine c n s q apart f =
      let cl = single_said p c q in
      fit_fine (IsFittingStore p ms) (is_single (class_at c s)) (turned (with_none c n s) (due (destroyed s.world.heap c n))) (ap is_single (class_here s c cl.0 f cl.1) ∙ cl.2)
      (fine_turned (IsFittingStore p ms) (with_none c n s) (due (destroyed s.world.heap c n)) (due_fine (Gone s.world.heap n) (destroyed s.world.heap c n) (destroyed_sane s.world.heap c n f.sound.world.heap (single_kind s c cl.0 f cl.1 cl.2))) (λ t g.
      gone_fits s c n t f g (single_kind s c cl.0 f cl.1 cl.2) apart))

  apart_from : (n : ℤ) (es : List PendingNotice) → is_pending n es ≡ false → Every (λ (e : PendingNotice). n ≡ e.notice → ⊥) es
  apart_from n [] q = tt
  apart_from n (e ∷ es) q = by (int_eq n e.notice) refl q (apart_from n es)
    where
      by : (b : Bool) → int_eq n e.notice ≡ b → (b || is_pending n es) ≡ false → (is_pending n es ≡ false → Every (λ (e : PendingNotice). n ≡ e.notice → ⊥) es) → Every (λ (e : PendingNotice). n ≡ e.notice → ⊥) (e ∷ es)
      by true g h later = absurd cc
      by false g h later = ((λ same. let yes_it_is : int_eq n e.notice ≡ true = (Decides-int_eq n e.notice).1 same in absurd cc), later h)

  pub without_fine : (c : ℕ) (x : Value) (s : Store) → is_created_singly (kind_said p c) ≡ true → mode_of x ≡ Integer → IsFittingStore p ms s → Fine (IsFittingStore p ms) (without c x s)
  without_fine c x s q g f =
      let cl = single_said p c q in
      fine_then (IsFittingStore p ms) (entity c x s) (λ n. unless_fault (is_pending n s.world.pending.entries) Scheduled (gone c x s)) (entity_fine c cl.0 x s cl.1 g f) (λ n r.
      unless_fine (IsFittingStore p ms) (is_pending n s.world.pending.entries) Scheduled (gone c x s) (λ free.
      subst (λ y. Fine (IsFittingStore p ms) (gone c y s)) (sym r.0) (gone_fine c n s q (apart_from n s.world.pending.entries free) f)))

  -- ## The one write

  statistic_said : (j : ℕ) (t : Statistic) (subject : Subject) → slice_get p.statistics j ≡ Some t → t.subject ≡ subject → IsTypedSubject p subject
  statistic_said j t subject q e = subst (λ u. IsTypedSubject p u) e (every_get (λ (s : Statistic). IsTypedSubject p s.subject) p.statistics j t typed.statistics q)

  variable_noted : (k : ℕ) (m : Mode) (v : Value) → slice_get p.globals k ≡ Some m → mode_of v ≡ m → Noteworthy p.statistics (OfVariable k) v
  variable_noted k m v q g j t there e =
      let good : IsTypedSubject p (OfVariable k) = statistic_said j t (OfVariable k) there e in
      let same : Some m ≡ Some Integer = sym q ∙ good.0 in
      let it : m ≡ Integer = cc in g ∙ it

  attribute_noted : (c k : ℕ) (m : Mode) (v : Value) → field_mode p c k ≡ Some m → mode_of v ≡ m → Noteworthy p.statistics (OfAttribute c k) v
  attribute_noted c k m v q g j t there e =
      let good : IsTypedSubject p (OfAttribute c k) = statistic_said j t (OfAttribute c k) there e in
      let same : Some m ≡ Some Integer = sym q ∙ good in
      let it : m ≡ Integer = cc in g ∙ it

  globals_fit : (s : Store) (vs : List Value) → IsFittingStore p ms s → AreOfModes vs p.globals → IsFittingStore p ms (record s { globals = vs })
  globals_fit s vs f h = record { sound = record { globals = h; world = f.sound.world }; locals = f.locals }

  locals_fit : (s : Store) (vs : List Value) → IsFittingStore p ms s → AreOfModes vs ms → IsFittingStore p ms (record s { locals = vs })
  locals_fit s vs f h = record { sound = record { globals = f.sound.globals; world = f.sound.world }; locals = h }

  pub global_fine : (k : ℕ) (m : Mode) (v : Value) (s : Store) → slice_get p.globals k ≡ Some m → mode_of v ≡ m → IsFittingStore p ms s → Fine (IsFittingStore p ms) (assigned_variable (Global k) v s)
  global_fine k m v s q g f =
      fine_then (IsFittingStore p ms) (put (Global k) v s) (noted (OfVariable k) (pos 0) v)
      (fine_turned (IsFittingStore p ms) (λ vs. record s { globals = vs }) (put_at s.globals k v) (put_at_fine s.globals p.globals k m v f.sound.globals q g) (λ vs h. globals_fit s vs f h)) (λ t ft.
      noted_fine p ms (OfVariable k) (pos 0) v t (variable_noted k m v q g) refl ft)

  pub variable_fine : (b : Bool) (x : Variable) (m : Mode) (v : Value) (s : Store) → mode_at (record { program = p; locals = ms; is_main = b }) x ≡ Some m → mode_of v ≡ m → IsFittingStore p ms s → Fine (IsFittingStore p ms) (assigned_variable x v s)
  variable_fine b (Global k) m v s q g f = global_fine k m v s q g f
  variable_fine b (Local k) m v s q g f =
      fine_turned (IsFittingStore p ms) (λ vs. record s { locals = vs }) (put_at s.locals k v) (put_at_fine s.locals ms k m v f.locals q g) (λ vs h. locals_fit s vs f h)

  of_mode : (s : Store) (c k : ℕ) (m : Mode) (v : Value) → IsFittingStore p ms s → HasField p c k m → mode_of v ≡ m → is_of_mode v (field_at c k s) ≡ true
  of_mode s c k m v f q g = ap (is_of_mode v) (field_here s c k m f q) ∙ ap (λ n. same_mode n m) g ∙ same_is m

  pub attribute_assigned_fine : (c k : ℕ) (m : Mode) (x v : Value) (s : Store) → field_mode p c k ≡ Some m → mode_of x ≡ Integer → mode_of v ≡ m → IsFittingStore p ms s → Fine (IsFittingStore p ms) (assigned_attribute c k x v s)
  attribute_assigned_fine c k m x v s q gx gv f =
      let there : HasField p c k m = field_said p c k m q in
      fine_then (IsFittingStore p ms) (entity c x s) (λ n. where_fit (is_of_mode v (field_at c k s)) (if_ok (due (assigned s.world.heap c k n v)) (λ h. noted (OfAttribute c k) n v (with_heap s h)))) (entity_fine c there.class x s there.there gx f) (λ n r.
      fit_fine (IsFittingStore p ms) (is_of_mode v (field_at c k s)) (if_ok (due (assigned s.world.heap c k n v)) (λ h. noted (OfAttribute c k) n v (with_heap s h))) (of_mode s c k m v f there gv)
      (fine_then (IsFittingStore p ms) (due (assigned s.world.heap c k n v)) (λ h. noted (OfAttribute c k) n v (with_heap s h))
      (due_fine (Changed s.world.heap) (assigned s.world.heap c k n v) (assigned_sane s.world.heap c k n v m f.sound.world.heap (field_here s c k m f there) gv)) (λ h g.
      noted_fine p ms (OfAttribute c k) n v (with_heap s h) (attribute_noted c k m v q gv) (lives_on s.world.heap h c n g.1 r.1) (heap_fits p ms s h f g))))

  pub count_fine : (count : CountedClass) (v : Value) (s : Store) → Contains p.counts count → mode_of v ≡ Integer → IsFittingStore p ms s → Fine (IsFittingStore p ms) (assigned_count count v s)
  count_fine count v s c g f =
      let good : IsTypedCount p count = count_said count c in
      fit_fine (IsFittingStore p ms) (is_permanent (class_at count.class s)) (unless_fault (is_made s.world.heap count.class) CreatedTwice (assigned_variable (Global count.variable) v s)) (permanent_here s count.class f good.0)
      (unless_fine (IsFittingStore p ms) (is_made s.world.heap count.class) CreatedTwice (assigned_variable (Global count.variable) v s) (λ free. global_fine count.variable Integer v s good.1 g f))

  -- a place that was looked at takes values of a mode
  abbrev pub SpotTakes : Bool → Spot → Mode → Type 0
  SpotTakes b (InVariable x) m = mode_at (record { program = p; locals = ms; is_main = b }) x ≡ Some m
  SpotTakes b (InAttribute c k x) m = (field_mode p c k ≡ Some m) × (mode_of x ≡ Integer)
  SpotTakes b (InCount count) m = (m ≡ Integer) × Contains p.counts count

  pub written_fine : (b : Bool) (t : Spot) (m : Mode) (v : Value) (s : Store) → SpotTakes b t m → mode_of v ≡ m → IsFittingStore p ms s → Fine (IsFittingStore p ms) (written t v s)
  written_fine b (InVariable x) m v s q g f = variable_fine b x m v s q g f
  written_fine b (InAttribute c k x) m v s q g f = attribute_assigned_fine c k m x v s q.0 q.1 g f
  written_fine b (InCount count) m v s q g f = count_fine count v s q.1 (g ∙ q.0) f

  pub fetched_there : (b : Bool) (x : Variable) (m : Mode) (s : Store) → mode_at (record { program = p; locals = ms; is_main = b }) x ≡ Some m → IsFittingStore p ms s → There (λ v. mode_of v ≡ m) (fetched x s)
  fetched_there b (Global k) m s q f = held_there s.globals p.globals k m f.sound.globals q
  fetched_there b (Local k) m s q f = held_there s.locals ms k m f.locals q

  pub held_fine : (b : Bool) (t : Spot) (m : Mode) (s : Store) → SpotTakes b t m → IsFittingStore p ms s → Fine (λ v. mode_of v ≡ m) (held t s)
  held_fine b (InVariable x) m s q f = sure_fine (λ v. mode_of v ≡ m) (fetched x s) (fetched_there b x m s q f)
  held_fine b (InAttribute c k x) m s q f = attribute_fine c k m x s q.0 q.1 f
  held_fine b (InCount count) m s q f =
      sure_fine (λ v. mode_of v ≡ m) (fetched (Global count.variable) s) (held_there s.globals p.globals count.variable m f.sound.globals ((count_said count q.1).1 ∙ ap Some (sym q.0)))
