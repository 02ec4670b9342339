-- A notice gets its first attributes and its time.
use Rattle.std.proofs.Common.{◌≡◌, inl, inr, ℕ, zero, suc, ◌+◌, ◌<◌, ℤ, Bool, true, false, List, [], ◌∷◌, length, drop, Some, Ok, Err, refl, sym, ap, ◌∙◌, subst, arith}
use Rattle.ss_machine_notices.proofs.Common.{Alpha, AlreadyScheduled, attribute_noted, eqb-true, Fault, FaultKind, fine_is, fine_right, HasChangedIf, Integer, is_pending, IsFittingStore, IsNoticeClass, Memory, Mode, mode_of, Notice, noticed_in, Program, Refused, slice_get-map, slice_get_within, TwoRows, Value, watch, Whole}
use Rattle.std.specs.Prelude.{◌&&◌, ◌==◌, IsOk, is_some, slice_get, MatchResult, Result as OkOr, if◌then◌else◌}
use Rattle.std.specs.List.{AllByRecursion as Every}
use Rattle.std.specs.Option.{option_map}
use Rattle.ss_machine_notices.specs.Giving.{HasGivenValues, HasSetField, IsNoticeMade, IsSettledIn, IsSettledWithMemory, number_or, unpended, refiled, IsReadBack, IsSuitable, HasGivenOne}
use Rattle.ss_machine_world.specs.Seen.{HasChanged, HasChangedWithMemory, HasRearranged, IsRight, Seen, with_seen, HasMade}
use Rattle.ss_meaning.specs.Entities.{is_single, comes_singly, made_one}
use Rattle.ss_meaning.specs.Events.{filed_notice, prepared, rescheduled, endowed, with_notice_time}
use Rattle.ss_meaning.specs.Histories.{noted, same_subject}
use Rattle.ss_meaning.specs.Store.{Store, Setting, with_heap}
use Rattle.ss_meaning.specs.Values.{due, Fails, Failure, if_ok, turned, same_mode, where_fit, unless_fault}
use Rattle.ss_program.specs.WellTyped.{field_mode, is_created_singly, IsTypedSubject}
use Rattle.ss_program.specs.declared.sections.Subject.TheVariants.{OfVariable, OfAttribute, OfCount}
use Rattle.ss_world.specs.State.{and_then, modes_of, timed, State, assigned, known_in}
use Rattle.ss_records.specs.Attributes.{IsAssigned}
use Rattle.ss_program.specs.declared.sections.Statistic.{Statistic}
use Rattle.ss_program.specs.declared.sections.Subject.{Subject}
use Rattle.ss_meaning.specs.Places.{is_of_mode, assigned_attribute}
use Rattle.ss_meaning.proofs.Fine.{Fine, fine_then, fine_turned, due_fine}
use Rattle.ss_meaning.proofs.Heaps.{Changed, timed_sane}
use Rattle.ss_meaning.proofs.Stores.{heap_fits, same_is}
use Rattle.ss_meaning.proofs.Entities.{HasField, field_said, class_said, attribute_assigned_fine, made_one_fine}
use Rattle.ss_meaning.proofs.Events.{endowed_fine}
use Rattle.ss_code_instructions.proofs.Noting.{Quiet, noted_quiet}
use Rattle.ss_machine_frames.proofs.Places.{all_get}
use Rattle.ss_machine_world.proofs.Composing.{assigned_noted}
use Rattle.ss_machine_world.proofs.Reading.{set_once}
use Rattle.ss_machine_world.proofs.Leaving.{there_in}
use Rattle.ss_machine_world.proofs.Said.{drop_one}

-- ## Modes

-- no statistic watches an attribute that is a text
module _ (p : Program) (class field : ℕ) (text : field_mode p class field ≡ Some Alpha) where
  not_both : (d g : ℕ) (a b : Bool) → (d == class) ≡ a → (g == field) ≡ b → field_mode p d g ≡ Some Integer → a && b ≡ false
  not_both d g true true q r e =
      let same_class : d ≡ class = eqb-true d class q in
      let same_field : g ≡ field = eqb-true g field r in
      let both : Some Integer ≡ Some Alpha = sym e ∙ ap (λ k. field_mode p k g) same_class ∙ ap (field_mode p class) same_field ∙ text in
      absurd cc
  not_both d g true false q r e = refl
  not_both d g false b q r e = refl

  not_it : (t : Subject) → IsTypedSubject p t → same_subject t (OfAttribute class field) ≡ false
  not_it (OfVariable k) good = refl
  not_it (OfAttribute d g) good = not_both d g (d == class) (g == field) refl refl good
  not_it (OfCount set) good = refl

  text_unwatched : (ss : List Statistic) → Every (λ (s : Statistic). IsTypedSubject p s.subject) ss → watch ss (OfAttribute class field) ≡ false
  text_unwatched [] h = refl
  text_unwatched (s ∷ ss) h =
      ap (λ b. if b then true else watch ss (OfAttribute class field)) (not_it s.subject h.0) ∙ text_unwatched ss h.1

-- ## One attribute

-- what suits one value suits another one of its mode
abbrev pub suiting_as : (class field : ℕ) (notes : Bool) (v u : Value) (e : Seen) (g : IsSuitable class field notes v e) → mode_of u ≡ g.mode → IsSuitable class field notes u e
suiting_as class field notes v u e g right = record {
  program = g.program;
  typed = g.typed;
  modes = g.modes;
  store = g.store;
  fits = g.fits;
  mode = g.mode;
  field_is = g.field_is;
  right = right;
  reported = g.reported;
}

-- what the machine's call says
pub number_set : (e : Seen) (class field : ℕ) (n z : ℤ) (h : State) (r : OkOr (Unit {0}) FaultKind) → MatchResult r (λ _. IsAssigned e.heap class field n z h) (λ k. (assigned e.heap class field n (Whole z) ≡ Err k) × (h ≡ e.heap)) → h.layout ≡ e.heap.layout → HasSetField class field n (Whole z) e (record e { heap = h }) r × IsReadBack class field n (Whole z) (record e { heap = h }) r
number_set e class field n z h (Ok u) done layout = ((done.gives, layout, refl), done.reads)
number_set e class field n z h (Err k) done layout = ((done.0, ap (λ (h : State). record e { heap = h }) done.1), tt)

pub value_set : (e : Seen) (class field : ℕ) (n : ℤ) (v : Value) (h : State) (r : OkOr (Unit {0}) FaultKind) → MatchResult r (λ _. assigned e.heap class field n v ≡ Ok h) (λ k. (assigned e.heap class field n v ≡ Err k) × (h ≡ e.heap)) → h.layout ≡ e.heap.layout → HasSetField class field n v e (record e { heap = h }) r
value_set e class field n v h (Ok u) done layout = (done, layout, refl)
value_set e class field n v h (Err k) done layout = (done.0, ap (λ (h : State). record e { heap = h }) done.1)

module _ (class field : ℕ) (n : ℤ) (v : Value) (notes : Bool) (e : Seen) (g : IsSuitable class field notes v e) where
  layout_is : e.heap.layout ≡ g.program.layout
  layout_is = g.fits.sound.world.layout

  field_there : HasField g.program class field g.mode
  field_there = field_said g.program class field g.mode g.field_is

  pub suits_class : class < length e.heap.layout.classes
  suits_class = slice_get_within e.heap.layout.classes class field_there.class (ap (λ l. slice_get l.classes class) layout_is ∙ field_there.there)

  pub suits_mode : slice_get (modes_of e.heap.layout class) field ≡ Some g.mode
  suits_mode = ap (λ l. slice_get (modes_of l class) field) layout_is ∙ field_there.field

  pub suits_field : field < length (modes_of e.heap.layout class)
  suits_field = slice_get_within (modes_of e.heap.layout class) field g.mode suits_mode

  is_fitting : is_of_mode v (slice_get (modes_of e.heap.layout class) field) ≡ true
  is_fitting = ap (is_of_mode v) suits_mode ∙ ap (λ k. same_mode k g.mode) g.right ∙ same_is g.mode

  abbrev op : Store → OkOr Store Failure
  op = assigned_attribute class field (Whole n) v

  pub op_fine : Fine (IsFittingStore g.program g.modes) (op (with_seen g.store e))
  op_fine = attribute_assigned_fine g.program g.typed g.modes class field g.mode (Whole n) v (with_seen g.store e) g.field_is refl g.right g.fits

  op_right : IsRight (op (with_seen g.store e))
  op_right = fine_right (IsFittingStore g.program g.modes) (op (with_seen g.store e)) op_fine

  -- there is a fault
  pub set_not : (mid : Seen) (kind : FaultKind) → HasSetField class field n v e mid (Err kind) → op (with_seen g.store e) ≡ Err (Fails kind)
  set_not mid kind is =
      set_once e class field n v g.store is_fitting
      ∙ ap (λ r. if_ok (due r) (λ h. noted (OfAttribute class field) n v (with_heap (with_seen g.store e) h))) is.0

  -- it is assigned, and the note would change nothing
  set_quiet : (mid : Seen) → HasSetField class field n v e mid (Ok tt) → watch e.statistics (OfAttribute class field) ≡ false → op (with_seen g.store e) ≡ Ok (with_seen g.store mid)
  set_quiet mid is none = by (noted_quiet (OfAttribute class field) n v (with_seen g.store mid) (ap (λ (t : Seen). watch t.statistics (OfAttribute class field)) is.2 ∙ none))
    where
      noted_then : op (with_seen g.store e) ≡ noted (OfAttribute class field) n v (with_seen g.store mid)
      noted_then =
          set_once e class field n v g.store is_fitting
          ∙ ap (λ r. if_ok (due r) (λ h. noted (OfAttribute class field) n v (with_heap (with_seen g.store e) h))) is.0
          ∙ ap (λ (t : Seen). noted (OfAttribute class field) n v (with_seen g.store t)) (sym is.2)

      by : Quiet (with_seen g.store mid) (noted (OfAttribute class field) n v (with_seen g.store mid)) → op (with_seen g.store e) ≡ Ok (with_seen g.store mid)
      by (inl ok) = noted_then ∙ ok
      by (inr wrong) = absurd (op_right (noted_then ∙ wrong))

  -- it is noted, where that is so
  pub set_noted : (mid new : Seen) (q : OkOr (Unit {0}) FaultKind) → HasSetField class field n v e mid (Ok tt) → IsReadBack class field n v mid (Ok tt) → HasChangedIf notes (attribute_noted class field n) mid new q → IsSettledIn g.store op e new q
  set_noted mid new q is reads did = by notes refl did
    where
      noted_then : op (with_seen g.store e) ≡ attribute_noted class field n (with_seen g.store mid)
      noted_then =
          assigned_noted class field n v e is_fitting mid.heap is.0 reads is.1 (ap is_some suits_mode) g.store
          ∙ ap (λ (t : Seen). attribute_noted class field n (with_seen g.store t)) (sym is.2)

      as_noted : (q : OkOr (Unit {0}) FaultKind) → HasChanged (attribute_noted class field n) mid new q → IsSettledIn g.store op e new q
      as_noted (Ok u) d = noted_then ∙ d g.store (λ wrong. op_right (noted_then ∙ wrong))
      as_noted (Err k) d = noted_then ∙ d.0 g.store (λ wrong. op_right (noted_then ∙ wrong))

      by : (b : Bool) → notes ≡ b → HasChangedIf b (attribute_noted class field n) mid new q → IsSettledIn g.store op e new q
      by true same d = as_noted q d
      by false same d =
          subst (λ (q : OkOr (Unit {0}) FaultKind). IsSettledIn g.store op e new q) (sym d.0)
          (set_quiet mid is (g.reported same) ∙ ap (λ (t : Seen). Ok (with_seen g.store t)) (sym d.1))

  -- a text, which nothing notes
  pub text_set : (new : Seen) (q : OkOr (Unit {0}) FaultKind) → g.mode ≡ Alpha → HasSetField class field n v e new q → IsSettledIn g.store op e new q
  text_set new (Err kind) text is = set_not new kind is
  text_set new (Ok u) text is =
      let none = text_unwatched g.program class field (g.field_is ∙ ap Some text) g.program.statistics g.typed.statistics in
      set_quiet new is (ap (λ (x : Setting). watch x.statistics (OfAttribute class field)) g.fits.sound.world.setting ∙ none)

-- ## All of them

module _ {class : ℕ} {notes : Bool} {from given : ℕ} {rows : TwoRows} {old : Seen} (g : HasGivenValues class notes from given rows old) where
  pub create_class : class < length old.heap.layout.classes
  create_class =
      let c = class_said g.program class Notice g.notice in
      slice_get_within old.heap.layout.classes class c.0 (ap (λ l. slice_get l.classes class) g.fits.sound.world.layout ∙ c.1)

  pub create_single : is_single (slice_get old.heap.layout.classes class) ≡ true
  create_single =
      let c = class_said g.program class Notice g.notice in
      ap (λ l. is_single (slice_get l.classes class)) g.fits.sound.world.layout ∙ ap is_single c.1 ∙ ap comes_singly c.2

pub got_at : {A : Type 0} (xs : List A) (i : ℕ) → i < length xs → (x : A) × (slice_get xs i ≡ Some x)
got_at [] i lt = absurd (omega (arith, lt))
got_at (x ∷ xs) zero lt = (x, refl)
got_at (x ∷ xs) (suc i) lt = got_at xs i (omega (arith, lt))

module _ (class : ℕ) (n : ℤ) (notes : Bool) (from given : ℕ) (rows : TwoRows) (old : Seen) where
  -- so many attributes are assigned, and the others are still to be
  pub record Endowed (i : ℕ) (now : Seen) (g : HasGivenValues class notes from given rows old) : Type 0 where
    pub same : endowed class 0 (Whole n) g.values (with_seen g.store old) ≡ endowed class i (Whole n) (drop i g.values) (with_seen g.store now)
    pub fits : IsFittingStore g.program g.modes (with_seen g.store now)

  pub none_endowed : (g : HasGivenValues class notes from given rows old) → Endowed 0 old g
  none_endowed g = record { same = refl; fits = g.fits }

  module _ (i : ℕ) (now : Seen) (g : HasGivenValues class notes from given rows old) (d : Endowed i now g) (lt : i < given) where
    pub next_value : (v : Value) × (slice_get g.values i ≡ Some v)
    next_value = got_at g.values i (omega (arith, lt, g.many))

    pub statistics_same : now.statistics ≡ old.statistics
    statistics_same = ap (λ (x : Setting). x.statistics) (d.fits.sound.world.setting ∙ sym g.fits.sound.world.setting)

    -- what the next one is given
    abbrev pub gives_one : HasGivenOne class i notes (from + i) rows now
    gives_one = record {
      value = next_value.0;
      suits = record {
        program = g.program;
        typed = g.typed;
        modes = g.modes;
        store = g.store;
        fits = d.fits;
        mode = mode_of next_value.0;
        field_is = g.fields i (mode_of next_value.0) (ap (λ (ms : List Mode). slice_get ms i) (sym g.hold) ∙ slice_get-map mode_of g.values i ∙ ap (option_map mode_of) next_value.1);
        right = refl;
        reported = λ none. ap (λ (ss : List Statistic). watch ss (OfAttribute class i)) statistics_same ∙ g.reported none i lt;
      };
      lies = all_get rows from i g.values next_value.0 g.lie next_value.1;
      within = omega (arith, lt, g.within);
      small = omega (arith, lt, g.small);
    }

    step_is : endowed class 0 (Whole n) g.values (with_seen g.store old) ≡ if_ok (assigned_attribute class i (Whole n) next_value.0 (with_seen g.store now)) (endowed class (i + 1) (Whole n) (drop (i + 1) g.values))
    step_is = d.same ∙ ap (λ vs. endowed class i (Whole n) vs (with_seen g.store now)) (drop_one g.values i next_value.0 next_value.1)

    pub one_endowed : (new : Seen) → IsSettledIn g.store (assigned_attribute class i (Whole n) next_value.0) now new (Ok tt) → Endowed (i + 1) new g
    one_endowed new did = record {
      same = step_is ∙ ap (λ q. if_ok q (endowed class (i + 1) (Whole n) (drop (i + 1) g.values))) did;
      fits = fine_is (IsFittingStore g.program g.modes) (assigned_attribute class i (Whole n) next_value.0 (with_seen g.store now)) (with_seen g.store new) (op_fine class i n next_value.0 notes now gives_one.suits) did;
    }

    pub one_not : (new : Seen) (kind : FaultKind) → IsSettledIn g.store (assigned_attribute class i (Whole n) next_value.0) now new (Err kind) → endowed class 0 (Whole n) g.values (with_seen g.store old) ≡ Err (Fails kind)
    one_not new kind did = step_is ∙ ap (λ q. if_ok q (endowed class (i + 1) (Whole n) (drop (i + 1) g.values))) did

  pub all_endowed : (i : ℕ) (now : Seen) (g : HasGivenValues class notes from given rows old) → Endowed i now g → drop i g.values ≡ [] → endowed class 0 (Whole n) g.values (with_seen g.store old) ≡ Ok (with_seen g.store now)
  all_endowed i now g d none = d.same ∙ ap (λ vs. endowed class i (Whole n) vs (with_seen g.store now)) none

  -- ## And the time

  module _ (g : HasGivenValues class notes from given rows old) (t : ℤ) where
    pub time_set : (mid new : Seen) (q : OkOr (Unit {0}) FaultKind) → endowed class 0 (Whole n) g.values (with_seen g.store old) ≡ Ok (with_seen g.store mid) → HasRearranged (λ h. timed h n t) mid new q → IsSettledIn g.store (prepared class (Whole n) g.values t) old new q
    time_set mid new (Ok u) e re =
        ap (λ r. if_ok r (with_notice_time (Whole n) t)) e
        ∙ ap (λ r. turned (with_heap (with_seen g.store mid)) (due r)) re.0
        ∙ ap (λ (x : Seen). Ok (with_seen g.store x)) (sym re.1)
    time_set mid new (Err k) e re =
        ap (λ r. if_ok r (with_notice_time (Whole n) t)) e ∙ ap (λ r. turned (with_heap (with_seen g.store mid)) (due r)) re.0

    pub not_endowed : (kind : FaultKind) → endowed class 0 (Whole n) g.values (with_seen g.store old) ≡ Err (Fails kind) → prepared class (Whole n) g.values t (with_seen g.store old) ≡ Err (Fails kind)
    not_endowed kind e = ap (λ r. if_ok r (with_notice_time (Whole n) t)) e

    with_time_fine : (s : Store) → IsFittingStore g.program g.modes s → Fine (IsFittingStore g.program g.modes) (with_notice_time (Whole n) t s)
    with_time_fine s f =
        fine_turned (IsFittingStore g.program g.modes) (with_heap s) (due (timed s.world.heap n t)) (due_fine (Changed s.world.heap) (timed s.world.heap n t) (timed_sane s.world.heap n t f.sound.world.heap)) (λ h c. heap_fits g.program g.modes s h f c)

    fields_from : (i : ℕ) (m : Mode) → slice_get g.kinds i ≡ Some m → field_mode g.program class (0 + i) ≡ Some m
    fields_from i m q = let none_on : 0 + i ≡ i = omega arith in subst (λ j. field_mode g.program class j ≡ Some m) (sym none_on) (g.fields i m q)

    prepared_fits : (mid : Seen) → prepared class (Whole n) g.values t (with_seen g.store old) ≡ Ok (with_seen g.store mid) → IsFittingStore g.program g.modes (with_seen g.store mid)
    prepared_fits mid e =
        fine_is (IsFittingStore g.program g.modes) (prepared class (Whole n) g.values t (with_seen g.store old)) (with_seen g.store mid)
        (fine_then (IsFittingStore g.program g.modes) (endowed class 0 (Whole n) g.values (with_seen g.store old)) (with_notice_time (Whole n) t)
        (endowed_fine g.program g.typed g.modes class 0 (Whole n) g.values g.kinds (with_seen g.store old) g.hold fields_from refl g.fits) (λ s f. with_time_fine s f)) e

    -- it is a notice of its class afterwards
    pub noticed_then : (mid : Seen) → prepared class (Whole n) g.values t (with_seen g.store old) ≡ Ok (with_seen g.store mid) → IsNoticeClass mid class
    noticed_then mid e =
        let f = prepared_fits mid e in
        noticed_in g.program g.typed g.modes mid (with_seen g.store mid) class g.notice f refl f.sound.world.layout

    -- ## Filing it

    pub filed_then : (mid new : Seen) (q : OkOr (Unit {0}) Refused) → prepared class (Whole n) g.values t (with_seen g.store old) ≡ Ok (with_seen g.store mid) → HasChangedWithMemory (filed_notice class (Whole n) t) mid new q → IsSettledWithMemory g.store (refiled class (Whole n) g.values t) old new q
    filed_then mid new (Ok u) e d = ap (λ r. if_ok r (filed_notice class (Whole n) t)) e ∙ d g.store
    filed_then mid new (Err (Fault kind)) e d = ap (λ r. if_ok r (filed_notice class (Whole n) t)) e ∙ d.0 g.store
    filed_then mid new (Err Memory) e d = λ kind fails.
        wrong (filed_notice class (Whole n) t (with_seen g.store mid)) kind (d.0 g.store) (sym (ap (λ r. if_ok r (filed_notice class (Whole n) t)) e) ∙ fails)
      where
        wrong : (r : OkOr Store Failure) (kind : FaultKind) → IsOk r → r ≡ Err (Fails kind) → ⊥
        wrong (Ok s) kind ok q = absurd cc
        wrong (Err x) kind ok q = absurd cc

    pub not_prepared : (kind : FaultKind) → prepared class (Whole n) g.values t (with_seen g.store old) ≡ Err (Fails kind) → refiled class (Whole n) g.values t (with_seen g.store old) ≡ Err (Fails kind)
    not_prepared kind e = ap (λ r. if_ok r (filed_notice class (Whole n) t)) e

    -- ## A notice that there is

    again_is : rescheduled class (Whole n) g.values t (with_seen g.store old) ≡ if_ok (due (unpended class n old)) (λ u. refiled class (Whole n) g.values t (with_seen g.store old))
    again_is =
        ap (λ b. if_ok (where_fit b (turned (λ _. n) (due (known_in old.heap class n)))) then_again) (there_in old.heap.layout.classes class (create_class g))
        ∙ by (known_in old.heap class n)
      where
        not_twice : Bool → OkOr (Unit {0}) FaultKind
        not_twice b = if b then Err AlreadyScheduled else Ok tt

        then_again : ℤ → OkOr Store Failure
        then_again m = unless_fault (is_pending m old.pending.entries) AlreadyScheduled (refiled class (Whole n) g.values t (with_seen g.store old))

        pending : (b : Bool) → unless_fault b AlreadyScheduled (refiled class (Whole n) g.values t (with_seen g.store old)) ≡ if_ok (due (not_twice b)) (λ u. refiled class (Whole n) g.values t (with_seen g.store old))
        pending true = refl
        pending false = refl

        by : (k : OkOr (Unit {0}) FaultKind) → if_ok (turned (λ _. n) (due k)) then_again ≡ if_ok (due (and_then k (λ u. not_twice (is_pending n old.pending.entries)))) (λ u. refiled class (Whole n) g.values t (with_seen g.store old))
        by (Ok u) = pending (is_pending n old.pending.entries)
        by (Err kind) = refl

    pub again_not : (kind : FaultKind) → Err kind ≡ unpended class n old → rescheduled class (Whole n) g.values t (with_seen g.store old) ≡ Err (Fails kind)
    again_not kind e = again_is ∙ ap (λ k. if_ok (due k) (λ u. refiled class (Whole n) g.values t (with_seen g.store old))) (sym e)

    pub again : (new : Seen) (q : OkOr (Unit {0}) Refused) → Ok tt ≡ unpended class n old → IsSettledWithMemory g.store (refiled class (Whole n) g.values t) old new q → IsSettledWithMemory g.store (rescheduled class (Whole n) g.values t) old new q
    again new q e d = by q d
      where
        same : rescheduled class (Whole n) g.values t (with_seen g.store old) ≡ refiled class (Whole n) g.values t (with_seen g.store old)
        same = again_is ∙ ap (λ k. if_ok (due k) (λ u. refiled class (Whole n) g.values t (with_seen g.store old))) (sym e)

        by : (q : OkOr (Unit {0}) Refused) → IsSettledWithMemory g.store (refiled class (Whole n) g.values t) old new q → IsSettledWithMemory g.store (rescheduled class (Whole n) g.values t) old new q
        by (Ok u) d = same ∙ d
        by (Err (Fault kind)) d = same ∙ d
        by (Err Memory) d = λ kind fails. d kind (sym same ∙ fails)

-- ## A new notice

module _ (class : ℕ) (notes : Bool) (from given : ℕ) (rows : TwoRows) (old : Seen) (g : HasGivenValues class notes from given rows old) (t : ℤ) where
  -- what a value and a store are
  abbrev IsFitting : Value × Store → Type 0
  IsFitting b = (mode_of b.0 ≡ Integer) × IsFittingStore g.program g.modes b.1

  pub created_fits : (n : ℤ) (mid : Seen) → made_one class (with_seen g.store old) ≡ Ok (Whole n, with_seen g.store mid) → IsFittingStore g.program g.modes (with_seen g.store mid)
  created_fits n mid e =
      (fine_is IsFitting (made_one class (with_seen g.store old)) (Whole n, with_seen g.store mid) (made_one_fine g.program g.typed g.modes class (with_seen g.store old) (ap is_created_singly g.notice) g.fits) e).1

  -- the same values are given to the new one
  abbrev pub gives_after : (n : ℤ) (mid : Seen) → made_one class (with_seen g.store old) ≡ Ok (Whole n, with_seen g.store mid) → HasGivenValues class notes from given rows mid
  gives_after n mid e = record {
    program = g.program;
    typed = g.typed;
    modes = g.modes;
    store = g.store;
    fits = created_fits n mid e;
    notice = g.notice;
    values = g.values;
    kinds = g.kinds;
    hold = g.hold;
    fields = g.fields;
    many = g.many;
    lie = g.lie;
    within = g.within;
    small = g.small;
    reported = λ none field lt. ap (λ (x : Setting). watch x.statistics (OfAttribute class field)) ((created_fits n mid e).sound.world.setting ∙ sym g.fits.sound.world.setting) ∙ g.reported none field lt;
  }

  pub made : (n : ℤ) (mid new : Seen) (q : OkOr (Unit {0}) FaultKind) → made_one class (with_seen g.store old) ≡ Ok (Whole n, with_seen g.store mid) → IsSettledIn g.store (prepared class (Whole n) g.values t) mid new q → IsNoticeMade g.store class g.values t old new (number_or n q)
  made n mid new (Ok u) e d =
      ap (λ r. if_ok {B = Value × Store} r (λ b. turned (λ r. (b.0, r)) (prepared class b.0 g.values t b.1))) e ∙ ap (turned (λ r. (Whole n, r))) d
  made n mid new (Err kind) e d =
      ap (λ r. if_ok {B = Value × Store} r (λ b. turned (λ r. (b.0, r)) (prepared class b.0 g.values t b.1))) e ∙ ap (turned (λ r. (Whole n, r))) d

  pub not_made : (mid : Seen) (refused : Refused) → HasMade (made_one class) old mid (Err refused) → IsNoticeMade g.store class g.values t old mid (Err refused)
  not_made mid (Fault kind) d = ap (λ r. if_ok {B = Value × Store} r (λ b. turned (λ r. (b.0, r)) (prepared class b.0 g.values t b.1))) (d.0 g.store)
  not_made mid Memory d = d.0
