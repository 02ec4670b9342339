-- Statistics: of whom one is asked, what it says, RESET, and a variable that one watches.
use Rattle.std.proofs.Common.{◌≡◌, ℕ, ◌+◌, ◌<◌, Bool, true, false, List, [], ◌∷◌, length, Option, Some, None, Ok, Err, refl, sym, ap, ◌∙◌, subst}
use Rattle.ss_machine_instructions.proofs.Common.{act, Address, as_value, assigned_variable, at_place, Bearer, Class, Compiled, Core, core_at, deliver, did, done_unless_fault, due, every_get, Failure, faulted_by, FaultKind, figure, Global, HasAnswer, HasBearer, HasChanged, HasChangedWhere, HasNoTick, HasOperand, HasPerformed, HasTarget, Here, if_ok, Integer, Is, is_due, IsCoreHeld, IsDelivering, IsHeld, IsNotedAfter, IsNotedIf, IsReadyFor, IsRight, IsValueAt, Layout, mean, Mode, modes_of, Moved, OfAttribute, OfCount, OfVariable, on_after, onward, option_map, Owner, owner_as, owner_in, place_at, Program, reset, Seen, set_length, SetLayout, slice_get_within, State, Statistic, Subject, System, unwatched, Value, value_in, value_once, watch, Whole, with_number, with_seen, without_value}
use Rattle.std.specs.Prelude.{ℤ, pos, ◌||◌, is_some, slice_get, if◌then◌else◌, Result as OkOr}
use Rattle.std.specs.List.{list_any}
use Rattle.ss_code_instructions.specs.Shape.{IsStatisticBearer}
use Rattle.ss_machine_frames.proofs.Reading.{bearer_within, only_number, read_within, reads, reads_bearer, Refers, lies_at, variable_within}
use Rattle.ss_machine_world.specs.Numbers.{attribute_noted, HasValidSubject, IsReferenceToSubject, IsReferenceTo, IsSubject, IsHeldBySubject as VariableHolds}
use Rattle.ss_meaning.specs.Histories.{noted, home, same_subject}
use Rattle.ss_meaning.specs.Store.{Store, put}
use Rattle.ss_program.specs.declared.expression.Fold.{Fold}
use Rattle.ss_program.specs.WellTyped.{IsAlone, IsOfEntities, IsTypedSubject}
use Rattle.ss_code_instructions.specs.declared.instruction.Instruction.{Instruction as Running}
use Rattle.ss_code_instructions.specs.Instructions as i
use Rattle.ss_machine_time.specs.Figures.{subject_in, variable_in, statistic_variable, held_in}
use Rattle.ss_machine_time.specs.Places.{is_about}
use Rattle.ss_machine_world.specs.Seen as seen
use Rattle.ss_machine_frames.proofs.Places.{Elsewhere, elsewhere_value, value_same, number_is, place_fixed}
use Rattle.ss_machine_frames.proofs.Writing.{with_variable, put_is, variable_held}
use Rattle.ss_machine_instructions.proofs.Placing.{site, located, suits_as, deep_at, deep_here, calm, no_tick_at}
use Rattle.ss_machine_instructions.proofs.Delivering.{faults, number_right}
use Rattle.ss_machine_instructions.proofs.Seeing.{did_quiet, field_is, class_within, seen_is, layout_is, statistics_are, code_statistics_are, right_where, asked, looked, answers, changes_where}

-- ## Who watches

-- two ways to ask whether a statistic watches a subject
pub none_about : (subject : Subject) (ss : List Statistic) → watch ss subject ≡ false → list_any (is_about subject) ss ≡ false
none_about subject [] e = refl
none_about subject (s ∷ ss) e = by (same_subject s.subject subject) (λ e. none_about subject ss e) e
  where
    by : (b : Bool) → (watch ss subject ≡ false → list_any (is_about subject) ss ≡ false) → (if b then true else watch ss subject) ≡ false → (b || list_any (is_about subject) ss) ≡ false
    by true rest e = absurd cc
    by false rest e = rest e

-- ## Subjects

-- a set with an owner is there, and who owns it is the same in both words
pub owner_said : (o : Option SetLayout) (whose : Owner) → option_map (λ (t : SetLayout). t.owner) o ≡ Some whose → owner_in o ≡ whose
owner_said None whose e = absurd cc
owner_said (Some t) whose e = let same : t.owner ≡ whose = cc in same

-- the subject of a well-typed program's statistic is one of its layout
subject_good : (p : Program) (t : Subject) → IsTypedSubject p t → IsSubject p.layout t
subject_good p (OfVariable k) g = tt
subject_good p (OfAttribute class field) g =
    let mode : slice_get (modes_of p.layout class) field ≡ Some Integer = sym (field_is p class field) ∙ g in
    (class_within p.layout.classes class field Integer mode, mode)
subject_good p (OfCount set) g = slice_get_within p.layout.sets set g.0 g.1

-- the variable of a subject
variable_is : (o : Option Subject) (k : ℕ) → variable_in o ≡ Some k → o ≡ Some (OfVariable k)
variable_is None k e = absurd cc
variable_is (Some (OfVariable j)) k e = let same : j ≡ k = cc in ap (λ j. Some (OfVariable j)) same
variable_is (Some (OfAttribute class field)) k e = absurd cc
variable_is (Some (OfCount set)) k e = absurd cc

-- an address of a global variable
abbrev pub global_at : ℕ → Address
global_at k = record { number = k; mask = 0 }

same_value : (answer : OkOr ℤ FaultKind) → seen.as_value answer ≡ as_value answer
same_value (Ok z) = refl
same_value (Err kind) = refl

-- what noted a variable that was assigned before is the whole assignment
note_after : (k : ℕ) (v : Value) (s t : Store) → put (Global k) v s ≡ Ok t → assigned_variable (Global k) v s ≡ noted (OfVariable k) (pos 0) v t
note_after k v s t e = ap (λ (q : OkOr Store Failure). if_ok q (noted (OfVariable k) (pos 0) v)) e

-- ## Notes of attributes

-- an attribute that no statistic watches is noted, which changes nothing
pub attribute_quiet : (class field : ℕ) (x : ℤ) (v : Value) (m : Mode) (mid : Seen) → slice_get (modes_of mid.heap.layout class) field ≡ Some m → value_in mid.heap class field x ≡ Ok v → list_any (is_about (OfAttribute class field)) mid.statistics ≡ false → (t : Store) → IsRight (attribute_noted class field x (with_seen t mid)) → attribute_noted class field x (with_seen t mid) ≡ Ok (with_seen t mid)
attribute_quiet class field x v m mid mode value none t right =
    let read = ap (λ q. if_ok q (λ v. noted (OfAttribute class field) x v (with_seen t mid))) (value_once mid class field x t (ap is_some mode) ∙ ap due value) in
    read ∙ unwatched (OfAttribute class field) x v mid none t (λ wrong. right (read ∙ wrong))

module _ (w : Compiled) (c : Core) (here : Here) (s : State) (run : Running) (r : IsReadyFor w c here s run) where
  abbrev does : Moved
  does = act w.code r.placed.line r.placed.instruction c

  -- ## Of whom a statistic is asked

  subject_there : (j : ℕ) (t : Subject) → subject_in s.world.statistics j ≡ Some t → (u : Statistic) × (slice_get w.program.statistics j ≡ Some u) × (u.subject ≡ t)
  subject_there j t e = by (slice_get w.program.statistics j) refl (sym (ap (λ ss. subject_in ss j) (statistics_are w c here s run r)) ∙ e)
    where
      by : (o : Option Statistic) → slice_get w.program.statistics j ≡ o → option_map (λ (u : Statistic). u.subject) o ≡ Some t → (u : Statistic) × (slice_get w.program.statistics j ≡ Some u) × (u.subject ≡ t)
      by None at e = absurd cc
      by (Some u) at e = let same : u.subject ≡ t = cc in (u, at, same)

  good_there : (j : ℕ) (t : Subject) → subject_in s.world.statistics j ≡ Some t → IsTypedSubject w.program t
  good_there j t e =
      let u = subject_there j t e in
      subst (IsTypedSubject w.program) u.2 (every_get (λ (x : Statistic). IsTypedSubject w.program x.subject) w.program.statistics j u.0 r.compiled.typed.statistics u.1)

  -- its subject is one of the layout
  pub has_subject : (j : ℕ) → HasValidSubject s.world j
  has_subject j = λ t e. subst (λ (l : Layout). IsSubject l t) (sym (layout_is w c here s run r)) (subject_good w.program t (good_there j t e))

  -- the number that is read at the address of a bearer is that of the entity
  refers_alone : (t : Subject) → IsAlone w.program t → IsReferenceTo (home w.program.layout t) None (pos 0)
  refers_alone (OfVariable k) f = refl
  refers_alone (OfAttribute class field) f = absurd f
  refers_alone (OfCount set) f = ap (λ (whose : Owner). owner_as whose None) (owner_said (slice_get w.program.layout.sets set) System f)

  refers_one : (t : Subject) (z : ℤ) → IsOfEntities w.program t → IsReferenceTo (home w.program.layout t) (Some (Whole z)) z
  refers_one (OfVariable k) z f = absurd f
  refers_one (OfAttribute class field) z f = refl
  refers_one (OfCount set) z f = ap (λ (whose : Owner). owner_as whose (Some (Whole z))) (owner_said (slice_get w.program.layout.sets set) (Class f.0) f.1)

  one_subject : (j : ℕ) (t : Subject) (u : Statistic) → subject_in s.world.statistics j ≡ Some t → slice_get w.program.statistics j ≡ Some u → u.subject ≡ t
  one_subject j t u e at =
      let q : Some u.subject ≡ Some t = sym (ap (option_map (λ (x : Statistic). x.subject)) at) ∙ sym (ap (λ ss. subject_in ss j) (statistics_are w c here s run r)) ∙ e in
      cc

  pub refers_to : (j : ℕ) (x : Bearer) (o : Option Value) (z : ℤ) → IsStatisticBearer w.program j x → Refers x o z → IsReferenceToSubject s.world j o z
  refers_to j None o z fits refers = λ t e.
      let same = one_subject j t fits.0 e fits.1 in
      let plain = subst (λ (l : Layout). IsReferenceTo (home l t) None (pos 0)) (sym (layout_is w c here s run r)) (refers_alone t (subst (IsAlone w.program) same fits.2)) in
      subst (λ o. IsReferenceTo (home s.world.heap.layout t) o z) (sym refers.0) (subst (λ z. IsReferenceTo (home s.world.heap.layout t) None z) (sym refers.1) plain)
  refers_to j (Some x) o z fits refers = λ t e.
      let same = one_subject j t fits.0 e fits.1 in
      let plain = subst (λ (l : Layout). IsReferenceTo (home l t) (Some (Whole z)) z) (sym (layout_is w c here s run r)) (refers_one t z (subst (IsOfEntities w.program) same fits.2)) in
      subst (λ o. IsReferenceTo (home s.world.heap.layout t) o z) (sym refers) plain

  -- ## Figure

  pub figures_in : (fold : Fold) (j : ℕ) (entity to : Address) → HasBearer w.code w.run.constants r.placed entity (λ o. HasTarget w.code w.run.constants r.placed to (λ t. Is w.code w.run.constants r.placed (i.Figure fold j o t))) → place_at here.frame entity < length s.rows.numbers
  figures_in fold j entity to z =
      let y = suits_as w c here s run r z.2.2 in
      bearer_within (site w c here s run r) (located w c here s run r) z.0 r.placed.cells y.1.0 entity y.1.1 z.1 (deep_here w c here s run r)

  pub figures : (fold : Fold) (j : ℕ) (entity to : Address) (n : ℤ) (answer : OkOr ℤ FaultKind) → HasBearer w.code w.run.constants r.placed entity (λ o. HasTarget w.code w.run.constants r.placed to (λ t. Is w.code w.run.constants r.placed (i.Figure fold j o t))) → slice_get s.rows.numbers (place_at here.frame entity) ≡ Some n → ((o : Option Value) → IsReferenceToSubject s.world j o n → HasAnswer (figure fold j o) s.world (seen.as_value answer)) → IsDelivering w c r.placed.line does here s to (as_value answer)
  figures fold j entity to n answer z e looks =
      let is = z.2.2 in
      let y = suits_as w c here s run r is in
      let b = reads_bearer (site w c here s run r) (located w c here s run r) z.0 r.placed.cells y.1.0 entity c.cells n y.1.1 z.1 r.holds.held.cells r.fits.cells e in
      let target = z.2.0 in
      answers w c here s run r (figure fold j b.value) (as_value answer) to target Integer y.1.0 y.1.2.0 b.below
      (ap (λ x. act w.code r.placed.line x c) is ∙ b.is (λ x below. deliver r.placed.line target (figure fold j x c.store) below c))
      (subst (HasAnswer (figure fold j b.value) s.world) (same_value answer) (looks b.value (refers_to j z.0 b.value n y.0 b.refers)))
      y.1.2.1 z.2.1 (deep_at w c here s run r (c.place + 1) r.placed.locals y.1.2.0 y.1.2.2) (number_right answer) b.modes b.cells

  -- ## LookMean

  pub looks_in_mean : (j : ℕ) (entity : Address) → HasBearer w.code w.run.constants r.placed entity (λ o. Is w.code w.run.constants r.placed (i.LookMean j o)) → place_at here.frame entity < length s.rows.numbers
  looks_in_mean j entity z =
      let y = suits_as w c here s run r z.2 in
      bearer_within (site w c here s run r) (located w c here s run r) z.0 r.placed.cells y.1.0 entity y.1.1 z.1 (deep_here w c here s run r)

  pub looks_at_mean : (j : ℕ) (entity : Address) (n : ℤ) (answer : OkOr (Unit {0}) FaultKind) (new : State) (result : Option Here) → HasBearer w.code w.run.constants r.placed entity (λ o. Is w.code w.run.constants r.placed (i.LookMean j o)) → slice_get s.rows.numbers (place_at here.frame entity) ≡ Some n → ((o : Option Value) → IsReferenceToSubject s.world j o n → HasAnswer (without_value (mean j o)) s.world answer) → new ≡ faulted_by answer s → result ≡ on_after here (done_unless_fault answer) → HasPerformed (is_due r.placed.instruction) w r.placed.line does s new result
  looks_at_mean j entity n answer new result z e looks same q =
      let is = z.2 in
      let y = suits_as w c here s run r is in
      let b = reads_bearer (site w c here s run r) (located w c here s run r) z.0 r.placed.cells y.1.0 entity c.cells n y.1.1 z.1 r.holds.held.cells r.fits.cells e in
      let m = onward b.below c c.store in
      let acts : does ≡ did {A = Unit {0}} r.placed.line (without_value (mean j b.value) c.store) (λ _. m) =
      ap (λ x. act w.code r.placed.line x c) is
      ∙ b.is (λ x below. did r.placed.line (mean j x c.store) (λ _. onward below c c.store))
      ∙ did_quiet r.placed.line (mean j b.value c.store) m in
      let found = asked w c here s run r (without_value (mean j b.value)) answer (λ wrong. acts ∙ ap (λ t. did r.placed.line t (λ _. m)) wrong) (looks b.value (refers_to j z.0 b.value n y.0 b.refers)) in
      looked w c here s run r answer b.below new result (ap is_due is) (acts ∙ ap (λ t. did r.placed.line t (λ _. m)) found) b.cells same q

  -- ## Variables that statistics are about

  -- a global variable of numbers lies in its place
  pub global_within : (k : ℕ) → slice_get w.program.globals k ≡ Some Integer → k < length s.rows.numbers
  global_within k mode =
      subst (λ j. j < length s.rows.numbers) (place_fixed here.frame k (global_at k) (refl, refl))
      (variable_within (site w c here s run r) (located w c here s run r) (Global k) Integer (global_at k) mode (refl, refl))

  -- and what was read there is what it holds
  pub global_is : (k : ℕ) (z : ℤ) → slice_get w.program.globals k ≡ Some Integer → slice_get s.rows.numbers k ≡ Some z → slice_get c.store.globals k ≡ Some (Whole z)
  global_is k z mode e =
      let v = lies_at (site w c here s run r) (located w c here s run r) (Global k) Integer (global_at k) mode (refl, refl) in
      let i = place_at here.frame (global_at k) in
      let at : slice_get s.rows.numbers i ≡ Some z = ap (slice_get s.rows.numbers) (place_fixed here.frame k (global_at k) (refl, refl)) ∙ e in
      v.there ∙ ap Some (number_is s.rows i v.value z v.mode v.at at)

  subject_global : (j k : ℕ) → statistic_variable s.world.statistics j ≡ Some k → slice_get w.program.globals k ≡ Some Integer
  subject_global j k e = (good_there j (OfVariable k) (variable_is (subject_in s.world.statistics j) k e)).0

  pub held_within : (j k : ℕ) → statistic_variable s.world.statistics j ≡ Some k → k < length s.rows.numbers
  held_within j k e = global_within k (subject_global j k e)

  -- the variable of a statistic, if it is about one, holds what was read
  pub variable_holds : (j : ℕ) (held : ℤ) → ((k : ℕ) → statistic_variable s.world.statistics j ≡ Some k → slice_get s.rows.numbers k ≡ Some held) → VariableHolds j held (with_seen c.store s.world)
  variable_holds j held at = λ v e. by (statistic_variable s.world.statistics j) refl v e
    where
      by : (o : Option ℕ) → statistic_variable s.world.statistics j ≡ o → (v : Value) → held_in o (with_seen c.store s.world) ≡ Some v → v ≡ Whole held
      by None q v e = absurd cc
      by (Some k) q v e =
          let is : Some v ≡ Some (Whole held) = sym e ∙ global_is k held (subject_global j k q) (at k q) in
          cc

  -- ## Reset

  pub resets_in : (j : ℕ) (entity : Address) → HasBearer w.code w.run.constants r.placed entity (λ o. Is w.code w.run.constants r.placed (i.Reset j o)) → place_at here.frame entity < length s.rows.numbers
  resets_in j entity z =
      let y = suits_as w c here s run r z.2 in
      bearer_within (site w c here s run r) (located w c here s run r) z.0 r.placed.cells y.1.0 entity y.1.1 z.1 (deep_here w c here s run r)

  pub resets : (j : ℕ) (entity : Address) (n held : ℤ) (e : Seen) (answer : OkOr (Unit {0}) FaultKind) (new : State) (result : Option Here) → HasBearer w.code w.run.constants r.placed entity (λ o. Is w.code w.run.constants r.placed (i.Reset j o)) → slice_get s.rows.numbers (place_at here.frame entity) ≡ Some n → ((k : ℕ) → statistic_variable s.world.statistics j ≡ Some k → slice_get s.rows.numbers k ≡ Some held) → ((o : Option Value) → IsReferenceToSubject s.world j o n → HasChangedWhere (λ t. IsRight (reset j o t) × VariableHolds j held t) (reset j o) s.world e answer) → new ≡ faulted_by answer (record s { world = e }) → result ≡ on_after here (done_unless_fault answer) → HasPerformed (is_due r.placed.instruction) w r.placed.line does s new result
  resets j entity n held e answer new result z at_entity at_held changed same q =
      let is = z.2 in
      let y = suits_as w c here s run r is in
      let b = reads_bearer (site w c here s run r) (located w c here s run r) z.0 r.placed.cells y.1.0 entity c.cells n y.1.1 z.1 r.holds.held.cells r.fits.cells at_entity in
      let acts : does ≡ did r.placed.line (reset j b.value c.store) (λ t. onward b.below c t) =
      ap (λ x. act w.code r.placed.line x c) is
      ∙ b.is (λ x below. did r.placed.line (reset j x c.store) (λ t. onward below c t)) in
      let right = right_where w c here s run r (reset j b.value) (λ wrong. acts ∙ ap (λ t. did r.placed.line t (λ t. onward b.below c t)) wrong) in
      changes_where w c here s run r (λ t. IsRight (reset j b.value t) × VariableHolds j held t) (reset j b.value) b.below e answer new result (ap is_due is) acts b.cells
      (right, variable_holds j held at_held)
      (changed b.value (refers_to j z.0 b.value n y.0 b.refers)) same q

  -- ## Keep

  pub keeps_in : (k : ℕ) (from : Address) → HasOperand w.code w.run.constants r.placed from (λ y. Is w.code w.run.constants r.placed (i.Keep y (Global k))) → place_at here.frame from < length s.rows.numbers
  keeps_in k from z =
      let y = suits_as w c here s run r z.2 in
      read_within (site w c here s run r) (located w c here s run r) z.0 Integer r.placed.cells y.1.0 from y.1.1 z.1 (deep_here w c here s run r)

  pub kept_within : (k : ℕ) (from : Address) → HasOperand w.code w.run.constants r.placed from (λ y. Is w.code w.run.constants r.placed (i.Keep y (Global k))) → k < length s.rows.numbers
  kept_within k from z = let y = suits_as w c here s run r z.2 in global_within k y.0

  -- the store once the variable holds a number
  abbrev kept_in : ℕ → ℤ → Store
  kept_in k n = with_variable (Global k) (Whole n) c.store

  -- it goes on, or there is a fault, once the histories note what the variable holds
  kept : (k : ℕ) (n : ℤ) (e : Seen) (answer : OkOr (Unit {0}) FaultKind) (below : List Value) (new : State) (result : Option Here) → does ≡ did r.placed.line (noted (OfVariable k) (pos 0) (Whole n) (with_seen (kept_in k n) s.world)) (λ t. onward below c t) → IsCoreHeld w.run.constants w.run.depth here.frame (with_number s.rows k n) s.frames (core_at (c.place + 1) below c.frames (kept_in k n)) → HasChanged (noted (OfVariable k) (pos 0) (Whole n)) s.world e answer → new ≡ faulted_by answer (record s { rows = with_number s.rows k n; world = e }) → result ≡ on_after here (done_unless_fault answer) → HasNoTick w r.placed.line does s new result
  kept k n e answer below new result acts held changed same q = by answer changed same q
    where
      right : IsRight (noted (OfVariable k) (pos 0) (Whole n) (with_seen (kept_in k n) s.world))
      right = λ wrong. r.goes (acts ∙ ap (λ q. did r.placed.line q (λ t. onward below c t)) wrong)

      by : (answer : OkOr (Unit {0}) FaultKind) → HasChanged (noted (OfVariable k) (pos 0) (Whole n)) s.world e answer → new ≡ faulted_by answer (record s { rows = with_number s.rows k n; world = e }) → result ≡ on_after here (done_unless_fault answer) → HasNoTick w r.placed.line does s new result
      by (Ok u) changed same q =
          let store = with_seen (kept_in k n) e in
          let there : Here = record { place = c.place + 1; frame = here.frame } in
          let s' : State = record s { rows = with_number s.rows k n; world = e } in
          let holds : IsHeld w (core_at (c.place + 1) below c.frames store) there s' = record {
            place = refl;
            held = record { globals = held.globals; fixed = held.fixed; locals = held.locals; cells = held.cells; open_calls = held.open_calls; room = held.room; small = held.small };
            world = refl;
            even = r.holds.even ∙ sym (set_length s.rows.numbers k n);
            line = r.holds.line;
          } in
          let goes = acts ∙ ap (λ q. did r.placed.line q (λ t. onward below c t)) (changed (kept_in k n) right) in
          let way : result ≡ Some there = q ∙ ap (λ p. at_place here (p + 1)) r.holds.place in
          no_tick_at w r.placed.line does s s' new (Some there) result (core_at (c.place + 1) below c.frames store, goes, holds) refl refl same way
      by (Err kind) changed same q =
          let goes = acts ∙ ap (λ q. did r.placed.line q (λ t. onward below c t)) (changed.0 (kept_in k n) right) in
          let h = faults w r.placed.line does (record s { rows = with_number s.rows k n; world = e }) new result kind r.holds.line goes same q in
          record { leads = h.leads; ticks = h.ticks; steps = h.steps }

  -- the value goes to its variable, and the histories note it
  pub keeps : (k : ℕ) (from : Address) (n : ℤ) (e : Seen) (answer : OkOr (Unit {0}) FaultKind) (new : State) (result : Option Here) → HasOperand w.code w.run.constants r.placed from (λ y. Is w.code w.run.constants r.placed (i.Keep y (Global k))) → slice_get s.rows.numbers (place_at here.frame from) ≡ Some n → HasChanged (noted (OfVariable k) (pos 0) (Whole n)) s.world e answer → new ≡ faulted_by answer (record s { rows = with_number s.rows k n; world = e }) → result ≡ on_after here (done_unless_fault answer) → HasPerformed (is_due r.placed.instruction) w r.placed.line does s new result
  keeps k from n e answer new result z at changed same q =
      let t = site w c here s run r in
      let st = located w c here s run r in
      let is = z.2 in
      let y = suits_as w c here s run r is in
      let one = reads t st z.0 Integer r.placed.cells y.1.0 from c.cells (Whole n) y.1.1 z.1 r.holds.held.cells r.fits.cells (only_number s.rows (place_at here.frame from) n at) in
      let v = lies_at t st (Global k) Integer (global_at k) y.0 (refl, refl) in
      let place = place_fixed here.frame k (global_at k) (refl, refl) in
      let rows = with_number s.rows k n in
      let put_there = put_is (Global k) (Whole n) v.value c.store v.there (sym v.mode) in
      let seen_then : kept_in k n ≡ with_seen (kept_in k n) s.world = ap (λ x. with_variable (Global k) (Whole n) x) (seen_is w c here s run r) in
      let acts : does ≡ did r.placed.line (noted (OfVariable k) (pos 0) (Whole n) (with_seen (kept_in k n) s.world)) (λ t. onward one.below c t) =
      ap (λ x. act w.code r.placed.line x c) is
      ∙ one.is (λ v below. did r.placed.line (assigned_variable (Global k) v c.store) (λ t. onward below c t))
      ∙ ap (λ q. did r.placed.line q (λ t. onward one.below c t)) (note_after k (Whole n) c.store (kept_in k n) put_there)
      ∙ ap (λ u. did r.placed.line (noted (OfVariable k) (pos 0) (Whole n) u) (λ t. onward one.below c t)) seen_then in
      let elsewhere : Elsewhere s.rows rows k = elsewhere_value s.rows k (Whole n) in
      let there = value_same s.rows k (Whole n) r.holds.even (global_within k y.0) in
      let held = variable_held t st (Global k) (global_at k) v.value (Whole n) rows (c.place + 1) one.below (refl, refl) v.there (subst (Elsewhere s.rows rows) (sym place) elsewhere) (subst (λ j. IsValueAt rows j (Whole n)) (sym place) there) one.cells in
      calm w c here s run r new result (ap is_due is) (kept k n e answer one.below new result acts held changed same q)

  -- ## Notes

  -- whether the code says that no statistic watches a subject, or the running instruction that it is not noted
  pub none_watches : (subject : Subject) → watch w.code.setting.statistics subject ≡ false → list_any (is_about subject) s.world.statistics ≡ false
  none_watches subject e =
      none_about subject s.world.statistics
      (ap (λ ss. watch ss subject) (statistics_are w c here s run r ∙ sym (code_statistics_are w c here s run r)) ∙ e)

-- ## What comes of a change and its note

pub after_fault : (change : OkOr (Unit {0}) FaultKind) (kind : FaultKind) (noted : Bool) (note : Store → OkOr Store Failure) (e : Seen) → change ≡ Err kind → IsNotedAfter change noted note e e (Err kind)
after_fault change kind noted note e is = subst (λ q. IsNotedAfter q noted note e e (Err kind)) (sym is) (refl, refl)

pub after_unnoted : (change : OkOr (Unit {0}) FaultKind) (u : Unit {0}) (noted : Bool) (note : Store → OkOr Store Failure) (e : Seen) → change ≡ Ok u → noted ≡ false → IsNotedAfter change noted note e e (Ok tt)
after_unnoted change u noted note e is not_so = subst (λ q. IsNotedAfter q noted note e e (Ok tt)) (sym is) (subst (λ b. IsNotedIf b note e e (Ok tt)) (sym not_so) (refl, refl))

pub after_noted : (change : OkOr (Unit {0}) FaultKind) (u : Unit {0}) (noted : Bool) (note : Store → OkOr Store Failure) (old new : Seen) (said : OkOr (Unit {0}) FaultKind) → change ≡ Ok u → noted ≡ true → HasChanged note old new said → IsNotedAfter change noted note old new said
after_noted change u noted note old new said is so h = subst (λ q. IsNotedAfter q noted note old new said) (sym is) (subst (λ b. IsNotedIf b note old new said) (sym so) h)
