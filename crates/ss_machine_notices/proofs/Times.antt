-- Times to schedule for, filing a notice, and cancelling.
use Rattle.std.proofs.Common.{◌≡◌, ℕ, ◌+◌, ◌<◌, ◌≤◌, false, List, length, Option, Some, Ok, Err, refl, ap, ◌∙◌}
use Rattle.std.specs.Prelude.{ℤ, IsOk, slice_get, Result as OkOr}
use Rattle.ss_machine_notices.proofs.Common.{act, Address, as_value, calm, Compiled, deep_at, deep_here, Fault, FaultKind, HasAnswer, HasChanged, HasChangedWithMemory, HasPerformed, Here, Integer, is_due, IsDelivering, IsFittingStore, IsNoticeClass, IsReadyFor, IsSettledWithMemory, IsSettling, kind_of_class, located, Memory, Mode, Notice, noticed_in, place_at, Refused, refused_where, Seen, site, State, Store, suits_as, time_after, unless_refused, Value, Whole, with_seen}
use Rattle.ss_code_instructions.specs.Shape.{IsGivingMode, IsAccepting, typed_scope}
use Rattle.ss_code_instructions.specs.States.{Core, did, onward, with_operand_value, deliver}
use Rattle.ss_machine_instructions.proofs.Seeing.{seen_is, layout_is, asked, settles, unmade, changes}
use Rattle.ss_machine_instructions.proofs.Settling.{fine_right, notices_seen}
use Rattle.ss_machine_instructions.specs.Ways.{on_after, faulted_by, done_unless_fault}
use Rattle.ss_meaning.specs.Events.{filed_notice, Moment, AtTime, Later, not_past, time_at, unscheduled}
use Rattle.ss_meaning.specs.Values.{Fails, Failure, if_ok, turned, number_of}
use Rattle.ss_meaning.proofs.Events.{filed_notice_fine}
use Rattle.ss_code_instructions.specs.declared.instruction.Instruction.{Instruction as Running}
use Rattle.ss_code_instructions.specs.declared.instruction.Instruction.TheVariants as running
use Rattle.ss_code_instructions.specs.Instructions.{Operand, Target}
use Rattle.ss_code_instructions.specs.Carried.{IsOperandAt, IsTargetAt}
use Rattle.ss_machine_frames.proofs.Reading.{only_number, reads, read_within, reads_both, BothWithin, both_within}
use Rattle.ss_machine_instructions.proofs.Delivering.{delivers, deliver_is, number_right}

module _ {w : Compiled} {c : Core} {here : Here} {s : State} {run : Running} (r : IsReadyFor w c here s run) where
  -- ## Times

  -- the time of a moment whose number was read
  when_delivers : (moment : Value → Moment) (y : Operand) (target : Target) (time to : Address) (rest after : List Mode) (n : ℤ) (answer : OkOr ℤ FaultKind) → act w.code r.placed.line r.placed.instruction c ≡ with_operand_value y c.store c.cells (λ v below. deliver r.placed.line target (turned Whole (time_at (moment v) c.store)) below c) → IsGivingMode (typed_scope w.program w.code r.placed.locals) y Integer r.placed.cells rest → IsOperandAt w.code w.run.constants r.placed y time → IsAccepting (typed_scope w.program w.code r.placed.locals) target Integer rest after → IsTargetAt w.code w.run.constants r.placed target to → length after ≤ w.run.depth → slice_get s.rows.numbers (place_at here.frame time) ≡ Some n → HasAnswer (time_at (moment (Whole n))) s.world answer → IsDelivering w c r.placed.line (act w.code r.placed.line r.placed.instruction c) here s to (as_value answer)
  when_delivers moment y target time to rest after n answer acts gives at_y accepts at_to deep at_time looks =
      let l = r.placed.line in
      let one = reads (site w c here s run r) (located w c here s run r) y Integer r.placed.cells rest time c.cells (Whole n) gives at_y r.holds.held.cells r.fits.cells (only_number s.rows (place_at here.frame time) n at_time) in
      let reads_it : act w.code l r.placed.instruction c ≡ deliver l target (turned Whole (time_at (moment (Whole n)) c.store)) one.below c = acts ∙ one.is (λ v below. deliver l target (turned Whole (time_at (moment v) c.store)) below c) in
      let e = asked w c here s run r (time_at (moment (Whole n))) answer (λ wrong. reads_it ∙ ap (λ q. deliver l target (turned Whole q) one.below c) wrong) looks in
      delivers w c here s run r (as_value answer) to target Integer rest after one.below
      (reads_it
      ∙ ap (λ q. deliver l target (turned Whole q) one.below c) e
      ∙ deliver_is l target answer one.below c)
      accepts at_to deep (number_right answer) one.modes one.cells

  -- ## A class of notices

  noticed : (class : ℕ) → kind_of_class w.program class ≡ Some Notice → IsNoticeClass s.world class
  noticed class kind = noticed_in w.program r.compiled.typed r.placed.locals s.world c.store class kind r.fits.store (notices_seen w c here s run r) (layout_is w c here s run r)

  -- ## Where memory may be refused

  -- by the answer
  pub refuses : (f : Store → OkOr Store Failure) (e : Seen) (answer : OkOr (Unit {0}) Refused) (new : State) (result : Option Here) → is_due r.placed.instruction ≡ false → IsSettling c r.placed.line (act w.code r.placed.line r.placed.instruction c) here s f → IsSettledWithMemory c.store f s.world e answer → new ≡ refused_where answer (record s { world = e }) → result ≡ on_after here (unless_refused answer) → HasPerformed (is_due r.placed.instruction) w r.placed.line (act w.code r.placed.line r.placed.instruction c) s new result
  refuses f e (Ok u) new result calmly z d same way =
      settles w c here s run r (f c.store) z.below e (Ok u) new result calmly z.acts z.at (ap f (seen_is w c here s run r) ∙ d) same way
  refuses f e (Err (Fault kind)) new result calmly z d same way =
      settles w c here s run r (f c.store) z.below e (Err kind) new result calmly z.acts z.at (ap f (seen_is w c here s run r) ∙ d) same way
  refuses f e (Err Memory) new result calmly z d same way = calm w c here s run r new result calmly (unmade w c here s run r e new result same way)

  -- what holds of each store holds of this one
  in_store : (f : Store → OkOr Store Failure) (e : Seen) (answer : OkOr (Unit {0}) Refused) → HasChangedWithMemory f s.world e answer → IsSettledWithMemory c.store f s.world e answer
  in_store f e (Ok u) d = d c.store
  in_store f e (Err (Fault kind)) d = d.0 c.store
  in_store f e (Err Memory) d = λ kind fails. absurd (wrong (f (with_seen c.store s.world)) kind fails (d.0 c.store))
    where
      wrong : (q : OkOr Store Failure) (kind : FaultKind) → q ≡ Err (Fails kind) → IsOk q → ⊥
      wrong (Ok t) kind e ok = absurd cc
      wrong (Err t) kind e ok = absurd cc

-- ## At and In

module _ {w : Compiled} {c : Core} {here : Here} {s : State} {time to : Address} (r : IsReadyFor w c here s (running.At time to)) where
  pub at_in : place_at here.frame time < length s.rows.numbers
  at_in =
      let z = r.runs.carries in
      let y = suits_as w c here s (running.At time to) r z.2.2 in
      read_within (site w c here s (running.At time to) r) (located w c here s (running.At time to) r) z.0 Integer r.placed.cells y.0 time y.1 z.1 (deep_here w c here s (running.At time to) r)

  pub ats : (n : ℤ) (answer : OkOr ℤ FaultKind) → slice_get s.rows.numbers (place_at here.frame time) ≡ Some n → HasAnswer (not_past n) s.world answer → IsDelivering w c r.placed.line (act w.code r.placed.line r.placed.instruction c) here s to (as_value answer)
  ats n answer at looks =
      let z = r.runs.carries in
      let y = suits_as w c here s (running.At time to) r z.2.2 in
      when_delivers r AtTime z.0 z.2.0 time to y.0 y.2.0 n answer (ap (λ x. act w.code r.placed.line x c) z.2.2) y.1 z.1 y.2.1 z.2.1 (deep_at w c here s (running.At time to) r (c.place + 1) r.placed.locals y.2.0 y.2.2) at looks

module _ {w : Compiled} {c : Core} {here : Here} {s : State} {units to : Address} (r : IsReadyFor w c here s (running.In units to)) where
  pub in_in : place_at here.frame units < length s.rows.numbers
  in_in =
      let z = r.runs.carries in
      let y = suits_as w c here s (running.In units to) r z.2.2 in
      read_within (site w c here s (running.In units to) r) (located w c here s (running.In units to) r) z.0 Integer r.placed.cells y.0 units y.1 z.1 (deep_here w c here s (running.In units to) r)

  pub ins : (n : ℤ) (answer : OkOr ℤ FaultKind) → slice_get s.rows.numbers (place_at here.frame units) ≡ Some n → HasAnswer (time_after n) s.world answer → IsDelivering w c r.placed.line (act w.code r.placed.line r.placed.instruction c) here s to (as_value answer)
  ins n answer at looks =
      let z = r.runs.carries in
      let y = suits_as w c here s (running.In units to) r z.2.2 in
      when_delivers r Later z.0 z.2.0 units to y.0 y.2.0 n answer (ap (λ x. act w.code r.placed.line x c) z.2.2) y.1 z.1 y.2.1 z.2.1 (deep_at w c here s (running.In units to) r (c.place + 1) r.placed.locals y.2.0 y.2.2) at looks

-- ## FileNotice

module _ {w : Compiled} {c : Core} {here : Here} {s : State} {class : ℕ} {notice time : Address} (r : IsReadyFor w c here s (running.FileNotice class notice time)) where
  abbrev file_run : Running
  file_run = running.FileNotice class notice time

  pub file_notice_in : BothWithin (site w c here s file_run r) (located w c here s file_run r) notice time × IsNoticeClass s.world class
  file_notice_in =
      let z = r.runs.carries in
      let y = suits_as w c here s file_run r z.2.2 in (
        both_within (site w c here s file_run r) (located w c here s file_run r) z.0 z.2.0 Integer Integer r.placed.cells y.1.0 notice time y.1.1 z.1 z.2.1 (deep_here w c here s file_run r),
        noticed r class y.0,
      )

  pub file_notices : (n t : ℤ) (e : Seen) (answer : OkOr (Unit {0}) Refused) (new : State) (result : Option Here) → slice_get s.rows.numbers (place_at here.frame notice) ≡ Some n → slice_get s.rows.numbers (place_at here.frame time) ≡ Some t → HasChangedWithMemory (filed_notice class (Whole n) t) s.world e answer → new ≡ refused_where answer (record s { world = e }) → result ≡ on_after here (unless_refused answer) → HasPerformed (is_due r.placed.instruction) w r.placed.line (act w.code r.placed.line r.placed.instruction c) s new result
  file_notices n t e answer new result at_notice at_time d same way =
      let l = r.placed.line in
      let z = r.runs.carries in
      let y = suits_as w c here s file_run r z.2.2 in
      let both = reads_both (site w c here s file_run r) (located w c here s file_run r) z.0 z.2.0 Integer Integer r.placed.cells y.1.0 notice time c.cells (Whole n) (Whole t) y.1.1 z.1 z.2.1 r.holds.held.cells r.fits.cells (only_number s.rows (place_at here.frame notice) n at_notice) (only_number s.rows (place_at here.frame time) t at_time) in
      let op : Store → OkOr Store Failure = filed_notice class (Whole n) t in
      let left : IsSettling c l (act w.code l r.placed.instruction c) here s op = record {
        below = both.below;
        acts =
            ap (λ x. act w.code l x c) z.2.2
            ∙ both.is (λ x t below. did l (if_ok (number_of t) (λ t. filed_notice class x t c.store)) (λ s. onward below c s));
        right = fine_right (IsFittingStore w.program r.placed.locals) (op c.store) (filed_notice_fine w.program r.compiled.typed r.placed.locals class (Whole n) t c.store y.0 refl r.fits.store);
        at = both.cells;
      } in
      refuses r op e answer new result (ap is_due z.2.2) left (in_store r op e answer d) same way

-- ## Cancel

module _ {w : Compiled} {c : Core} {here : Here} {s : State} {class : ℕ} {notice : Address} (r : IsReadyFor w c here s (running.Cancel class notice)) where
  abbrev cancel_run : Running
  cancel_run = running.Cancel class notice

  pub cancels_in : (place_at here.frame notice < length s.rows.numbers) × (class < length s.world.heap.layout.classes)
  cancels_in =
      let z = r.runs.carries in
      let y = suits_as w c here s cancel_run r z.2 in (
        read_within (site w c here s cancel_run r) (located w c here s cancel_run r) z.0 Integer r.placed.cells y.1.0 notice y.1.1 z.1 (deep_here w c here s cancel_run r),
        (noticed r class y.0).within,
      )

  pub cancels : (n : ℤ) (e : Seen) (answer : OkOr (Unit {0}) FaultKind) (new : State) (result : Option Here) → slice_get s.rows.numbers (place_at here.frame notice) ≡ Some n → HasChanged (unscheduled class (Whole n)) s.world e answer → new ≡ faulted_by answer (record s { world = e }) → result ≡ on_after here (done_unless_fault answer) → HasPerformed (is_due r.placed.instruction) w r.placed.line (act w.code r.placed.line r.placed.instruction c) s new result
  cancels n e answer new result at d same way =
      let z = r.runs.carries in
      let y = suits_as w c here s cancel_run r z.2 in
      let one = reads (site w c here s cancel_run r) (located w c here s cancel_run r) z.0 Integer r.placed.cells y.1.0 notice c.cells (Whole n) y.1.1 z.1 r.holds.held.cells r.fits.cells (only_number s.rows (place_at here.frame notice) n at) in
      changes w c here s cancel_run r (unscheduled class (Whole n)) one.below e answer new result (ap is_due z.2)
      (ap (λ x. act w.code r.placed.line x c) z.2 ∙ one.is (λ x below. did r.placed.line (unscheduled class x c.store) (λ t. onward below c t)))
      one.cells d same way
