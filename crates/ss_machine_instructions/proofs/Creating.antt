-- Entities that come and go.
use Rattle.std.proofs.Common.{◌≡◌, ℕ, ◌+◌, ◌<◌, true, length, Option, Some, None, Ok, Err, refl, ap, ◌∙◌, subst}
use Rattle.ss_machine_instructions.proofs.Common.{act, Address, ClassKind, ClassLayout, Compiled, Core, created_all_known, deliver_with, did, done_unless_fault, faulted_by, FaultKind, Fine, HasChanged, HasChangedWithMemory, HasMade, HasOperand, HasPerformed, HasTarget, Here, Integer, Is, is_due, IsDelivered, IsDelivering, IsFittingStore, IsReadyFor, Layout, mode_of, Moved, on_after, on_at, only_number, onward, Permanent, place_at, read_within, reads, Refused, refused_by, Seen, slice_get_within, State, Store, Value, Whole, with_seen}
use Rattle.std.specs.Prelude.{ℤ, not, slice_get, Result as OkOr}
use Rattle.ss_meaning.specs.Values.{if_ok, sure, number_of}
use Rattle.ss_program.specs.declared.statement.CountedClass.{CountedClass}
use Rattle.ss_program.specs.WellTyped.{kind_of_class, is_created_singly, IsTypedCount}
use Rattle.ss_meaning.specs.Entities.{comes_singly, is_single, is_permanent, made_one, without}
use Rattle.ss_meaning.proofs.Entities.{class_said, single_said, count_said, made_one_fine}
use Rattle.ss_code_instructions.specs.declared.instruction.Instruction.{Instruction as Running}
use Rattle.ss_code_instructions.specs.Instructions as i
use Rattle.ss_machine_instructions.proofs.Placing.{site, located, suits_as, small, deep_at, deep_here, calm}
use Rattle.ss_machine_instructions.proofs.Seeing.{makes_not, changes_not, seen_is, layout_is, goes_seeing, changes, refuses}
use Rattle.ss_machine_instructions.proofs.Settling.{world_holds}
use Rattle.ss_machine_instructions.proofs.Figuring.{global_within, global_is}

module _ (w : Compiled) (c : Core) (here : Here) (s : State) (run : Running) (r : IsReadyFor w c here s run) where
  abbrev does : Moved
  does = act w.code r.placed.line r.placed.instruction c

  -- ## Classes

  class_here : (class : ℕ) (k : ClassLayout) → slice_get w.program.layout.classes class ≡ Some k → slice_get s.world.heap.layout.classes class ≡ Some k
  class_here class k e = ap (λ (l : Layout). slice_get l.classes class) (layout_is w c here s run r) ∙ e

  single_within : (class : ℕ) → is_created_singly (kind_of_class w.program class) ≡ true → class < length s.world.heap.layout.classes
  single_within class e =
      let k = single_said w.program class e in
      slice_get_within s.world.heap.layout.classes class k.0 (class_here class k.0 k.1)

  single_here : (class : ℕ) → is_created_singly (kind_of_class w.program class) ≡ true → is_single (slice_get s.world.heap.layout.classes class) ≡ true
  single_here class e = let k = single_said w.program class e in ap is_single (class_here class k.0 k.1) ∙ k.2

  -- ## Create

  abbrev pub Creates : (class : ℕ) → Address → Type 0
  Creates class to = HasTarget w.code w.run.constants r.placed to (λ t. Is w.code w.run.constants r.placed (i.Create class t))

  pub creates_within : (class : ℕ) (to : Address) → Creates class to → class < length s.world.heap.layout.classes
  creates_within class to z = let y = suits_as w c here s run r z.2 in single_within class y.0

  pub creates_single : (class : ℕ) (to : Address) → Creates class to → is_single (slice_get s.world.heap.layout.classes class) ≡ true
  creates_single class to z = let y = suits_as w c here s run r z.2 in single_here class y.0

  -- the number of the new entity goes to its target, in the store that has it
  pub creates : (class : ℕ) (to : Address) (n : ℤ) (e : Seen) → Creates class to → HasMade (made_one class) s.world e (Ok n) → IsDelivering w c r.placed.line does here (record s { world = e }) to (Ok (Whole n))
  creates class to n e z made =
      let is = z.2 in
      let y = suits_as w c here s run r is in
      let target = z.0 in
      let store = with_seen c.store e in
      let made_it : made_one class c.store ≡ Ok (Whole n, store) = ap (made_one class) (seen_is w c here s run r) ∙ made c.store in
      let fine : Fine (λ (b : Value × Store). (mode_of b.0 ≡ Integer) × IsFittingStore w.program r.placed.locals b.1) (made_one class c.store) = made_one_fine w.program r.compiled.typed r.placed.locals class c.store y.0 r.fits.store in
      let fits : (mode_of (Whole n) ≡ Integer) × IsFittingStore w.program r.placed.locals store = subst (Fine (λ (b : Value × Store). (mode_of b.0 ≡ Integer) × IsFittingStore w.program r.placed.locals b.1)) made_it fine in
      record {
        compiled = r.compiled;
        placed = r.placed;
        store = store;
        cells = c.cells;
        target = target;
        mode = Integer;
        modes = r.placed.cells;
        after = y.1.0;
        small = small w c here s run r;
        acts = ap (λ x. act w.code r.placed.line x c) is ∙ ap (λ q. deliver_with r.placed.line target q c.cells c) made_it;
        accepts = y.1.1;
        to_at = z.1;
        deep = deep_at w c here s run r (c.place + 1) r.placed.locals y.1.0 y.1.2;
        right = refl;
        hold = r.fits.cells;
        at = r.holds.held.cells;
        fits = fits.1;
        holds = world_holds w c here s run r e;
      }

  pub created : (class : ℕ) (to : Address) (n : ℤ) (e : Seen) (new : State) (result : Option (Unit {0})) → Creates class to → HasMade (made_one class) s.world e (Ok n) → IsDelivered here (record s { world = e }) new result to (Ok (Whole n)) → HasPerformed (is_due r.placed.instruction) w r.placed.line does s new (on_after here result)
  created class to n e new result z made delivered =
      let h = delivered w c r.placed.line does (creates class to n e z made) in
      calm w c here s run r new (on_after here result) (ap is_due z.2) (record { leads = h.leads; ticks = h.ticks; steps = h.steps })

  pub creates_not : (class : ℕ) (to : Address) (e : Seen) (refused : Refused) (new : State) (result : Option Here) → Creates class to → HasMade (made_one class) s.world e (Err refused) → new ≡ refused_by refused (record s { world = e }) → result ≡ None → HasPerformed (is_due r.placed.instruction) w r.placed.line does s new result
  creates_not class to e refused new result z made same none =
      calm w c here s run r new result (ap is_due z.2)
      (refuses w c here s run r (made_one class) e refused new result
      (λ kind not_so. ap (λ x. act w.code r.placed.line x c) z.2 ∙ ap (λ q. deliver_with r.placed.line z.0 q c.cells c) not_so)
      (makes_not (made_one class) s.world e refused made) same none)

  -- ## CreateAll

  abbrev counted : (class variable : ℕ) → CountedClass
  counted class variable = record { class = class; variable = variable }

  abbrev pub CreatesAll : (class variable : ℕ) → Type 0
  CreatesAll class variable = Is w.code w.run.constants r.placed (i.CreateAll (counted class variable))

  good_count : (class variable : ℕ) → CreatesAll class variable → IsTypedCount w.program (counted class variable)
  good_count class variable is =
      let y = suits_as w c here s run r is in
      count_said w.program r.compiled.typed r.placed.locals (counted class variable) y.0

  pub count_within : (class variable : ℕ) → CreatesAll class variable → variable < length s.rows.numbers
  count_within class variable is = global_within w c here s run r variable (good_count class variable is).1

  pub all_within : (class variable : ℕ) → CreatesAll class variable → class < length s.world.heap.layout.classes
  all_within class variable is =
      let k = class_said w.program class Permanent (good_count class variable is).0 in
      slice_get_within s.world.heap.layout.classes class k.0 (class_here class k.0 k.1)

  pub all_permanent : (class variable : ℕ) → CreatesAll class variable → is_permanent (slice_get s.world.heap.layout.classes class) ≡ true
  all_permanent class variable is =
      let k = class_said w.program class Permanent (good_count class variable is).0 in
      ap is_permanent (class_here class k.0 k.1) ∙ ap (λ (kind : ClassKind). not (comes_singly kind)) k.2

  -- what the definition does, for the number that the variable holds
  all_is : (class variable : ℕ) (n : ℤ) → CreatesAll class variable → slice_get s.rows.numbers variable ≡ Some n → does ≡ did r.placed.line (created_all_known class n c.store) (λ t. onward c.cells c t)
  all_is class variable n is e =
      ap (λ x. act w.code r.placed.line x c) is
      ∙ ap (λ o. did r.placed.line (if_ok (sure o) (λ v. if_ok (number_of v) (λ n. created_all_known class n c.store))) (λ t. onward c.cells c t)) (global_is w c here s run r variable n (good_count class variable is).1 e)

  pub creates_all : (class variable : ℕ) (n : ℤ) (e : Seen) (new : State) (result : Option Here) → CreatesAll class variable → slice_get s.rows.numbers variable ≡ Some n → HasChangedWithMemory (created_all_known class n) s.world e (Ok tt) → new ≡ record s { world = e } → result ≡ on_at here → HasPerformed (is_due r.placed.instruction) w r.placed.line does s new result
  creates_all class variable n e new result is at made same q =
      calm w c here s run r new result (ap is_due is)
      (goes_seeing w c here s run r c.cells e new result
      (all_is class variable n is at ∙ ap (λ q. did r.placed.line q (λ t. onward c.cells c t)) (ap (created_all_known class n) (seen_is w c here s run r) ∙ made c.store))
      r.holds.held.cells same q)

  pub creates_all_not : (class variable : ℕ) (n : ℤ) (e : Seen) (refused : Refused) (new : State) (result : Option Here) → CreatesAll class variable → slice_get s.rows.numbers variable ≡ Some n → HasChangedWithMemory (created_all_known class n) s.world e (Err refused) → new ≡ refused_by refused (record s { world = e }) → result ≡ None → HasPerformed (is_due r.placed.instruction) w r.placed.line does s new result
  creates_all_not class variable n e refused new result is at made same none =
      calm w c here s run r new result (ap is_due is)
      (refuses w c here s run r (created_all_known class n) e refused new result
      (λ kind not_so. all_is class variable n is at ∙ ap (λ q. did r.placed.line q (λ t. onward c.cells c t)) not_so)
      (changes_not (created_all_known class n) s.world e refused made) same none)

  -- ## Destroy

  abbrev pub Destroys : (class : ℕ) → Address → Type 0
  Destroys class entity = HasOperand w.code w.run.constants r.placed entity (λ y. Is w.code w.run.constants r.placed (i.Destroy class y))

  pub destroys_in : (class : ℕ) (entity : Address) → Destroys class entity → place_at here.frame entity < length s.rows.numbers
  destroys_in class entity z =
      let y = suits_as w c here s run r z.2 in
      read_within (site w c here s run r) (located w c here s run r) z.0 Integer r.placed.cells y.1.0 entity y.1.1 z.1 (deep_here w c here s run r)

  pub destroys_within : (class : ℕ) (entity : Address) → Destroys class entity → class < length s.world.heap.layout.classes
  destroys_within class entity z = let y = suits_as w c here s run r z.2 in single_within class y.0

  pub destroys_single : (class : ℕ) (entity : Address) → Destroys class entity → is_single (slice_get s.world.heap.layout.classes class) ≡ true
  destroys_single class entity z = let y = suits_as w c here s run r z.2 in single_here class y.0

  pub destroys : (class : ℕ) (entity : Address) (n : ℤ) (e : Seen) (answer : OkOr (Unit {0}) FaultKind) (new : State) (result : Option Here) → Destroys class entity → slice_get s.rows.numbers (place_at here.frame entity) ≡ Some n → HasChanged (without class (Whole n)) s.world e answer → new ≡ faulted_by answer (record s { world = e }) → result ≡ on_after here (done_unless_fault answer) → HasPerformed (is_due r.placed.instruction) w r.placed.line does s new result
  destroys class entity n e answer new result z at changed same q =
      let is = z.2 in
      let y = suits_as w c here s run r is in
      let one = reads (site w c here s run r) (located w c here s run r) z.0 Integer r.placed.cells y.1.0 entity c.cells (Whole n) y.1.1 z.1 r.holds.held.cells r.fits.cells (only_number s.rows (place_at here.frame entity) n at) in
      changes w c here s run r (without class (Whole n)) one.below e answer new result (ap is_due is)
      (ap (λ x. act w.code r.placed.line x c) is ∙ one.is (λ x below. did r.placed.line (without class x c.store) (λ t. onward below c t)))
      one.cells changed same q
