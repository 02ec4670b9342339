-- Looks at references: what the machine asks of its world is what the definition asks.
use Rattle.std.proofs.Common.{◌≡◌, ℕ, ◌<◌, true, List, length, Option, Some, None, Ok, Err, refl, sym, ap, ◌∙◌}
use Rattle.ss_machine_instructions.proofs.Common.{act, Address, assignable_count, bearer_within, ClassLayout, Compiled, Core, did, done_unless_fault, due, faulted_by, FaultKind, HasAnswer, HasBearer, HasOperand, HasPerformed, Here, if_ok, Integer, Is, is_due, IsReadyFor, joiner, Layout, Line, Mode, Moved, on_after, only_number, onward, option_map, owner, place_at, Program, read_within, reads, reads_bearer, slice_get_within, State, turned, where_fit, Whole}
use Rattle.std.specs.Prelude.{ℤ, slice_get, is_some, Result as OkOr}
use Rattle.ss_meaning.specs.Sets.{member, known_owner}
use Rattle.ss_world.specs.State.{no_value, State as Heap, known_in}
use Rattle.ss_program.specs.WellTyped.{fields_of, IsSet}
use Rattle.ss_meaning.specs.Entities.{entity}
use Rattle.ss_code_instructions.specs.declared.instruction.Instruction.{Instruction as Running}
use Rattle.ss_code_instructions.specs.Instructions as i
use Rattle.ss_machine_instructions.proofs.Placing.{site, located, suits_as, deep_here}
use Rattle.ss_machine_instructions.proofs.Asking.{owner_is, set_within}
use Rattle.ss_machine_instructions.proofs.Seeing.{heap_is, layout_is, asked, looked}

-- ## Looks at a number

-- what a look finds does not matter
look_is : (l : Line) (n : ℤ) (q : OkOr (Unit {0}) FaultKind) (m : Moved) → did l (turned (λ _. n) (due q)) (λ _. m) ≡ did l (due q) (λ _. m)
look_is l n (Ok u) m = refl
look_is l n (Err kind) m = refl

look_for : {A : Type 0} (l : Line) (n : ℤ) (q : OkOr A FaultKind) (m : Moved) → did l (turned (λ _. n) (due q)) (λ _. m) ≡ did l (due (no_value q)) (λ _. m)
look_for l n (Ok a) m = refl
look_for l n (Err kind) m = refl

-- a class of which the attributes are known is there
class_of : (p : Program) (class : ℕ) (modes : List Mode) → fields_of p class ≡ Some modes → (k : ClassLayout) × (slice_get p.layout.classes class ≡ Some k)
class_of p class modes e = by (slice_get p.layout.classes class) refl e
  where
    by : (o : Option ClassLayout) → slice_get p.layout.classes class ≡ o → option_map (λ (k : ClassLayout). k.fields) o ≡ Some modes → (k : ClassLayout) × (slice_get p.layout.classes class ≡ Some k)
    by None at e = absurd cc
    by (Some k) at e = (k, at)

module _ (w : Compiled) (c : Core) (here : Here) (s : State) (run : Running) (r : IsReadyFor w c here s run) where
  abbrev does : Moved
  does = act w.code r.placed.line r.placed.instruction c

  -- ## LookEntity

  abbrev pub AtEntity : (class : ℕ) → Address → Type 0
  AtEntity class entity = HasOperand w.code w.run.constants r.placed entity (λ y. Is w.code w.run.constants r.placed (i.LookEntity class y))

  pub entity_in : (class : ℕ) (entity : Address) → AtEntity class entity → place_at here.frame entity < length s.rows.numbers
  entity_in class entity z =
      let y = suits_as w c here s run r z.2 in
      read_within (site w c here s run r) (located w c here s run r) z.0 Integer r.placed.cells y.1.0 entity y.1.1 z.1 (deep_here w c here s run r)

  -- the class is there
  class_there : (class : ℕ) (entity : Address) → AtEntity class entity → (k : ClassLayout) × (slice_get s.world.heap.layout.classes class ≡ Some k)
  class_there class entity z =
      let y = suits_as w c here s run r z.2 in
      let k = class_of w.program class y.0.0 y.0.1 in
      (k.0, ap (λ (l : Layout). slice_get l.classes class) (layout_is w c here s run r) ∙ k.1)

  pub class_in : (class : ℕ) (entity : Address) → AtEntity class entity → class < length s.world.heap.layout.classes
  class_in class entity z = let k = class_there class entity z in slice_get_within s.world.heap.layout.classes class k.0 k.1

  pub looks_at_entity : (class : ℕ) (at : Address) (n : ℤ) (answer : OkOr (Unit {0}) FaultKind) (new : State) (result : Option Here) → AtEntity class at → slice_get s.rows.numbers (place_at here.frame at) ≡ Some n → answer ≡ known_in s.world.heap class n → new ≡ faulted_by answer s → result ≡ on_after here (done_unless_fault answer) → HasPerformed (is_due r.placed.instruction) w r.placed.line does s new result
  looks_at_entity class at n answer new result z e known same q =
      let is = z.2 in
      let y = suits_as w c here s run r is in
      let one = reads (site w c here s run r) (located w c here s run r) z.0 Integer r.placed.cells y.1.0 at c.cells (Whole n) y.1.1 z.1 r.holds.held.cells r.fits.cells (only_number s.rows (place_at here.frame at) n e) in
      let m = onward one.below c c.store in
      let there : is_some (slice_get s.world.heap.layout.classes class) ≡ true = ap is_some (class_there class at z).1 in
      looked w c here s run r answer one.below new result (ap is_due is)
      (ap (λ x. act w.code r.placed.line x c) is
      ∙ one.is (λ x below. did r.placed.line (entity class x c.store) (λ _. onward below c c.store))
      ∙ ap (λ (h : Heap). did r.placed.line (where_fit (is_some (slice_get h.layout.classes class)) (turned (λ _. n) (due (known_in h class n)))) (λ _. m)) (heap_is w c here s run r)
      ∙ ap (λ b. did r.placed.line (where_fit b (turned (λ _. n) (due (known_in s.world.heap class n)))) (λ _. m)) there
      ∙ look_is r.placed.line n (known_in s.world.heap class n) m
      ∙ ap (λ a. did r.placed.line (due a) (λ _. m)) (sym known))
      one.cells same q

  -- ## LookMember

  abbrev pub AtMember : (set : ℕ) → Address → Type 0
  AtMember set member = HasOperand w.code w.run.constants r.placed member (λ y. Is w.code w.run.constants r.placed (i.LookMember set y))

  pub member_in : (set : ℕ) (member : Address) → AtMember set member → place_at here.frame member < length s.rows.numbers
  member_in set member z =
      let y = suits_as w c here s run r z.2 in
      read_within (site w c here s run r) (located w c here s run r) z.0 Integer r.placed.cells y.1.0 member y.1.1 z.1 (deep_here w c here s run r)

  -- a set of the program is one of the world
  pub set_in : (set : ℕ) → IsSet w.program set → set < length s.world.heap.layout.sets
  set_in set is = slice_get_within s.world.heap.layout.sets set is.0 (ap (λ (l : Layout). slice_get l.sets set) (layout_is w c here s run r) ∙ is.1)

  pub member_set_in : (set : ℕ) (member : Address) → AtMember set member → set < length s.world.heap.layout.sets
  member_set_in set member z = let y = suits_as w c here s run r z.2 in set_in set y.0

  pub looks_at_member : (set : ℕ) (at : Address) (n : ℤ) (answer : OkOr (Unit {0}) FaultKind) (new : State) (result : Option Here) → AtMember set at → slice_get s.rows.numbers (place_at here.frame at) ≡ Some n → answer ≡ no_value (joiner s.world.heap set n) → new ≡ faulted_by answer s → result ≡ on_after here (done_unless_fault answer) → HasPerformed (is_due r.placed.instruction) w r.placed.line does s new result
  looks_at_member set at n answer new result z e known same q =
      let is = z.2 in
      let y = suits_as w c here s run r is in
      let one = reads (site w c here s run r) (located w c here s run r) z.0 Integer r.placed.cells y.1.0 at c.cells (Whole n) y.1.1 z.1 r.holds.held.cells r.fits.cells (only_number s.rows (place_at here.frame at) n e) in
      let m = onward one.below c c.store in
      let there : is_some (slice_get s.world.heap.layout.sets set) ≡ true = ap (λ (l : Layout). is_some (slice_get l.sets set)) (layout_is w c here s run r) ∙ ap is_some y.0.1 in
      looked w c here s run r answer one.below new result (ap is_due is)
      (ap (λ x. act w.code r.placed.line x c) is
      ∙ one.is (λ x below. did r.placed.line (member set x c.store) (λ _. onward below c c.store))
      ∙ ap (λ (h : Heap). did r.placed.line (where_fit (is_some (slice_get h.layout.sets set)) (turned (λ _. n) (due (joiner h set n)))) (λ _. m)) (heap_is w c here s run r)
      ∙ ap (λ b. did r.placed.line (where_fit b (turned (λ _. n) (due (joiner s.world.heap set n)))) (λ _. m)) there
      ∙ look_for r.placed.line n (joiner s.world.heap set n) m
      ∙ ap (λ a. did r.placed.line (due a) (λ _. m)) (sym known))
      one.cells same q

  -- ## LookOwner

  abbrev pub AtOwner : (set : ℕ) → Address → Type 0
  AtOwner set owner = HasBearer w.code w.run.constants r.placed owner (λ o. Is w.code w.run.constants r.placed (i.LookOwner set o))

  pub owner_in : (set : ℕ) (owner : Address) → AtOwner set owner → place_at here.frame owner < length s.rows.numbers
  owner_in set owner z =
      let y = suits_as w c here s run r z.2 in
      bearer_within (site w c here s run r) (located w c here s run r) z.0 r.placed.cells y.1.0 owner y.1.1 z.1 (deep_here w c here s run r)

  pub owner_set_in : (set : ℕ) (owner : Address) → AtOwner set owner → set < length s.world.heap.layout.sets
  owner_set_in set owner z = let y = suits_as w c here s run r z.2 in set_within w c here s run r set z.0 y.0

  pub looks_at_owner : (set : ℕ) (at : Address) (n : ℤ) (answer : OkOr (Unit {0}) FaultKind) (new : State) (result : Option Here) → AtOwner set at → slice_get s.rows.numbers (place_at here.frame at) ≡ Some n → answer ≡ no_value (owner s.world.heap set n) → new ≡ faulted_by answer s → result ≡ on_after here (done_unless_fault answer) → HasPerformed (is_due r.placed.instruction) w r.placed.line does s new result
  looks_at_owner set at n answer new result z e known same q =
      let is = z.2 in
      let y = suits_as w c here s run r is in
      let b = reads_bearer (site w c here s run r) (located w c here s run r) z.0 r.placed.cells y.1.0 at c.cells n y.1.1 z.1 r.holds.held.cells r.fits.cells e in
      let m = onward b.below c c.store in
      let who = owner_is w.program set z.0 b.value n c.store r.fits.store.sound.world.layout y.0 b.refers in
      looked w c here s run r answer b.below new result (ap is_due is)
      (ap (λ x. act w.code r.placed.line x c) is
      ∙ b.is (λ o below. did r.placed.line (known_owner set o c.store) (λ _. onward below c c.store))
      ∙ ap (λ t. did r.placed.line (if_ok t (λ k. turned (λ _. k) (due (owner c.store.world.heap set k)))) (λ _. m)) who
      ∙ ap (λ (h : Heap). did r.placed.line (turned (λ _. n) (due (owner h set n))) (λ _. m)) (heap_is w c here s run r)
      ∙ look_for r.placed.line n (owner s.world.heap set n) m
      ∙ ap (λ a. did r.placed.line (due a) (λ _. m)) (sym known))
      b.cells same q

  -- ## LookCount

  pub looks_at_count : (class : ℕ) (answer : OkOr (Unit {0}) FaultKind) (new : State) (result : Option Here) → Is w.code w.run.constants r.placed (i.LookCount class) → HasAnswer (assignable_count class) s.world answer → new ≡ faulted_by answer s → result ≡ on_after here (done_unless_fault answer) → HasPerformed (is_due r.placed.instruction) w r.placed.line does s new result
  looks_at_count class answer new result is looks same q =
      let m = onward c.cells c c.store in
      let acts : does ≡ did r.placed.line (assignable_count class c.store) (λ _. m) = ap (λ x. act w.code r.placed.line x c) is in
      let found = asked w c here s run r (assignable_count class) answer (λ wrong. acts ∙ ap (λ t. did r.placed.line t (λ _. m)) wrong) looks in
      looked w c here s run r answer c.cells new result (ap is_due is) (acts ∙ ap (λ t. did r.placed.line t (λ _. m)) found) r.holds.held.cells same q
