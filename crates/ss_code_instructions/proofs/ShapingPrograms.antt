-- The code of a well-typed program has shape.
use Rattle.std.proofs.Common.{◌≡◌, ℕ, ◌+◌, Bool, true, false, List, [], ◌∷◌, ◌++◌, length, Option, Some, None, refl, sym, ap, subst, arith}
use Rattle.ss_code_instructions.proofs.Common.{all_events, all_routines, Block, block_prints, Code, code_of, EntryPoint, Event, event_code, event_entry, events_code, events_prints, HasShape, main_code, main_prints, Mode, Placed, prints_before_events, Program, Routine, routine_code, routine_entry, routines_code, routines_prints, section_code, slice_get}
use Rattle.std.specs.List.{AllByRecursion as Every}
use Rattle.ss_code_instructions.specs.Shape.{AreFoundAt, IsSuited, HasEntryShape, IsServed, IsShaped}
use Rattle.ss_program.specs.WellTyped.{IsWellTyped, IsTypedBlock, IsTypedRoutine, IsTypedEvent}
use Rattle.ss_meaning.proofs.Lists.{every_get}
use Rattle.ss_code_instructions.proofs.Steps.{HasAt, has_front, has_back, each_append, each_get}
use Rattle.ss_code_instructions.proofs.Entering.{RoutineAt, EventAt, Linked}
use Rattle.ss_code_instructions.proofs.Whole.{sections, later_prints, program_linked, main_here, after_main, all_prints, prints_after}
use Rattle.ss_code_instructions.proofs.Suiting.{SuitsAt, AllSuit}
use Rattle.ss_code_instructions.proofs.Shaping.{here}
use Rattle.ss_code_instructions.proofs.ShapingStatements.{front_of, section_shapes}

module _ (p : Program) (typed : IsWellTyped p) where
  abbrev code : Code
  code = code_of p

  linked : Linked code p
  linked = program_linked p

  -- ## Sections

  -- a section that lies in the code: its instructions suit their places, and it finds its variables and no cells
  section_suits : (ls : List Mode) (b : Bool) (q first : ℕ) (body : Block) → IsTypedBlock (here p code ls b) body → HasAt code.places q (section_code (here p code ls b) first body) → HasAt code.prints first (block_prints body) → AllSuit p code q (section_code (here p code ls b) first body) × AreFoundAt p code q ls []
  section_suits ls b q first body good lies prints = (section_shapes p typed code linked ls b first body good prints).by q lies tt

  routines_suit : (rs : List Routine) (q first : ℕ) → Every (IsTypedRoutine p) rs → HasAt code.places q (routines_code p first rs) → HasAt code.prints first (routines_prints rs) → AllSuit p code q (routines_code p first rs)
  routines_suit [] q first good lies prints = tt
  routines_suit (r ∷ rs) q first good lies prints =
      let c : List Placed = routine_code p first r in
      let next : ℕ = first + length (block_prints r.body) in
      let d : List Placed = routines_code p next rs in
      each_append (SuitsAt p code) q c d
      (section_suits (r.given ++ (r.yielding ++ r.others)) false q first r.body good.0 (has_front code.places q c d lies) (has_front code.prints first (block_prints r.body) (routines_prints rs) prints)).0
      (routines_suit rs (q + length c) next good.1 (has_back code.places q c d lies) (has_back code.prints first (block_prints r.body) (routines_prints rs) prints))

  events_suit : (es : List Event) (q first : ℕ) → Every (IsTypedEvent p) es → HasAt code.places q (events_code p first es) → HasAt code.prints first (events_prints es) → AllSuit p code q (events_code p first es)
  events_suit [] q first good lies prints = tt
  events_suit (v ∷ es) q first good lies prints =
      let c : List Placed = event_code p first v in
      let next : ℕ = first + length (block_prints v.body) in
      let d : List Placed = events_code p next es in
      each_append (SuitsAt p code) q c d
      (section_suits (v.given ++ v.others) false q first v.body good.0.body (has_front code.places q c d lies) (has_front code.prints first (block_prints v.body) (events_prints es) prints)).0
      (events_suit es (q + length c) next good.1 (has_back code.places q c d lies) (has_back code.prints first (block_prints v.body) (events_prints es) prints))

  -- ## Where sections begin

  -- a routine
  routine_begins : (k : ℕ) (e : EntryPoint) → slice_get code.routines k ≡ Some e → HasEntryShape p code e
  routine_begins k e q = by (slice_get p.routines k) refl (subst (RoutineAt code p (slice_get p.routines k)) q (linked.routines k))
    where
      by : (o : Option Routine) → slice_get p.routines k ≡ o → RoutineAt code p o (Some e) → HasEntryShape p code e
      by None g at = absurd at
      by (Some r) g at =
          let good : IsTypedRoutine p r = every_get (IsTypedRoutine p) p.routines k r typed.routines g in
          let found : HasEntryShape p code (routine_entry at.begins r) = (
            (section_suits (r.given ++ (r.yielding ++ r.others)) false at.begins at.first r.body good at.lies at.prints).1,
            ap length (front_of r.yielding r.others),
          ) in
          subst (HasEntryShape p code) (sym at.is) found

  -- an event, which yields nothing
  event_begins : (k : ℕ) (e : EntryPoint) → slice_get code.events k ≡ Some e → HasEntryShape p code e × (e.yielding ≡ 0)
  event_begins k e q = by (slice_get p.events k) refl (subst (EventAt code p (slice_get p.events k)) q (linked.events k))
    where
      by : (o : Option Event) → slice_get p.events k ≡ o → EventAt code p o (Some e) → HasEntryShape p code e × (e.yielding ≡ 0)
      by None g at = absurd at
      by (Some v) g at =
          let good : IsTypedEvent p v = every_get (IsTypedEvent p) p.events k v typed.events g in
          let found : HasEntryShape p code (event_entry at.begins v) × ((event_entry at.begins v).yielding ≡ 0) = (
            ((section_suits (v.given ++ v.others) false at.begins at.first v.body good.body at.lies at.prints).1, refl),
            refl,
          ) in
          subst (λ (x : EntryPoint). HasEntryShape p code x × (x.yielding ≡ 0)) (sym at.is) found

  event_served : (rank : ℕ) (v : Event) → slice_get p.events rank ≡ Some v → IsServed p code rank v
  event_served rank v q = by (slice_get code.events rank) refl (subst (λ o. EventAt code p o (slice_get code.events rank)) q (linked.events rank))
    where
      by : (o : Option EntryPoint) → slice_get code.events rank ≡ o → EventAt code p (Some v) o → IsServed p code rank v
      by None g at = absurd at
      by (Some e) g at = (e, g, ap (λ (x : EntryPoint). x.given) at.is)

  -- ## The whole

  main_suits : AllSuit p code 0 (main_code p) × AreFoundAt p code 0 p.locals []
  main_suits = section_suits p.locals true 0 0 p.main typed.main (main_here p) (has_front code.prints 0 (block_prints p.main) (later_prints p) (all_prints p))

  sections_suit : AllSuit p code (length (main_code p)) (sections p)
  sections_suit =
      let q : ℕ = length (main_code p) in
      each_append (SuitsAt p code) q (all_routines p) (all_events p)
      (routines_suit p.routines q (main_prints p) typed.routines (has_front code.places q (all_routines p) (all_events p) (after_main p))
      (has_front code.prints (main_prints p) (routines_prints p.routines) (events_prints p.events) (prints_after p)))
      (events_suit p.events (q + length (all_routines p)) (prints_before_events p) typed.events (has_back code.places q (all_routines p) (all_events p) (after_main p))
      (has_back code.prints (main_prints p) (routines_prints p.routines) (events_prints p.events) (prints_after p)))

  all_suit : AllSuit p code 0 (main_code p ++ sections p)
  all_suit =
      let e : length (main_code p) ≡ 0 + length (main_code p) = omega arith in
      each_append (SuitsAt p code) 0 (main_code p) (sections p) main_suits.0 (subst (λ j. AllSuit p code j (sections p)) e sections_suit)

  pub program_shaped : IsShaped p code
  program_shaped = record {
    each = λ place x there.
        let e : 0 + place ≡ place = omega arith in
        subst (λ j. IsSuited p code j x.locals x.cells x.instruction) e (each_get (SuitsAt p code) 0 (main_code p ++ sections p) all_suit place x there);
    first = main_suits.1;
    routines = routine_begins;
    events = event_begins;
    served = event_served;
  }

pub has_shape : HasShape
has_shape p typed = program_shaped p typed
