-- MakeNotice and Reschedule: what a notice is given lies in cells, and its time in the cell above them.
use Rattle.std.proofs.Common.{◌≡◌, ℕ, suc, ◌+◌, ◌<◌, ◌≤◌, Bool, false, List, [], ◌∷◌, length, Option, Some, None, Ok, Err, refl, sym, ap, ◌∙◌, subst, arith, if◌then◌else◌}
use Rattle.ss_machine_notices.proofs.Common.{act, Address, as_value, calm, Compiled, deep_at, deep_here, eq-eqb, Failure, Fault, field_mode, HasGivenValues, HasNoTick, HasPerformed, Here, Integer, is_due, IsDelivering, IsNoticeMade, IsReadyFor, IsSettledWithMemory, IsSettling, located, Memory, Mode, mode_of, OfAttribute, Program, Refused, refused_where, Seen, site, slice_get_within, small, State, Store, suits_as, unless_refused, Value, watch, Whole, with_seen}
use Rattle.std.specs.Prelude.{ℤ, slice_get, Result as OkOr}
use Rattle.std.specs.Option.{option_and_then}
use Rattle.ss_code_instructions.specs.Shape.{HasOnTop, AreGivenModes}
use Rattle.ss_code_instructions.specs.States.{at_height, Core, did, fit, Moved, Stuck, onward, TakenOff, take_off, with_top_number, with_block, with_operand_value, deliver_with}
use Rattle.ss_machine_frames.proofs.Places.{elsewhere_value, Elsewhere, value_same}
use Rattle.ss_machine_frames.proofs.Reading.{hold_length, own_is, place_within, only_number, reads, read_within}
use Rattle.ss_machine_frames.specs.Holding.{AreValuesAt, AreCellsAt}
use Rattle.ss_machine_frames.specs.Rows.{TwoRows, with_number as with_number_at, place_at}
use Rattle.ss_machine_instructions.proofs.Seeing.{seen_is, unmade}
use Rattle.ss_machine_instructions.proofs.Settling.{fine_right, fine_is, statistics_seen, fails_on}
use Rattle.ss_machine_instructions.specs.Ways.{on_after, refused_by}
use Rattle.ss_meaning.specs.Events.{rescheduled, made_notice}
use Rattle.ss_meaning.specs.Fitting.{IsFittingStore, AreOfModes}
use Rattle.ss_meaning.proofs.Events.{made_notice_fine, rescheduled_fine}
use Rattle.ss_code_instructions.specs.declared.instruction.Instruction.{Instruction as Running}
use Rattle.ss_code_instructions.specs.declared.instruction.Instruction.TheVariants as running
use Rattle.ss_machine_frames.proofs.Entering.{cut}
use Rattle.ss_machine_instructions.proofs.Calling.{blocked, cells_long}
use Rattle.ss_machine_instructions.proofs.Looping.{topped}
use Rattle.ss_machine_frames.proofs.Lists.{get_take}
use Rattle.ss_machine_frames.proofs.Writing.{cell_held}
use Rattle.ss_machine_notices.proofs.Times.{refuses}

-- the first modes of a class are those of its first attributes
pub given_fields : (p : Program) (class : ℕ) (modes : List Mode) → AreGivenModes p class modes → (i : ℕ) (m : Mode) → slice_get modes i ≡ Some m → field_mode p class i ≡ Some m
given_fields p class modes g i m q =
    ap (λ o. option_and_then (λ fs. slice_get fs i) o) g.1.1
    ∙ sym (get_take g.1.0 (length modes) i (slice_get_within modes i m q))
    ∙ ap (λ ms. slice_get ms i) (sym g.1.2)
    ∙ q

module _ {w : Compiled} {c : Core} {here : Here} {s : State} {run : Running} (r : IsReadyFor w c here s run) where
  abbrev Low : ℕ
  Low = here.frame + length c.store.locals

  abbrev pub IsQuietGiven : (notes : Bool) → (class given : ℕ) → Type 0
  IsQuietGiven notes class given = notes ≡ false → (field : ℕ) → field < given → watch w.code.setting.statistics (OfAttribute class field) ≡ false

  -- ## What lies in the cells

  -- so many values from a place on, and the time above them
  pub record Spread (h from given : ℕ) (modes rest : List Mode) : Type 0 where
    pub time : ℤ
    pub over : List Value
    pub taken : TakenOff
    pub cells : c.cells ≡ Whole time ∷ over
    pub off : take_off given over [] ≡ Some taken
    pub kinds : AreOfModes taken.values modes
    pub below : AreOfModes taken.below rest
    pub high : length taken.below ≡ h
    pub many : length taken.values ≡ given
    pub place : from ≡ Low + length taken.below
    pub lie : AreValuesAt s.rows from taken.values
    pub under : AreCellsAt s.rows Low taken.below
    pub room : from + given < length s.rows.numbers
    pub time_at : slice_get s.rows.numbers (from + given) ≡ Some time

  spread : (h cell from given : ℕ) (above modes rest : List Mode) → from ≡ here.frame + cell → cell ≡ length r.placed.locals + h → r.placed.cells ≡ Integer ∷ above → length modes ≡ given → HasOnTop h modes above rest → Spread h from given modes rest
  spread h cell from given above modes rest is at e n block =
      let t = topped c.cells above (r.fits.cells ∙ e) in
      let b = blocked modes rest t.below (t.modes ∙ block.is) in
      let off : take_off given t.below [] ≡ Some b.taken = ap (λ k. take_off k t.below []) (sym n) ∙ b.is in
      let high : length b.taken.below ≡ h = hold_length b.taken.below rest b.below ∙ block.height in
      let own = own_is (site w c here s run r) (located w c here s run r) in
      let place : from ≡ Low + length b.taken.below = omega (arith, is, at, high, own) in
      let long = cells_long given t.below [] b.taken off in
      let top : from + given ≡ Low + length t.below = omega (arith, place, long) in
      let all = subst (λ l. AreCellsAt s.rows Low l) t.is r.holds.held.cells in
      let parts = cut s.rows Low given t.below [] b.taken all.1 tt off in
      let deep : length r.placed.cells ≡ suc (length t.below) = sym (hold_length c.cells r.placed.cells r.fits.cells) ∙ ap length t.is in
      record {
        time = t.number;
        over = t.below;
        taken = b.taken;
        cells = t.is;
        off = off;
        kinds = b.values;
        below = b.below;
        high = high;
        many = hold_length b.taken.values modes b.values ∙ n;
        place = place;
        lie = subst (λ j. AreValuesAt s.rows j b.taken.values) (sym place) parts.values;
        under = parts.below;
        room = place_within (site w c here s run r) (located w c here s run r) (from + given) (omega (arith, top, deep, deep_here w c here s run r));
        time_at = ap (slice_get s.rows.numbers) top ∙ all.0;
      }

  -- what the notice is given
  abbrev gives_of : (h from given class : ℕ) (notes : Bool) (modes rest : List Mode) → Spread h from given modes rest → AreGivenModes w.program class modes → IsQuietGiven notes class given → HasGivenValues class notes from given s.rows s.world
  gives_of h from given class notes modes rest z fit reported = record {
    program = w.program;
    typed = r.compiled.typed;
    modes = r.placed.locals;
    store = c.store;
    fits = subst (λ (t : Store). IsFittingStore w.program r.placed.locals t) (seen_is w c here s run r) r.fits.store;
    notice = fit.0;
    values = z.taken.values;
    kinds = modes;
    hold = z.kinds;
    fields = given_fields w.program class modes fit;
    many = z.many;
    lie = z.lie;
    within = omega (arith, z.room);
    small = let few = r.holds.held.small in omega (arith, z.room, few);
    reported = λ none field lt. ap (λ ss. watch ss (OfAttribute class field)) (statistics_seen w c here s run r) ∙ reported none field lt;
  }

  -- how the definition reads the cells
  reads_spread : (h from given : ℕ) (modes rest : List Mode) (z : Spread h from given modes rest) (go : ℤ → List Value → List Value → Moved) → with_top_number c.cells (λ t above. with_block given h above (λ vs below. go t vs below)) ≡ go z.time z.taken.values z.taken.below
  reads_spread h from given modes rest z go =
      ap (λ l. with_top_number l (λ t above. with_block given h above (λ vs below. go t vs below))) z.cells
      ∙ ap (λ o. fit o (λ b. at_height h b.below (go z.time b.values b.below))) z.off
      ∙ ap (λ b. if b then go z.time z.taken.values z.taken.below else Stuck) (eq-eqb (length z.taken.below) h z.high)

  -- the number that was read is the time
  time_is : (h from given : ℕ) (modes rest : List Mode) (z : Spread h from given modes rest) (t : ℤ) → slice_get s.rows.numbers (from + given) ≡ Some t → z.time ≡ t
  time_is h from given modes rest z t e = let q : Some z.time ≡ Some t = sym z.time_at ∙ e in cc

  fields_from : (class : ℕ) (modes : List Mode) → AreGivenModes w.program class modes → (i : ℕ) (m : Mode) → slice_get modes i ≡ Some m → field_mode w.program class (0 + i) ≡ Some m
  fields_from class modes fit i m q = let none_on : 0 + i ≡ i = omega arith in subst (λ j. field_mode w.program class j ≡ Some m) (sym none_on) (given_fields w.program class modes fit i m q)

-- ## MakeNotice

module _ {w : Compiled} {c : Core} {here : Here} {s : State} {class cell given : ℕ} {to : Address} {notes : Bool} (r : IsReadyFor w c here s (running.MakeNotice class cell given to notes)) (from : ℕ) (is : from ≡ here.frame + cell) where
  abbrev make_run : Running
  make_run = running.MakeNotice class cell given to notes

  -- the cells of the instruction
  pub make_spread : let y = suits_as w c here s make_run r r.runs.carries.1.2.2 in Spread r r.runs.carries.1.0 from given y.1 y.5.0
  make_spread =
      let z = r.runs.carries.1 in
      let y = suits_as w c here s make_run r z.2.2 in
      spread r z.0 cell from given y.0 y.1 y.5.0 is z.1 y.2 y.3 y.5.1

  pub make_room : from + given < length s.rows.numbers
  make_room = make_spread.room

  abbrev pub make_gives : HasGivenValues class notes from given s.rows s.world
  make_gives =
      let y = suits_as w c here s make_run r r.runs.carries.1.2.2 in
      gives_of r r.runs.carries.1.0 from given class notes y.1 y.5.0 make_spread y.4 r.runs.carries.0

  make_acts : (t : ℤ) → slice_get s.rows.numbers (from + given) ≡ Some t → act w.code r.placed.line r.placed.instruction c ≡ deliver_with r.placed.line r.runs.carries.1.2.0 (made_notice class make_spread.taken.values t c.store) (Whole t ∷ make_spread.taken.below) c
  make_acts t e =
      let z = r.runs.carries.1 in
      let y = suits_as w c here s make_run r z.2.2 in
      let v = make_spread in
      let l = r.placed.line in
      ap (λ x. act w.code l x c) z.2.2
      ∙ reads_spread r z.0 from given y.1 y.5.0 v (λ t vs below. deliver_with l z.2.0 (made_notice class vs t c.store) (Whole t ∷ below) c)
      ∙ ap (λ t. deliver_with l z.2.0 (made_notice class v.taken.values t c.store) (Whole t ∷ v.taken.below) c) (time_is r z.0 from given y.1 y.5.0 v t e)

  -- a value and a store that fit
  abbrev IsFitting : Value × Store → Type 0
  IsFitting b = (mode_of b.0 ≡ Integer) × IsFittingStore w.program r.placed.locals b.1

  -- the state of the definition, but for the cells that are left
  abbrev pub make_core : (t : ℤ) → Core
  make_core t = record c { cells = Whole t ∷ make_spread.taken.below }

  -- the number of the notice is to go to the target, once its time lies in the first of the cells
  pub make_delivers : (t n m : ℤ) (e : Seen) (rows : TwoRows) → slice_get s.rows.numbers (from + given) ≡ Some t → IsNoticeMade c.store class make_gives.values t s.world e (Ok n) → rows ≡ with_number_at s.rows from t → m ≡ n → IsDelivering w (make_core t) r.placed.line (act w.code r.placed.line r.placed.instruction c) here (record s { world = e; rows = rows }) to (as_value (Ok m))
  make_delivers t n m e rows at_time made rows_are number =
      subst (λ (m : ℤ). IsDelivering w (make_core t) r.placed.line (act w.code r.placed.line r.placed.instruction c) here (record s { world = e; rows = rows }) to (as_value (Ok m))) (sym number)
      (subst (λ (rows : TwoRows). IsDelivering w (make_core t) r.placed.line (act w.code r.placed.line r.placed.instruction c) here (record s { world = e; rows = rows }) to (as_value (Ok n))) (sym rows_are) plain)
    where
      plain : IsDelivering w (make_core t) r.placed.line (act w.code r.placed.line r.placed.instruction c) here (record s { world = e; rows = with_number_at s.rows from t }) to (as_value (Ok n))
      plain =
          let z = r.runs.carries.1 in
          let y = suits_as w c here s make_run r z.2.2 in
          let v = make_spread in
          let l = r.placed.line in
          let new = with_number_at s.rows from t in
          let ew : Elsewhere s.rows new from = elsewhere_value s.rows from (Whole t) in
          let room = v.room in
          let cells = Whole t ∷ v.taken.below in
          let gives : made_notice class v.taken.values t c.store ≡ Ok (Whole n, with_seen c.store e) = ap (made_notice class v.taken.values t) (seen_is w c here s make_run r) ∙ made in
          let fine = made_notice_fine w.program r.compiled.typed r.placed.locals class v.taken.values y.1 t c.store y.4.0 v.kinds (fields_from r class y.1 y.4) r.fits.store in
          let h = cell_held (site w c here s make_run r) (located w c here s make_run r) (length v.taken.below) from (Whole t) new c.place v.taken.below v.place refl ew (value_same s.rows from (Whole t) r.holds.even (omega (arith, room))) v.under in
          record {
            compiled = r.compiled;
            placed = r.placed;
            store = with_seen c.store e;
            cells = cells;
            target = z.2.0;
            mode = Integer;
            modes = Integer ∷ y.5.0;
            after = y.5.2.0;
            small = small w c here s make_run r;
            acts = make_acts t at_time ∙ ap (λ q. deliver_with l z.2.0 q cells c) gives;
            accepts = y.5.2.1;
            to_at = z.2.1;
            deep = deep_at w c here s make_run r (c.place + 1) r.placed.locals y.5.2.0 y.5.2.2;
            right = refl;
            hold = ap (λ ms. Integer ∷ ms) v.below;
            at = h.cells;
            fits = (fine_is IsFitting (made_notice class v.taken.values t c.store) (Whole n, with_seen c.store e) fine gives).1;
            holds = record {
              place = r.holds.place;
              held = record { globals = h.globals; fixed = h.fixed; locals = h.locals; cells = h.cells; open_calls = h.open_calls; room = h.room; small = h.small };
              world = refl;
              even = r.holds.even ∙ sym ew.long;
              line = r.holds.line;
            };
          }

  -- what came of the delivery
  pub makes : (e : Seen) (rows : TwoRows) (new : State) (result : Option Here) → HasNoTick w r.placed.line (act w.code r.placed.line r.placed.instruction c) (record s { world = e; rows = rows }) new result → HasPerformed (is_due r.placed.instruction) w r.placed.line (act w.code r.placed.line r.placed.instruction c) s new result
  makes e rows new result h = calm w c here s make_run r new result (ap is_due r.runs.carries.1.2.2) (record { leads = h.leads; ticks = h.ticks; steps = h.steps })

  -- or none was made
  pub makes_not : (t : ℤ) (e : Seen) (refused : Refused) (new : State) (result : Option Here) → slice_get s.rows.numbers (from + given) ≡ Some t → IsNoticeMade c.store class make_gives.values t s.world e (Err refused) → new ≡ refused_by refused (record s { world = e }) → result ≡ None → HasPerformed (is_due r.placed.instruction) w r.placed.line (act w.code r.placed.line r.placed.instruction c) s new result
  makes_not t e (Fault kind) new result at_time made same none =
      fails_on w c here s make_run r kind e new result (ap is_due r.runs.carries.1.2.2)
      (make_acts t at_time ∙ ap (λ q. deliver_with r.placed.line r.runs.carries.1.2.0 q (Whole t ∷ make_spread.taken.below) c) (ap (made_notice class make_spread.taken.values t) (seen_is w c here s make_run r) ∙ made))
      same none
  makes_not t e Memory new result at_time made same none =
      calm w c here s make_run r new result (ap is_due r.runs.carries.1.2.2) (unmade w c here s make_run r e new result same none)

-- ## Reschedule

module _ {w : Compiled} {c : Core} {here : Here} {s : State} {class cell given : ℕ} {notice : Address} {notes : Bool} (r : IsReadyFor w c here s (running.Reschedule class notice cell given notes)) where
  abbrev again_run : Running
  again_run = running.Reschedule class notice cell given notes

  pub again_spread : (from : ℕ) → from ≡ here.frame + cell → let y = suits_as w c here s again_run r r.runs.carries.1.2.2 in Spread r r.runs.carries.1.2.0 from given y.1 y.5.0
  again_spread from is =
      let z = r.runs.carries.1 in
      let y = suits_as w c here s again_run r z.2.2 in
      spread r z.2.0 cell from given y.0 y.1 y.5.0 is z.2.1 y.2 y.3 y.5.1

  pub again_in : place_at here.frame notice < length s.rows.numbers
  again_in =
      let z = r.runs.carries.1 in
      let y = suits_as w c here s again_run r z.2.2 in
      let v = again_spread (here.frame + cell) refl in
      let few : length y.5.0 ≤ w.run.depth = omega (arith, hold_length v.taken.below y.5.0 v.below, cells_long given v.over [] v.taken v.off, hold_length c.cells r.placed.cells r.fits.cells, ap length v.cells, deep_here w c here s again_run r) in
      read_within (site w c here s again_run r) (located w c here s again_run r) z.0 Integer y.5.0 y.5.2.0 notice y.5.2.1 z.1 few

  module _ (from : ℕ) (is : from ≡ here.frame + cell) where
    pub again_room : from + given < length s.rows.numbers
    again_room = (again_spread from is).room

    abbrev pub again_gives : HasGivenValues class notes from given s.rows s.world
    again_gives =
        let y = suits_as w c here s again_run r r.runs.carries.1.2.2 in
        gives_of r r.runs.carries.1.2.0 from given class notes y.1 y.5.0 (again_spread from is) y.4 r.runs.carries.0

    pub reschedules : (n t : ℤ) (e : Seen) (answer : OkOr (Unit {0}) Refused) (new : State) (result : Option Here) → slice_get s.rows.numbers (place_at here.frame notice) ≡ Some n → slice_get s.rows.numbers (from + given) ≡ Some t → IsSettledWithMemory c.store (rescheduled class (Whole n) again_gives.values t) s.world e answer → new ≡ refused_where answer (record s { world = e }) → result ≡ on_after here (unless_refused answer) → HasPerformed (is_due r.placed.instruction) w r.placed.line (act w.code r.placed.line r.placed.instruction c) s new result
    reschedules n t e answer new result at_notice at_time d same way =
        let l = r.placed.line in
        let z = r.runs.carries.1 in
        let y = suits_as w c here s again_run r z.2.2 in
        let v = again_spread from is in
        let vs = v.taken.values in
        let one = reads (site w c here s again_run r) (located w c here s again_run r) z.0 Integer y.5.0 y.5.2.0 notice v.taken.below (Whole n) y.5.2.1 z.1 v.under v.below (only_number s.rows (place_at here.frame notice) n at_notice) in
        let op : Store → OkOr Store Failure = rescheduled class (Whole n) vs t in
        let left : IsSettling c l (act w.code l r.placed.instruction c) here s op = record {
          below = one.below;
          acts =
              ap (λ x. act w.code l x c) z.2.2
              ∙ reads_spread r z.2.0 from given y.1 y.5.0 v (λ t vs above. with_operand_value z.0 c.store above (λ x below. did l (rescheduled class x vs t c.store) (λ s. onward below c s)))
              ∙ one.is (λ x below. did l (rescheduled class x vs v.time c.store) (λ s. onward below c s))
              ∙ ap (λ t. did l (rescheduled class (Whole n) vs t c.store) (λ s. onward one.below c s)) (time_is r z.2.0 from given y.1 y.5.0 v t at_time);
          right = fine_right (IsFittingStore w.program r.placed.locals) (op c.store) (rescheduled_fine w.program r.compiled.typed r.placed.locals class (Whole n) vs y.1 t c.store y.4.0 v.kinds (fields_from r class y.1 y.4) refl r.fits.store);
          at = one.cells;
        } in
        refuses r op e answer new result (ap is_due z.2.2) left d same way
