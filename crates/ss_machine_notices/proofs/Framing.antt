-- The frame of an event: what the machine holds once it has begun.
use Rattle.std.proofs.Common.{◌≡◌, inl, inr, ℕ, ◌+◌, ◌<◌, ◌≤◌, ℤ, List, [], ◌∷◌, ◌++◌, length, Some, refl, sym, ap, ◌∙◌, subst, arith, length-append}
use Rattle.ss_machine_notices.proofs.Common.{AnEvent, AreAlike, AreReceived, cleared, Compiled, Core, EntryPoint, Here, hold_length, IsEntry, IsNextEvent, located, Mode, own_is, SectionEntry, Seen, site, slice_get, slice_set, State, TakeEvent, TwoRows, Value, Whole, with_number, with_seen}
use Rattle.ss_machine_frames.proofs.Places.{agree_out, all_agree, elsewhere_value, agree_on, agree_within, all_set, calls_agree, low_under}
use Rattle.ss_machine_frames.specs.Holding.{AreValuesAt, AreCallsAt, IsCoreHeld}
use Rattle.ss_machine_instructions.specs.Entered.{HasEntered, call_of}
use Rattle.ss_machine_instructions.proofs.Calling.{firsts_long}
use Rattle.ss_meaning.specs.Store.{Store, first_values}
use Rattle.ss_machine_frames.specs.declared.frames.Frame.{Frame as Call}
use Rattle.ss_machine_frames.proofs.Entering.{all_append, cleared_all, cleared_below, cleared_long, entered}
use Rattle.ss_machine_frames.proofs.Lists.{set_length, set_same}
use Rattle.ss_machine_notices.proofs.Opening.{left_store}

-- a global variable is another number, in a frame without cells
pub global_held : (constants : List Value) (depth frame : ℕ) (r : TwoRows) (calls : List Call) (c : Core) (k : ℕ) (z : ℤ) → c.cells ≡ [] → IsCoreHeld constants depth frame r calls c → k < length c.store.globals → k < length r.numbers → IsCoreHeld constants depth frame (with_number r k z) calls (record c { cells = []; store = record c.store { globals = slice_set c.store.globals k (Whole z) } })
global_held constants depth frame r calls c k z bare h lt within =
    let t = with_number r k z in
    let g = c.store.globals in
    let e = elsewhere_value r k (Whole z) in
    let same = set_length g k (Whole z) in
    let under = low_under r (length g + length constants) frame calls c.frames h.open_calls in
    let at : k ≡ 0 + k = omega arith in
    record {
      globals = all_set r t 0 k g (Whole z) (agree_out r t k 0 (0 + k) e (inr (omega arith))) (agree_out r t k (0 + k + 1) (0 + length g) e (inl (omega arith))) (subst (λ j. slice_get t.numbers j ≡ Some z) at (set_same r.numbers k z within)) h.globals;
      fixed = subst (λ n. AreValuesAt t n constants) (sym same) (all_agree r t (length g) constants (agree_out r t k (length g) (length g + length constants) e (inl lt)) h.fixed);
      locals = all_agree r t frame c.store.locals (agree_out r t k frame (frame + length c.store.locals) e (inl (omega (arith, lt, under)))) h.locals;
      cells = tt;
      open_calls = subst (λ n. AreCallsAt t (n + length constants) frame calls c.frames) (sym same) (calls_agree r t (length g + length constants) frame calls c.frames (agree_out r t k (length g + length constants) frame e (inl (omega (arith, lt)))) h.open_calls);
      room = omega (arith, e.long, h.room);
      small = omega (arith, e.long, h.small);
    }

module _ (w : Compiled) (c : Core) (here : Here) (s : State) (cell : ℕ) (x : ℤ) (class : ℕ) (n : IsNextEvent w c here s cell x class) (e : EntryPoint) (run : SectionEntry) (is_entry : IsEntry w.run.depth e run) (s1 : State) (frame : ℕ) (enters : HasEntered here s s1 run cell frame) (high : length c.cells ≡ n.ready.runs.carries.0) (rank : ℕ) where
  -- the state of the definition in which the event begins
  abbrev pub begun_core : (vs : List Value) → Store → Core
  begun_core vs t = record {
    place = e.place;
    cells = [];
    frames = record { back = c.place + 1; cells = c.cells; locals = c.store.locals; first = length e.given; count = e.yielding; called = AnEvent rank } ∷ c.frames;
    store = record t { locals = vs ++ first_values e.others };
  }

  held_now : IsCoreHeld w.run.constants w.run.depth here.frame s.rows s.frames c
  held_now = subst (λ (t : State). IsCoreHeld w.run.constants w.run.depth here.frame t.rows t.frames c) (sym n.is) n.ready.holds.held

  -- the attributes lie where the frame begins, and the other variables above them
  module _ (rows : TwoRows) (h : AreReceived s1.world.heap class x run.given.items frame s1.rows rows) (seen : Seen) where
    rows_is : s1.rows ≡ cleared enters.grown (frame + length run.given.items) run.others.items
    rows_is = ap (λ (t : State). t.rows) enters.is

    given_long : length run.given.items ≡ length e.given
    given_long = ap length is_entry.given

    others_long : length run.others.items ≡ length e.others
    others_long = ap length is_entry.others

    values_long : length h.values ≡ length e.given
    values_long = hold_length h.values run.given.items h.hold ∙ given_long

    begin : frame ≡ here.frame + length c.store.locals + length c.cells
    begin = omega (arith, enters.begin, n.ready.runs.carries.1, high, own_is (site w c here n.before (TakeEvent cell) n.ready) (located w c here n.before (TakeEvent cell) n.ready))

    -- below the frame nothing has changed
    below_same : AreAlike s.rows rows 0 frame
    below_same =
        let inside : frame ≤ length s.rows.numbers = omega (arith, begin, held_now.room, n.ready.runs.depth, hold_length c.cells n.ready.placed.cells n.ready.fits.cells) in
        let from = frame + length run.given.items in
        let up = agree_within s.rows enters.grown 0 (length s.rows.numbers) 0 frame (omega arith) inside enters.grows.same in
        let down = agree_within enters.grown (cleared enters.grown from run.others.items) 0 from 0 frame (omega arith) (omega arith) (cleared_below enters.grown from run.others.items) in
        agree_on s.rows s1.rows rows 0 frame (subst (λ (t : TwoRows). AreAlike s.rows t 0 frame) (sym rows_is) (agree_on s.rows enters.grown (cleared enters.grown from run.others.items) 0 frame up down)) h.below

    variables_lie : AreValuesAt rows frame (h.values ++ first_values e.others)
    variables_lie =
        let from = frame + length run.given.items in
        let room : from + length run.others.items ≤ length enters.grown.numbers = omega (arith, enters.room, is_entry.room, given_long, others_long) in
        let at : from ≡ frame + length h.values = omega (arith, values_long, given_long) in
        let others : AreValuesAt s1.rows from (first_values run.others.items) = subst (λ (t : TwoRows). AreValuesAt t from (first_values run.others.items)) (sym rows_is) (cleared_all enters.grown from run.others.items enters.even room) in
        let now : AreValuesAt rows from (first_values run.others.items) = all_agree s1.rows rows from (first_values run.others.items) (h.above (from + length (first_values run.others.items))) others in
        all_append rows frame h.values (first_values e.others) h.lie
        (subst (λ j. AreValuesAt rows j (first_values e.others)) at (subst (λ (ms : List Mode). AreValuesAt rows from (first_values ms)) is_entry.others now))

    long_now : length rows.numbers ≡ length enters.grown.numbers
    long_now = h.long ∙ ap (λ (t : TwoRows). length t.numbers) rows_is ∙ cleared_long enters.grown (frame + length run.given.items) run.others.items

    frames_is : s1.frames ≡ call_of here run ∷ s.frames
    frames_is = ap (λ (t : State). t.frames) enters.is

    -- the notice goes
    pub held_gone : IsCoreHeld w.run.constants w.run.depth frame rows s1.frames (begun_core h.values (with_seen c.store seen))
    held_gone =
        subst (λ calls. IsCoreHeld w.run.constants w.run.depth frame rows calls (begun_core h.values (with_seen c.store seen))) (sym frames_is)
        (entered w.run.constants w.run.depth here.frame frame s.rows rows s.frames (call_of here run) c (with_seen c.store seen) c.cells (h.values ++ first_values e.others) e.place (c.place + 1) (length e.given) e.yielding (AnEvent rank)
        held_now held_now.cells begin below_same variables_lie
        (omega (arith, long_now, enters.room, is_entry.room, values_long, length-append h.values (first_values e.others), firsts_long e.others))
        (omega (arith, long_now, enters.small)) refl (ap (λ p. p + 1) n.ready.holds.place) refl given_long is_entry.yielding)

    -- or it is saved
    pub held_saved : (k : ℕ) → k < length c.store.globals → k < frame → IsCoreHeld w.run.constants w.run.depth frame (with_number rows k x) s1.frames (begun_core h.values (left_store w c here s cell x class n (Some k) seen))
    held_saved k lt low =
        global_held w.run.constants w.run.depth frame rows s1.frames (begun_core h.values (with_seen c.store seen)) k x refl held_gone lt (omega (arith, low, long_now, enters.room))
