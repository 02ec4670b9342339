-- What the machine does as an event begins is what the definition does.
use Rattle.std.proofs.Common.{◌≡◌, ℕ, ◌+◌, ◌<◌, ◌≤◌, ℤ, true, List, [], ◌∷◌, length, map, Option, Some, None, Ok, Err, refl, sym, ap, ◌∙◌, subst, arith, if◌then◌else◌}
use Rattle.ss_machine_notices.proofs.Common.{act, AnEvent, at_height, attributes_given, Beginning, Breaks, Compiled, Core, did, enter, eq-eqb, faulted, FaultKind, fit, HasEntered, HasOneTick, Here, hold_length, IsEntry, IsOutOfMemory, IsSuited, modes_of, NoMemory, one, one_tick_at, Rest, SectionEntry, Seen, set_length, slice_get_within, slice_set, State, Stuck, suits, TakeEvent, To, turned, TwoRows, Value, value_in, Whole, with_number, with_seen}
use Rattle.std.specs.Prelude.{IfSome, is_some, slice_get, Result as OkOr}
use Rattle.ss_base.specs.Layout.{mode_of}
use Rattle.ss_machine_notices.specs.Beginning.{AreRead, AreReceived, HasLetGo, HasReceived, IsNextEvent, HasLetGoThen, AreReceivedIf, IsUnbegunAfter, IsUnbegun}
use Rattle.ss_machine_frames.proofs.Entering.{opened_is}
use Rattle.ss_machine_frames.specs.Holding.{IsCoreHeld}
use Rattle.ss_machine_notices.proofs.Begun.{event, entry_point, code_entry, begun_entry, begun_modes, begun_kind, begun_saved, begun_saving}
use Rattle.ss_machine_notices.proofs.Giving.{got_at}
use Rattle.ss_machine_instructions.proofs.Calling.{cleared_even}
use Rattle.ss_machine_notices.proofs.Opening.{value_lives, all_lives, begins_not, left_store, GoesAs, IsSaving, read_is, goes_as, goes_right, begun_then, take_is}
use Rattle.ss_machine_notices.proofs.Framing.{begun_core, held_gone, held_saved}
use Rattle.ss_machine_notices.proofs.Beginning.{lets_go_keeps}

module _ (w : Compiled) (c : Core) (here : Here) (s : State) (cell : ℕ) (x : ℤ) (class : ℕ) (n : IsNextEvent w c here s cell x class) (run : SectionEntry) (at_run : slice_get w.run.events n.coming.ranked.rank ≡ Some run) where
  -- the entry that is run is that of the event
  pub entry_is : IsEntry w.run.depth (entry_point w c here s cell x class n) run
  entry_is = subst (λ r. IsEntry w.run.depth (entry_point w c here s cell x class n) r) (one (sym (begun_entry w c here s cell x class n).there ∙ at_run)) (begun_entry w c here s cell x class n).is

  pub high : length c.cells ≡ n.ready.runs.carries.0
  high =
      let y = subst (λ i. IsSuited w.program w.code c.place n.ready.placed.locals n.ready.placed.cells i) n.ready.runs.carries.2 (suits w c here n.before (TakeEvent cell) n.ready) in
      hold_length c.cells n.ready.placed.cells n.ready.fits.cells ∙ y.0

  -- the modes are there
  modes_there : (vs : List Value) → length vs ≡ length (event w c here s cell x class n).given → (i : ℕ) → i < length vs → is_some (slice_get (modes_of s.world.heap.layout class) (0 + i)) ≡ true
  modes_there vs long i lt =
      let m = got_at (event w c here s cell x class n).given i (omega (arith, lt, long)) in
      let none_on : i ≡ 0 + i = omega arith in
      subst (λ j. is_some (slice_get (modes_of s.world.heap.layout class) j) ≡ true) none_on (ap is_some (begun_modes w c here s cell x class n i m.0 m.1))

  -- the definition reads the attributes that were read
  pub given_is : (vs : List Value) → length vs ≡ length (event w c here s cell x class n).given → AreRead s.world.heap class 0 x vs → attributes_given class 0 (length (event w c here s cell x class n).given) (Whole x) (with_seen c.store s.world) ≡ Ok vs
  given_is vs long read = ap (λ k. attributes_given class 0 k (Whole x) (with_seen c.store s.world)) (sym long) ∙ read_is s.world class 0 x vs c.store (modes_there vs long) read

  module _ (s1 : State) (frame : ℕ) (enters : HasEntered here s s1 run cell frame) where
    pub even_then : length s1.rows.texts ≡ length s1.rows.numbers
    even_then = subst (λ (t : State). length t.rows.texts ≡ length t.rows.numbers) (sym enters.is) (cleared_even enters.grown (frame + length run.given.items) run.others.items enters.even)

    module _ (rows : TwoRows) (h : AreReceived s1.world.heap class x run.given.items frame s1.rows rows) where
      values_long : length h.values ≡ length (event w c here s cell x class n).given
      values_long = hold_length h.values run.given.items h.hold ∙ ap length entry_is.given

      pub given_then : attributes_given class 0 (length (event w c here s cell x class n).given) (Whole x) (with_seen c.store s.world) ≡ Ok h.values
      given_then = given_is h.values values_long (subst (λ (t : State). AreRead t.world.heap class 0 x h.values) enters.is h.read)

      -- it begins in the definition
      acts : (seen : Seen) → GoesAs w c here s cell x class n n.coming.ranked.said.saved seen (Ok tt) → act w.code n.ready.placed.line n.ready.placed.instruction c ≡ enter (entry_point w c here s cell x class n) (AnEvent n.coming.ranked.rank) h.values c.cells c (left_store w c here s cell x class n n.coming.ranked.said.saved seen)
      acts seen goes =
          let e = entry_point w c here s cell x class n in
          let t = left_store w c here s cell x class n n.coming.ranked.said.saved seen in
          take_is w c here s cell x class n h.values given_then
          ∙ ap (λ q. did n.coming.ranked.said.line q (λ b. fit (slice_get w.code.events b.rank) (λ e. at_height n.ready.runs.carries.0 c.cells (enter e (AnEvent b.rank) b.given c.cells c b.store)))) (begun_then w c here s cell x class n h.values given_then ∙ ap (turned (λ t. let b : Beginning = record { rank = n.coming.ranked.rank; given = h.values; store = t } in b)) goes)
          ∙ ap (λ o. fit o (λ e. at_height n.ready.runs.carries.0 c.cells (enter e (AnEvent n.coming.ranked.rank) h.values c.cells c t))) (code_entry w c here s cell x class n)
          ∙ ap (λ b. if b then enter e (AnEvent n.coming.ranked.rank) h.values c.cells c t else Stuck) (eq-eqb (length c.cells) n.ready.runs.carries.0 high)

      -- the machine goes on where its routine begins
      fault_line_none : s1.fault_line ≡ None
      fault_line_none = ap (λ (t : State). t.fault_line) enters.is ∙ ap (λ (t : State). t.fault_line) n.is ∙ n.ready.holds.line

      steps_same : s1.steps ≡ n.before.steps
      steps_same = ap (λ (t : State). t.steps) enters.is ∙ ap (λ (t : State). t.steps) n.is

      hold_given : map mode_of h.values ≡ (entry_point w c here s cell x class n).given
      hold_given = h.hold ∙ entry_is.given

      -- the variables are these, the saved one among them, and the rows are these
      begins_held : (gs : List Value) (rows' : TwoRows) (seen : Seen) → left_store w c here s cell x class n n.coming.ranked.said.saved seen ≡ record (with_seen c.store seen) { globals = gs } → GoesAs w c here s cell x class n n.coming.ranked.said.saved seen (Ok tt) → IsCoreHeld w.run.constants w.run.depth frame rows' s1.frames (begun_core w c here s cell x class n (entry_point w c here s cell x class n) run entry_is s1 frame enters high n.coming.ranked.rank h.values (record (with_seen c.store seen) { globals = gs })) → length rows'.texts ≡ length rows'.numbers → HasOneTick s.ticks w n.ready.placed.line (act w.code n.ready.placed.line n.ready.placed.instruction c) n.before (record s1 { rows = rows'; world = seen }) (Some (record { place = run.place; frame = frame }))
      begins_held gs rows' seen left goes held even =
          let e = entry_point w c here s cell x class n in
          let c' = begun_core w c here s cell x class n e run entry_is s1 frame enters high n.coming.ranked.rank h.values (record (with_seen c.store seen) { globals = gs }) in
          record {
            leads = (
              c',
              acts seen goes
                  ∙ ap (λ t. enter e (AnEvent n.coming.ranked.rank) h.values c.cells c t) left
                  ∙ ap (λ o. fit o (λ vs. To (begun_from vs))) (opened_is e.given e.others h.values hold_given),
              record { place = entry_is.place; held = held; world = refl; even = even; line = fault_line_none },
            );
            ticks = ap (λ (t : State). t.ticks) enters.is;
            steps = steps_same;
          }
        where
          begun_from : List Value → Core
          begun_from vs = record {
            place = (entry_point w c here s cell x class n).place;
            cells = [];
            frames = record { back = c.place + 1; cells = c.cells; locals = c.store.locals; first = length (entry_point w c here s cell x class n).given; count = (entry_point w c here s cell x class n).yielding; called = AnEvent n.coming.ranked.rank } ∷ c.frames;
            store = record (with_seen c.store seen) { globals = gs; locals = vs };
          }

      pub begins_gone : (seen : Seen) → n.coming.ranked.said.saved ≡ None → GoesAs w c here s cell x class n n.coming.ranked.said.saved seen (Ok tt) → HasOneTick s.ticks w n.ready.placed.line (act w.code n.ready.placed.line n.ready.placed.instruction c) n.before (record s1 { rows = rows; world = seen }) (Some (record { place = run.place; frame = frame }))
      begins_gone seen none goes =
          begins_held c.store.globals rows seen (ap (λ o. left_store w c here s cell x class n o seen) none) goes
          (held_gone w c here s cell x class n (entry_point w c here s cell x class n) run entry_is s1 frame enters high n.coming.ranked.rank rows h seen)
          (h.even ∙ even_then ∙ sym h.long)

      pub begins_saved : (k : ℕ) (seen : Seen) → n.coming.ranked.said.saved ≡ Some k → k < length c.store.globals → k < frame → GoesAs w c here s cell x class n n.coming.ranked.said.saved seen (Ok tt) → HasOneTick s.ticks w n.ready.placed.line (act w.code n.ready.placed.line n.ready.placed.instruction c) n.before (record s1 { rows = with_number rows k x; world = seen }) (Some (record { place = run.place; frame = frame }))
      begins_saved k seen some lt low goes =
          begins_held (slice_set c.store.globals k (Whole x)) (with_number rows k x) seen (ap (λ o. left_store w c here s cell x class n o seen) some) goes
          (held_saved w c here s cell x class n (entry_point w c here s cell x class n) run entry_is s1 frame enters high n.coming.ranked.rank rows h seen k lt low)
          (h.even ∙ even_then ∙ sym h.long ∙ sym (set_length rows.numbers k x))

  -- ## Where it does not begin

  pub fails_as : (kind : FaultKind) (mid new : State) (result : Option Here) → act w.code n.ready.placed.line n.ready.placed.instruction c ≡ Rest (Breaks kind n.coming.ranked.said.line) → mid.ticks ≡ s.ticks → mid.steps ≡ n.before.steps → new ≡ faulted kind (record mid { fault_line = Some n.coming.ranked.said.line }) → result ≡ None → HasOneTick s.ticks w n.ready.placed.line (act w.code n.ready.placed.line n.ready.placed.instruction c) n.before new result
  fails_as kind mid new result acts ticks steps same none =
      let m = act w.code n.ready.placed.line n.ready.placed.instruction c in
      let s' : State = faulted kind (record mid { fault_line = Some n.coming.ranked.said.line }) in
      one_tick_at s.ticks w n.ready.placed.line m n.before s' new None result acts ticks steps same none

  pub refused_as : (mid new : State) (result : Option Here) → mid.ticks ≡ s.ticks → mid.steps ≡ n.before.steps → new ≡ record mid { ticks = mid.ticks + 1; ending = NoMemory } → result ≡ None → HasOneTick s.ticks w n.ready.placed.line (act w.code n.ready.placed.line n.ready.placed.instruction c) n.before new result
  refused_as mid new result ticks steps same none =
      let m = act w.code n.ready.placed.line n.ready.placed.instruction c in
      let s' : State = record mid { ticks = mid.ticks + 1; ending = NoMemory } in
      one_tick_at s.ticks w n.ready.placed.line m n.before s' new None result tt (omega (arith, ticks)) steps same none

  -- some attributes are there, read or not
  pub some_given : (vs : List Value) × (attributes_given class 0 (length (event w c here s cell x class n).given) (Whole x) (with_seen c.store s.world) ≡ Ok vs)
  some_given =
      let all = all_lives s.world.heap class 0 (length (event w c here s cell x class n).given) x n.lives (begun_kind w c here s cell x class n) in
      (all.0, given_is all.0 all.1 all.2)

  -- there is no memory for the frame: a fault where one is due
  pub unbegun_as : (s1 new : State) (result : Option Here) → IsOutOfMemory s s1 → IsUnbegun n.coming.ranked.said class x s1 new → result ≡ None → HasOneTick s.ticks w n.ready.placed.line (act w.code n.ready.placed.line n.ready.placed.instruction c) n.before new result
  unbegun_as s1 new result refused u none = by u.answer u.lets_go u.is
    where
      steps_now : s.steps ≡ n.before.steps
      steps_now = ap (λ (t : State). t.steps) n.is

      by : (q : OkOr (Unit {0}) FaultKind) → HasLetGo n.coming.ranked.said.saved class x s1 u.mid q → IsUnbegunAfter n.coming.ranked.said.line u.mid new q → HasOneTick s.ticks w n.ready.placed.line (act w.code n.ready.placed.line n.ready.placed.instruction c) n.before new result
      by (Ok t) d is = refused_as u.mid new result ((lets_go_keeps n.coming.ranked.said.saved class x s1 u.mid (Ok t) d).0 ∙ refused.ticks) ((lets_go_keeps n.coming.ranked.said.saved class x s1 u.mid (Ok t) d).1 ∙ refused.steps ∙ steps_now) is none
      by (Err kind) d is =
          let goes = goes_as w c here s cell x class n n.coming.ranked.said.saved s1 u.mid (Err kind) refused.world (begun_saving w c here s cell x class n) (goes_right w c here s cell x class n some_given.0 some_given.1) d in
          fails_as kind u.mid new result (begins_not w c here s cell x class n some_given.0 some_given.1 u.mid.world kind goes) ((lets_go_keeps n.coming.ranked.said.saved class x s1 u.mid (Err kind) d).0 ∙ refused.ticks) ((lets_go_keeps n.coming.ranked.said.saved class x s1 u.mid (Err kind) d).1 ∙ refused.steps ∙ steps_now) is none

  -- ## Where the frame is there

  module _ (s1 : State) (frame : ℕ) (enters : HasEntered here s s1 run cell frame) (mid : State) (v : HasReceived n.coming.ranked.said class x run.given.items frame s1 mid (Ok tt)) where
    -- the attributes were read
    pub was_read : (u : Unit {0}) × (v.read ≡ Ok u)
    was_read = by v.read v.lets_go
      where
        by : (q : OkOr (Unit {0}) FaultKind) → HasLetGoThen n.coming.ranked.said class x (record s1 { rows = v.rows }) mid q (Ok tt) → (u : Unit {0}) × (q ≡ Ok u)
        by (Ok u) d = (u, refl)
        by (Err kind) d = let wrong : Ok tt ≡ Err kind = d.0 in absurd cc

    pub received : AreReceived s1.world.heap class x run.given.items frame s1.rows v.rows
    received = subst (λ q. AreReceivedIf s1.world.heap class x run.given.items frame s1.rows v.rows q) was_read.1 (v.read_is (even_then s1 frame enters))

    pub let_go : HasLetGo n.coming.ranked.said.saved class x (record s1 { rows = v.rows }) mid (Ok tt)
    let_go = subst (λ q. HasLetGoThen n.coming.ranked.said class x (record s1 { rows = v.rows }) mid q (Ok tt)) was_read.1 v.lets_go

    world_same : s1.world ≡ s.world
    world_same = ap (λ (t : State). t.world) enters.is

    goes_now : GoesAs w c here s cell x class n n.coming.ranked.said.saved mid.world (Ok tt)
    goes_now = goes_as w c here s cell x class n n.coming.ranked.said.saved (record s1 { rows = v.rows }) mid (Ok tt) world_same (begun_saving w c here s cell x class n) (goes_right w c here s cell x class n received.values (given_then s1 frame enters v.rows received)) let_go

    pub begins : (result : Option Here) → result ≡ Some (record { place = run.place; frame = frame }) → here.frame ≤ frame → HasOneTick s.ticks w n.ready.placed.line (act w.code n.ready.placed.line n.ready.placed.instruction c) n.before mid result
    begins result way above =
        subst (λ o. HasOneTick s.ticks w n.ready.placed.line (act w.code n.ready.placed.line n.ready.placed.instruction c) n.before mid o) (sym way)
        (by n.coming.ranked.said.saved refl let_go (begun_saved w c here s cell x class n) (begun_saving w c here s cell x class n))
      where
        by : (o : Option ℕ) → n.coming.ranked.said.saved ≡ o → HasLetGo o class x (record s1 { rows = v.rows }) mid (Ok tt) → IfSome o (λ k. k < here.frame) → IsSaving w c here s cell x class n o → HasOneTick s.ticks w n.ready.placed.line (act w.code n.ready.placed.line n.ready.placed.instruction c) n.before mid (Some (record { place = run.place; frame = frame }))
        by None q d low saving = subst (λ (t : State). HasOneTick s.ticks w n.ready.placed.line (act w.code n.ready.placed.line n.ready.placed.instruction c) n.before t (Some (record { place = run.place; frame = frame }))) (sym d.1) (begins_gone s1 frame enters v.rows received mid.world q goes_now)
        by (Some k) q d low saving = subst (λ (t : State). HasOneTick s.ticks w n.ready.placed.line (act w.code n.ready.placed.line n.ready.placed.instruction c) n.before t (Some (record { place = run.place; frame = frame }))) (sym d.1) (begins_saved s1 frame enters v.rows received k mid.world q (slice_get_within c.store.globals k saving.0 saving.1) (omega (arith, low, above)) goes_now)

  -- or there was a fault: it is due as the notice is let go, since its attributes can be read
  module _ (s1 : State) (frame : ℕ) (enters : HasEntered here s s1 run cell frame) (mid : State) (kind : FaultKind) (v : HasReceived n.coming.ranked.said class x run.given.items frame s1 mid (Err kind)) where
    pub begins_fault : (new : State) (result : Option Here) → new ≡ faulted kind (record mid { fault_line = Some n.coming.ranked.said.line }) → result ≡ None → HasOneTick s.ticks w n.ready.placed.line (act w.code n.ready.placed.line n.ready.placed.instruction c) n.before new result
    begins_fault new result same none = by v.read (v.read_is (even_then s1 frame enters)) v.lets_go
      where
        world_is : s1.world ≡ s.world
        world_is = ap (λ (t : State). t.world) enters.is

        ticks_then : s1.ticks ≡ s.ticks
        ticks_then = ap (λ (t : State). t.ticks) enters.is

        steps_then : s1.steps ≡ n.before.steps
        steps_then = ap (λ (t : State). t.steps) enters.is ∙ ap (λ (t : State). t.steps) n.is

        by : (q : OkOr (Unit {0}) FaultKind) → AreReceivedIf s1.world.heap class x run.given.items frame s1.rows v.rows q → HasLetGoThen n.coming.ranked.said class x (record s1 { rows = v.rows }) mid q (Err kind) → HasOneTick s.ticks w n.ready.placed.line (act w.code n.ready.placed.line n.ready.placed.instruction c) n.before new result
        by (Ok u) h d =
            let goes = goes_as w c here s cell x class n n.coming.ranked.said.saved (record s1 { rows = v.rows }) mid (Err kind) world_is (begun_saving w c here s cell x class n) (goes_right w c here s cell x class n some_given.0 some_given.1) d in
            fails_as kind mid new result (begins_not w c here s cell x class n some_given.0 some_given.1 mid.world kind goes) ((lets_go_keeps n.coming.ranked.said.saved class x (record s1 { rows = v.rows }) mid (Err kind) d).0 ∙ ticks_then) ((lets_go_keeps n.coming.ranked.said.saved class x (record s1 { rows = v.rows }) mid (Err kind) d).1 ∙ steps_then) same none
        by (Err k) h d =
            let there = value_lives s.world.heap class h.0 x n.lives (begun_kind w c here s cell x class n) in
            let wrong : Ok there.0 ≡ Err k = sym there.1 ∙ ap (λ (e : Seen). value_in e.heap class h.0 x) (sym world_is) ∙ h.2 in
            absurd cc
