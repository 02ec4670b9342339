-- A step of code that has shape leads from a state that suits its place to another one, and the machine is not stuck there.
use Rattle.std.proofs.Common.{◌≡◌, ℕ, zero, suc, ◌+◌, ◌-◌, Bool, true, false, List, [], ◌∷◌, ◌++◌, length, Option, Some, None, Ok, Err, ℤ, refl, sym, ap, ◌∙◌, subst, arith}
use Rattle.std.proofs.lemmas.List.{take-append-drop}
use Rattle.std.specs.Prelude.{slice_get, take, drop, not, is_some, pos, ◌+ℤ◌, Result as OkOr, if◌then◌else◌}
use Rattle.ss_code_instructions.proofs.Common.{act, after_one_step, AllZip, AnEvent, AreOfModes, ARoutine, assignable_count, assigned_attribute, assigned_variable, AtTime, attribute, begin_walk, Breaks, Called, cell_at, cells_of_kinds, changed_attribute, class_at, ClassLayout, clock, Code, code_of, Coming, coming_with, Core, core_at, deliver, deliver_with, did, Done, enter, entity, EntryPoint, Event, event_begun, field_mode, figure, filed_notice, first_fits, fit, Frame, Goes, has_item, has_next, indices, Instruction, Is, is_awaited, is_due, is_ended, is_made, is_permanent, IsFittingStore, IsSet, IsWellTyped, Item, item_before, ItemKind, Later, leave, Line, MachineState, made_all, made_count, made_notice, made_one, Mean, mean, mean_item, Mode, Moved, next_event, next_item, NoStep, not_if, onward, opened, option_map, Over, Placed, print_lines, Program, range_of, read_value, rescheduled, reset, Rest, Sends, ShowsMean, ShowsMeanOf, ShowsValue, Sign, start, step, step_at, Stepped, steps, Store, Stuck, take_event, take_next, take_off, TakenOff, Target, time_at, time_of, To, Underway, unscheduled, unsigned, Value, value_given, values_shown, Walk, walk_at, walk_cells, walk_further, when_due, Whole, with_block, with_input, with_rest, without, yielded}
use Rattle.ss_base.specs.declared.fault.FaultKind.TheVariants.{CreatedTwice}
use Rattle.ss_base.specs.Layout.{mode_of}
use Rattle.ss_base.specs.declared.layout.Mode.TheVariants.{Integer}
use Rattle.ss_code_instructions.specs.Shape.{AreFoundAt, IsFitForCode, IsSuited, AreGivenModes, AreFitForItems, IsOfKind, IsDeliveringTo, HasEntryShape, IsShaped, AreFitFrames}
use Rattle.ss_meaning.specs.Sets.{begun, begun_at, filed_in, goes_on, is_empty, is_in, is_none, known_owner, member, of_member, of_set, removed_at, removed_from, coming as coming_in}
use Rattle.ss_meaning.specs.Values.{applied, calculated, due, empty_lines, Fails, Failure, if_ok, number_of, operator_of, printed, related, turned, TypeError, unless_fault}
use Rattle.ss_meaning.specs.PendingList.{least_event}
use Rattle.ss_meaning.proofs.Fine.{Fine, There, Any, fine_then, fine_turned, fine_weaker, any_due, fit_fine, unless_fine}
use Rattle.ss_meaning.proofs.Kept.{number_fine}
use Rattle.ss_meaning.proofs.Entities.{permanent_here, entity_fine, attribute_fine, time_of_fine, made_one_fine, made_all_fine, without_fine, variable_fine, attribute_assigned_fine}
use Rattle.ss_meaning.proofs.Sets.{set_of, member_fine, known_owner_fine, is_empty_fine, is_in_fine, begun_fine as outset_fine, begun_at_fine, coming_fine, goes_on_fine, mean_fine, of_set_fine, of_member_fine, filed_in_fine, removed_from_fine, removed_at_fine, figure_fine, reset_fine}
use Rattle.ss_meaning.proofs.Events.{FieldsAre, fields_are, time_at_fine, made_notice_fine, filed_notice_fine, rescheduled_fine, unscheduled_fine, ComingAs, next_event_there, BegunAs, begun_fine}
use Rattle.ss_meaning.proofs.Expressions.{calculated_fine, applied_fine, asked_alone, asked_of, related_there}
use Rattle.ss_meaning.proofs.Statements.{empty_fine, held_length, range_of_fine, word_fine, input_fits}
use Rattle.ss_meaning.proofs.Whole.{both_hold, opened_there, yielded_there as yielded_all}
use Rattle.ss_code_instructions.specs.Instructions as i
use Rattle.ss_code_instructions.specs.Laws.{ShapeStays, StatesSuit, NeverStuck}
use Rattle.ss_code_instructions.proofs.ShapingPrograms.{has_shape}
use Rattle.ss_code_instructions.proofs.Valued.{cell_there, owner_ok, asked, GoesWell, fit_well, did_well, height_well, number_well, block_well, loop_well, walk_well, value_well, both_well, bearer_well, position_well, goes_to, ways_well, back_well, delivered_well, deliver_well}

-- ## Lists of values

-- what a section yields
yielded_there : (given others : List Mode) (first count : ℕ) (ls : List Value) → AreOfModes ls (given ++ others) → first ≡ length given → length (take count others) ≡ count → There (λ (us : List Value). AreOfModes us (take count others)) (yielded first count ls)
yielded_there given others first count ls h q e =
    let parts : AreOfModes ls (given ++ (take count others ++ drop count others)) = h ∙ ap (λ l. given ++ l) (sym (take-append-drop count others)) in
    subst (λ n. There (λ (us : List Value). AreOfModes us (take count others)) (yielded n count ls)) (sym q)
    (subst (λ n. There (λ (us : List Value). AreOfModes us (take count others)) (yielded (length given) n ls)) e (yielded_all given (take count others) (drop count others) ls parts))

-- what lies below cells that are taken off
off_there : (gone rest : List Mode) (count : ℕ) (cells vs : List Value) → AreOfModes cells (gone ++ rest) → length gone ≡ count → There (λ (b : TakenOff). AreOfModes b.below rest) (take_off count cells vs)
off_there [] rest zero cells vs h q = h
off_there [] rest (suc k) cells vs h q = absurd cc
off_there (m ∷ gone) rest zero cells vs h q = absurd cc
off_there (m ∷ gone) rest (suc k) [] vs h q = absurd cc
off_there (m ∷ gone) rest (suc k) (v ∷ cells) vs h q =
    let under : AreOfModes cells (gone ++ rest) = cc in
    let fewer : length gone ≡ k = omega (arith, q) in
    off_there gone rest k cells (v ∷ vs) under fewer

-- items take as many cells as they have modes
kinds_many : (p : Program) (ks : List ItemKind) (modes : List Mode) → AreFitForItems p ks modes → cells_of_kinds ks ≡ length modes
kinds_many p [] [] h = refl
kinds_many p [] (m ∷ ms) h = absurd h
kinds_many p (ShowsValue ∷ ks) [] h = absurd h
kinds_many p (ShowsValue ∷ ks) (m ∷ ms) h = let e : 1 + cells_of_kinds ks ≡ suc (length ms) = omega (arith, kinds_many p ks ms h) in e
kinds_many p (ShowsMean j ∷ ks) ms h = let e : 0 + cells_of_kinds ks ≡ length ms = omega (arith, kinds_many p ks ms h.1) in e
kinds_many p (ShowsMeanOf j ∷ ks) [] h = absurd h
kinds_many p (ShowsMeanOf j ∷ ks) (m ∷ ms) h = let e : 1 + cells_of_kinds ks ≡ suc (length ms) = omega (arith, kinds_many p ks ms h.2) in e

-- ## What is there

is_there : {A : Type 0} (o : Option A) → is_some o ≡ true → There Any o
is_there (Some a) e = tt
is_there None e = absurd cc

fields_said : (o : Option ClassLayout) (modes : List Mode) → option_map (λ (c : ClassLayout). c.fields) o ≡ Some modes → (cl : ClassLayout) × (o ≡ Some cl)
fields_said None modes e = absurd cc
fields_said (Some cl) modes e = (cl, refl)

-- what a mean is shown as
mean_there : (k : ItemKind) → ((x y : ℤ) → IsOfKind k (Mean x y)) → (r : OkOr (ℤ × ℤ) Failure) → Fine Any r → There (IsOfKind k) (mean_item r)
mean_there k f (Ok m) h = f m.0 m.1
mean_there k f (Err (Fails kind)) h = f (pos 0) (pos 0)
mean_there k f (Err TypeError) h = absurd h

before_there : (k : ItemKind) (ks : List ItemKind) (o : Option Item) (xs : Option (List Item)) → There (IsOfKind k) o → There (AllZip IsOfKind ks) xs → There (AllZip IsOfKind (k ∷ ks)) (item_before o xs)
before_there k ks None xs h g = absurd h
before_there k ks (Some x) None h g = absurd g
before_there k ks (Some x) (Some xs) h g = (h, g)

module _ (p : Program) (typed : IsWellTyped p) (code : Code) where
  -- as Valued says it
  abbrev Well : Moved → Type 0
  Well m = GoesWell p typed code m

  choose_well : (b : Bool) (x y : Moved) → Well x → Well y → Well (if b then x else y)
  choose_well true x y f g = f
  choose_well false x y f g = g

  -- ## Out of a section

  leave_well : (ls : List Mode) (frames : List Frame) (c : Core) → IsFittingStore p ls c.store → AreFitFrames p code ls frames → Well (leave frames c)
  leave_well ls [] c fits k = tt
  leave_well ls (f ∷ fs) c fits k =
      fit_well p typed code (λ (us : List Value). AreOfModes us (take f.count k.1)) (yielded f.first f.count c.store.locals) (λ vs. To (core_at f.back (vs ++ f.cells) fs (record c.store { locals = f.locals })))
      (yielded_there k.0 k.1 f.first f.count c.store.locals (fits.locals ∙ k.4) k.5 k.6) (λ vs h.
      goes_to p typed code k.2 f.back (take f.count k.1 ++ k.3) (vs ++ f.cells) fs (record c.store { locals = f.locals }) k.9
      (record { sound = record { globals = fits.sound.globals; world = fits.sound.world }; locals = k.7 })
      (both_hold vs f.cells (take f.count k.1) k.3 h k.8) k.10)

  module _ (ls : List Mode) where
    -- ## Into a section

    enter_well : (e : EntryPoint) (called : Called) (vs below : List Value) (rest : List Mode) (c : Core) (s : Store) → AreOfModes vs e.given → HasEntryShape p code e → IsFittingStore p ls s → AreFoundAt p code (c.place + 1) ls (take e.yielding e.others ++ rest) → AreOfModes below rest → AreFitFrames p code ls c.frames → Well (enter e called vs below c s)
    enter_well e called vs below rest c s given begins fits at h k =
        fit_well p typed code (λ (us : List Value). AreOfModes us (e.given ++ e.others)) (opened e.given e.others vs) _ (opened_there e.given e.others vs given) (λ variables q.
        let f : Frame = record { back = c.place + 1; cells = below; locals = s.locals; first = length e.given; count = e.yielding; called = called } in
        goes_to p typed code (e.given ++ e.others) e.place [] [] (f ∷ c.frames) (record s { locals = variables }) begins.0
        (record { sound = record { globals = fits.sound.globals; world = fits.sound.world }; locals = q }) refl
        (e.given, e.others, ls, rest, refl, refl, begins.1, fits.locals, h, at, k))

    -- ## What several instructions do

    -- a look, after which the store is the same
    look_on : {A : Type 0} (l : Line) (r : OkOr A Failure) (rest : List Mode) (cells : List Value) (c : Core) → Fine Any r → AreFoundAt p code (c.place + 1) ls rest → IsFittingStore p ls c.store → AreOfModes cells rest → AreFitFrames p code ls c.frames → Well (did l r (λ u. onward cells c c.store))
    look_on l r rest cells c fine at fits h k = did_well p typed code Any l r (λ u. onward cells c c.store) fine (λ u e. goes_to p typed code ls (c.place + 1) rest cells c.frames c.store at fits h k)

    -- another store
    change_on : (l : Line) (r : OkOr Store Failure) (rest : List Mode) (cells : List Value) (c : Core) → Fine (IsFittingStore p ls) r → AreFoundAt p code (c.place + 1) ls rest → AreOfModes cells rest → AreFitFrames p code ls c.frames → Well (did l r (λ s. onward cells c s))
    change_on l r rest cells c fine at h k =
        did_well p typed code (IsFittingStore p ls) l r (λ s. onward cells c s) fine (λ s fits. goes_to p typed code ls (c.place + 1) rest cells c.frames s at fits h k)

    -- a value for a target
    give_on : (l : Line) (to : Target) (m : Mode) (ms rest : List Mode) (r : OkOr Value Failure) (cells : List Value) (c : Core) → IsDeliveringTo p code c.place ls ms to m rest → Fine (λ v. mode_of v ≡ m) r → IsFittingStore p ls c.store → AreOfModes cells rest → AreFitFrames p code ls c.frames → Well (deliver l to r cells c)
    give_on l to m ms rest r cells c d fine fits h k = deliver_well p typed code ls l to m rest d.0 r cells c fine d.1 d.2 fits h k

    give_with : (l : Line) (to : Target) (m : Mode) (ms rest : List Mode) (r : OkOr (Value × Store) Failure) (cells : List Value) (c : Core) → IsDeliveringTo p code c.place ls ms to m rest → Fine (λ (b : Value × Store). (mode_of b.0 ≡ m) × IsFittingStore p ls b.1) r → AreOfModes cells rest → AreFitFrames p code ls c.frames → Well (deliver_with l to r cells c)
    give_with l to m ms rest r cells c d fine h k = delivered_well p typed code ls l to m rest d.0 r cells c fine d.1 d.2 h k

    -- a time to schedule for
    time_well : (l : Line) (to : Target) (ms rest : List Mode) (r : OkOr ℤ Failure) (cells : List Value) (c : Core) → IsDeliveringTo p code c.place ls ms to Integer rest → Fine (λ z. Unit {0}) r → IsFittingStore p ls c.store → AreOfModes cells rest → AreFitFrames p code ls c.frames → Well (deliver l to (turned Whole r) cells c)
    time_well l to ms rest r cells c d fine fits h k = give_on l to Integer ms rest (turned Whole r) cells c d (fine_turned (λ v. mode_of v ≡ Integer) Whole r fine (λ z u. refl)) fits h k

    -- a walk begins
    begin_well : (l : Line) (skip : ℕ) (r : OkOr Walk Failure) (rest : List Mode) (cells : List Value) (c : Core) → Fine Any r → AreFoundAt p code (c.place + 1) ls (Integer ∷ Integer ∷ rest) × AreFoundAt p code (c.place + 1 + skip) ls (Integer ∷ Integer ∷ rest) → IsFittingStore p ls c.store → AreOfModes cells rest → AreFitFrames p code ls c.frames → Well (begin_walk l skip r cells c)
    begin_well l skip r rest cells c fine at fits h k =
        did_well p typed code Any l r _ fine (λ w e. ways_well p typed code ls skip (not (is_none w.member)) (Integer ∷ Integer ∷ rest) (walk_cells w cells) c at fits (ap (λ l. Integer ∷ Integer ∷ l) h) k)

    -- where it gets to
    walk_fine : (reverse : Bool) (set : ℕ) (x : ℤ) (s : Store) → IsSet p set → IsFittingStore p ls s → Fine Any (walk_at reverse set x s)
    walk_fine reverse set x s q fits = by (is_none x)
      where
        walked : ℤ → Walk
        walked y = record { member = x; next = y }

        by : (b : Bool) → Fine {A = Walk} Any (if b then Ok (record { member = pos 0; next = pos 0 }) else turned walked (coming_in reverse set x s))
        by true = tt
        by false = fine_turned {B = Walk} Any walked (coming_in reverse set x s) (coming_fine p typed ls reverse set x s q fits) (λ a u. tt)

    begun_walk_fine : (reverse : Bool) (set : ℕ) (r : OkOr ℤ Failure) (s : Store) → Fine Any r → IsSet p set → IsFittingStore p ls s → Fine Any (if_ok r (λ x. walk_at reverse set x s))
    begun_walk_fine reverse set r s fine q fits = fine_then Any r (λ x. walk_at reverse set x s) fine (λ x u. walk_fine reverse set x s q fits)

    -- a walk goes on, or stays where it is
    further_well : (back : ℕ) (old new : Walk) (rest : List Mode) (cells : List Value) (c : Core) → AreFoundAt p code (c.place + 1) ls (Integer ∷ Integer ∷ rest) → AreFoundAt p code (c.place - back) ls (Integer ∷ Integer ∷ rest) → IsFittingStore p ls c.store → AreOfModes cells rest → AreFitFrames p code ls c.frames → Well (walk_further back old new cells c)
    further_well back old new rest cells c on at fits h k =
        choose_well (is_none new.member) _ _
        (back_well p typed code ls back false (Integer ∷ Integer ∷ rest) (walk_cells old cells) c on at fits (ap (λ l. Integer ∷ Integer ∷ l) h) k)
        (back_well p typed code ls back true (Integer ∷ Integer ∷ rest) (walk_cells new cells) c on at fits (ap (λ l. Integer ∷ Integer ∷ l) h) k)

    -- the next item of a loop, or none
    next_well : (back : ℕ) (item limit step : ℤ) (ms rest : List Mode) (cells : List Value) (c : Core) → ms ≡ Integer ∷ Integer ∷ Integer ∷ rest → AreFoundAt p code (c.place + 1) ls ms → AreFoundAt p code (c.place - back) ls ms → IsFittingStore p ls c.store → AreOfModes cells rest → AreFitFrames p code ls c.frames → Well (next_item back item limit step cells c)
    next_well back item limit step ms rest cells c e on at fits h k =
        choose_well (has_next item limit step) _ _
        (back_well p typed code ls back true ms (Whole step ∷ Whole limit ∷ Whole (item +ℤ unsigned step) ∷ cells) c on at fits (ap (λ l. Integer ∷ Integer ∷ Integer ∷ l) h ∙ sym e) k)
        (back_well p typed code ls back false ms (Whole step ∷ Whole limit ∷ Whole item ∷ cells) c on at fits (ap (λ l. Integer ∷ Integer ∷ Integer ∷ l) h ∙ sym e) k)

    -- an attribute that is increased or reduced
    changed_fine : (sign : Sign) (class field : ℕ) (x y : Value) (s : Store) → field_mode p class field ≡ Some Integer → mode_of x ≡ Integer → mode_of y ≡ Integer → IsFittingStore p ls s → Fine (IsFittingStore p ls) (changed_attribute sign class field x y s)
    changed_fine sign class field x y s g hx hy fits =
        fine_then (IsFittingStore p ls) (attribute class field x s) (λ v. if_ok (calculated (operator_of sign) v y) (λ w. assigned_attribute class field x w s)) (attribute_fine p typed ls class field Integer x s g hx fits) (λ v hv.
        fine_then (IsFittingStore p ls) (calculated (operator_of sign) v y) (λ w. assigned_attribute class field x w s) (calculated_fine (operator_of sign) v y hv hy) (λ w hw.
        attribute_assigned_fine p typed ls class field Integer x w s g hx hw fits))

    -- the modes of what is given to a notice are those of its first attributes
    fields_given : (class : ℕ) (modes : List Mode) → AreGivenModes p class modes → FieldsAre p typed ls class 0 modes
    fields_given class modes g = subst (FieldsAre p typed ls class 0) (sym g.1.2) (fields_are p typed ls class (length modes) g.1.0 g.1.1)

    -- what the items of a PRINT show
    shown_there : (ks : List ItemKind) (ms : List Mode) (vs : List Value) (s : Store) → AreFitForItems p ks ms → AreOfModes vs ms → IsFittingStore p ls s → There (AllZip IsOfKind ks) (values_shown ks vs s)
    shown_there [] [] [] s h q fits = tt
    shown_there [] [] (v ∷ vs) s h q fits = absurd cc
    shown_there [] (m ∷ ms) vs s h q fits = absurd h
    shown_there (ShowsValue ∷ ks) [] vs s h q fits = absurd h
    shown_there (ShowsValue ∷ ks) (m ∷ ms) [] s h q fits = absurd cc
    shown_there (ShowsValue ∷ ks) (m ∷ ms) (v ∷ vs) s h q fits =
        let rest : AreOfModes vs ms = cc in
        before_there ShowsValue ks (Some (Is v)) (values_shown ks vs s) tt (shown_there ks ms vs s h rest fits)
    shown_there (ShowsMean j ∷ ks) ms [] s h q fits =
        before_there (ShowsMean j) ks (mean_item (mean j None s)) (values_shown ks [] s) (mean_there (ShowsMean j) (λ x y. tt) (mean j None s) (mean_fine p typed ls j None s (asked_alone p typed ls true j h.0) fits)) (shown_there ks ms [] s h.1 q fits)
    shown_there (ShowsMean j ∷ ks) ms (v ∷ vs) s h q fits =
        before_there (ShowsMean j) ks (mean_item (mean j None s)) (values_shown ks (v ∷ vs) s) (mean_there (ShowsMean j) (λ x y. tt) (mean j None s) (mean_fine p typed ls j None s (asked_alone p typed ls true j h.0) fits)) (shown_there ks ms (v ∷ vs) s h.1 q fits)
    shown_there (ShowsMeanOf j ∷ ks) [] vs s h q fits = absurd h
    shown_there (ShowsMeanOf j ∷ ks) (m ∷ ms) [] s h q fits = absurd cc
    shown_there (ShowsMeanOf j ∷ ks) (m ∷ ms) (x ∷ vs) s h q fits =
        let here : mode_of x ≡ m = cc in
        let rest : AreOfModes vs ms = cc in
        before_there (ShowsMeanOf j) ks (mean_item (mean j (Some x) s)) (values_shown ks vs s) (mean_there (ShowsMeanOf j) (λ y z. tt) (mean j (Some x) s) (mean_fine p typed ls j (Some x) s (asked_of p typed ls true j x h.1 (here ∙ h.0)) fits)) (shown_there ks ms vs s h.2 rest fits)

    -- the event that comes next
    coming : (s : Store) (n : Coming) → next_event s ≡ Some n → IsFittingStore p ls s → ComingAs p typed ls n
    coming s n e fits = by (least_event s.world.pending) refl e
      where
        by : (o : Option (ℤ × ℤ)) → least_event s.world.pending ≡ o → coming_with o s ≡ Some n → ComingAs p typed ls n
        by None q f = absurd cc
        by (Some k) q f = subst (There (ComingAs p typed ls)) e (next_event_there p typed ls s (ap is_some q) fits)

    module _ (shaped : IsShaped p code) where
      -- the entry point of an event
      abbrev IsEntryOf : (rank : ℕ) → Event → EntryPoint → Type 0
      IsEntryOf rank v e = (slice_get code.events rank ≡ Some e) × (e.given ≡ v.given)

      event_well : (h : ℕ) (n : Coming) (ms : List Mode) (c : Core) → ComingAs p typed ls n → length ms ≡ h → AreFoundAt p code (c.place + 1) ls ms → AreOfModes c.cells ms → AreFitFrames p code ls c.frames → Well (take_event code h n c)
      event_well h n ms c comes high at q k =
          did_well p typed code (BegunAs p typed ls) n.ranked.said.line (event_begun n) _ (begun_fine p typed ls n comes) (λ b begun.
          let served = shaped.served b.rank begun.event begun.there in
          fit_well p typed code (IsEntryOf b.rank begun.event) (slice_get code.events b.rank) _ (subst (There (IsEntryOf b.rank begun.event)) (sym served.1) (served.1, served.2)) (λ e there.
          let begins = shaped.events b.rank e there.0 in
          height_well p typed code h c.cells (enter e (AnEvent b.rank) b.given c.cells c b.store) (held_length c.cells ms q ∙ high)
          (enter_well e (AnEvent b.rank) b.given c.cells ms c b.store (begun.given ∙ sym there.1) begins.0 begun.fits (subst (λ n. AreFoundAt p code (c.place + 1) ls (take n e.others ++ ms)) (sym begins.1) at) q k)))

      -- or none
      next_event_well : (h : ℕ) (ms : List Mode) (c : Core) → IsFittingStore p ls c.store → length ms ≡ h → AreFoundAt p code (c.place + 1) ls ms → AreOfModes c.cells ms → AreFitFrames p code ls c.frames → (o : Option Coming) → next_event c.store ≡ o → Well (take_next code h o c)
      next_event_well h ms c fits high at q k None e = goes_to p typed code ls (c.place + 1) ms c.cells c.frames c.store at fits q k
      next_event_well h ms c fits high at q k (Some n) e = event_well h n ms c (coming c.store n e fits) high at q k

      -- ## Instructions

      act_well : (l : Line) (x : Instruction) (c : Core) (ms : List Mode) → IsSuited p code c.place ls ms x → IsFittingStore p ls c.store → AreOfModes c.cells ms → AreFitFrames p code ls c.frames → Well (act code l x c)
      act_well l (i.Move from to) c ms g fits q k =
          value_well p typed code ls from g.0 ms g.1.0 c.store c.cells _ g.1.1 fits q (λ v below e h. give_on l to g.0 ms g.1.0 (Ok v) below c g.1.2 e fits h k)
      act_well l (i.Keep from x) c ms g fits q k =
          value_well p typed code ls from Integer ms g.1.0 c.store c.cells _ g.1.1 fits q (λ v below e h.
          change_on l (assigned_variable x v c.store) g.1.0 below c (variable_fine p typed ls true x Integer v c.store g.0 e fits) g.1.2 h k)
      act_well l (i.Calculate op left right to) c ms g fits q k =
          both_well p typed code ls left right Integer Integer ms g.0 c.store c.cells _ g.1 fits q (λ v w below hv hw h. give_on l to Integer ms g.0 (calculated op v w) below c g.2 (calculated_fine op v w hv hw) fits h k)
      act_well l (i.Unary op of to) c ms g fits q k =
          value_well p typed code ls of Integer ms g.0 c.store c.cells _ g.1 fits q (λ v below e h. give_on l to Integer ms g.0 (applied op v) below c g.2 (applied_fine op v e) fits h k)
      act_well l (i.Clock to) c ms g fits q k = give_on l to Integer ms ms (Ok (clock c.store)) c.cells c g refl fits q k
      act_well l (i.TimeOf notice to) c ms g fits q k =
          value_well p typed code ls notice Integer ms g.0 c.store c.cells _ g.1 fits q (λ v below e h. give_on l to Integer ms g.0 (time_of v c.store) below c g.2 (time_of_fine p typed ls v c.store e) fits h k)
      act_well l (i.Attribute class field x to) c ms g fits q k =
          value_well p typed code ls x Integer ms g.2.0 c.store c.cells _ g.2.1 fits q (λ v below e h.
          give_on l to g.0 ms g.2.0 (attribute class field v c.store) below c g.2.2 (attribute_fine p typed ls class field g.0 v c.store g.1 e fits) fits h k)
      act_well l (i.OfSet query set owner to) c ms g fits q k =
          bearer_well p typed code ls owner ms g.1.0 c.store c.cells _ g.1.1 fits q (λ o below e h.
          give_on l to Integer ms g.1.0 (of_set query set o c.store) below c g.1.2 (of_set_fine p typed ls query set o c.store (owner_ok p typed ls set owner o g.0 e) fits) fits h k)
      act_well l (i.OfMember query set x to) c ms g fits q k =
          value_well p typed code ls x Integer ms g.1.0 c.store c.cells _ g.1.1 fits q (λ v below e h.
          give_on l to Integer ms g.1.0 (of_member query set v c.store) below c g.1.2 (of_member_fine p typed ls query set v c.store g.0 e fits) fits h k)
      act_well l (i.Figure fold j of to) c ms g fits q k =
          bearer_well p typed code ls of ms g.1.0 c.store c.cells _ g.1.1 fits q (λ o below e h.
          give_on l to Integer ms g.1.0 (figure fold j o c.store) below c g.1.2 (figure_fine p typed ls fold j o c.store (asked p typed ls j of o g.0 e) fits) fits h k)
      act_well l (i.LookEntity class x) c ms g fits q k =
          value_well p typed code ls x Integer ms g.1.0 c.store c.cells _ g.1.1 fits q (λ v below e h. look_on l (entity class v c.store) g.1.0 below c (let cl = fields_said (slice_get p.layout.classes class) g.0.0 g.0.1 in fine_weaker Any (entity class v c.store) (entity_fine p typed ls class cl.0 v c.store cl.1 e fits) (λ n u. tt)) g.1.2 fits h k)
      act_well l (i.LookMember set x) c ms g fits q k =
          value_well p typed code ls x Integer ms g.1.0 c.store c.cells _ g.1.1 fits q (λ v below e h. look_on l (member set v c.store) g.1.0 below c (fine_weaker Any (member set v c.store) (member_fine p typed ls set v c.store g.0 e fits) (λ n u. tt)) g.1.2 fits h k)
      act_well l (i.LookOwner set owner) c ms g fits q k =
          bearer_well p typed code ls owner ms g.1.0 c.store c.cells _ g.1.1 fits q (λ o below e h. look_on l (known_owner set o c.store) g.1.0 below c (fine_weaker Any (known_owner set o c.store) (known_owner_fine p typed ls set o c.store (owner_ok p typed ls set owner o g.0 e) fits) (λ n u. tt)) g.1.2 fits h k)
      act_well l (i.LookMean j of) c ms g fits q k =
          bearer_well p typed code ls of ms g.1.0 c.store c.cells _ g.1.1 fits q (λ o below e h. look_on l (mean j o c.store) g.1.0 below c (mean_fine p typed ls j o c.store (asked p typed ls j of o g.0 e) fits) g.1.2 fits h k)
      act_well l (i.LookCount class) c ms g fits q k =
          look_on l (assignable_count class c.store) ms c.cells c
          (fit_fine Any (is_permanent (class_at class c.store)) (unless_fault (is_made c.store.world.heap class) CreatedTwice (Ok tt)) (permanent_here p typed ls c.store class fits g.0) (unless_fine Any (is_made c.store.world.heap class) CreatedTwice (Ok tt) (λ e. tt))) g.1 fits q k
      act_well l (i.SetAttribute class field x from) c ms g fits q k =
          both_well p typed code ls x from Integer g.0 ms g.2.0 c.store c.cells _ g.2.1 fits q (λ v w below hv hw h.
          change_on l (assigned_attribute class field v w c.store) g.2.0 below c (attribute_assigned_fine p typed ls class field g.0 v w c.store g.1 hv hw fits) g.2.2 h k)
      act_well l (i.ChangeAttribute sign class field x by) c ms g fits q k =
          both_well p typed code ls x by Integer Integer ms g.1.0 c.store c.cells _ g.1.1 fits q (λ v w below hv hw h.
          change_on l (changed_attribute sign class field v w c.store) g.1.0 below c (changed_fine sign class field v w c.store g.0 hv hw fits) g.1.2 h k)
      act_well l (i.Reset j of) c ms g fits q k =
          bearer_well p typed code ls of ms g.1.0 c.store c.cells _ g.1.1 fits q (λ o below e h.
          change_on l (reset j o c.store) g.1.0 below c (reset_fine p typed ls j o c.store (asked p typed ls j of o g.0 e) fits) g.1.2 h k)
      act_well l (i.Jump skip) c ms g fits q k = goes_to p typed code ls (c.place + 1 + skip) ms c.cells c.frames c.store g fits q k
      act_well l (i.Unless relation left right skip) c ms g fits q k =
          both_well p typed code ls left right g.0 g.0 ms g.1.0 c.store c.cells _ g.1.1 fits q (λ v w below hv hw h.
          fit_well p typed code Any (related relation v w) _ (related_there relation g.0 v w hv hw) (λ b e. ways_well p typed code ls skip b g.1.0 below c g.1.2 fits h k))
      act_well l (i.UnlessEnded negated skip) c ms g fits q k =
          did_well p typed code Any l (due (is_ended c.store.world.input)) _ (any_due (is_ended c.store.world.input)) (λ b e. ways_well p typed code ls skip (not_if negated b) ms c.cells c g fits q k)
      act_well l (i.UnlessEmpty negated set owner skip) c ms g fits q k =
          bearer_well p typed code ls owner ms g.1.0 c.store c.cells _ g.1.1 fits q (λ o below e h.
          did_well p typed code Any l (is_empty set o c.store) _ (is_empty_fine p typed ls set o c.store (owner_ok p typed ls set owner o g.0 e) fits) (λ b u. ways_well p typed code ls skip (not_if negated b) g.1.0 below c g.1.2 fits h k))
      act_well l (i.UnlessMember negated set x owner skip) c ms g fits q k =
          bearer_well p typed code ls owner ms g.1.0 c.store c.cells _ g.1.1 fits q (λ o above e a.
          value_well p typed code ls x Integer g.1.0 g.1.2.0 c.store above _ g.1.2.1 fits a (λ v below f h.
          did_well p typed code Any l (is_in set v o c.store) _ (is_in_fine p typed ls set v o c.store f (owner_ok p typed ls set owner o g.0 e) fits) (λ b u. ways_well p typed code ls skip (not_if negated b) g.1.2.0 below c g.1.2.2 fits h k)))
      act_well l i.Turn c ms g fits q k = goes_to p typed code ls (c.place + 1) ms c.cells c.frames c.store g fits q k
      act_well l (i.Repeat back) c ms g fits q k = goes_to p typed code ls (c.place - back) ms c.cells c.frames c.store g.at fits q k
      act_well l (i.Begin h skip) c ms g fits q k =
          loop_well p typed code h ms g.0 c.cells _ g.1 q (λ item limit step below a.
          did_well p typed code Any l (range_of (Whole item) (Whole limit) (Some (Whole step))) _ (range_of_fine (Whole item) (Whole limit) (Some (Whole step)) (λ z. Unit {0}) refl refl tt) (λ r u. ways_well p typed code ls skip (has_item item limit) ms c.cells c g.2 fits q k))
      act_well l (i.BeginClass class h skip) c ms g fits q k =
          height_well p typed code h c.cells _ (held_length c.cells ms q ∙ g.1)
          (did_well p typed code Any l (indices class c.store) _ (fit_fine Any (is_permanent (class_at class c.store)) (Ok (record { first = pos 1; limit = pos (made_count class c.store); step = pos 1 })) (permanent_here p typed ls c.store class fits g.0) tt) (λ r u.
          ways_well p typed code ls skip (has_item r.first r.limit) (Integer ∷ Integer ∷ Integer ∷ ms) (Whole r.step ∷ Whole r.limit ∷ Whole r.first ∷ c.cells) c g.2 fits (ap (λ l. Integer ∷ Integer ∷ Integer ∷ l) q) k))
      act_well l (i.Take h x) c ms g fits q k =
          fit_well p typed code (λ (v : Value). mode_of v ≡ Integer) (cell_at h c.cells) _ (cell_there h c.cells ms Integer q g.1) (λ v e.
          change_on l (assigned_variable x v c.store) ms c.cells c (variable_fine p typed ls true x Integer v c.store g.0.0 e fits) g.2 q k)
      act_well l (i.Next h back) c ms g fits q k =
          loop_well p typed code h ms g.0 c.cells _ g.1 q (λ item limit step below a. next_well back item limit step ms g.0 below c g.1.is g.2.0 g.2.1.at fits a k)
      act_well l (i.BeginSet reverse set owner h skip) c ms g fits q k =
          bearer_well p typed code ls owner ms g.1.0 c.store c.cells _ g.1.1 fits q (λ o below e a.
          let ok = owner_ok p typed ls set owner o g.0 e in
          height_well p typed code h below _ (held_length below g.1.0 a ∙ g.1.2.0)
          (begin_well l skip (if_ok (begun reverse set o c.store) (λ x. walk_at reverse set x c.store)) g.1.0 below c (begun_walk_fine reverse set (begun reverse set o c.store) c.store (outset_fine p typed ls reverse set o c.store ok fits) (set_of p typed ls set o ok) fits) g.1.2.1 fits a k))
      act_well l (i.BeginAt reverse after set owner h skip) c ms g fits q k =
          value_well p typed code ls (i.Taken h) Integer ms g.1.0 c.store c.cells _ g.1.1 fits q (λ y above e a.
          bearer_well p typed code ls owner g.1.0 g.1.2.0 c.store above _ g.1.2.1 fits a (λ o below f b.
          let ok = owner_ok p typed ls set owner o g.0 f in
          begin_well l skip (if_ok (begun_at reverse after set y o c.store) (λ x. walk_at reverse set x c.store)) g.1.2.0 below c (begun_walk_fine reverse set (begun_at reverse after set y o c.store) c.store (begun_at_fine p typed ls reverse after set y o c.store e ok fits) (set_of p typed ls set o ok) fits) g.1.2.2 fits b k))
      act_well l (i.NextMember reverse set owner h back) c ms g fits q k =
          walk_well p typed code h ms g.1.0 c.cells _ g.1.1 q (λ w above a.
          bearer_well p typed code ls owner g.1.0 g.1.2.0 c.store above _ g.1.2.1 fits a (λ o below e b.
          let ok = owner_ok p typed ls set owner o g.0 e in
          did_well p typed code Any l (if_ok (goes_on set w.next o c.store) (λ u. walk_at reverse set w.next c.store)) _
          (fine_then Any (goes_on set w.next o c.store) (λ u. walk_at reverse set w.next c.store) (goes_on_fine p typed ls set w.next o c.store ok fits) (λ u v. walk_fine reverse set w.next c.store (set_of p typed ls set o ok) fits)) (λ n u. further_well back w n g.1.2.0 below c g.1.2.2.0 g.1.2.2.1.at fits b k)))
      act_well l (i.Forget count) c ms g fits q k =
          fit_well p typed code (λ (b : TakenOff). AreOfModes b.below g.1) (take_off count c.cells []) _ (off_there g.0 g.1 count c.cells [] (q ∙ g.2) g.3) (λ b e.
          goes_to p typed code ls (c.place + 1) g.1 b.below c.frames c.store g.4 fits e k)
      act_well l (i.Call routine h) c ms g fits q k =
          subst (λ o. Well (fit o (λ (e : EntryPoint). with_block (length e.given) h c.cells (λ vs below. enter e (ARoutine routine) vs below c c.store)))) (sym g.1)
          (block_well p typed code (length g.0.given) h g.0.given ms g.2.0 c.cells _ g.2.1 refl q (λ vs below a b.
          enter_well g.0 (ARoutine routine) vs below g.2.0 c c.store a (shaped.routines routine g.0 g.1) fits g.2.2 b k))
      act_well l i.Leave c ms g fits q k = leave_well ls c.frames c fits k
      act_well l i.Halt c ms g fits q k = tt
      act_well l (i.Create class to) c ms g fits q k = give_with l to Integer ms ms (made_one class c.store) c.cells c g.1 (made_one_fine p typed ls class c.store g.0 fits) q k
      act_well l (i.CreateAll counted) c ms g fits q k = change_on l (made_all counted c.store) ms c.cells c (made_all_fine p typed ls counted c.store g.0 fits) g.1 q k
      act_well l (i.Destroy class x) c ms g fits q k =
          value_well p typed code ls x Integer ms g.1.0 c.store c.cells _ g.1.1 fits q (λ v below e h.
          change_on l (without class v c.store) g.1.0 below c (without_fine p typed ls class v c.store g.0 e fits) g.1.2 h k)
      act_well l (i.File filing set x owner) c ms g fits q k =
          bearer_well p typed code ls owner ms g.1.0 c.store c.cells _ g.1.1 fits q (λ o over e a.
          position_well p typed code ls filing g.1.0 g.1.2.0 c.store over _ g.1.2.1 fits a (λ f above ok b.
          value_well p typed code ls x Integer g.1.2.0 g.1.2.2.0 c.store above _ g.1.2.2.1 fits b (λ v below hv h.
          change_on l (filed_in f set v o c.store) g.1.2.2.0 below c (filed_in_fine p typed ls f set v o c.store ok hv (owner_ok p typed ls set owner o g.0 e) fits) g.1.2.2.2 h k)))
      act_well l (i.Remove set x owner) c ms g fits q k =
          bearer_well p typed code ls owner ms g.1.0 c.store c.cells _ g.1.1 fits q (λ o above e a.
          value_well p typed code ls x Integer g.1.0 g.1.2.0 c.store above _ g.1.2.1 fits a (λ v below hv h.
          change_on l (removed_from set v o c.store) g.1.2.0 below c (removed_from_fine p typed ls set v o c.store hv (owner_ok p typed ls set owner o g.0 e) fits) g.1.2.2 h k))
      act_well l (i.RemoveEnd which set owner to) c ms g fits q k =
          bearer_well p typed code ls owner ms g.1.0 c.store c.cells _ g.1.1 fits q (λ o below e h.
          give_with l to Integer ms g.1.0 (removed_at which set o c.store) below c g.1.2 (removed_at_fine p typed ls which set o c.store (owner_ok p typed ls set owner o g.0 e) fits) h k)
      act_well l (i.At time to) c ms g fits q k =
          value_well p typed code ls time Integer ms g.0 c.store c.cells _ g.1 fits q (λ v below e h. time_well l to ms g.0 (time_at (AtTime v) c.store) below c g.2 (time_at_fine p typed ls (AtTime v) c.store e) fits h k)
      act_well l (i.In units to) c ms g fits q k =
          value_well p typed code ls units Integer ms g.0 c.store c.cells _ g.1 fits q (λ v below e h. time_well l to ms g.0 (time_at (Later v) c.store) below c g.2 (time_at_fine p typed ls (Later v) c.store e) fits h k)
      act_well l (i.MakeNotice class h given to) c ms g fits q k =
          number_well p typed code ms g.0 c.cells _ g.2 q (λ time above a.
          block_well p typed code given h g.1 g.0 g.5.0 above _ g.5.1 (sym g.3) a (λ vs below hv b.
          give_with l to Integer ms (Integer ∷ g.5.0) (made_notice class vs time c.store) (Whole time ∷ below) c g.5.2 (made_notice_fine p typed ls class vs g.1 time c.store g.4.0 hv (fields_given class g.1 g.4) fits) (ap (λ l. Integer ∷ l) b) k))
      act_well l (i.FileNotice class x time) c ms g fits q k =
          both_well p typed code ls x time Integer Integer ms g.1.0 c.store c.cells _ g.1.1 fits q (λ v t below hv ht h.
          change_on l (if_ok (number_of t) (λ t. filed_notice class v t c.store)) g.1.0 below c
          (fine_then (IsFittingStore p ls) (number_of t) (λ t. filed_notice class v t c.store) (number_fine t ht) (λ z u. filed_notice_fine p typed ls class v z c.store g.0 hv fits)) g.1.2 h k)
      act_well l (i.Reschedule class x h given) c ms g fits q k =
          number_well p typed code ms g.0 c.cells _ g.2 q (λ time over a.
          block_well p typed code given h g.1 g.0 g.5.0 over _ g.5.1 (sym g.3) a (λ vs above hv b.
          value_well p typed code ls x Integer g.5.0 g.5.2.0 c.store above _ g.5.2.1 fits b (λ y below e d.
          change_on l (rescheduled class y vs time c.store) g.5.2.0 below c (rescheduled_fine p typed ls class y vs g.1 time c.store g.4.0 hv (fields_given class g.1 g.4) e fits) g.5.2.2 d k)))
      act_well l (i.Cancel class x) c ms g fits q k =
          value_well p typed code ls x Integer ms g.1.0 c.store c.cells _ g.1.1 fits q (λ v below e h.
          change_on l (unscheduled class v c.store) g.1.0 below c (unscheduled_fine p typed ls class v c.store g.0 e fits) g.1.2 h k)
      act_well l (i.Await skip) c ms g fits q k = ways_well p typed code ls skip (is_awaited c.store) ms c.cells c g fits q k
      act_well l (i.TakeEvent h) c ms g fits q k =
          next_event_well h ms c fits g.0 g.1 q k (next_event c.store) refl
      act_well l (i.NextEvent back) c ms g fits q k = back_well p typed code ls back (is_awaited c.store) ms c.cells c g.0 g.1.at fits q k
      act_well l (i.Read m to) c ms g fits q k =
          give_with l to m ms ms (read_value m c.store) c.cells c g
          (fine_turned (λ (b : Value × Store). (mode_of b.0 ≡ m) × IsFittingStore p ls b.1) (with_input c.store) (due (value_given m c.store.world.input)) (word_fine m c.store) (λ r e. (e, input_fits p typed ls true c.store r.rest fits))) q k
      act_well l (i.Print lines h) c ms g fits q k =
          subst (λ o. Well (fit o (λ x. print_lines x h c))) (sym g.1)
          (block_well p typed code (cells_of_kinds g.0.items) h g.2.0 ms g.2.2.0 c.cells _ g.2.2.1 (kinds_many p g.0.items g.2.0 g.2.1) q (λ vs below hv b.
          fit_well p typed code (AllZip IsOfKind g.0.items) (values_shown g.0.items vs c.store) _ (shown_there g.0.items g.2.0 vs c.store g.2.1 hv fits) (λ items e.
          fit_well p typed code Any (printed g.0.pictures items) _ (is_there (printed g.0.pictures items) (g.3 items e)) (λ bytes f. goes_to p typed code ls (c.place + 1) g.2.2.0 below c.frames c.store g.2.2.2 fits b k))))
      act_well l (i.Skip count) c ms g fits q k =
          value_well p typed code ls count Integer ms g.0 c.store c.cells _ g.1 fits q (λ v below e h.
          did_well p typed code Any l (empty_lines v) _ (empty_fine v e) (λ bytes u. goes_to p typed code ls (c.place + 1) g.0 below c.frames c.store g.2 fits h k))

  -- ## Steps

  abbrev StepWell : Stepped → Type 0
  StepWell (Goes t) = IsFitForCode p code t.core
  StepWell (Over e t) = Unit {0}
  StepWell NoStep = ⊥

  rest_well : (r : List ℕ) (t : ℕ) (m : Moved) → Well m → StepWell (with_rest r t m)
  rest_well r t (To c) h = h
  rest_well r t (Sends bytes c) h = h
  rest_well r t (Rest Done) h = tt
  rest_well r t (Rest (Breaks kind line)) h = tt
  rest_well r t Stuck h = absurd h

  due_well : (b : Bool) (r : List ℕ) (t : ℕ) (m : Moved) → Well m → StepWell (when_due b r t m)
  due_well false r t m h = rest_well r t m h
  due_well true r zero m h = tt
  due_well true r (suc t) m h = rest_well r t m h

  step_well : IsShaped p code → (s : MachineState) → IsFitForCode p code s.core → StepWell (step code s)
  step_well shaped s d =
      let x : Placed = d.placed in
      subst (λ o. StepWell (step_at o code s)) (sym d.fits.there)
      (due_well (is_due x.instruction) s.report s.ticks (act code x.line x.instruction s.core)
      (act_well x.locals shaped x.line x.instruction s.core x.cells (shaped.each s.core.place x d.fits.there) d.fits.store d.fits.cells d.fits.frames))

  -- and so does each state that is reached from one that suits its place
  steps_well : IsShaped p code → (m : ℕ) (s x : MachineState) → IsFitForCode p code s.core → steps code m s ≡ Underway x → IsFitForCode p code x.core
  steps_well shaped zero s x d e = let same : s ≡ x = cc in subst (λ (t : MachineState). IsFitForCode p code t.core) same d
  steps_well shaped (suc m) s x d e = by (step code s) (step_well shaped s d) (λ t h f. steps_well shaped m t x h f) e
    where
      by : (r : Stepped) → StepWell r → ((t : MachineState) → IsFitForCode p code t.core → steps code m t ≡ Underway x → IsFitForCode p code x.core) → after_one_step r s (steps code m) ≡ Underway x → IsFitForCode p code x.core
      by (Goes t) h again f = again t h f
      by (Over j t) h again f = absurd cc
      by NoStep h again f = absurd cc

pub shape_stays : ShapeStays
shape_stays p typed s t d e = subst (StepWell p typed (code_of p)) e (step_well p typed (code_of p) (has_shape p typed) s d)

pub states_suit : StatesSuit
states_suit p typed input n m x e =
    let code : Code = code_of p in
    let shaped : IsShaped p code = has_shape p typed in
    let first : IsFitForCode p code (start code input n).core = goes_to p typed code p.locals 0 [] [] [] (start code input n).core.store shaped.first (first_fits p input) refl tt in
    steps_well p typed code shaped m (start code input n) x first e

-- the machine is stuck in no state that suits its place
pub fits_goes : (p : Program) → IsWellTyped p → (s : MachineState) → IsFitForCode p (code_of p) s.core → step (code_of p) s ≡ NoStep → ⊥
fits_goes p typed s d e = subst (StepWell p typed (code_of p)) e (step_well p typed (code_of p) (has_shape p typed) s d)

pub never_stuck : NeverStuck
never_stuck p typed input n m x e q = fits_goes p typed x (states_suit p typed input n m x e) q
