-- What is known where an event begins: its rank, its entry, and its notice.
use Rattle.std.proofs.Common.{◌≡◌, ℕ, zero, suc, ◌+◌, ◌<◌, ◌≤◌, ◌^◌, ℤ, true, List, [], ◌∷◌, get_or, length, Option, Some, None, refl, sym, ap, ◌∙◌, subst, arith}
use Rattle.ss_machine_notices.proofs.Common.{class_said, comes_singly, Coming, coming_with, Compiled, Core, EntryPoint, field_said, frame_small, HasField, Here, IfSome, Integer, is_single, is_some, IsFittingStore, IsNextEvent, least_event, located, Mode, mode_of, Notice, Notices, one, SectionEntry, Seen, site, slice_get, slice_get_read, slice_get_within, State, Store, TakeEvent, There, Value, with_seen}
use Rattle.ss_machine_frames.proofs.Reading.{hold_length, above_constants, found_in}
use Rattle.ss_program.specs.Program.{Program, Event}
use Rattle.ss_program.specs.WellTyped.{field_mode, kind_of_class, IsTypedEvent, IsPlain}
use Rattle.ss_world.specs.State.{kind_of, modes_of, kind_in}
use Rattle.ss_program.specs.declared.expression.Variable.TheVariants.{Global}
use Rattle.ss_meaning.specs.Meaning.{said_of}
use Rattle.ss_meaning.proofs.Events.{ComingAs, fields_are, next_event_there}
use Rattle.ss_meaning.proofs.Lists.{every_get}
use Rattle.ss_code_instructions.specs.Machine.{Code}
use Rattle.ss_code_instructions.specs.Translation.{main_code, all_routines, prints_before_events, event_entry, event_entries, event_code, block_prints}
use Rattle.ss_machine_notices.specs.Beginning.{CanLetGo}
use Rattle.ss_machine_notices.proofs.Beginning.{saved_within}
use Rattle.ss_machine_events.proofs.Filing.{said_there}
use Rattle.ss_machine_instructions.proofs.Calling.{HasEntry, has_entry}

-- an event has its entry
pub event_entered : (p : Program) (at first : ℕ) (es : List Event) (r : ℕ) (e : Event) → slice_get es r ≡ Some e → (place : ℕ) × (slice_get (event_entries p at first es) r ≡ Some (event_entry place e))
event_entered p at first [] r e q = absurd cc
event_entered p at first (x ∷ es) zero e q = let same : x ≡ e = cc in (at, ap (λ e. Some (event_entry at e)) same)
event_entered p at first (x ∷ es) (suc r) e q = event_entered p (at + length (event_code p first x)) (first + length (block_prints x.body)) es r e q

awaited : (o : Option (ℤ × ℤ)) (s : Store) (c : Coming) → coming_with o s ≡ Some c → is_some o ≡ true
awaited None s c e = absurd cc
awaited (Some n) s c e = refl

module _ (w : Compiled) (c : Core) (here : Here) (s : State) (cell : ℕ) (x : ℤ) (class : ℕ) (n : IsNextEvent w c here s cell x class) where
  -- what the definition knows of it
  pub known : ComingAs w.program n.ready.compiled.typed n.ready.placed.locals n.coming
  known =
      subst (There (ComingAs w.program n.ready.compiled.typed n.ready.placed.locals)) n.next
      (next_event_there w.program n.ready.compiled.typed n.ready.placed.locals c.store (awaited (least_event c.store.world.pending) c.store n.coming n.next) n.ready.fits.store)

  abbrev pub event : Event
  event = known.ranked.event

  pub good : IsTypedEvent w.program event
  good = every_get (IsTypedEvent w.program) w.program.events n.coming.ranked.rank event n.ready.compiled.typed.events known.ranked.there

  pub said_is : n.coming.ranked.said ≡ said_of event
  said_is = known.ranked.said

  class_is : event.class ≡ class
  class_is = sym (ap (λ (m : Notices). m.class) said_is) ∙ n.of

  pub fits_now : IsFittingStore w.program n.ready.placed.locals (with_seen c.store s.world)
  fits_now = subst (IsFittingStore w.program n.ready.placed.locals) n.store known.fits

  kind : kind_of_class w.program class ≡ Some Notice
  kind = subst (λ k. kind_of_class w.program k ≡ Some Notice) class_is good.notice

  pub begun_class : class < length s.world.heap.layout.classes
  begun_class =
      let d = class_said w.program class Notice kind in
      slice_get_within s.world.heap.layout.classes class d.0 (ap (λ l. slice_get l.classes class) fits_now.sound.world.layout ∙ d.1)

  pub begun_single : is_single (slice_get s.world.heap.layout.classes class) ≡ true
  begun_single =
      let d = class_said w.program class Notice kind in
      ap (λ l. is_single (slice_get l.classes class)) fits_now.sound.world.layout ∙ ap is_single d.1 ∙ ap comes_singly d.2

  -- its rank
  pub begun_said : slice_get s.world.notices n.coming.ranked.rank ≡ Some n.coming.ranked.said
  begun_said = said_there s.world.notices class n.coming.ranked n.place

  pub begun_rank : n.coming.ranked.rank < length s.world.notices
  begun_rank = slice_get_within s.world.notices n.coming.ranked.rank n.coming.ranked.said begun_said

  -- its entry
  abbrev pub entry_point : EntryPoint
  entry_point = event_entry (event_entered w.program (length (main_code w.program) + length (all_routines w.program)) (prints_before_events w.program) w.program.events n.coming.ranked.rank event known.ranked.there).0 event

  -- which is that of the definition
  pub code_entry : slice_get w.code.events n.coming.ranked.rank ≡ Some entry_point
  code_entry =
      ap (λ (code : Code). slice_get code.events n.coming.ranked.rank) n.ready.compiled.code
      ∙ (event_entered w.program (length (main_code w.program) + length (all_routines w.program)) (prints_before_events w.program) w.program.events n.coming.ranked.rank event known.ranked.there).1

  pub begun_entry : HasEntry w.run.depth n.coming.ranked.rank entry_point w.run.events
  begun_entry =
      has_entry w.run.depth n.coming.ranked.rank w.code.events w.run.events entry_point n.ready.compiled.run.events code_entry

  pub begun_entry_within : n.coming.ranked.rank < length w.run.events
  begun_entry_within = slice_get_within w.run.events n.coming.ranked.rank begun_entry.run begun_entry.there

  -- the entry that is read is that of its rank
  pub entry_read : (es : List SectionEntry) (k : ℕ) (d : SectionEntry) → es ≡ w.run.events → k ≡ n.coming.ranked.rank → d ≡ get_or es k d → slice_get w.run.events n.coming.ranked.rank ≡ Some d
  entry_read es k d all rank read =
      let within : k < length es = omega (arith, rank, begun_entry_within, ap length all) in
      ap (slice_get w.run.events) (sym rank) ∙ ap (λ (l : List SectionEntry). slice_get l k) (sym all) ∙ slice_get_read es (length es) k d refl within read

  -- what its routine is given are its first attributes
  pub begun_modes : (i : ℕ) (m : Mode) → slice_get event.given i ≡ Some m → slice_get (modes_of s.world.heap.layout class) i ≡ Some m
  begun_modes i m e =
      let none_on : 0 + i ≡ i = omega arith in
      let field : field_mode w.program event.class i ≡ Some m = subst (λ j. field_mode w.program event.class j ≡ Some m) none_on (fields_are w.program n.ready.compiled.typed n.ready.placed.locals event.class (length event.given) good.modes good.fields i m (ap (λ ms. slice_get ms i) (sym good.given) ∙ e)) in
      let there : HasField w.program event.class i m = field_said w.program event.class i m field in
      ap (λ l. slice_get (modes_of l class) i) fits_now.sound.world.layout ∙ ap (λ k. slice_get (modes_of w.program.layout k) i) (sym class_is) ∙ there.field

  -- the variable that the notice is saved in lies below the frame
  pub begun_saved : IfSome n.coming.ranked.said.saved (λ k. k < here.frame)
  begun_saved = subst (λ o. IfSome o (λ k. k < here.frame)) (sym (ap (λ (m : Notices). m.saved) said_is)) (by event.saved good.saved)
    where
      globals_long : length c.store.globals ≡ length w.program.globals
      globals_long = hold_length c.store.globals w.program.globals n.ready.fits.store.sound.globals

      by : (o : Option ℕ) → IfSome o (λ k. (slice_get w.program.globals k ≡ Some Integer) × IsPlain w.program (Global k)) → IfSome o (λ k. k < here.frame)
      by None h = h
      by (Some k) h =
          let lt = slice_get_within w.program.globals k Integer h.0 in
          omega (arith, lt, globals_long, above_constants (site w c here n.before (TakeEvent cell) n.ready) (located w c here n.before (TakeEvent cell) n.ready))

  -- it can be let go in a world that is the same, with rows that reach as far as the frame
  pub can_let_go : (e : Seen) (k limit : ℕ) → e ≡ s.world → k ≡ n.coming.ranked.rank → here.frame ≤ limit → CanLetGo e k class limit
  can_let_go e k limit same rank le =
      subst (λ (e : Seen). CanLetGo e k class limit) (sym same) (subst (λ (k : ℕ). CanLetGo s.world k class limit) (sym rank) (record {
        rank = begun_rank;
        class = begun_class;
        single = begun_single;
        saved = λ said at. saved_within said.saved here.frame limit le (subst (λ (m : Notices). IfSome m.saved (λ k. k < here.frame)) (one (sym begun_said ∙ at)) begun_saved);
      }))

  -- it holds a number
  pub begun_saving : IfSome n.coming.ranked.said.saved (λ k. (old : Value) × (slice_get c.store.globals k ≡ Some old) × (mode_of old ≡ Integer))
  begun_saving = subst (λ o. IfSome o (λ k. (old : Value) × (slice_get c.store.globals k ≡ Some old) × (mode_of old ≡ Integer))) (sym (ap (λ (m : Notices). m.saved) said_is)) (by event.saved good.saved)
    where
      by : (o : Option ℕ) → IfSome o (λ k. (slice_get w.program.globals k ≡ Some Integer) × IsPlain w.program (Global k)) → IfSome o (λ k. (old : Value) × (slice_get c.store.globals k ≡ Some old) × (mode_of old ≡ Integer))
      by None h = h
      by (Some k) h = let f = found_in c.store.globals k Integer (ap (λ ms. slice_get ms k) n.ready.fits.store.sound.globals ∙ h.0) in (f.value, f.there, f.mode)

  -- the class is one of notices
  pub begun_kind : kind_of s.world.heap.layout class ≡ Notice
  begun_kind =
      let d = class_said w.program class Notice kind in
      ap (λ l. kind_in (slice_get l.classes class)) fits_now.sound.world.layout ∙ ap kind_in d.1 ∙ d.2

  -- the frame begins where a row can reach; and the rows are those of the state before, and reach beyond its beginning
  pub begun_frame : here.frame < 2 ^ 63
  begun_frame = frame_small w c here n.before (TakeEvent cell) n.ready

  pub frame_within : here.frame ≤ length s.rows.numbers
  frame_within = subst (λ (t : State). here.frame ≤ length t.rows.numbers) (sym n.is) (omega (arith, n.ready.holds.held.room))
