-- An event begins: the notice that comes next is taken out, and let go.
use Rattle.std.proofs.Common.{◌≡◌, ℕ, zero, suc, ◌+◌, ◌<◌, ◌≤◌, ◌^◌, ℤ, Bool, true, false, List, [], ◌∷◌, get_or, length, Option, Some, None, Ok, Err, refl, sym, ap, ◌∙◌, arith}
use Rattle.ss_machine_notices.proofs.Common.{act, class_of_record, ComingAs, eqb-true, FaultKind, HasLetGo, HasLetGoThen, HasReceived, Here, IsNextEvent, IsNextNotice, least_event, living, Mode, next_event_there, none-some, notices_seen, one, one_tick_at, Seen, seen_is, slice_get_read, State, take_next, TakeEvent, There, Whole, with_seen, WrongClass}
use Rattle.std.specs.Prelude.{◌==◌, if◌then◌else◌, pos, negsuc, IfSome, is_some, slice_get, Result as OkOr}
use Rattle.ss_code_instructions.specs.States.{Core, To, core_at}
use Rattle.ss_machine_instructions.proofs.Placing.{located, site, goes_with}
use Rattle.ss_machine_instructions.specs.Doing.{Compiled, HasOneTick, IsReadyFor, IsHeld}
use Rattle.ss_meaning.specs.Store.{Notices, Store, World}
use Rattle.ss_world.specs.State.{and_then, kind_of, Record, State as Heap, issued_record, is_notice, of_notice, notice}
use Rattle.ss_meaning.specs.Events.{Ranked, ranked_from, ranked, Coming, at_event, ranked_as, coming_as, coming_with, is_awaited, next_event}
use Rattle.ss_machine_frames.proofs.Writing.{cells_held}
use Rattle.ss_machine_instructions.specs.Ways.{at_place, on_at}

-- what is read at a rank is what the program says there
pub read_said : (es ns : List Notices) (rank : ℕ) (d said : Notices) → es ≡ ns → rank < length ns → d ≡ get_or es rank d → slice_get ns rank ≡ Some said → d ≡ said
read_said es ns rank d said same lt read here =
    one (sym (slice_get_read es (length es) rank d refl (omega (arith, lt, ap length same)) read) ∙ ap (λ ns. slice_get ns rank) same ∙ here)

-- ## Letting a notice go

-- no tick is taken or given back
pub lets_go_keeps : (saved : Option ℕ) (class : ℕ) (n : ℤ) (old new : State) (r : OkOr (Unit {0}) FaultKind) → HasLetGo saved class n old new r → (new.ticks ≡ old.ticks) × (new.steps ≡ old.steps)
lets_go_keeps (Some k) class n old new r d = (ap (λ (s : State). s.ticks) d.1, ap (λ (s : State). s.steps) d.1)
lets_go_keeps None class n old new r d = (ap (λ (s : State). s.ticks) d.1, ap (λ (s : State). s.steps) d.1)

-- after a fault the world is as it was
pub lets_go_not : (saved : Option ℕ) (class : ℕ) (n : ℤ) (old new : State) (kind : FaultKind) → HasLetGo saved class n old new (Err kind) → new.world ≡ old.world
lets_go_not (Some k) class n old new kind d = d.0.1
lets_go_not None class n old new kind d = d.0.1

pub receives_not : (said : Notices) (class : ℕ) (n : ℤ) (modes : List Mode) (from : ℕ) (old new : State) (kind : FaultKind) → HasReceived said class n modes from old new (Err kind) → new.world ≡ old.world
receives_not said class n modes from old new kind v = by v.read v.lets_go
  where
    by : (q : OkOr (Unit {0}) FaultKind) → HasLetGoThen said class n (record old { rows = v.rows }) new q (Err kind) → new.world ≡ old.world
    by (Ok u) d = lets_go_not said.saved class n (record old { rows = v.rows }) new kind d
    by (Err k) d = ap (λ (s : State). s.world) d.1

-- a variable that lies below a place lies within the rows that reach as far
pub saved_within : (saved : Option ℕ) (from long : ℕ) → from ≤ long → IfSome saved (λ k. k < from) → IfSome saved (λ k. k < long)
saved_within (Some k) from long le lt = omega (arith, le, lt)
saved_within None from long le lt = lt

-- ## The notice that comes next

-- what comes next in the definition
pub record NextIs (s : Store) (coming : Coming) : Type 0 where
  pub time : ℤ
  pub number : ℤ
  pub entry : Record
  pub first : least_event s.world.pending ≡ Some (time, number)
  pub there : notice s.world.heap number ≡ Ok entry
  pub place : ranked entry.class s ≡ Some coming.ranked
  pub names : coming.notice ≡ Whole number
  pub store : coming.store ≡ at_event time s

pub next_is : (s : Store) (coming : Coming) → next_event s ≡ Some coming → NextIs s coming
next_is s coming e = by (least_event s.world.pending) refl e
  where
    with_rank : (t x : ℤ) (r : Record) → least_event s.world.pending ≡ Some (t, x) → notice s.world.heap x ≡ Ok r → (o : Option Ranked) → ranked r.class s ≡ o → coming_as o t x s ≡ Some coming → NextIs s coming
    with_rank t x r first there None q e = absurd cc
    with_rank t x r first there (Some k) q e =
        let c : Coming = record { ranked = k; notice = Whole x; store = at_event t s } in
        let same : c ≡ coming = cc in
        record {
          time = t;
          number = x;
          entry = r;
          first = first;
          there = there;
          place = q ∙ ap (λ (c : Coming). Some c.ranked) same;
          names = sym (ap (λ (c : Coming). c.notice) same);
          store = sym (ap (λ (c : Coming). c.store) same);
        }

    with_notice : (t x : ℤ) → least_event s.world.pending ≡ Some (t, x) → (o : OkOr Record FaultKind) → notice s.world.heap x ≡ o → coming_as (ranked_as o s) t x s ≡ Some coming → NextIs s coming
    with_notice t x first (Ok r) q e = with_rank t x r first q (ranked r.class s) refl e
    with_notice t x first (Err k) q e = absurd cc

    by : (o : Option (ℤ × ℤ)) → least_event s.world.pending ≡ o → coming_with o s ≡ Some coming → NextIs s coming
    by None q e = absurd cc
    by (Some n) q e = with_notice n.0 n.1 q (notice s.world.heap n.1) refl e

-- a class has its own entry among those of notices
pub ranked_class : (k : ℕ) (es : List Notices) (class : ℕ) (r : Ranked) → ranked_from k es class ≡ Some r → r.said.class ≡ class
ranked_class k [] class r e = absurd cc
ranked_class k (n ∷ es) class r e = by (n.class == class) refl e (ranked_class (k + 1) es class r)
  where
    by : (b : Bool) → (n.class == class) ≡ b → (if b then Some (record { rank = k; said = n }) else ranked_from (k + 1) es class) ≡ Some r → (ranked_from (k + 1) es class ≡ Some r → r.said.class ≡ class) → r.said.class ≡ class
    by true q e later =
        let here : Ranked = record { rank = k; said = n } in
        let same : here ≡ r = cc in
        sym (ap (λ (r : Ranked). r.said.class) same) ∙ eqb-true n.class class q
    by false q e later = later e

-- a record that a notice has says its class
pub record_living : (h : Heap) (x : ℤ) (r : Record) → notice h x ≡ Ok r → living h x ≡ Some r.class
record_living h (pos zero) r e = absurd cc
record_living h (negsuc k) r e = absurd cc
record_living h (pos (suc i)) r e = by (slice_get h.records i) e
  where
    kind_test : (b : Bool) (q : Record) → (if b then Ok q else Err WrongClass) ≡ Ok r → q ≡ r
    kind_test true q e = cc
    kind_test false q e = absurd cc

    by : (o : Option (Option Record)) → and_then (issued_record o) (of_notice h.layout) ≡ Ok r → class_of_record o ≡ Some r.class
    by None e = absurd cc
    by (Some None) e = absurd cc
    by (Some (Some q)) e = ap (λ (q : Record). Some q.class) (kind_test (is_notice (kind_of h.layout q.class)) q e)

module _ (w : Compiled) (c : Core) (here : Here) (s : State) (cell : ℕ) (r : IsReadyFor w c here s (TakeEvent cell)) where
  -- what the definition does, where a notice is pending
  pub comes_next : is_awaited c.store ≡ true → (coming : Coming) × (next_event c.store ≡ Some coming)
  comes_next there = by (next_event c.store) refl (next_event_there w.program r.compiled.typed r.placed.locals c.store there r.fits.store)
    where
      by : (o : Option Coming) → next_event c.store ≡ o → There (ComingAs w.program r.compiled.typed r.placed.locals) o → (coming : Coming) × (next_event c.store ≡ Some coming)
      by (Some coming) q h = (coming, q)
      by None q h = absurd h

  pub awaits : (e : Seen) (x : ℤ) → IsNextNotice s.world e (Some x) → is_awaited c.store ≡ true
  awaits e x d = ap (λ (y : World). is_some (least_event y.pending)) r.holds.world ∙ ap is_some d.0

  -- where none is pending it goes on
  pub goes_past : (t : ℕ) (new : State) (result : Option Here) → least_event s.world.pending ≡ None → new ≡ record s { ticks = t } → result ≡ on_at here → HasOneTick t w r.placed.line (act w.code r.placed.line r.placed.instruction c) s new result
  goes_past t new result none same way =
      let m = act w.code r.placed.line r.placed.instruction c in
      let l = r.placed.line in
      let s' : State = record s { ticks = t } in
      let there : Here = record { place = c.place + 1; frame = here.frame } in
      let c' = core_at (c.place + 1) c.cells c.frames c.store in
      let nothing : next_event c.store ≡ None = ap (λ o. coming_with o c.store) (ap (λ (x : World). least_event x.pending) r.holds.world ∙ none) in
      let acts : m ≡ To c' = ap (λ x. act w.code l x c) r.runs.carries.2 ∙ ap (λ o. take_next w.code r.runs.carries.0 o c) nothing in
      let h = goes_with w c here s (TakeEvent cell) r (c.place + 1) c.cells (cells_held (site w c here s (TakeEvent cell) r) (located w c here s (TakeEvent cell) r) (c.place + 1) c.cells r.holds.held.cells) in
      let holds : IsHeld w c' there s' = record { place = h.place; held = h.held; world = h.world; even = h.even; line = h.line } in
      let on : result ≡ Some there = way ∙ ap (λ p. at_place here (p + 1)) r.holds.place in
      one_tick_at t w l m s s' new (Some there) result (c', acts, holds) refl refl same on

  -- which lives
  pub lives_as : (e : Seen) (x : ℤ) → IsNextNotice s.world e (Some x) → living e.heap x ≡ None → ⊥
  lives_as e x d none =
      let a = comes_next (awaits e x d) in
      let n = next_is c.store a.0 a.1 in
      let first : Some (n.time, n.number) ≡ Some (e.time, x) = sym n.first ∙ ap (λ (y : World). least_event y.pending) r.holds.world ∙ d.0 in
      let number : n.number ≡ x = ap (λ (p : ℤ × ℤ). p.1) (one first) in
      let there = record_living c.store.world.heap n.number n.entry n.there in
      let heap : c.store.world.heap ≡ e.heap = ap (λ (y : World). y.heap) r.holds.world ∙ sym (ap (λ (t : Seen). t.heap) d.1) in
      none-some n.entry.class (sym (sym there ∙ ap (λ h. living h n.number) heap ∙ ap (living e.heap) number ∙ none))

  -- the machine took it out
  abbrev pub next_taken : (t : ℕ) (e : Seen) (x : ℤ) (class : ℕ) → s.ticks ≡ suc t → s.ticks < 2 ^ 64 → IsNextNotice s.world e (Some x) → living e.heap x ≡ Some class → IsNextEvent w c here (record s { ticks = t; world = e }) cell x class
  next_taken t e x class some few d lives =
      let a = comes_next (awaits e x d) in
      let n = next_is c.store a.0 a.1 in
      let first : Some (n.time, n.number) ≡ Some (e.time, x) = sym n.first ∙ ap (λ (y : World). least_event y.pending) r.holds.world ∙ d.0 in
      let pair : (n.time, n.number) ≡ (e.time, x) = one first in
      let number : n.number ≡ x = ap (λ (p : ℤ × ℤ). p.1) pair in
      let time : n.time ≡ e.time = ap (λ (p : ℤ × ℤ). p.0) pair in
      let heap : c.store.world.heap ≡ e.heap = ap (λ (y : World). y.heap) r.holds.world ∙ sym (ap (λ (t : Seen). t.heap) d.1) in
      let there : Some n.entry.class ≡ Some class = sym (record_living c.store.world.heap n.number n.entry n.there) ∙ ap (λ h. living h n.number) heap ∙ ap (living e.heap) number ∙ lives in
      let of : n.entry.class ≡ class = one there in
      record {
        before = s;
        ready = r;
        left = some;
        few = few;
        is = refl;
        coming = a.0;
        next = a.1;
        number = n.names ∙ ap Whole number;
        of = ranked_class 0 c.store.world.setting.notices n.entry.class a.0.ranked n.place ∙ of;
        store =
            n.store
            ∙ ap (λ z. at_event z c.store) time
            ∙ ap (at_event e.time) (seen_is w c here s (TakeEvent cell) r)
            ∙ ap (with_seen c.store) (sym d.1);
        place =
            ap (λ es. ranked_from 0 es class) (ap (λ (t : Seen). t.notices) d.1 ∙ sym (notices_seen w c here s (TakeEvent cell) r))
            ∙ ap (ranked_from 0 c.store.world.setting.notices) (sym of)
            ∙ n.place;
        lives = lives;
      }
