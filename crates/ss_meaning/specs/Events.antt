-- Time and notices: scheduling, cancelling, and what begins with the notice that comes next.
use Rattle.std.specs.Prelude.{ℕ, zero, suc, ◌+◌, ◌==◌, Bool, List, [], ◌∷◌, ℤ, int_lt, Option, Some, None, is_some, Result, Ok, Err, if◌then◌else◌}
use Rattle.ss_base.specs.declared.fault.FaultKind.{FaultKind}
use Rattle.ss_base.specs.declared.fault.FaultKind.TheVariants.{AlreadyScheduled, PastTime}
use Rattle.ss_base.specs.declared.value.Value.{Value}
use Rattle.ss_base.specs.declared.value.Value.TheVariants.{Whole}
use Rattle.ss_base.specs.declared.layout.RankKey.{RankKey}
use Rattle.ss_base.specs.Arithmetic.{plus_of}
use Rattle.ss_world.specs.State.{Record, notice, timed}
use Rattle.ss_world.specs.declared.ties.Tie.{Tie}
use Rattle.ss_world.specs.PendingList.{is_pending, scheduled, cancelled, least_event, after_next}
use Rattle.ss_program.specs.declared.expression.Variable.TheVariants.{Global}
use Rattle.ss_meaning.specs.Values.{Failure, if_ok, turned, due, sure, unless_fault, number_of}
use Rattle.ss_meaning.specs.Store.{Notices, Store, with_heap, with_pending}
use Rattle.ss_meaning.specs.Entities.{entity, attribute, made_one, gone}
use Rattle.ss_meaning.specs.Places.{assigned_variable, assigned_attribute}

-- ## Time

-- TIME.V
abbrev pub clock : Store → Value
clock s = Whole s.world.time

-- the time for which a notice is scheduled: a time, so many units from now, or now
pub data Moment : Type 0 where
  AtTime : Value → Moment
  Later : Value → Moment
  AtOnce : Moment

-- a time that is not before TIME.V; one before it is the fault PAST TIME
abbrev pub not_past : ℤ → Store → Result ℤ Failure
not_past t s = unless_fault (int_lt t s.world.time) PastTime (Ok t)

abbrev pub time_at : Moment → Store → Result ℤ Failure
time_at (AtTime v) s = if_ok (number_of v) (λ t. not_past t s)
time_at (Later v) s = if_ok (number_of v) (λ t. if_ok (due (plus_of s.world.time t)) (λ t. not_past t s))
time_at AtOnce s = Ok s.world.time

-- ## Scheduling

-- the attributes from a number on are assigned values in turn
abbrev pub endowed : (class field : ℕ) → (x : Value) → List Value → Store → Result Store Failure
endowed class field x [] s = Ok s
endowed class field x (v ∷ vs) s = if_ok (assigned_attribute class field x v s) (endowed class (field + 1) x vs)

-- the store once TIME.A of a notice is set
abbrev pub with_notice_time : (x : Value) → (time : ℤ) → Store → Result Store Failure
with_notice_time x t s = if_ok (number_of x) (λ n. turned (with_heap s) (due (timed s.world.heap n t)))

-- a notice gets values as its first attributes, and its time
abbrev pub prepared : (class : ℕ) → (x : Value) → List Value → (time : ℤ) → Store → Result Store Failure
prepared class x given t s = if_ok (endowed class 0 x given s) (with_notice_time x t)

-- a new notice, and the store with it
abbrev pub made_notice : (class : ℕ) → List Value → (time : ℤ) → Store → Result (Value × Store) Failure
made_notice class given t s = if_ok (made_one class s) (λ b. turned (λ r. (b.0, r)) (prepared class b.0 given t b.1))

-- the place of a class among those of notices, and what the program says of it
pub record Ranked : Type 0 where
  pub rank : ℕ
  pub said : Notices

abbrev pub ranked_from : (rank : ℕ) → List Notices → (class : ℕ) → Option Ranked
ranked_from rank [] class = None
ranked_from rank (e ∷ es) class =
    if e.class == class then Some (record { rank = rank; said = e }) else ranked_from (rank + 1) es class

abbrev pub ranked : (class : ℕ) → Store → Option Ranked
ranked class s = ranked_from 0 s.world.setting.notices class

-- the values that attributes have now, as ties
abbrev pub ties_of : (class : ℕ) → (x : Value) → Store → List RankKey → Result (List Tie) Failure
ties_of class x s [] = Ok []
ties_of class x s (key ∷ keys) =
    if_ok (attribute class key.field x s) (λ v. turned (λ ts. record { value = v; high = key.high } ∷ ts) (ties_of class x s keys))

-- the store once a notice is filed among those that are pending, by its time, which is not past, the rank of its class, and the values of its attributes
abbrev pub filed_notice : (class : ℕ) → (x : Value) → (time : ℤ) → Store → Result Store Failure
filed_notice class x t s =
    if_ok (entity class x s) (λ n. if_ok (sure (ranked class s)) (λ r. if_ok (ties_of class x s r.said.ties) (λ ties.
    unless_fault (int_lt t s.world.time) PastTime (turned (with_pending s) (due (scheduled (record { time = t; rank = r.rank; ties = ties }) n s.world.pending))))))

-- the store once a notice that there is was scheduled, with values for its first attributes
abbrev pub rescheduled : (class : ℕ) → (x : Value) → List Value → (time : ℤ) → Store → Result Store Failure
rescheduled class x given t s =
    if_ok (entity class x s) (λ n. unless_fault (is_pending n s.world.pending.entries) AlreadyScheduled
    (if_ok (prepared class x given t s) (filed_notice class x t)))

-- the store once a notice is pending no longer; it stays, and so does its TIME.A
abbrev pub unscheduled : (class : ℕ) → (x : Value) → Store → Result Store Failure
unscheduled class x s = if_ok (entity class x s) (λ n. turned (with_pending s) (due (cancelled n s.world.pending)))

-- ## Events

-- whether a notice is pending
abbrev pub is_awaited : Store → Bool
is_awaited s = is_some (least_event s.world.pending)

-- an event as it begins: the rank of its class, the values that its routine takes, and the store
pub record Beginning : Type 0 where
  pub rank : ℕ
  pub given : List Value
  pub store : Store

-- the values of so many attributes from a number on
abbrev pub attributes_given : (class field count : ℕ) → (x : Value) → Store → Result (List Value) Failure
attributes_given class field zero x s = Ok []
attributes_given class field (suc k) x s =
    if_ok (attribute class field x s) (λ v. turned (λ vs. v ∷ vs) (attributes_given class (field + 1) k x s))

-- a notice is saved in a global variable, or it is destroyed
abbrev pub saved_or_gone : Option ℕ → (class : ℕ) → (x : Value) → Store → Result Store Failure
saved_or_gone (Some k) class x s = assigned_variable (Global k) x s
saved_or_gone None class x s = gone class x s

-- what comes next: what the program says of its class, the notice, and the store once it was taken out and TIME.V is its time
pub record Coming : Type 0 where
  pub ranked : Ranked
  pub notice : Value
  pub store : Store

abbrev pub at_event : (time : ℤ) → Store → Store
at_event t s = record s { world = record s.world { time = t; pending = after_next s.world.pending } }

-- the class of a notice
abbrev pub ranked_as : Result Record FaultKind → Store → Option Ranked
ranked_as (Ok r) s = ranked r.class s
ranked_as (Err kind) s = None

abbrev pub coming_as : Option Ranked → (time notice : ℤ) → Store → Option Coming
coming_as None t x s = None
coming_as (Some r) t x s = Some (record { ranked = r; notice = Whole x; store = at_event t s })

abbrev pub coming_with : Option (ℤ × ℤ) → Store → Option Coming
coming_with None s = None
coming_with (Some n) s = coming_as (ranked_as (notice s.world.heap n.1) s) n.0 n.1 s

abbrev pub next_event : Store → Option Coming
next_event s = coming_with (least_event s.world.pending) s

-- an event begins
abbrev pub event_begun : Coming → Result Beginning Failure
event_begun c =
    if_ok (attributes_given c.ranked.said.class 0 c.ranked.said.given c.notice c.store) (λ vs.
    turned (λ t. record { rank = c.ranked.rank; given = vs; store = t })
    (saved_or_gone c.ranked.said.saved c.ranked.said.class c.notice c.store))
