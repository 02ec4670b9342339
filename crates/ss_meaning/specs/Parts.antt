-- Parts of a program: each does something to the run state, and goes on with a value or is left; and ticks, which bound them.
use Rattle.std.specs.Prelude.{ℕ, zero, suc, Bool, true, false, List, ◌++◌, Option, Some, None, Result, Ok, Err}
use Rattle.ss_base.specs.declared.line.Line.{Line}
use Rattle.ss_base.specs.declared.fault.FaultKind.{FaultKind}
use Rattle.ss_base.specs.declared.value.Value.{Value}
use Rattle.ss_meaning.specs.Values.{Failure, Fails, TypeError}
use Rattle.ss_meaning.specs.Store.{Store}
use Rattle.ss_meaning.specs.Places.{Spot, written}

-- the store, the report so far, and the ticks that are left
pub record RunState : Type 0 where
  pub store : Store
  pub report : List ℕ
  pub ticks : ℕ

-- why a part is left before its end; Wrong where something does not fit, which happens in no well-typed program
pub data Exit : Type 0 where
  Returned : Exit
  Stopped : Exit
  Faulted : (kind : FaultKind) (line : Line) → Exit
  OutOfTicks : Exit
  Wrong : Exit

-- a part goes on with a value, or is left
pub data Outcome (A : Type 0) : Type 0 where
  WentOn : A → RunState → Outcome A
  Left : Exit → RunState → Outcome A

-- a part of a program, which gives an A
abbrev pub Part : Type 0 → Type 0
Part A = RunState → Outcome A

-- one part, and then another that takes its value
abbrev pub outcome_then : {A B : Type 0} → Outcome A → (A → Part B) → Outcome B
outcome_then (WentOn a w) go = go a w
outcome_then (Left e w) go = Left e w

-- a part whose value is not needed
abbrev pub then_nothing : {A : Type 0} → Outcome A → Outcome (Unit {0})
then_nothing o = outcome_then o (λ _. WentOn tt)

abbrev pub choose : {A : Type 0} → Bool → Part A → Part A → Part A
choose true a b w = a w
choose false a b w = b w

-- ## Operations, each at the line of a statement

abbrev pub looked : {A : Type 0} → Line → Result A Failure → Part A
looked l (Ok a) w = WentOn a w
looked l (Err (Fails kind)) w = Left (Faulted kind l) w
looked l (Err TypeError) w = Left Wrong w

-- looks at the store
abbrev pub look : {A : Type 0} → Line → (Store → Result A Failure) → Part A
look l f w = looked l (f w.store) w

-- what has to be there
abbrev pub needed : {A : Type 0} → Option A → Part A
needed None w = Left Wrong w
needed (Some a) w = WentOn a w

-- goes on with another store
abbrev pub settle : Store → Part (Unit {0})
settle s w = WentOn tt (record w { store = s })

-- changes the store
abbrev pub change : Line → (Store → Result Store Failure) → Part (Unit {0})
change l f w = outcome_then (look l f w) settle

-- changes the store, and gives a value
abbrev pub settle_with : Value × Store → Part Value
settle_with b w = WentOn b.0 (record w { store = b.1 })

abbrev pub get : Line → (Store → Result (Value × Store) Failure) → Part Value
get l f w = outcome_then (look l f w) settle_with

-- the one write: a value is assigned to a place
abbrev pub write : Line → Spot → Value → Part (Unit {0})
write l p v = change l (written p v)

-- adds bytes to the report
abbrev pub send : List ℕ → Part (Unit {0})
send bytes w = WentOn tt (record w { report = w.report ++ bytes })

-- ## Ticks

-- a part with a tick less; it is left where no tick is left
abbrev pub tick_from : {A : Type 0} → ℕ → Part A → Part A
tick_from zero go w = Left OutOfTicks w
tick_from (suc t) go w = go (record w { ticks = t })

abbrev pub take_tick : {A : Type 0} → Part A → Part A
take_tick go w = tick_from w.ticks go w

-- after a turn of a loop: another turn is due, or the loop is over with a value
pub data Next (C A : Type 0) : Type 0 where
  Again : C → Next C A
  Over : A → Next C A

abbrev pub go_on : {C A : Type 0} → (C → Part A) → Next C A → Part A
go_on more (Again c) w = more c w
go_on more (Over a) w = WentOn a w

-- a loop whose turns take a tick each, from c on. It makes at most n turns, and no more than n ticks are ever left
abbrev pub loop : {C A : Type 0} → ℕ → (turn : C → Part (Next C A)) → C → Part A
loop zero turn c w = Left OutOfTicks w
loop (suc n) turn c w = take_tick (λ w. outcome_then (turn c w) (go_on (loop n turn))) w
