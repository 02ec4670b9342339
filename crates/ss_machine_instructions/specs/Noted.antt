-- What the machine notes once it has changed an entity or a set.
use Rattle.std.specs.Prelude.{◌≡◌, Bool, true, false, Option, Result, Ok, Err}
use Rattle.ss_base.specs.declared.fault.FaultKind.{FaultKind}
use Rattle.ss_meaning.specs.Values.{Failure}
use Rattle.ss_meaning.specs.Store.{Store}
use Rattle.ss_machine_world.specs.Seen.{Seen, HasChanged}
use Rattle.ss_machine_instructions.specs.declared.state.State.{State}
use Rattle.ss_machine_instructions.specs.Ways.{done_unless_fault, faulted_by}

-- a note where it is asked for; else nothing changes
abbrev pub IsNotedIf : (noted : Bool) → (Store → Result Store Failure) → (old new : Seen) → (said : Result (Unit {0}) FaultKind) → Type 0
IsNotedIf true note old new said = HasChanged note old new said
IsNotedIf false note old new said = (said ≡ Ok tt) × (new ≡ old)

-- and that after a change, unless the change had a fault
abbrev pub IsNotedAfter : (change : Result (Unit {0}) FaultKind) → (noted : Bool) → (Store → Result Store Failure) → (old new : Seen) → (said : Result (Unit {0}) FaultKind) → Type 0
IsNotedAfter (Ok u) noted note old new said = IsNotedIf noted note old new said
IsNotedAfter (Err kind) noted note old new said = (said ≡ Err kind) × (new ≡ old)

-- the machine goes on after a change and its note, or there is a fault
pub record HasNoted (noted : Bool) (note : Store → Result Store Failure) (change : Result (Unit {0}) FaultKind) (old new : State) (result : Option (Unit {0})) : Type 0 where
  pub world : Seen
  pub said : Result (Unit {0}) FaultKind
  pub after : IsNotedAfter change noted note old.world world said
  pub state : new ≡ faulted_by said (record old { world = world })
  pub way : result ≡ done_unless_fault said
