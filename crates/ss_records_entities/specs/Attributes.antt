-- Attributes that are whole numbers, and what is assigned to them.
use Rattle.std.specs.Prelude.{◌≡◌, ℕ, ℤ, pos, Result, Ok, Err}
use Rattle.ss_base.specs.declared.fault.FaultKind.{FaultKind}
use Rattle.ss_base.specs.declared.value.Value.{Value}
use Rattle.ss_base.specs.declared.value.Value.TheVariants.{Whole, Text}
use Rattle.ss_world.specs.State.{State, value_in, assigned}

-- an attribute of an entity is assigned a number, and is that number afterwards
pub record IsAssigned (old : State) (class field : ℕ) (x n : ℤ) (new : State) : Type 0 where
  pub gives : assigned old class field x (Whole n) ≡ Ok new
  pub reads : value_in new class field x ≡ Ok (Whole n)

-- what a change makes of an attribute, by what is read of it. A text, which is in no attribute of numbers, counts as 0
abbrev pub changed_number : (change : ℤ → Result ℤ FaultKind) → Result Value FaultKind → Result ℤ FaultKind
changed_number change (Ok (Whole n)) = change n
changed_number change (Ok (Text t)) = change (pos 0)
changed_number change (Err kind) = Err kind

-- an attribute of an entity is assigned what a change makes of it
pub record IsChanged (change : ℤ → Result ℤ FaultKind) (old : State) (class field : ℕ) (x : ℤ) (new : State) : Type 0 where
  pub number : ℤ
  pub makes : changed_number change (value_in old class field x) ≡ Ok number
  pub is : IsAssigned old class field x number new
