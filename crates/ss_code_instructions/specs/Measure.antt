-- What a run of the machine has still to do before its next tick.
use Rattle.std.specs.Prelude.{ℕ, ◌+◌, ◌-◌, ◌*◌, Bool, true, false, List, [], ◌∷◌, length, Option, None, Some, slice_get}
use Rattle.ss_code_instructions.specs.Instructions.{Placed}
use Rattle.ss_code_instructions.specs.States.{Frame, MachineState}
use Rattle.ss_code_instructions.specs.Machine.{Code, is_due}

-- how far the end of the code is from where the open calls go back to
abbrev pub left_in : ℕ → List Frame → ℕ
left_in len [] = 0
left_in len (f ∷ fs) = (len - f.back) + left_in len fs

-- whether the instruction of a place takes a tick
abbrev pub is_due_at : Option Placed → Bool
is_due_at None = false
is_due_at (Some x) = is_due x.instruction

-- before an instruction that takes a tick only what the open calls have left; else also what is left from here on
abbrev pub left_from : Bool → ℕ → ℕ → ℕ
left_from true here calls = calls
left_from false here calls = here + calls

abbrev pub left_at : Code → ℕ → List Frame → ℕ
left_at code place frames = left_from (is_due_at (slice_get code.places place)) (length code.places - place) (left_in (length code.places) frames)

-- each step takes a tick, or goes on towards the end of the code, to a tick, or back from a call
abbrev pub left_to_do : Code → MachineState → ℕ
left_to_do code s = s.ticks * (2 * length code.places + 1) + left_at code s.core.place s.core.frames
