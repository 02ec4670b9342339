-- How many steps a run of the machine makes, by what it works on.
use Rattle.std.specs.Prelude.{ℕ, ◌+◌, ◌-◌, ◌*◌, ◌≤◌, Bool, true, false, List, [], ◌∷◌, length, Option, Some, None, slice_get}
use Rattle.ss_base.specs.declared.line.Line.{Line}
use Rattle.ss_code.specs.Running.{Generated}
use Rattle.ss_code_instructions.specs.declared.instruction.Instruction.{Instruction as Running}
use Rattle.ss_code_instructions.specs.declared.instruction.Instruction.TheVariants as r
use Rattle.ss_code_instructions.specs.Measure.{left_from}
use Rattle.ss_machine_frames.specs.declared.frames.Frame.{Frame as Call}
use Rattle.ss_machine_instructions.specs.declared.flow.Ending.{Ending}
use Rattle.ss_machine_instructions.specs.declared.flow.Ending.TheVariants as resting
use Rattle.ss_machine_instructions.specs.declared.state.State.{State}
use Rattle.ss_machine_instructions.specs.Doing.{line_or}
use Rattle.ss_machine.specs.declared.stop.Stop.{Stop}
use Rattle.ss_machine.specs.declared.stop.Stop.TheVariants.{Ended, Fault, Paused, Memory, Output, Input}
use Rattle.ss_machine.specs.Situations.{Situation}

-- ## Kinds of instructions

-- those that take a tick
abbrev pub takes_tick : Running → Bool
takes_tick r.Turn = true
takes_tick (r.Take cell to) = true
takes_tick (r.Call routine cell) = true
takes_tick (r.TakeEvent cell) = true
takes_tick _ = false

-- those that read the input, and those that write
abbrev pub reads : Running → Bool
reads (r.Read to) = true
reads (r.ReadText to) = true
reads (r.UnlessEnded skip negated) = true
reads _ = false

abbrev pub writes : Running → Bool
writes (r.Print lines cell) = true
writes (r.Skip count) = true
writes _ = false

-- ## What is left to do

-- how far the end of the code is from where the open calls go back to
abbrev pub left_in_calls : ℕ → List Call → ℕ
left_in_calls len [] = 0
left_in_calls len (g ∷ gs) = (len - g.back) + left_in_calls len gs

abbrev pub takes_tick_at : Option Running → Bool
takes_tick_at None = false
takes_tick_at (Some i) = takes_tick i

-- up to the next tick
abbrev pub left_up : Generated → Situation → ℕ
left_up code at =
    left_from (takes_tick_at (slice_get code.run.instructions at.here.place)) (length code.run.instructions - at.here.place)
    (left_in_calls (length code.run.instructions) at.state.frames)

-- with the ticks that there are
abbrev pub left_in_all : Generated → Situation → ℕ
left_in_all code at = at.state.ticks * (2 * length code.run.instructions + 1) + left_up code at

-- ## Steps

-- after so many ticks there are at least as many steps, and at most so many
pub record AreMachineSteps (code : Generated) (used made : ℕ) : Type 0 where
  pub least : used ≤ made
  pub most : made ≤ (3 * used + 4) * length code.run.instructions

-- a machine that goes on after so many ticks and steps has still as many steps as are left up to its next tick
abbrev pub HasSteps : Generated → Situation → (used made : ℕ) → Type 0
HasSteps code at used made = made + left_up code at ≤ used * (2 * length code.run.instructions + 1) + length code.run.instructions

-- ## Stops

-- the end of the program and a fault are steps, a pause and a failure are none
abbrev pub last_steps : Ending → ℕ
last_steps resting.Ended = 1
last_steps resting.Faulted = 1
last_steps resting.Paused = 0
last_steps resting.NoMemory = 0
last_steps resting.NoOutput = 0
last_steps resting.NoInput = 0

abbrev pub is_step : Ending → Bool
is_step resting.Ended = true
is_step resting.Faulted = true
is_step resting.Paused = false
is_step resting.NoMemory = false
is_step resting.NoOutput = false
is_step resting.NoInput = false

-- why a run stopped, where this is the line of the instruction
abbrev pub stop_for : State → Line → Ending → Stop
stop_for s l resting.Ended = Ended
stop_for s l resting.Paused = Paused
stop_for s l resting.Faulted = Fault s.fault (line_or l s.fault_line)
stop_for s l resting.NoMemory = Memory
stop_for s l resting.NoOutput = Output
stop_for s l resting.NoInput = Input
