-- What the machine holds once a section is entered: the rows have grown, where that was needed; the other variables of the section have their first values; and
-- the call is open.
use Rattle.std.specs.Prelude.{◌≡◌, ℕ, ◌+◌, ◌<◌, ◌≤◌, ◌^◌, ◌∷◌, length}
use Rattle.ss_code_instructions.specs.declared.entry.SectionEntry.{SectionEntry}
use Rattle.ss_machine_frames.specs.declared.frames.Frame.{Frame as Call}
use Rattle.ss_machine_frames.specs.Rows.{TwoRows, AreGrown, cleared}
use Rattle.ss_machine_instructions.specs.declared.flow.Here.{Here}
use Rattle.ss_machine_instructions.specs.declared.state.State.{State}

-- the call that is open then
abbrev pub call_of : Here → SectionEntry → Call
call_of here entry = record { back = here.place + 1; caller = here.frame; given = length entry.given.items; yielding = entry.yielding }

pub record HasEntered (here : Here) (old new : State) (entry : SectionEntry) (cell frame : ℕ) : Type 0 where
  pub begin : frame ≡ here.frame + cell
  pub grown : TwoRows
  pub grows : AreGrown old.rows grown
  pub even : length grown.texts ≡ length grown.numbers
  pub room : frame + entry.room ≤ length grown.numbers
  pub small : length grown.numbers < 2 ^ 63
  pub is : new ≡ record old { rows = cleared grown (frame + length entry.given.items) entry.others.items; frames = call_of here entry ∷ old.frames }

-- memory was refused: no tick is taken, the world is as it was, and the rows are no shorter
pub record IsOutOfMemory (old new : State) : Type 0 where
  pub ticks : new.ticks ≡ old.ticks
  pub steps : new.steps ≡ old.steps
  pub world : new.world ≡ old.world
  pub longer : length old.rows.numbers ≤ length new.rows.numbers
