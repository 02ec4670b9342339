-- What a machine works on before its first instruction.
use Rattle.std.specs.Prelude.{◌≡◌, ◌+◌, ◌<◌, ◌≤◌, ◌^◌, List, [], ◌∷◌, length, map, None, pos}
use Rattle.std.specs.Ordering.{int_eq}
use Rattle.ss_base.specs.declared.layout.Mode.{Mode}
use Rattle.ss_base.specs.declared.layout.Owner.TheVariants.{System}
use Rattle.ss_base.specs.declared.value.Value.{Value}
use Rattle.ss_base.specs.Layout.{first_value}
use Rattle.ss_world.specs.State.{first_state}
use Rattle.ss_world.specs.PendingList.{none_pending}
use Rattle.ss_meaning.specs.Histories.{no_histories, starting}
use Rattle.ss_code.specs.Running.{Generated}
use Rattle.ss_machine_time.specs.Records.{columns_of}
use Rattle.ss_machine_world.specs.Seen.{Seen}
use Rattle.ss_machine_frames.specs.Rows.{TwoRows, AreGrown, with_last, cleared}
use Rattle.ss_machine_instructions.specs.declared.flow.Here.{Here}
use Rattle.ss_machine_instructions.specs.declared.state.State.{State}

-- ## Rows

-- values lie after others
abbrev pub values_laid : TwoRows → List Value → TwoRows
values_laid r [] = r
values_laid r (v ∷ vs) = values_laid (with_last r v) vs

abbrev pub firsts_laid : TwoRows → List Mode → TwoRows
firsts_laid r modes = values_laid r (map first_value modes)

abbrev pub none_laid : TwoRows
none_laid = record { numbers = []; texts = [] }

-- The global variables and the constants lie there, and above them is room for the frame of MAIN, whose variables hold their first values.
pub record IsLaidOut (code : Generated) (rows : TwoRows) : Type 0 where
  pub grown : TwoRows
  pub grows : AreGrown (values_laid (firsts_laid none_laid code.globals) code.run.constants) grown
  pub even : length grown.texts ≡ length grown.numbers
  pub room : length code.globals + length code.run.constants + code.run.main.room ≤ length grown.numbers
  pub small : length grown.numbers < 2 ^ 63
  pub is : rows ≡ cleared grown (length code.globals + length code.run.constants) code.run.main.others.items

-- ## The world

-- no entity, nothing pending, at the time 0, with the histories of the system begun
pub record IsFirstWorld (code : Generated) (e : Seen) : Type 0 where
  pub disciplines : e.disciplines ≡ code.said.setting.disciplines
  pub notices : e.notices ≡ code.said.setting.notices
  pub statistics : e.statistics ≡ code.said.setting.statistics
  pub heap : e.heap ≡ first_state code.said.layout
  pub time : e.time ≡ pos 0
  pub pending : e.pending ≡ none_pending code.said.ties
  pub histories : columns_of e.histories ≡ starting code.said.layout System (int_eq (pos 0)) (pos 0) code.said.setting.statistics (no_histories code.said.setting.statistics)

-- ## All of it

pub record IsFirstState (code : Generated) (s : State) : Type 0 where
  pub rows : IsLaidOut code s.rows
  pub frames : s.frames ≡ []
  pub world : IsFirstWorld code s.world
  pub ticks : s.ticks ≡ 0
  pub steps : s.steps ≡ 0
  pub line : s.fault_line ≡ None

-- where the machine is
abbrev pub first_here : Generated → Here
first_here code = record { place = code.run.main.place; frame = length code.globals + length code.run.constants }
