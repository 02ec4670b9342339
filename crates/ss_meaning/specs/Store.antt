-- What a program works on: its variables, and the world with everything else.
use Rattle.std.specs.Prelude.{ℕ, zero, suc, List, [], ◌∷◌, ◌++◌, map, ℤ, Option, Some, None, Result, Ok, Err, slice_get, if◌then◌else◌}
use Rattle.ss_base.specs.declared.line.Line.{Line}
use Rattle.ss_base.specs.declared.value.Value.{Value}
use Rattle.ss_base.specs.declared.layout.Mode.{Mode}
use Rattle.ss_base.specs.declared.layout.RankKey.{RankKey}
use Rattle.ss_base.specs.declared.layout.Discipline.{Discipline}
use Rattle.ss_base.specs.Layout.{mode_of, first_value}
use Rattle.ss_world.specs.State.{State}
use Rattle.ss_world.specs.PendingList.{PendingList}
use Rattle.ss_stats.specs.History.{History}
use Rattle.ss_program.specs.declared.expression.Variable.{Variable}
use Rattle.ss_program.specs.declared.expression.Variable.TheVariants.{Global, Local}
use Rattle.ss_program.specs.declared.sections.Statistic.{Statistic}
use Rattle.ss_meaning.specs.Values.{Failure, TypeError, same_mode, turned}

-- what a program says of a class of notices: the attributes that break ties, the line of its event routine, how many attributes that takes,
-- and the global variable that a notice is saved in, if it is saved
pub record Notices : Type 0 where
  pub class : ℕ
  pub ties : List RankKey
  pub line : Line
  pub given : ℕ
  pub saved : Option ℕ

-- what a program says once and for all: of each set, of each class of notices in the order in which they come at one time, of statistics
pub record Setting : Type 0 where
  pub disciplines : List Discipline
  pub notices : List Notices
  pub statistics : List Statistic

-- the histories of a statistic: that of each entity that has one, and of 0 where the system has it
abbrev pub Column : Type 0
Column = (entity : ℤ) → Option History

-- the entities, the time, the notices that are pending, the histories of each statistic, and the input that is not yet read
pub record World : Type 0 where
  pub setting : Setting
  pub heap : State
  pub time : ℤ
  pub pending : PendingList
  pub histories : List Column
  pub input : List ℕ

-- the values of the global variables and of the local ones, and everything else
pub record Store : Type 0 where
  pub globals : List Value
  pub locals : List Value
  pub world : World

-- the store with other entities, other notices pending, other histories
abbrev pub with_heap : Store → State → Store
with_heap s h = record s { world = record s.world { heap = h } }

abbrev pub with_pending : Store → PendingList → Store
with_pending s p = record s { world = record s.world { pending = p } }

abbrev pub with_histories : Store → List Column → Store
with_histories s hs = record s { world = record s.world { histories = hs } }

-- ## Variables

-- what a variable holds
abbrev pub fetched : Variable → Store → Option Value
fetched (Global k) s = slice_get s.globals k
fetched (Local k) s = slice_get s.locals k

-- values, of which one is changed to another of its mode
abbrev pub put_at : List Value → ℕ → Value → Result (List Value) Failure
put_at [] k v = Err TypeError
put_at (old ∷ vs) zero v = if same_mode (mode_of v) (mode_of old) then Ok (v ∷ vs) else Err TypeError
put_at (old ∷ vs) (suc k) v = turned (λ rest. old ∷ rest) (put_at vs k v)

-- the store with another value of a variable
abbrev pub put : Variable → Value → Store → Result Store Failure
put (Global k) v s = turned (λ vs. record s { globals = vs }) (put_at s.globals k v)
put (Local k) v s = turned (λ vs. record s { locals = vs }) (put_at s.locals k v)

abbrev pub prepended : Value → Option (List Value) → Option (List Value)
prepended v None = None
prepended v (Some vs) = Some (v ∷ vs)

-- what variables of these modes hold at first
abbrev pub first_values : List Mode → List Value
first_values modes = map first_value modes

-- values that are given to variables of these modes, which are as many
abbrev pub taken_by_modes : List Mode → List Value → Option (List Value)
taken_by_modes [] [] = Some []
taken_by_modes (m ∷ ms) (v ∷ vs) = if same_mode (mode_of v) m then prepended v (taken_by_modes ms vs) else None
taken_by_modes _ _ = None

abbrev pub appended : Option (List Value) → List Value → Option (List Value)
appended None others = None
appended (Some vs) others = Some (vs ++ others)

-- the variables of a routine: those that take what is given, and then the others at first
abbrev pub opened : (given others : List Mode) → List Value → Option (List Value)
opened given others vs = appended (taken_by_modes given vs) (first_values others)

-- the values of the first so many variables
abbrev pub front : (count : ℕ) → List Value → Option (List Value)
front zero vs = Some []
front (suc k) [] = None
front (suc k) (v ∷ vs) = prepended v (front k vs)

-- the values of so many variables from a number on
abbrev pub yielded : (first count : ℕ) → List Value → Option (List Value)
yielded zero count vs = front count vs
yielded (suc k) count [] = None
yielded (suc k) count (v ∷ vs) = yielded k count vs
