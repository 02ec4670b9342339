-- What the worked examples are built with.
use Rattle.std.specs.Prelude.{ℕ, zero, suc, true, List, [], ◌∷◌, ◌++◌, map, ℤ, None}
use Rattle.ss_base.specs.declared.line.Line.{Line}
use Rattle.ss_base.specs.declared.fault.FaultKind.{FaultKind}
use Rattle.ss_base.specs.declared.value.Value.TheVariants.{Whole}
use Rattle.ss_base.specs.declared.layout.Mode.{Mode}
use Rattle.ss_base.specs.declared.layout.Mode.TheVariants.{Integer}
use Rattle.ss_base.specs.declared.layout.ClassKind.{ClassKind}
use Rattle.ss_base.specs.declared.layout.ClassKind.TheVariants.{Permanent, Temporary, Notice}
use Rattle.ss_base.specs.declared.layout.ClassLayout.{ClassLayout}
use Rattle.ss_base.specs.declared.layout.Owner.TheVariants.{System, Class}
use Rattle.ss_base.specs.declared.layout.Discipline.{Discipline}
use Rattle.ss_base.specs.declared.layout.Discipline.TheVariants.{Fifo, Ranked}
use Rattle.ss_program.specs.declared.expression.Variable.TheVariants.{Global, Local}
use Rattle.ss_program.specs.declared.statement.CountedClass.{CountedClass}
use Rattle.ss_program.specs.Program.{Expression, Constant, Fetch, AValue, Test, Condition, Place, ToVariable, Statement, Print, Block, Done, Then, Program}
use Rattle.ss_meaning.specs.Meaning.{Ending, Ended, Fault, Paused, Run}

abbrev pub line : ℕ → Line
line n = record { 0 = n }

-- a number, a global variable and a local one as expressions
abbrev pub num : ℤ → Expression
num z = Constant (Whole z)

abbrev pub global : ℕ → Expression
global k = Fetch (Global k)

abbrev pub local : ℕ → Expression
local k = Fetch (Local k)

-- statements, one after the other
abbrev pub block : List Statement → Block
block [] = Done
block (s ∷ ss) = Then s (block ss)

-- a condition of one test
abbrev pub only : Test → Condition
only t = (t ∷ []) ∷ []

-- a line with items
abbrev pub print_line : ℕ → List Expression → List ℕ → Statement
print_line l es picture = Print (line l) (map AValue es) (picture ∷ [])

abbrev pub integers : ℕ → List Mode
integers zero = []
integers (suc n) = Integer ∷ integers n

-- a program with MAIN alone, which has so many integer variables
abbrev pub program_of_main : (locals : ℕ) → List Statement → Program
program_of_main locals statements = record {
  layout = record { classes = []; sets = [] };
  disciplines = [];
  globals = [];
  counts = [];
  statistics = [];
  routines = [];
  events = [];
  locals = integers locals;
  main = block statements;
}

-- a global variable and a local one as places
abbrev pub to_global : ℕ → Place
to_global k = ToVariable (Global k)

abbrev pub to_local : ℕ → Place
to_local k = ToVariable (Local k)

-- ## A workshop: machines (permanent) own queues, jobs with a rank may be in a queue, the pool and a rack, tools with a size own racks, bells are
-- notices with a tone, and the system owns the pool, which is ranked by high rank. Its classes, whose variables have the same numbers, and sets:

abbrev pub machine : ℕ
machine = 0

abbrev pub job : ℕ
job = 1

abbrev pub tool : ℕ
tool = 2

abbrev pub bell : ℕ
bell = 3

abbrev pub machines : CountedClass
machines = record { class = machine; variable = 4 }

abbrev pub queue : ℕ
queue = 0

abbrev pub pool : ℕ
pool = 1

abbrev pub rack : ℕ
rack = 2

abbrev pub class_with_fields : ClassKind → (fields : ℕ) → ClassLayout
class_with_fields kind fields = record { kind = kind; fields = integers fields }

-- the workshop with MAIN, its local integer variables, and a discipline of the pool; a bell does nothing
abbrev pub workshop_by : Discipline → (locals : ℕ) → List Statement → Program
workshop_by discipline locals statements = record {
  layout = record {
    classes = class_with_fields Permanent 0 ∷ class_with_fields Temporary 1 ∷ class_with_fields Temporary 1 ∷ class_with_fields Notice 1 ∷ [];
    sets = record { owner = Class machine; member = job } ∷ record { owner = System; member = job } ∷ record { owner = Class tool; member = job } ∷ [];
  };
  disciplines = Fifo ∷ discipline ∷ Fifo ∷ [];
  globals = integers 5;
  counts = machines ∷ [];
  statistics = [];
  routines = [];
  events = record { class = bell; ties = []; line = line 13; given = []; others = []; saved = None; body = Done } ∷ [];
  locals = integers locals;
  main = block statements;
}

abbrev pub workshop : (locals : ℕ) → List Statement → Program
workshop locals statements = workshop_by (Ranked (record { field = 0; high = true } ∷ [])) locals statements

-- lines of a report
abbrev pub lines : List (List ℕ) → List ℕ
lines [] = []
lines (l ∷ ls) = l ++ 10 ∷ lines ls

-- runs, by their lines, how they end and the ticks that they leave
abbrev pub run : List (List ℕ) → Ending → ℕ → Run
run ls e n = record { report = lines ls; ending = e; ticks = n }

abbrev pub ends : List (List ℕ) → ℕ → Run
ends ls n = run ls Ended n

abbrev pub pauses : List (List ℕ) → Run
pauses ls = run ls Paused 0

abbrev pub faults : List (List ℕ) → FaultKind → ℕ → ℕ → Run
faults ls kind l n = run ls (Fault kind (line l)) n
