-- Small programs with their code, worked out by hand from the language's rules and the table of instructions.
use Rattle.std.specs.Prelude.{◌≡◌, ℕ, List, [], ◌∷◌, map, length, ℤ, pos, codes, Some, None, true, false, refl}
use Rattle.ss_base.specs.declared.value.Value.TheVariants.{Whole}
use Rattle.ss_base.specs.declared.layout.Mode.TheVariants.{Integer}
use Rattle.ss_program.specs.declared.expression.Variable.TheVariants.{Global, Local}
use Rattle.ss_base.specs.declared.words.Sign.TheVariants.{Plus}
use Rattle.ss_base.specs.declared.words.Operator.TheVariants as operators
use Rattle.ss_base.specs.declared.words.Relation.TheVariants.{Less}
use Rattle.ss_base.specs.declared.words.GuardKind.TheVariants as guards
use Rattle.ss_base.specs.declared.words.PhraseKind.TheVariants as kinds
use Rattle.ss_program.specs.declared.sections.Subject.TheVariants.{OfVariable, OfCount}
use Rattle.ss_base.specs.declared.words.Weighting.TheVariants.{Tally}
use Rattle.ss_base.specs.declared.words.End.TheVariants as ends
use Rattle.ss_program.specs.Program.{Attribute, Calculate, Compare, Numbers, Members, AtEnd, From, TheSystem, Entity, ToVariable, ToAttribute, ToCount, ByDiscipline, At, Let, Change, Call, Return, Stop, If, Loop, For, Find, File, RemoveEnd, ScheduleNew, Simulate, Read, Program}
use Rattle.ss_meaning.specs.Building.{line, num, global, local, to_local, block, only, print_line, program_of_main, workshop, machine, machines, job, queue, pool, bell}
use Rattle.ss_code_instructions.specs.Instructions.{Instruction, Placed, Held, Taken, Stays, Into, Onto, Last}
use Rattle.ss_code_instructions.specs.Instructions as i
use Rattle.ss_code_instructions.specs.Translation.{code_of}
use Rattle.ss_code_instructions.specs.Size.{code_size}

abbrev instruction_of : Placed → Instruction
instruction_of x = x.instruction

-- the instructions of a program, and how many cells each of its places finds
abbrev instructions : Program → List Instruction
instructions p = map instruction_of (code_of p).places

abbrev heights : Program → List ℕ
heights p = map (λ (x : Placed). length x.cells) (code_of p).places

-- a number as an operand
abbrev number : ℤ → i.Operand
number z = i.Constant (Whole z)

-- MAIN, PRINT 1 LINE WITH 6*7 THUS, ANSWER ***, END: the product goes into a cell, and the line takes it from there
abbrev an_answer : Program
an_answer = program_of_main 0 (print_line 2 (Calculate operators.Multiply (num (pos 6)) (num (pos 7)) ∷ []) (codes "ANSWER ***") ∷ [])

pub code_of_an_answer : instructions an_answer ≡
    i.Calculate operators.Multiply (number (pos 6)) (number (pos 7)) (Onto 0) ∷ i.Print 0 0 ∷ i.Leave ∷ []
code_of_an_answer = refl

-- FOR I = 1 TO 3, ADD I TO X: the loop keeps three cells
abbrev a_sum : Program
a_sum = program_of_main 2 (For (line 3) (Numbers (Local 0) (num (pos 1)) (num (pos 3)) None) [] (block (Change (line 4) Plus (to_local 1) (local 0) ∷ [])) ∷ [])

pub code_of_a_sum : instructions a_sum ≡
    i.Move (number (pos 1)) (Onto 0) ∷ i.Move (number (pos 3)) (Onto 1) ∷ i.Move (number (pos 1)) (Onto 2)
    ∷ i.Begin 0 3 ∷ i.Take 0 (Local 0)
    ∷ i.Calculate operators.Add (Held (Local 1)) (Held (Local 0)) (Into (Local 1))
    ∷ i.Next 0 2 ∷ i.Forget 3 ∷ i.Leave ∷ []
code_of_a_sum = refl

pub heights_of_a_sum : heights a_sum ≡ 0 ∷ 1 ∷ 2 ∷ 3 ∷ 3 ∷ 3 ∷ 3 ∷ 3 ∷ 0 ∷ []
heights_of_a_sum = refl

-- WHILE X LT 10, LET X = X * 2 + 1: the guard comes twice
abbrev a_turn : Program
a_turn = program_of_main 1 (Loop (line 3) (record { kind = guards.While; condition = only (Compare Less (local 0) (num (pos 10))) } ∷ [])
    (block (Let (line 4) (to_local 0) (Calculate operators.Add (Calculate operators.Multiply (local 0) (num (pos 2))) (num (pos 1))) ∷ [])) ∷ [])

pub code_of_a_turn : instructions a_turn ≡
    i.Unless Less (Held (Local 0)) (number (pos 10)) 5
    ∷ i.Turn
    ∷ i.Calculate operators.Multiply (Held (Local 0)) (number (pos 2)) (Onto 0)
    ∷ i.Calculate operators.Add (Taken 0) (number (pos 1)) (Into (Local 0))
    ∷ i.Unless Less (Held (Local 0)) (number (pos 10)) 1
    ∷ i.Repeat 4 ∷ i.Leave ∷ []
code_of_a_turn = refl

-- The workshop has bells, whose routine does nothing: its code is the last Leave.
--
-- FOR EACH JOB IN QUEUE(M), IF RANK LT 5 LET RANK = 3: the owner, the member and the next one stay in cells; a reference that is a variable needs no
-- look before a constant
abbrev a_walk : Program
a_walk = workshop 1 (For (line 3) (Members (Global job) queue (Entity (local 0)) AtEnd false)
    [] (block (If (line 3) (only (Compare Less (Attribute job 0 (global job)) (num (pos 5))))
    (block (Let (line 4) (ToAttribute job 0 (global job)) (num (pos 3)) ∷ [])) (block []) ∷ [])) ∷ [])

pub code_of_a_walk : instructions a_walk ≡
    i.Move (Held (Local 0)) (Onto 0) ∷ i.BeginSet false queue (Some (Stays 0)) 1 5
    ∷ i.Take 1 (Global job)
    ∷ i.Attribute job 0 (Held (Global job)) (Onto 3) ∷ i.Unless Less (Taken 3) (number (pos 5)) 1
    ∷ i.SetAttribute job 0 (Held (Global job)) (number (pos 3))
    ∷ i.NextMember false queue (Some (Stays 0)) 1 4 ∷ i.Forget 3 ∷ i.Leave
    ∷ i.Leave ∷ []
code_of_a_walk = refl

-- FOR EACH JOB IN POOL FROM JOB IN REVERSE ORDER UNLESS RANK LT 5, FIND THE FIRST CASE, IF FOUND RETURN ELSE STOP: each side finds no cells of the loop
abbrev a_case : Program
a_case = workshop 0 (Find (line 3) (Members (Global job) pool TheSystem (From (global job)) true)
    (record { kind = kinds.Unless; condition = only (Compare Less (Attribute job 0 (global job)) (num (pos 5))) } ∷ [])
    (block (Return ∷ [])) (block (Stop ∷ [])) ∷ [])

pub code_of_a_case : instructions a_case ≡
    i.LookOwner pool None ∷ i.Move (Held (Global job)) (Onto 0) ∷ i.BeginAt true false pool None 0 6
    ∷ i.Take 0 (Global job)
    ∷ i.Attribute job 0 (Held (Global job)) (Onto 2) ∷ i.Unless Less (Taken 2) (number (pos 5)) 1 ∷ i.Jump 1
    ∷ i.Jump 4
    ∷ i.NextMember true pool None 0 5 ∷ i.Forget 2
    ∷ i.Halt ∷ i.Jump 2
    ∷ i.Forget 2 ∷ i.Leave
    ∷ i.Leave
    ∷ i.Leave ∷ []
code_of_a_case = refl

pub heights_of_a_case : heights a_case ≡ 0 ∷ 0 ∷ 1 ∷ 2 ∷ 2 ∷ 3 ∷ 2 ∷ 2 ∷ 2 ∷ 2 ∷ 0 ∷ 0 ∷ 2 ∷ 0 ∷ 0 ∷ 0 ∷ []
heights_of_a_case = refl

pub size_of_a_case : code_size a_case ≡ 16
size_of_a_case = refl

-- LET RANK = RANK + 1: the value begins with a look at the entity
abbrev a_raise : Program
a_raise = workshop 0 (Let (line 3) (ToAttribute job 0 (global job)) (Calculate operators.Add (Attribute job 0 (global job)) (num (pos 1))) ∷ [])

pub code_of_a_raise : instructions a_raise ≡
    i.Attribute job 0 (Held (Global job)) (Onto 0)
    ∷ i.Calculate operators.Add (Taken 0) (number (pos 1)) (Onto 0) ∷ i.SetAttribute job 0 (Held (Global job)) (Taken 0) ∷ i.Leave
    ∷ i.Leave ∷ []
code_of_a_raise = refl

-- LET RANK = X + 1: the value may fault before the entity is seen, so it is looked at first
abbrev a_look : Program
a_look = workshop 1 (Let (line 3) (ToAttribute job 0 (global job)) (Calculate operators.Add (local 0) (num (pos 1))) ∷ [])

pub code_of_a_look : instructions a_look ≡
    i.LookEntity job (Held (Global job)) ∷ i.Calculate operators.Add (Held (Local 0)) (number (pos 1)) (Onto 0)
    ∷ i.SetAttribute job 0 (Held (Global job)) (Taken 0) ∷ i.Leave
    ∷ i.Leave ∷ []
code_of_a_look = refl

-- CALL SPLIT GIVING X, X * 2 YIELDING Y, RANK: the arguments lie in the cells 0 and 1, and what is yielded lies there afterwards, the first on top
abbrev a_call : Program
a_call = record (workshop 2 (Call (line 3) 0 (local 0 ∷ Calculate operators.Multiply (local 0) (num (pos 2)) ∷ [])
    (to_local 1 ∷ ToAttribute job 0 (global job) ∷ []) ∷ [])) {
      routines = record { given = Integer ∷ Integer ∷ []; yielding = Integer ∷ Integer ∷ []; others = []; body = block (Let (line 7) (to_local 2) (local 1) ∷ []) } ∷ [];
    }

pub code_of_a_call : instructions a_call ≡
    i.Move (Held (Local 0)) (Onto 0) ∷ i.Calculate operators.Multiply (Held (Local 0)) (number (pos 2)) (Onto 1)
    ∷ i.Call 0 0 ∷ i.Move (Taken 1) (Into (Local 1)) ∷ i.SetAttribute job 0 (Held (Global job)) (Taken 0)
    ∷ i.Leave
    ∷ i.Move (Held (Local 1)) (Into (Local 2)) ∷ i.Leave
    ∷ i.Leave ∷ []
code_of_a_call = refl

-- SCHEDULE A BELL GIVEN 7 AT 5 and START SIMULATION: the time stays until the notice is filed
abbrev an_event : Program
an_event = workshop 0 (ScheduleNew (line 3) bell (ToVariable (Global bell)) (num (pos 7) ∷ []) (At (num (pos 5))) ∷ Simulate ∷ [])

pub code_of_an_event : instructions an_event ≡
    i.Move (number (pos 7)) (Onto 0) ∷ i.At (number (pos 5)) (Onto 1)
    ∷ i.MakeNotice bell 0 1 (Into (Global bell)) ∷ i.FileNotice bell (Held (Global bell)) (Taken 0)
    ∷ i.Await 2 ∷ i.TakeEvent 0 ∷ i.NextEvent 1 ∷ i.Leave
    ∷ i.Leave ∷ []
code_of_an_event = refl

-- SCHEDULE A BELL CALLED TONE(TONE) AT 5 and ADD 1 TO N.MACHINE: the reference in a cell stays below the time, and is forgotten at last
abbrev a_name : Program
a_name = workshop 0 (ScheduleNew (line 3) bell (ToAttribute bell 0 (Attribute bell 0 (global bell))) [] (At (num (pos 5)))
    ∷ Change (line 4) Plus (ToCount machines) (num (pos 1)) ∷ [])

pub code_of_a_name : instructions a_name ≡
    i.Attribute bell 0 (Held (Global bell)) (Onto 0) ∷ i.LookEntity bell (Stays 0)
    ∷ i.At (number (pos 5)) (Onto 1) ∷ i.MakeNotice bell 1 0 (Onto 2)
    ∷ i.SetAttribute bell 0 (Stays 0) (Stays 2) ∷ i.FileNotice bell (Taken 2) (Taken 1) ∷ i.Forget 1
    ∷ i.Calculate operators.Add (Held (Global 4)) (number (pos 1)) (Onto 0) ∷ i.LookCount machine ∷ i.Move (Taken 0) (Into (Global 4))
    ∷ i.Leave
    ∷ i.Leave ∷ []
code_of_a_name = refl

pub heights_of_a_name : heights a_name ≡ 0 ∷ 1 ∷ 1 ∷ 2 ∷ 3 ∷ 3 ∷ 1 ∷ 0 ∷ 1 ∷ 1 ∷ 0 ∷ 0 ∷ []
heights_of_a_name = refl

pub size_of_a_name : code_size a_name ≡ 12
size_of_a_name = refl

-- A statistic watches X, and one how many are in QUEUE. READ X, FOR X = 1 TO 3, FILE JOB IN QUEUE(Y), REMOVE THE FIRST X FROM QUEUE(RANK), SCHEDULE A BELL
-- CALLED X AT 5: what X takes lies in a cell before; FILE and REMOVE are as without statistics
abbrev watched : Program
watched = record (workshop 1
    (Read (line 3) (record { place = ToVariable (Global 0); mode = Integer } ∷ [])
    ∷ For (line 4) (Numbers (Global 0) (num (pos 1)) (num (pos 3)) None) [] (block [])
    ∷ File (line 5) queue (global job) ByDiscipline (Entity (local 0))
    ∷ RemoveEnd (line 6) ends.First queue (ToVariable (Global 0)) (Entity (Attribute job 0 (global job)))
    ∷ ScheduleNew (line 7) bell (ToVariable (Global 0)) [] (At (num (pos 5))) ∷ [])) {
      statistics = record { subject = OfVariable 0; weighting = Tally } ∷ record { subject = OfCount queue; weighting = Tally } ∷ [];
    }

pub code_of_watched : instructions watched ≡
    i.Read Integer (Onto 0) ∷ i.Keep (Taken 0) (Global 0)
    ∷ i.Move (number (pos 1)) (Onto 0) ∷ i.Move (number (pos 3)) (Onto 1) ∷ i.Move (number (pos 1)) (Onto 2)
    ∷ i.Begin 0 3 ∷ i.Turn ∷ i.Keep (Stays 0) (Global 0) ∷ i.Next 0 2 ∷ i.Forget 3
    ∷ i.File Last queue (Held (Global job)) (Some (Held (Local 0)))
    ∷ i.Attribute job 0 (Held (Global job)) (Onto 0) ∷ i.RemoveEnd ends.First queue (Some (Taken 0)) (Onto 0) ∷ i.Keep (Taken 0) (Global 0)
    ∷ i.At (number (pos 5)) (Onto 0) ∷ i.MakeNotice bell 0 0 (Onto 1) ∷ i.Keep (Taken 1) (Global 0)
    ∷ i.FileNotice bell (Held (Global 0)) (Taken 0)
    ∷ i.Leave
    ∷ i.Leave ∷ []
code_of_watched = refl

pub size_of_watched : code_size watched ≡ 20
size_of_watched = refl
