-- The resolved program as plain data: each name is replaced by the number of what it names, and what the text leaves implicit is written out.
use Rattle.std.specs.Prelude.{ℕ, Bool, List, Option}
use Rattle.ss_base.specs.declared.line.Line.{Line}
use Rattle.ss_base.specs.declared.value.Value.{Value}
use Rattle.ss_base.specs.declared.layout.Mode.{Mode}
use Rattle.ss_base.specs.declared.layout.RankKey.{RankKey}
use Rattle.ss_base.specs.declared.layout.Layout.{Layout}
use Rattle.ss_base.specs.declared.layout.Discipline.{Discipline}
use Rattle.ss_program.specs.declared.expression.Variable.{Variable}
use Rattle.ss_base.specs.declared.words.Sign.{Sign}
use Rattle.ss_base.specs.declared.words.Operator.{Operator}
use Rattle.ss_base.specs.declared.words.UnaryOperator.{UnaryOperator}
use Rattle.ss_program.specs.declared.expression.SetQuery.{SetQuery}
use Rattle.ss_program.specs.declared.expression.MemberQuery.{MemberQuery}
use Rattle.ss_program.specs.declared.expression.Fold.{Fold}
use Rattle.ss_base.specs.declared.words.Relation.{Relation}
use Rattle.ss_base.specs.declared.words.GuardKind.{GuardKind}
use Rattle.ss_base.specs.declared.words.PhraseKind.{PhraseKind}
use Rattle.ss_base.specs.declared.words.End.{End}
use Rattle.ss_program.specs.declared.statement.CountedClass.{CountedClass}
use Rattle.ss_program.specs.declared.sections.Statistic.{Statistic}

-- ---- expressions

-- what gives a value; sums and products are worked off from left to right, operation by operation
pub data Expression : Type 0 where
  Constant : Value → Expression
  -- the value of a variable; N. of a permanent class is a global one
  Fetch : Variable → Expression
  -- an attribute of the entity of a class
  Attribute : (class field : ℕ) → Expression → Expression
  -- F., L. or N. of THE SYSTEM's set
  OfSystemSet : SetQuery → (set : ℕ) → Expression
  -- F., L. or N. of the set of an owner
  OfSet : SetQuery → (set : ℕ) → (owner : Expression) → Expression
  -- P., S. or M. of a member
  OfMember : MemberQuery → (set : ℕ) → (member : Expression) → Expression
  -- TIME.V
  Clock : Expression
  -- TIME.A of a notice
  TimeOf : (notice : Expression) → Expression
  -- a statistic of a global variable, or of N. of THE SYSTEM's set
  Figure : Fold → (statistic : ℕ) → Expression
  -- a statistic of an attribute of an entity, or of N. of the set of an owner
  FigureOf : Fold → (statistic : ℕ) → (entity : Expression) → Expression
  -- a term after a sign
  Signed : Sign → Expression → Expression
  -- a function of one number
  Unary : UnaryOperator → Expression → Expression
  -- an operation on two numbers
  Calculate : Operator → Expression → Expression → Expression

-- the owner of a set, where several sets have its name
pub data SetOwner : Type 0 where
  TheSystem : SetOwner
  Entity : Expression → SetOwner

-- ---- conditions

pub data Test : Type 0 where
  Compare : Relation → Expression → Expression → Test
  -- whether no word of input is left or, if negated, whether one is
  DataEnded : (negated : Bool) → Test
  -- whether a set has no member or, if negated, whether it has one
  Empty : (negated : Bool) → (set : ℕ) → SetOwner → Test
  -- whether an entity is in a set or, if negated, whether it is not
  Member : (negated : Bool) → (set : ℕ) → (member : Expression) → SetOwner → Test

-- alternatives, each of which is tests that all hold
abbrev pub Condition : Type 0
Condition = List (List Test)

-- ---- heads of loops

-- the member with which a FOR over the members of a set begins
pub data Start : Type 0 where
  AtEnd : Start
  From : Expression → Start
  After : Expression → Start

-- what a FOR goes over
pub data Head : Type 0 where
  -- numbers: from the first on, each by the step more (1 where none is given), up to the limit
  Numbers : Variable → (first limit : Expression) → (step : Option Expression) → Head
  -- the members of a set, in reverse from the last one backwards
  Members : Variable → (set : ℕ) → SetOwner → Start → (reverse : Bool) → Head
  -- the entities of a permanent class
  Each : Variable → (class : ℕ) → Head

-- a phrase of a FOR
pub record Phrase : Type 0 where
  pub kind : PhraseKind
  pub condition : Condition

-- a condition of a loop that begins with WHILE or UNTIL
pub record Guard : Type 0 where
  pub kind : GuardKind
  pub condition : Condition

-- ---- statements

-- what a value is assigned to
pub data Place : Type 0 where
  ToVariable : Variable → Place
  ToAttribute : (class field : ℕ) → (of : Expression) → Place
  -- N. of a permanent class
  ToCount : CountedClass → Place

-- what takes a word of input, and its mode
pub record InputTarget : Type 0 where
  pub place : Place
  pub mode : Mode

-- where FILE puts a member
pub data Position : Type 0 where
  ByDiscipline : Position
  AsFirst : Position
  AsLast : Position
  BeforeMember : Expression → Position
  AfterMember : Expression → Position

-- the time for which a notice is scheduled: a time, so many units from now, or now
pub data When : Type 0 where
  At : Expression → When
  In : Expression → When
  Now : When

-- a statistic that is started afresh, and of which entity or owner, if of one
pub record Restart : Type 0 where
  pub statistic : ℕ
  pub of : Option Expression

-- what PRINT shows in a field, before it is evaluated: a value, or the mean of a statistic, and of which entity or owner, if of one
pub data PrintItem : Type 0 where
  AValue : Expression → PrintItem
  AMean : (statistic : ℕ) → PrintItem
  AMeanOf : (statistic : ℕ) → (entity : Expression) → PrintItem

mutual
  -- a statement; the line of its first word comes first in those that may fault
  pub data Statement : Type 0 where
    Let : Line → Place → Expression → Statement
    -- ADD and SUBTRACT
    Change : Line → Sign → Place → Expression → Statement
    -- the routine, what it is given, and what takes what it yields
    Call : Line → (routine : ℕ) → (given : List Expression) → (yielding : List Place) → Statement
    Return : Statement
    Stop : Statement
    Read : Line → List InputTarget → Statement
    -- START SIMULATION
    Simulate : Statement
    -- the statements before ELSE, and those after it
    If : Line → Condition → Block → Block → Statement
    -- a loop that begins with WHILE or UNTIL
    Loop : Line → List Guard → Block → Statement
    For : Line → Head → List Phrase → Block → Statement
    -- FIND THE FIRST CASE: what follows where one was found, and where none was
    Find : Line → Head → List Phrase → (found none : Block) → Statement
    Create : Line → (class : ℕ) → Place → Statement
    CreateEvery : Line → List CountedClass → Statement
    Destroy : Line → (class : ℕ) → Expression → Statement
    File : Line → (set : ℕ) → (member : Expression) → Position → SetOwner → Statement
    -- REMOVE FIRST and REMOVE LAST
    RemoveEnd : Line → End → (set : ℕ) → Place → SetOwner → Statement
    Remove : Line → (set : ℕ) → (member : Expression) → SetOwner → Statement
    -- SCHEDULE A: a new notice, whose number goes to the place
    ScheduleNew : Line → (class : ℕ) → Place → (given : List Expression) → When → Statement
    -- SCHEDULE THE
    Schedule : Line → (class : ℕ) → (notice : Expression) → (given : List Expression) → When → Statement
    Cancel : Line → (class : ℕ) → (notice : Expression) → Statement
    Reset : Line → List Restart → Statement
    -- the items, and the lines with their fields
    Print : Line → (items : List PrintItem) → (pictures : List (List ℕ)) → Statement
    Skip : Line → Expression → Statement

  -- statements, one after the other
  pub data Block : Type 0 where
    Done : Block
    Then : Statement → Block → Block

-- ---- programs

-- a routine; its local variables are numbered in this order: given, yielding, others
pub record Routine : Type 0 where
  pub given : List Mode
  pub yielding : List Mode
  pub others : List Mode
  pub body : Block

-- a notice class and its event routine
pub record Event : Type 0 where
  pub class : ℕ
  -- what breaks ties between its notices at one time
  pub ties : List RankKey
  -- the line of the routine
  pub line : Line
  -- its local variables are numbered in this order; those given take the first attributes of the notice
  pub given : List Mode
  pub others : List Mode
  -- the global variable that gets the number of the notice where it is saved; else the notice is destroyed
  pub saved : Option ℕ
  pub body : Block

pub record Program : Type 0 where
  -- the classes with their kinds and the modes of their fields, which are their attributes; the sets with their owners and member classes
  pub layout : Layout
  -- of each set
  pub disciplines : List Discipline
  -- the modes of the global variables
  pub globals : List Mode
  -- N. of each permanent class
  pub counts : List CountedClass
  pub statistics : List Statistic
  pub routines : List Routine
  -- in the order in which they come at one time
  pub events : List Event
  -- the modes of MAIN's local variables
  pub locals : List Mode
  pub main : Block
