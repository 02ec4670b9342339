-- The tree of a program, without where it lies in memory.
use Rattle.std.specs.Prelude.{ℕ, ℤ, Bool, List, [], ◌∷◌, Option}
use Rattle.ss_base.specs.declared.line.Line.{Line}
use Rattle.ss_base.specs.declared.words.Sign.{Sign}
use Rattle.ss_tree.specs.declared.expression.Function.{Function}
use Rattle.ss_tree.specs.declared.expression.Designator.{Designator}
use Rattle.ss_base.specs.declared.words.Relation.{Relation}
use Rattle.ss_base.specs.declared.words.PhraseKind.{PhraseKind}
use Rattle.ss_base.specs.declared.words.GuardKind.{GuardKind}
use Rattle.ss_base.specs.declared.words.End.{End}
use Rattle.ss_tree.specs.declared.statement.FindOutcome.{FindOutcome}
use Rattle.ss_tree.specs.declared.preamble.ModeWord.{ModeWord}
use Rattle.ss_base.specs.declared.layout.ClassKind.{ClassKind}
use Rattle.ss_tree.specs.declared.preamble.NamedKey.{NamedKey}
use Rattle.ss_base.specs.declared.words.Weighting.{Weighting}
use Rattle.ss_tree.specs.declared.preamble.NamedStatistic.{NamedStatistic}

-- ---- expressions

mutual
  -- an expression
  pub data ExpressionTree : Type 0 where
    number : ℤ → ExpressionTree
    text : List ℕ → ExpressionTree
    named : Designator → ExpressionRow → ExpressionTree
    call : Function → ExpressionRow → ExpressionTree
    parenthesised : ExpressionTree → ExpressionTree
    product : ExpressionTree → ExpressionRow → ExpressionTree
    signed : Sign → ExpressionTree → ExpressionTree
    sum : ExpressionTree → TermRow → ExpressionTree

  -- expressions
  pub data ExpressionRow : Type 0 where
    no_expression : ExpressionRow
    and_expression : ExpressionTree → ExpressionRow → ExpressionRow

  -- further terms of a sum, each after its sign
  pub data TermRow : Type 0 where
    no_term : TermRow
    and_term : Sign → ExpressionTree → TermRow → TermRow

-- a target, or a reference to a set
pub record NamedTree : Type 0 where
  pub designator : Designator
  pub subscripts : ExpressionRow

-- ---- conditions

pub data TestTree : Type 0 where
  compare : ExpressionTree → Relation → ExpressionTree → TestTree
  empty : NamedTree → Bool → TestTree
  member : ExpressionTree → NamedTree → Bool → TestTree
  data_ended : Bool → TestTree

-- alternatives, each of which is tests that all hold
abbrev pub ConditionTree : Type 0
ConditionTree = List (List TestTree)

-- ---- heads of loops

pub record PhraseTree : Type 0 where
  pub kind : PhraseKind
  pub condition : ConditionTree

pub record GuardTree : Type 0 where
  pub kind : GuardKind
  pub condition : ConditionTree

-- the member with which a loop over a set begins
pub data StartTree : Type 0 where
  from_end : StartTree
  from_member : ExpressionTree → StartTree
  after_member : ExpressionTree → StartTree

-- the head of a FOR
pub data HeadTree : Type 0 where
  -- the variable, its first value, its last, the step
  over_range : List ℕ → ExpressionTree → ExpressionTree → Option ExpressionTree → List PhraseTree → HeadTree
  -- the variable, the set, where it begins, whether in reverse order
  over_members : List ℕ → NamedTree → StartTree → Bool → List PhraseTree → HeadTree
  -- the class, the variable
  over_class : List ℕ → Option (List ℕ) → List PhraseTree → HeadTree

-- the head of a loop
pub data LoopHeadTree : Type 0 where
  for_head : HeadTree → LoopHeadTree
  -- WHILE or UNTIL
  guarded : List GuardTree → LoopHeadTree

-- ---- statements

-- where a member is filed
pub data PositionTree : Type 0 where
  by_discipline : PositionTree
  at_first : PositionTree
  at_last : PositionTree
  before : ExpressionTree → PositionTree
  after : ExpressionTree → PositionTree

-- when a notice is due
pub data WhenTree : Type 0 where
  at_time : ExpressionTree → WhenTree
  in_units : ExpressionTree → WhenTree
  now : WhenTree

mutual
  -- a statement; the line of its first word comes first
  pub data StatementTree : Type 0 where
    let_statement : Line → NamedTree → ExpressionTree → StatementTree
    add_statement : Line → ExpressionTree → NamedTree → StatementTree
    subtract_statement : Line → ExpressionTree → NamedTree → StatementTree
    -- the routine, what is given, the targets of what it yields
    call_statement : Line → List ℕ → List ExpressionTree → List NamedTree → StatementTree
    return_statement : Line → StatementTree
    stop_statement : Line → StatementTree
    read_statement : Line → List NamedTree → StatementTree
    start_simulation : Line → StatementTree
    if_statement : Line → ConditionTree → StatementRow → StatementRow → StatementTree
    loop_statement : Line → LoopHeadTree → StatementRow → StatementTree
    find_statement : Line → HeadTree → StatementTree
    find_if_statement : Line → HeadTree → FindOutcome → StatementRow → StatementRow → StatementTree
    create_statement : Line → List ℕ → Option NamedTree → StatementTree
    create_every : Line → List (List ℕ) → StatementTree
    destroy_statement : Line → List ℕ → Option ExpressionTree → StatementTree
    file_statement : Line → ExpressionTree → PositionTree → NamedTree → StatementTree
    remove_end : Line → End → NamedTree → NamedTree → StatementTree
    remove_statement : Line → ExpressionTree → NamedTree → StatementTree
    schedule_new : Line → List ℕ → Option NamedTree → List ExpressionTree → WhenTree → StatementTree
    schedule_statement : Line → List ℕ → Option ExpressionTree → List ExpressionTree → WhenTree → StatementTree
    cancel_statement : Line → List ℕ → Option ExpressionTree → StatementTree
    reset_statement : Line → List NamedTree → StatementTree
    print_statement : Line → List ExpressionTree → List (List ℕ) → StatementTree
    skip_statement : Line → ExpressionTree → StatementTree

  -- statements
  pub data StatementRow : Type 0 where
    no_statement : StatementRow
    and_statement : StatementTree → StatementRow → StatementRow

-- ---- preambles

pub data ClauseTree : Type 0 where
  has : List (List ℕ) → ClauseTree
  owns : List (List ℕ) → ClauseTree
  belongs_to : List (List ℕ) → ClauseTree

-- how a set is ordered
pub data OrderTree : Type 0 where
  fifo : OrderTree
  lifo : OrderTree
  ranked : List NamedKey → OrderTree

-- a statement of a preamble; the line of its first word comes first
pub data PreambleTree : Type 0 where
  permanent_entities : Line → PreambleTree
  temporary_entities : Line → PreambleTree
  event_notices : Line → List (List ℕ) → PreambleTree
  every : Line → ClassKind → List ℕ → List ClauseTree → PreambleTree
  normally : Line → ModeWord → PreambleTree
  system_owns : Line → List (List ℕ) → PreambleTree
  define_variables : Line → List (List ℕ) → ModeWord → PreambleTree
  define_sets : Line → List (List ℕ) → OrderTree → PreambleTree
  priority_order : Line → List (List ℕ) → PreambleTree
  break_ties : Line → List ℕ → List NamedKey → PreambleTree
  statistics : Line → Weighting → List NamedStatistic → List ℕ → PreambleTree

-- ---- programs

pub record DefinitionTree : Type 0 where
  pub line : Line
  pub names : List (List ℕ)
  pub mode : ModeWord

pub data SectionKindTree : Type 0 where
  main : SectionKindTree
  -- its name, what it is given, what it yields
  routine : List ℕ → List (List ℕ) → List (List ℕ) → SectionKindTree
  -- its name, what it is given, whether it saves its notice
  event : List ℕ → List (List ℕ) → Bool → SectionKindTree

pub record SectionTree : Type 0 where
  pub line : Line
  pub kind : SectionKindTree
  pub definitions : List DefinitionTree
  pub body : List StatementTree

pub record ProgramTree : Type 0 where
  pub preamble : List PreambleTree
  pub sections : List SectionTree

-- ---- rows as lists

abbrev pub expression_row : List ExpressionTree → ExpressionRow
expression_row [] = no_expression
expression_row (e ∷ es) = and_expression e (expression_row es)

abbrev pub term_row : List (Sign × ExpressionTree) → TermRow
term_row [] = no_term
term_row (t ∷ ts) = and_term t.0 t.1 (term_row ts)

abbrev pub statement_row : List StatementTree → StatementRow
statement_row [] = no_statement
statement_row (s ∷ ss) = and_statement s (statement_row ss)
