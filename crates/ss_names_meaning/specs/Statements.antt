-- Resolved statements: each name is replaced by what it means.
use Rattle.std.specs.Prelude.{ℕ, slice_get, nat_le, ◌&&◌, ◌==◌, length, Option, Some, None}
use Rattle.ss_base.specs.declared.line.Line.{Line}
use Rattle.ss_tree.specs.declared.statement.FindOutcome.{FindOutcome}
use Rattle.ss_tree.specs.declared.statement.FindOutcome.TheVariants as outcomes
use Rattle.ss_tree.specs.Tree.{ConditionTree, ExpressionTree, NamedTree, HeadTree, LoopHeadTree, for_head, guarded, PositionTree, by_discipline, at_first, at_last, before, after, WhenTree, at_time, in_units, now, StatementTree, let_statement, add_statement, subtract_statement, call_statement, return_statement, stop_statement, read_statement, start_simulation, if_statement, loop_statement, find_statement, find_if_statement, create_statement, create_every, destroy_statement, file_statement, remove_end, remove_statement, schedule_new, schedule_statement, cancel_statement, reset_statement, print_statement, skip_statement, StatementRow, no_statement, and_statement}
use Rattle.ss_tree.specs.Names.{NameBytes}
use Rattle.ss_program.specs.declared.expression.Variable.{Variable}
use Rattle.ss_base.specs.declared.words.Sign.TheVariants.{Plus, Minus}
use Rattle.ss_program.specs.Program.{Expression, Fetch, Place, ToVariable, InputTarget, Position, ByDiscipline, AsFirst, AsLast, BeforeMember, AfterMember, When, At, In, Now, Restart, Statement, Let, Change, Call, Return, Stop, Read, Simulate, If, Loop, For, Find, Create, CreateEvery, Destroy, File, RemoveEnd, Remove, ScheduleNew, Schedule, Cancel, Reset, Print, Skip, Block, Done, Then}
use Rattle.std.specs.Map.{values_of}
use Rattle.ss_names_declarations.specs.NameTable.{value_for}
use Rattle.ss_names_uses.specs.declared.used.ClassNeed.TheVariants as needs
use Rattle.ss_names.specs.declared.entry.RoutineSection.{RoutineSection}
use Rattle.ss_names.specs.declared.meaning.Meaning.{Meaning}
use Rattle.ss_names.specs.declared.meaning.Meaning.TheVariants as meanings
use Rattle.ss_names_scopes.specs.Scopes.{Scope, history_of, mode_of_meaning}
use Rattle.ss_names_meaning.specs.Classes.{class_named, counted}
use Rattle.ss_names_meaning.specs.Answers.{◌>>=◌, each, of_one, of_three, of_two, where_holds}
use Rattle.ss_names_meaning.specs.Expressions.{expression, item, place_named, place_of, set_named, target}
use Rattle.ss_names_meaning.specs.Conditions.{condition}
use Rattle.ss_names_meaning.specs.Heads.{resolved_phrase, guard, phrases_of, head}

-- ---- targets

-- the variable or attribute that READ reads into, with its mode
abbrev pub reader : Scope → NamedTree → Option InputTarget
reader c n = do
  p ← place_named c n.designator n.subscripts
  of_two {C = InputTarget} (place_of p.0 p.1) (mode_of_meaning p.0) (λ place mode. record { place = place; mode = mode })

-- the target of the number of a new entity: the one after CALLED, or else the variable of the class
abbrev pub new_place : Scope → Variable → Option NamedTree → Option Place
new_place c variable None = Some (ToVariable variable)
new_place c variable (Some n) = target c n

-- the entity after CALLED, or else the one in the variable of the class
abbrev pub entity_called : Scope → Variable → Option ExpressionTree → Option Expression
entity_called c variable None = Some (Fetch variable)
entity_called c variable (Some e) = expression c e

-- ---- statistics

-- the statistic that RESET starts afresh, and of which entity, if of one
abbrev pub restart : Scope → NamedTree → Option Restart
restart c n =
    of_two {C = Restart} (history_of c n.designator) (place_named c n.designator n.subscripts) (λ k p. record { statistic = k; of = p.1 })

-- ---- parts of statements

abbrev pub position : Scope → PositionTree → Option Position
position c by_discipline = Some ByDiscipline
position c at_first = Some AsFirst
position c at_last = Some AsLast
position c (before e) = of_one (expression c e) BeforeMember
position c (after e) = of_one (expression c e) AfterMember

abbrev pub when : Scope → WhenTree → Option When
when c (at_time e) = of_one (expression c e) At
when c (in_units e) = of_one (expression c e) In
when c now = Some Now

-- ---- statements

-- a FIND, with the statements for a case that was found, and those for none
abbrev pub find : Line → Scope → HeadTree → Block → Block → Option Statement
find line c over found none =
    of_two (head c over) (each (resolved_phrase c) (phrases_of over)) (λ h phrases. Find line h phrases found none)

-- a FIND, by which of its two lists of statements comes first: that for a case that was found, or that for none
abbrev pub find_by : FindOutcome → Line → Scope → HeadTree → Block → Block → Option Statement
find_by outcomes.Found line c over first second = find line c over first second
find_by outcomes.None line c over first second = find line c over second first

-- a FOR with its body
abbrev pub for_over : Line → Scope → HeadTree → Block → Option Statement
for_over line c over body = of_two (head c over) (each (resolved_phrase c) (phrases_of over)) (λ h phrases. For line h phrases body)

-- a loop with its body
abbrev pub resolved_loop : Line → Scope → LoopHeadTree → Block → Option Statement
resolved_loop line c (for_head over) body = for_over line c over body
resolved_loop line c (guarded guards) body = of_one (each (guard c) guards) (λ gs. Loop line gs body)

-- an IF with its sides
abbrev pub if_over : Line → Scope → ConditionTree → Block → Block → Option Statement
if_over line c test first second = of_one (condition c test) (λ tests. If line tests first second)

abbrev pub routine_number : Option Meaning → Option ℕ
routine_number (Some (meanings.Routine routine)) = Some routine
routine_number _ = None

-- a routine, which nothing hides, by its number
abbrev pub routine_named : Scope → NameBytes → Option (ℕ × RoutineSection)
routine_named c name = do
  routine ← routine_number (value_for c.table.meanings name)
  of_one {B = ℕ × RoutineSection} (slice_get (values_of c.table.routines) routine) (λ section. (routine, section))

-- a statement without statements in it; None for another. A CALL has as many values and targets as its routine is given and yields,
-- a SCHEDULE at most as many values as its class has attributes.
unfoldable pub simple_statement : Scope → StatementTree → Option Statement
simple_statement c (let_statement line n e) = of_two (target c n) (expression c e) (Let line)
simple_statement c (add_statement line e n) = of_two (expression c e) (target c n) (λ value place. Change line Plus place value)
simple_statement c (subtract_statement line e n) = of_two (expression c e) (target c n) (λ value place. Change line Minus place value)
simple_statement c (call_statement line name given yielding) = do
  routine ← routine_named c name
  values ← each (expression c) given
  places ← each (target c) yielding
  where_holds ((length values == routine.1.given) && (length places == routine.1.yielding)) (Call line routine.0 values places)
simple_statement c (return_statement line) = Some Return
simple_statement c (stop_statement line) = Some Stop
simple_statement c (read_statement line targets) = of_one (each (reader c) targets) (Read line)
simple_statement c (start_simulation line) = Some Simulate
simple_statement c (find_statement line over) = find line c over Done Done
simple_statement c (create_statement line name called) = do
  class ← class_named c needs.Single name
  of_one (new_place c class.variable called) (Create line class.class)
simple_statement c (create_every line names) = of_one (each (counted c) names) (CreateEvery line)
simple_statement c (destroy_statement line name called) = do
  class ← class_named c needs.Single name
  of_one (entity_called c class.variable called) (Destroy line class.class)
simple_statement c (file_statement line e place n) =
    of_three (expression c e) (position c place) (set_named c n) (λ x p set. File line set.0 x p set.1)
simple_statement c (remove_end line end n m) = of_two (target c n) (set_named c m) (λ place set. RemoveEnd line end set.0 place set.1)
simple_statement c (remove_statement line e n) = of_two (expression c e) (set_named c n) (λ x set. Remove line set.0 x set.1)
simple_statement c (schedule_new line name called given time) = do
  class ← class_named c needs.Notice name
  place ← new_place c class.variable called
  values ← each (expression c) given
  due ← when c time
  where_holds (nat_le (length values) class.attributes) (ScheduleNew line class.class place values due)
simple_statement c (schedule_statement line name called given time) = do
  class ← class_named c needs.Notice name
  notice ← entity_called c class.variable called
  values ← each (expression c) given
  due ← when c time
  where_holds (nat_le (length values) class.attributes) (Schedule line class.class notice values due)
simple_statement c (cancel_statement line name called) = do
  class ← class_named c needs.Notice name
  of_one (entity_called c class.variable called) (Cancel line class.class)
simple_statement c (reset_statement line targets) = of_one (each (restart c) targets) (Reset line)
simple_statement c (print_statement line items pictures) = of_one (each (item c) items) (λ shown. Print line shown pictures)
simple_statement c (skip_statement line e) = of_one (expression c e) (Skip line)
simple_statement c _ = None

module _ (c : Scope) where
  unfoldable mutual
    pub statement : StatementTree → Option Statement
    statement (if_statement line test first second) = do
      a ← statements first
      b ← statements second
      if_over line c test a b
    statement (loop_statement line over row) = do
      body ← statements row
      resolved_loop line c over body
    statement (find_if_statement line over outcome first second) = do
      a ← statements first
      b ← statements second
      find_by outcome line c over a b
    statement s = simple_statement c s

    pub statements : StatementRow → Option Block
    statements no_statement = Some Done
    statements (and_statement s ss) = of_two (statement s) (statements ss) Then
