-- The plain data that a program's value is, without where it lies in memory.
use Rattle.std.specs.Prelude.{List, [], ◌∷◌, map, Option, Some, None}
use Rattle.ss_program.specs.declared.expression.Expression as expressions
use Rattle.ss_program.specs.declared.expression.Expression.{Row_of-Operation, end_of-Operation, more_of-Operation}
use Rattle.ss_program.specs.declared.expression.SetOwner.{SetOwner as OwnerValue}
use Rattle.ss_program.specs.declared.expression.SetOwner.TheVariants as owners
use Rattle.ss_program.specs.declared.condition.Test.{Test as TestValue}
use Rattle.ss_program.specs.declared.condition.Test.TheVariants as tests
use Rattle.ss_program.specs.declared.condition.Conjunction.{Conjunction}
use Rattle.ss_program.specs.declared.condition.Condition.{Condition as ConditionValue}
use Rattle.ss_program.specs.declared.head.Guard.{Guard as GuardValue}
use Rattle.ss_program.specs.declared.head.Phrase.{Phrase as PhraseValue}
use Rattle.ss_program.specs.declared.head.Start.{Start as StartValue}
use Rattle.ss_program.specs.declared.head.Start.TheVariants as starts
use Rattle.ss_program.specs.declared.head.Head.{Head as HeadValue}
use Rattle.ss_program.specs.declared.head.Head.TheVariants as heads
use Rattle.ss_program.specs.declared.statement.PrintItem.{PrintItem as ItemValue}
use Rattle.ss_program.specs.declared.statement.PrintItem.TheVariants as items
use Rattle.ss_program.specs.declared.statement.Place.{Place as PlaceValue}
use Rattle.ss_program.specs.declared.statement.Place.TheVariants as places
use Rattle.ss_program.specs.declared.statement.InputTarget.{InputTarget as TargetValue}
use Rattle.ss_program.specs.declared.statement.Position.{Position as PositionValue}
use Rattle.ss_program.specs.declared.statement.Position.TheVariants as positions
use Rattle.ss_program.specs.declared.statement.When.{When as WhenValue}
use Rattle.ss_program.specs.declared.statement.When.TheVariants as whens
use Rattle.ss_program.specs.declared.statement.Restart.{Restart as RestartValue}
use Rattle.ss_program.specs.declared.statement.Statement as statements
use Rattle.ss_program.specs.declared.statement.Statement.{Row_of-Statement, end_of-Statement, more_of-Statement}
use Rattle.ss_program.specs.declared.sections.Routine.{Routine as RoutineValue}
use Rattle.ss_program.specs.declared.sections.Event.{Event as EventValue}
use Rattle.ss_program.specs.declared.sections.Program.{Program as ProgramValue}
use Rattle.ss_program.specs.Program.{Expression, Constant, Fetch, Attribute, OfSystemSet, OfSet, OfMember, Clock, TimeOf, Figure, FigureOf, Signed, Unary, Calculate, SetOwner, TheSystem, Entity, Test, Compare, DataEnded, Empty, Member, Condition, Start, AtEnd, From, After, Head, Numbers, Members, Each, Phrase, Guard, Place, ToVariable, ToAttribute, ToCount, InputTarget, Position, ByDiscipline, AsFirst, AsLast, BeforeMember, AfterMember, When, At, In, Now, Restart, PrintItem, AValue, AMean, AMeanOf, Statement, Let, Change, Call, Return, Stop, Read, Simulate, If, Loop, For, Find, Create, CreateEvery, Destroy, File, RemoveEnd, Remove, ScheduleNew, Schedule, Cancel, Reset, Print, Skip, Block, Done, Then, Routine, Event, Program}
use Rattle.std.specs.Option.{option_map}

unfoldable mutual
  pub view_expression : expressions.Expression → Expression
  view_expression (expressions.Constant v) = Constant v
  view_expression (expressions.Fetch x) = Fetch x
  view_expression (expressions.Attribute' class field p e) = Attribute class field (view_expression e)
  view_expression (expressions.OfSystemSet query set) = OfSystemSet query set
  view_expression (expressions.OfSet' query set p e) = OfSet query set (view_expression e)
  view_expression (expressions.OfMember' query set p e) = OfMember query set (view_expression e)
  view_expression expressions.Clock = Clock
  view_expression (expressions.TimeOf' p e) = TimeOf (view_expression e)
  view_expression (expressions.Figure fold statistic) = Figure fold statistic
  view_expression (expressions.FigureOf' fold statistic p e) = FigureOf fold statistic (view_expression e)
  view_expression (expressions.Signed' sign p e) = Signed sign (view_expression e)
  view_expression (expressions.Unary' op p e) = Unary op (view_expression e)
  view_expression (expressions.Calculate' p first shape further) = view_operations (view_expression first) further

  -- operations on a number, worked off from left to right
  pub view_operations : {n : _} → Expression → Row_of-Operation n → Expression
  view_operations left end_of-Operation = left
  view_operations left (more_of-Operation operator e rest) = view_operations (Calculate operator left (view_expression e)) rest

abbrev pub view_owner : OwnerValue → SetOwner
view_owner owners.TheSystem = TheSystem
view_owner (owners.Entity e) = Entity (view_expression e)

abbrev pub view_test : TestValue → Test
view_test (tests.Compare relation left right) = Compare relation (view_expression left) (view_expression right)
view_test (tests.DataEnded negated) = DataEnded negated
view_test (tests.Empty negated set owner) = Empty negated set (view_owner owner)
view_test (tests.Member negated set x owner) = Member negated set (view_expression x) (view_owner owner)

abbrev pub view_conjunction : Conjunction → List Test
view_conjunction c = map view_test c.tests.items

abbrev pub view_condition : ConditionValue → Condition
view_condition c = map view_conjunction c.alternatives.items

abbrev pub view_guard : GuardValue → Guard
view_guard g = record { kind = g.kind; condition = view_condition g.condition }

abbrev pub view_phrase : PhraseValue → Phrase
view_phrase p = record { kind = p.kind; condition = view_condition p.condition }

abbrev pub view_start : StartValue → Start
view_start starts.AtEnd = AtEnd
view_start (starts.From e) = From (view_expression e)
view_start (starts.After e) = After (view_expression e)

abbrev pub view_head : HeadValue → Head
view_head (heads.Numbers x first limit step) = Numbers x (view_expression first) (view_expression limit) (option_map view_expression step)
view_head (heads.Members x set owner start reverse) = Members x set (view_owner owner) (view_start start) reverse
view_head (heads.Each x class) = Each x class

abbrev pub view_place : PlaceValue → Place
view_place (places.ToVariable x) = ToVariable x
view_place (places.ToAttribute class field e) = ToAttribute class field (view_expression e)
view_place (places.ToCount count) = ToCount count

abbrev pub view_target : TargetValue → InputTarget
view_target t = record { place = view_place t.place; mode = t.mode }

abbrev pub view_position : PositionValue → Position
view_position positions.ByDiscipline = ByDiscipline
view_position positions.AsFirst = AsFirst
view_position positions.AsLast = AsLast
view_position (positions.BeforeMember e) = BeforeMember (view_expression e)
view_position (positions.AfterMember e) = AfterMember (view_expression e)

abbrev pub view_when : WhenValue → When
view_when (whens.At e) = At (view_expression e)
view_when (whens.In e) = In (view_expression e)
view_when whens.Now = Now

abbrev pub view_restart : RestartValue → Restart
view_restart r = record { statistic = r.statistic; of = option_map view_expression r.of }

abbrev pub view_item : ItemValue → PrintItem
view_item (items.Value e) = AValue (view_expression e)
view_item (items.Mean k) = AMean k
view_item (items.MeanOf k e) = AMeanOf k (view_expression e)

unfoldable mutual
  pub view_statement : statements.Statement → Statement
  view_statement (statements.Let l x e) = Let l (view_place x) (view_expression e)
  view_statement (statements.Change l sign x e) = Change l sign (view_place x) (view_expression e)
  view_statement (statements.Call l routine given yielding) = Call l routine (map view_expression given.items) (map view_place yielding.items)
  view_statement statements.Return = Return
  view_statement statements.Stop = Stop
  view_statement (statements.Read l targets) = Read l (map view_target targets.items)
  view_statement statements.Simulate = Simulate
  view_statement (statements.If' l c shape a shape' b) = If l (view_condition c) (view_block a) (view_block b)
  view_statement (statements.Loop' l guards shape body) = Loop l (map view_guard guards.items) (view_block body)
  view_statement (statements.For' l head phrases shape body) = For l (view_head head) (map view_phrase phrases.items) (view_block body)
  view_statement (statements.Find' l head phrases shape found shape' none) = Find l (view_head head) (map view_phrase phrases.items) (view_block found) (view_block none)
  view_statement (statements.Create l class x) = Create l class (view_place x)
  view_statement (statements.CreateEvery l classes) = CreateEvery l classes.items
  view_statement (statements.Destroy l class e) = Destroy l class (view_expression e)
  view_statement (statements.File l set e position owner) = File l set (view_expression e) (view_position position) (view_owner owner)
  view_statement (statements.RemoveEnd l end set x owner) = RemoveEnd l end set (view_place x) (view_owner owner)
  view_statement (statements.Remove l set e owner) = Remove l set (view_expression e) (view_owner owner)
  view_statement (statements.ScheduleNew l class x given when) = ScheduleNew l class (view_place x) (map view_expression given.items) (view_when when)
  view_statement (statements.Schedule l class e given when) = Schedule l class (view_expression e) (map view_expression given.items) (view_when when)
  view_statement (statements.Cancel l class e) = Cancel l class (view_expression e)
  view_statement (statements.Reset l restarts) = Reset l (map view_restart restarts.items)
  view_statement (statements.Print l shown pictures) = Print l (map view_item shown.items) (map (λ p. p.items) pictures.items)
  view_statement (statements.Skip l e) = Skip l (view_expression e)

  pub view_block : {n : _} → Row_of-Statement n → Block
  view_block end_of-Statement = Done
  view_block (more_of-Statement s rest) = Then (view_statement s) (view_block rest)

-- statements in a list, as a body
abbrev pub block_of : List Statement → Block
block_of [] = Done
block_of (s ∷ ss) = Then s (block_of ss)

-- a body
abbrev pub view_body : List statements.Statement → Block
view_body ss = block_of (map view_statement ss)

abbrev pub view_routine : RoutineValue → Routine
view_routine r = record { given = r.given.items; yielding = r.yielding.items; others = r.others.items; body = view_body r.body.items }

abbrev pub view_event : EventValue → Event
view_event e = record { class = e.class; ties = e.ties; line = e.line; given = e.given.items; others = e.others.items; saved = e.saved; body = view_body e.body.items }

-- the plain data of a program
abbrev pub view_program : ProgramValue → Program
view_program p = record {
  layout = p.layout;
  disciplines = p.disciplines.items;
  globals = p.globals.items;
  counts = p.counts.items;
  statistics = p.statistics.items;
  routines = map view_routine p.routines.items;
  events = map view_event p.events.items;
  locals = p.locals.items;
  main = view_body p.main.items;
}
