-- How many nodes a program has: one for each section, statement, phrase, test, operator, sign, function, name, number,
-- text and picture in it, as far as it was written. Two places that are empty in no text's program count as one where
-- they are, so that the nodes bound the code of every program: the tests of an alternative, and the alternatives of a condition.
use Rattle.std.specs.Prelude.{ℕ, ◌+◌, List, [], ◌∷◌, length, Option, Some, None}
use Rattle.ss_program.specs.Program.{Expression, Constant, Fetch, Attribute, OfSystemSet, OfSet, OfMember, Clock, TimeOf, Figure, FigureOf, Signed, Unary, Calculate, SetOwner, TheSystem, Entity, Test, Compare, DataEnded, Empty, Member, Condition, Start, AtEnd, From, After, Head, Numbers, Members, Each, Phrase, Guard, Place, ToVariable, ToAttribute, ToCount, InputTarget, Position, ByDiscipline, AsFirst, AsLast, BeforeMember, AfterMember, When, At, In, Now, Restart, PrintItem, AValue, AMean, AMeanOf, Statement, Let, Change, Call, Return, Stop, Read, Simulate, If, Loop, For, Find, Create, CreateEvery, Destroy, File, RemoveEnd, Remove, ScheduleNew, Schedule, Cancel, Reset, Print, Skip, Block, Done, Then, Routine, Event, Program}

-- the nodes of the things in a list
abbrev pub total : {A : Type 0} → (A → ℕ) → List A → ℕ
total nodes [] = 0
total nodes (x ∷ xs) = nodes x + total nodes xs

abbrev pub option_nodes : {A : Type 0} → (A → ℕ) → Option A → ℕ
option_nodes nodes None = 0
option_nodes nodes (Some x) = nodes x

-- a variable as a subscript counts as none, since the text may leave it implicit
abbrev pub unless_plain : Expression → ℕ → ℕ
unless_plain (Fetch x) n = 0
unless_plain e n = n

abbrev pub expression_nodes : Expression → ℕ
expression_nodes (Constant v) = 1
expression_nodes (Fetch x) = 1
expression_nodes (Attribute class field e) = 1 + unless_plain e (expression_nodes e)
expression_nodes (OfSystemSet query set) = 1
expression_nodes (OfSet query set e) = 1 + unless_plain e (expression_nodes e)
expression_nodes (OfMember query set e) = 1 + unless_plain e (expression_nodes e)
expression_nodes Clock = 1
expression_nodes (TimeOf e) = 1 + expression_nodes e
expression_nodes (Figure fold k) = 1
expression_nodes (FigureOf fold k e) = 1 + unless_plain e (expression_nodes e)
expression_nodes (Signed sign e) = 1 + expression_nodes e
expression_nodes (Unary op e) = 1 + expression_nodes e
expression_nodes (Calculate operator a b) = expression_nodes a + 1 + expression_nodes b

-- what follows a name
abbrev pub subscript_nodes : Expression → ℕ
subscript_nodes e = unless_plain e (expression_nodes e)

-- an item of PRINT
abbrev pub item_nodes : PrintItem → ℕ
item_nodes (AValue e) = expression_nodes e
item_nodes (AMean k) = 1
item_nodes (AMeanOf k e) = 1 + unless_plain e (expression_nodes e)

-- a set is a node, and so is what its owner is written with
abbrev pub set_nodes : SetOwner → ℕ
set_nodes TheSystem = 1
set_nodes (Entity e) = 1 + subscript_nodes e

abbrev pub test_nodes : Test → ℕ
test_nodes (Compare relation a b) = 1 + expression_nodes a + expression_nodes b
test_nodes (DataEnded negated) = 1
test_nodes (Empty negated set owner) = 1 + set_nodes owner
test_nodes (Member negated set e owner) = 1 + expression_nodes e + set_nodes owner

-- AND is none
abbrev pub alternative_nodes : List Test → ℕ
alternative_nodes [] = 1
alternative_nodes (t ∷ ts) = test_nodes t + total test_nodes ts

-- OR is none
abbrev pub condition_nodes : Condition → ℕ
condition_nodes [] = 1
condition_nodes (c ∷ cs) = alternative_nodes c + total alternative_nodes cs

-- the conditions of a loop that begins with WHILE or UNTIL are no phrases
abbrev pub guard_nodes : Guard → ℕ
guard_nodes g = condition_nodes g.condition

abbrev pub phrase_nodes : Phrase → ℕ
phrase_nodes p = 1 + condition_nodes p.condition

abbrev pub place_nodes : Place → ℕ
place_nodes (ToVariable x) = 1
place_nodes (ToAttribute class field e) = 1 + subscript_nodes e
place_nodes (ToCount count) = 1

abbrev pub target_nodes : InputTarget → ℕ
target_nodes t = place_nodes t.place

abbrev pub start_nodes : Start → ℕ
start_nodes AtEnd = 0
start_nodes (From e) = expression_nodes e
start_nodes (After e) = expression_nodes e

abbrev pub head_nodes : Head → ℕ
head_nodes (Numbers x a b step) = 1 + expression_nodes a + expression_nodes b + option_nodes expression_nodes step
head_nodes (Members x set owner start reverse) = 1 + set_nodes owner + start_nodes start
head_nodes (Each x class) = 1

abbrev pub position_nodes : Position → ℕ
position_nodes ByDiscipline = 0
position_nodes AsFirst = 0
position_nodes AsLast = 0
position_nodes (BeforeMember e) = expression_nodes e
position_nodes (AfterMember e) = expression_nodes e

abbrev pub when_nodes : When → ℕ
when_nodes (At e) = expression_nodes e
when_nodes (In e) = expression_nodes e
when_nodes Now = 0

abbrev pub restart_nodes : Restart → ℕ
restart_nodes r = 1 + option_nodes subscript_nodes r.of

abbrev mutual
  -- a statement is a node, and so is each name and each picture in it
  pub statement_nodes : Statement → ℕ
  statement_nodes (Let l x e) = 1 + place_nodes x + expression_nodes e
  statement_nodes (Change l sign x e) = 1 + place_nodes x + expression_nodes e
  statement_nodes (Call l routine given yielding) = 2 + total expression_nodes given + total place_nodes yielding
  statement_nodes Return = 1
  statement_nodes Stop = 1
  statement_nodes (Read l targets) = 1 + total target_nodes targets
  statement_nodes Simulate = 1
  statement_nodes (If l condition a b) = 1 + condition_nodes condition + block_nodes a + block_nodes b
  statement_nodes (Loop l guards body) = 1 + total guard_nodes guards + block_nodes body
  statement_nodes (For l head phrases body) = 1 + head_nodes head + total phrase_nodes phrases + block_nodes body
  statement_nodes (Find l head phrases found none) = 1 + head_nodes head + total phrase_nodes phrases + block_nodes found + block_nodes none
  statement_nodes (Create l class x) = 1 + place_nodes x
  statement_nodes (CreateEvery l counts) = 1 + length counts
  statement_nodes (Destroy l class e) = 1 + expression_nodes e
  statement_nodes (File l set e position owner) = 1 + expression_nodes e + position_nodes position + set_nodes owner
  statement_nodes (RemoveEnd l end set x owner) = 1 + place_nodes x + set_nodes owner
  statement_nodes (Remove l set e owner) = 1 + expression_nodes e + set_nodes owner
  statement_nodes (ScheduleNew l class x given when) = 1 + place_nodes x + total expression_nodes given + when_nodes when
  statement_nodes (Schedule l class e given when) = 1 + expression_nodes e + total expression_nodes given + when_nodes when
  statement_nodes (Cancel l class e) = 1 + expression_nodes e
  statement_nodes (Reset l restarts) = 1 + total restart_nodes restarts
  statement_nodes (Print l items pictures) = 1 + total item_nodes items + length pictures
  statement_nodes (Skip l e) = 1 + expression_nodes e

  pub block_nodes : Block → ℕ
  block_nodes Done = 0
  block_nodes (Then statement rest) = statement_nodes statement + block_nodes rest

-- a section is one
abbrev pub routine_nodes : Routine → ℕ
routine_nodes r = 1 + block_nodes r.body

-- a notice class is declared, and has a section: its name and those of its attributes are nodes too
abbrev pub event_nodes : Event → ℕ
event_nodes e = 1 + block_nodes e.body

-- how many nodes a program has
abbrev pub nodes : Program → ℕ
nodes p = total routine_nodes p.routines + total event_nodes p.events + 1 + block_nodes p.main
