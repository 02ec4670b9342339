-- How many instructions the code of a program has, said without them. `code_size` is the number that a refusal of too long a program goes by.
use Rattle.std.specs.Prelude.{ℕ, zero, suc, ◌+◌, Bool, true, false, List, [], ◌∷◌, length, Option, Some, None}
use Rattle.ss_program.specs.declared.expression.Variable.{Variable}
use Rattle.ss_base.specs.declared.words.GuardKind.{GuardKind}
use Rattle.ss_base.specs.declared.words.GuardKind.TheVariants as guards
use Rattle.ss_base.specs.declared.words.PhraseKind.{PhraseKind}
use Rattle.ss_base.specs.declared.words.PhraseKind.TheVariants as kinds
use Rattle.ss_program.specs.Program.{Expression, Constant, Fetch, Attribute, OfSystemSet, OfSet, OfMember, Clock, TimeOf, Figure, FigureOf, Signed, Unary, Calculate, SetOwner, TheSystem, Entity, Test, Compare, DataEnded, Empty, Member, Condition, Head, Numbers, Members, Each, Start, AtEnd, From, After, Phrase, Guard, Place, ToVariable, ToAttribute, ToCount, InputTarget, When, At, In, Now, Restart, PrintItem, AValue, AMean, AMeanOf, Statement, Let, Change, Call, Return, Stop, Read, Simulate, If, Loop, For, Find, Create, CreateEvery, Destroy, File, RemoveEnd, Remove, ScheduleNew, Schedule, Cancel, Reset, Print, Skip, Block, Done, Then, Routine, Event, Program}
use Rattle.ss_code_instructions.specs.Facts.{is_watched, must_look, needs_look, expression_of, may_fault, neighbour_of}

-- one where something is so, and else none
abbrev pub one_if : Bool → ℕ
one_if true = 1
one_if false = 0

abbrev pub one_if_some : ℕ → ℕ
one_if_some zero = 0
one_if_some (suc n) = 1

-- ## Expressions: a constant and a variable are operands as they are, anything else takes a cell and as much code as it needs

abbrev pub count_unless_leaf : Expression → ℕ → ℕ
count_unless_leaf (Constant v) n = 0
count_unless_leaf (Fetch x) n = 0
count_unless_leaf _ n = n

abbrev pub expression_size : Expression → ℕ
expression_size (Constant v) = 1
expression_size (Fetch x) = 1
expression_size (Attribute class field e) = count_unless_leaf e (expression_size e) + 1
expression_size (OfSystemSet query set) = 1
expression_size (OfSet query set e) = count_unless_leaf e (expression_size e) + 1
expression_size (OfMember query set e) = count_unless_leaf e (expression_size e) + 1
expression_size Clock = 1
expression_size (TimeOf e) = count_unless_leaf e (expression_size e) + 1
expression_size (Figure fold j) = 1
expression_size (FigureOf fold j e) = count_unless_leaf e (expression_size e) + 1
expression_size (Signed sign e) = count_unless_leaf e (expression_size e) + 1
expression_size (Unary op e) = count_unless_leaf e (expression_size e) + 1
expression_size (Calculate op a b) = count_unless_leaf a (expression_size a) + (count_unless_leaf b (expression_size b) + 1)

abbrev pub operand_size : Expression → ℕ
operand_size e = count_unless_leaf e (expression_size e)

abbrev pub operand_cell_count : Expression → ℕ
operand_cell_count e = count_unless_leaf e 1

abbrev pub values_size : List Expression → ℕ
values_size [] = 0
values_size (e ∷ es) = expression_size e + values_size es

abbrev pub looked_size : (looked : Bool) → Expression → ℕ
looked_size looked e = operand_size e + one_if looked

-- an expression that there may be
abbrev pub any_size : Option Expression → ℕ
any_size None = 0
any_size (Some e) = operand_size e

-- ## Conditions

abbrev pub test_size : Test → ℕ
test_size (Compare relation a b) = operand_size a + (operand_size b + 1)
test_size (DataEnded negated) = 1
test_size (Empty negated set o) = any_size (expression_of o) + 1
test_size (Member negated set e o) = looked_size (may_fault (expression_of o)) e + (any_size (expression_of o) + 1)

abbrev pub tests_size : List Test → ℕ
tests_size [] = 0
tests_size (x ∷ xs) = test_size x + tests_size xs

-- between two alternatives there is a jump
abbrev pub alternatives_size : List Test → List (List Test) → ℕ
alternatives_size xs [] = tests_size xs
alternatives_size xs (ys ∷ others) = tests_size xs + (1 + alternatives_size ys others)

abbrev pub condition_size : Condition → ℕ
condition_size [] = 1
condition_size (xs ∷ others) = alternatives_size xs others

abbrev pub guard_size : GuardKind → Condition → ℕ
guard_size guards.While c = condition_size c
guard_size guards.Until c = condition_size c + 1

abbrev pub guards_size : List Guard → ℕ
guards_size [] = 0
guards_size (g ∷ gs) = guard_size g.kind g.condition + guards_size gs

abbrev pub phrase_size : PhraseKind → Condition → ℕ
phrase_size kinds.With c = condition_size c
phrase_size kinds.Unless c = condition_size c + 1
phrase_size kinds.While c = condition_size c
phrase_size kinds.Until c = condition_size c + 1

abbrev pub phrases_size : List Phrase → (turn : ℕ) → ℕ
phrases_size [] turn = turn
phrases_size (x ∷ xs) turn = phrase_size x.kind x.condition + phrases_size xs turn

-- ## Assignments: a variable that a statistic watches takes an instruction more

module _ (p : Program) where
  abbrev pub kept_size : Variable → ℕ
  kept_size x = one_if (is_watched p.statistics x)

  abbrev pub let_variable_size : (kept : Bool) → Expression → ℕ
  let_variable_size false e = expression_size e
  let_variable_size true e = operand_size e + 1

  abbrev pub let_size : Place → Expression → ℕ
  let_size (ToVariable x) e = let_variable_size (is_watched p.statistics x) e
  let_size (ToAttribute class field r) e = looked_size (must_look class r e) r + (operand_size e + 1)
  let_size (ToCount c) e = operand_size e + 2

  abbrev pub change_size : Place → Expression → ℕ
  change_size (ToVariable x) e = operand_size e + 1 + kept_size x
  change_size (ToAttribute class field r) e = operand_size e + (operand_size r + 1)
  change_size (ToCount c) e = operand_size e + 1 + 2

  -- a place that takes what so many instructions leave
  abbrev pub to_place_size : Place → (source : ℕ) → ℕ
  to_place_size (ToVariable x) source = source + kept_size x
  to_place_size (ToAttribute class field r) source = looked_size true r + (source + 1)
  to_place_size (ToCount c) source = source + 2

  abbrev pub reads_size : List InputTarget → ℕ
  reads_size [] = 0
  reads_size (t ∷ ts) = to_place_size t.place 1 + reads_size ts

  abbrev pub give_size : Place → ℕ
  give_size (ToVariable x) = 1
  give_size (ToAttribute class field r) = operand_size r + 1
  give_size (ToCount c) = 2

  abbrev pub gives_size : List Place → ℕ
  gives_size [] = 0
  gives_size (t ∷ ts) = give_size t + gives_size ts

  -- ## Loops

  abbrev pub turns_size : Variable → (turn : ℕ) → ℕ
  turns_size x turn = 1 + kept_size x + (turn + 1)

  abbrev pub step_size : Option Expression → ℕ
  step_size None = 1
  step_size (Some e) = expression_size e

  abbrev pub owner_size : SetOwner → ℕ
  owner_size TheSystem = 0
  owner_size (Entity e) = expression_size e

  abbrev pub start_size : Start → ℕ
  start_size AtEnd = 0
  start_size (From e) = 1 + expression_size e
  start_size (After e) = 1 + expression_size e

  abbrev pub head_size : Head → ℕ
  head_size (Numbers x a b c) = expression_size a + (expression_size b + step_size c)
  head_size (Each x class) = 0
  head_size (Members x set o start reverse) = owner_size o + start_size start

  abbrev pub head_variable : Head → Variable
  head_variable (Numbers x a b c) = x
  head_variable (Each x class) = x
  head_variable (Members x set o start reverse) = x

  -- the instruction that begins the loop, its turns, and the end
  abbrev pub for_size : Head → (turn : ℕ) → ℕ
  for_size head turn = head_size head + (1 + (turns_size (head_variable head) turn + 1))

  -- ## Sets and events

  abbrev pub beside_size : Option Expression → ℕ
  beside_size None = 0
  beside_size (Some e) = looked_size true e

  abbrev pub file_size : Expression → (beside owner : Option Expression) → ℕ
  file_size e y o = looked_size (needs_look y o) e + (beside_size y + (any_size o + 1))

  abbrev pub remove_size : Expression → (owner : Option Expression) → ℕ
  remove_size e o = looked_size (may_fault o) e + (any_size o + 1)

  abbrev pub remove_end_size : Place → (owner : Option Expression) → ℕ
  remove_end_size t o = to_place_size t (any_size o + 1)

  abbrev pub when_size : When → ℕ
  when_size (At e) = operand_size e + 1
  when_size (In e) = operand_size e + 1
  when_size Now = 1

  abbrev pub place_size : Place → ℕ
  place_size (ToVariable x) = 0
  place_size (ToAttribute class field r) = looked_size true r
  place_size (ToCount c) = 0

  -- a notice is made, assigned, and filed; a reference in a cell is forgotten
  abbrev pub notice_size : Place → ℕ
  notice_size (ToVariable x) = 1 + kept_size x + 1
  notice_size (ToAttribute class field r) = 3 + operand_cell_count r
  notice_size (ToCount c) = 1 + (2 + 1)

  abbrev pub schedule_new_size : Place → List Expression → When → ℕ
  schedule_new_size t given when = place_size t + (values_size given + (when_size when + notice_size t))

  abbrev pub schedule_size : Expression → List Expression → When → ℕ
  schedule_size e given when = looked_size true e + (values_size given + (when_size when + 1))

  abbrev pub restarts_size : List Restart → ℕ
  restarts_size [] = 0
  restarts_size (r ∷ rs) = any_size r.of + 1 + restarts_size rs

  abbrev pub item_size : PrintItem → ℕ
  item_size (AValue e) = expression_size e
  item_size (AMean j) = 1
  item_size (AMeanOf j e) = expression_size e + 1

  abbrev pub items_size : List PrintItem → ℕ
  items_size [] = 0
  items_size (x ∷ xs) = item_size x + items_size xs

  -- ## Statements

  abbrev mutual
    pub statement_size : Statement → ℕ
    statement_size (Let l t e) = let_size t e
    statement_size (Change l sign t e) = change_size t e
    statement_size (Call l routine given yielding) = values_size given + (1 + gives_size yielding)
    statement_size Return = 1
    statement_size Stop = 1
    statement_size (Read l targets) = reads_size targets
    statement_size Simulate = 3
    statement_size (If l c a b) = condition_size c + (block_size a + (one_if_some (block_size b) + block_size b))
    statement_size (Loop l gs a) = guards_size gs + (1 + (block_size a + (guards_size gs + 1)))
    statement_size (For l head ps a) = for_size head (phrases_size ps (block_size a))
    statement_size (Find l head ps a b) = for_size head (phrases_size ps 1) + (block_size b + (1 + (1 + block_size a)))
    statement_size (Create l class t) = to_place_size t 1
    statement_size (CreateEvery l classes) = length classes
    statement_size (Destroy l class e) = operand_size e + 1
    statement_size (File l set e position o) = file_size e (neighbour_of position) (expression_of o)
    statement_size (RemoveEnd l end set t o) = remove_end_size t (expression_of o)
    statement_size (Remove l set e o) = remove_size e (expression_of o)
    statement_size (ScheduleNew l class t given when) = schedule_new_size t given when
    statement_size (Schedule l class e given when) = schedule_size e given when
    statement_size (Cancel l class e) = operand_size e + 1
    statement_size (Reset l restarts) = restarts_size restarts
    statement_size (Print l items pictures) = items_size items + 1
    statement_size (Skip l e) = operand_size e + 1

    pub block_size : Block → ℕ
    block_size Done = 0
    block_size (Then s rest) = statement_size s + block_size rest

  -- each section ends with a return
  abbrev pub section_size : Block → ℕ
  section_size body = block_size body + 1

  abbrev pub routines_size : List Routine → ℕ
  routines_size [] = 0
  routines_size (r ∷ rs) = section_size r.body + routines_size rs

  abbrev pub events_size : List Event → ℕ
  events_size [] = 0
  events_size (e ∷ es) = section_size e.body + events_size es

  -- how many instructions a program has
  abbrev pub code_size : ℕ
  code_size = section_size p.main + (routines_size p.routines + events_size p.events)
