-- The code of a program. Each part of it says of each of its places the line, the instruction, and what is found there: the modes of the section's
-- variables and of the frame's cells.
use Rattle.std.specs.Prelude.{ℕ, zero, suc, ◌+◌, ◌-◌, Bool, true, false, List, [], ◌∷◌, ◌++◌, length, map, pos, Option, Some, None, slice_get, if◌then◌else◌}
use Rattle.ss_base.specs.declared.line.Line.{Line}
use Rattle.ss_base.specs.declared.value.Value.TheVariants.{Whole}
use Rattle.ss_base.specs.declared.layout.Mode.{Mode}
use Rattle.ss_base.specs.declared.layout.Mode.TheVariants.{Integer}
use Rattle.ss_base.specs.declared.layout.Discipline.{Discipline}
use Rattle.ss_base.specs.declared.layout.Discipline.TheVariants as disciplines
use Rattle.ss_base.specs.Layout.{mode_of}
use Rattle.ss_program.specs.declared.expression.Variable.{Variable}
use Rattle.ss_program.specs.declared.expression.Variable.TheVariants.{Global}
use Rattle.ss_base.specs.declared.words.Sign.{Sign}
use Rattle.ss_base.specs.declared.words.GuardKind.{GuardKind}
use Rattle.ss_base.specs.declared.words.GuardKind.TheVariants as guards
use Rattle.ss_base.specs.declared.words.PhraseKind.{PhraseKind}
use Rattle.ss_base.specs.declared.words.PhraseKind.TheVariants as kinds
use Rattle.ss_base.specs.declared.words.End.{End}
use Rattle.ss_program.specs.declared.statement.CountedClass.{CountedClass}
use Rattle.ss_program.specs.Program.{Expression, Constant, Fetch, Attribute, OfSystemSet, OfSet, OfMember, Clock, TimeOf, Figure, FigureOf, Signed, Unary, Calculate, SetOwner, TheSystem, Entity, Test, Compare, DataEnded, Empty, Member, Condition, Head, Numbers, Members, Each, Start, AtEnd, From, After, Phrase, Guard, Place, ToVariable, ToAttribute, ToCount, InputTarget, Position, ByDiscipline, AsFirst, AsLast, BeforeMember, AfterMember, When, At, In, Now, Restart, PrintItem, AValue, AMean, AMeanOf, Statement, Let, Change, Call, Return, Stop, Read, Simulate, If, Loop, For, Find, Create, CreateEvery, Destroy, File, RemoveEnd, Remove, ScheduleNew, Schedule, Cancel, Reset, Print, Skip, Block, Done, Then, Routine, Event, Program}
use Rattle.ss_program.specs.WellTyped.{TypedScope, mode_at, field_mode}
use Rattle.ss_meaning.specs.Values.{operator_of}
use Rattle.ss_meaning.specs.Meaning.{setting_of, tie_shapes}
use Rattle.ss_code_instructions.specs.Instructions as i
use Rattle.ss_code_instructions.specs.Instructions.{Operand, Bearer, FilingPlace, Instruction, Placed, ItemKind, Lines, EntryPoint}
use Rattle.ss_code_instructions.specs.Instructions.{Target as To}
use Rattle.ss_code_instructions.specs.Machine.{Code}
use Rattle.ss_code_instructions.specs.Facts.{is_watched, must_look, needs_look, expression_of, may_fault, neighbour_of}

-- ## Where code is made

-- the section, the line of the statement, and the modes of the cells that are in use, the topmost first
pub record Site : Type 0 where
  pub scope : TypedScope
  pub line : Line
  pub cells : List Mode

-- how many cells are in use
abbrev pub height : Site → ℕ
height t = length t.cells

-- a new cell as a target
abbrev pub next : Site → To
next t = i.Onto (height t)

-- with other cells, and with a cell more
abbrev pub with_cells : Site → List Mode → Site
with_cells t ms = record t { cells = ms }

abbrev pub above : Site → Mode → Site
above t m = with_cells t (m ∷ t.cells)

abbrev pub site_at_line : Site → Line → Site
site_at_line t l = record t { line = l }

-- an instruction here
abbrev pub place : Site → Instruction → Placed
place t x = record { line = t.line; instruction = x; locals = t.scope.locals; cells = t.cells }

-- what stayed in cells is forgotten, at a site with all of these, which leaves another one
abbrev pub forget : Site → (count : ℕ) → List Placed
forget u zero = []
forget u (suc k) = place u (i.Forget (suc k)) ∷ []

abbrev pub forget_to : (t u : Site) → List Placed
forget_to t u = forget u (height u - height t)

-- ## What the preamble says

-- a statistic watches a variable
abbrev pub is_kept : Site → Variable → Bool
is_kept t x = is_watched t.scope.program.statistics x

-- where the discipline of a set files a member
abbrev pub filing_by : Option Discipline → FilingPlace
filing_by None = i.Ranked
filing_by (Some disciplines.Fifo) = i.Last
filing_by (Some disciplines.Lifo) = i.First
filing_by (Some (disciplines.Ranked keys)) = i.Ranked

-- ## Modes

abbrev pub or_integer : Option Mode → Mode
or_integer None = Integer
or_integer (Some m) = m

abbrev pub expression_mode : TypedScope → Expression → Mode
expression_mode s (Constant v) = mode_of v
expression_mode s (Fetch x) = or_integer (mode_at s x)
expression_mode s (Attribute class field e) = or_integer (field_mode s.program class field)
expression_mode s _ = Integer

abbrev pub place_mode : TypedScope → Place → Mode
place_mode s (ToVariable x) = or_integer (mode_at s x)
place_mode s (ToAttribute class field e) = or_integer (field_mode s.program class field)
place_mode s (ToCount c) = Integer

-- ## Operands

-- a constant and a variable are operands as they are
abbrev pub leaf : Expression → Option Operand
leaf (Constant v) = Some (i.Constant v)
leaf (Fetch x) = Some (i.Held x)
leaf _ = None

-- anything else lies in a new cell
abbrev pub or_cell : (height : ℕ) → Option Operand → Operand
or_cell h (Some x) = x
or_cell h None = i.Taken h

abbrev pub or_in_cell : Option Operand → Mode → List Mode → List Mode
or_in_cell (Some x) m ms = ms
or_in_cell None m ms = m ∷ ms

-- an expression as an operand, and the cells with that which it takes, if any
abbrev pub operand : Site → Expression → Operand
operand t e = or_cell (height t) (leaf e)

abbrev pub operand_cells : Site → Expression → List Mode
operand_cells t e = or_in_cell (leaf e) (expression_mode t.scope e) t.cells

abbrev pub after : Site → Expression → Site
after t e = with_cells t (operand_cells t e)

-- the code of an operand: none where it is one as it is
abbrev pub unless_leaf : Option Operand → List Placed → List Placed
unless_leaf (Some x) code = []
unless_leaf None code = code

-- an operand that stays where it lies
abbrev pub stay : Operand → Operand
stay (i.Taken h) = i.Stays h
stay (i.Stays h) = i.Stays h
stay (i.Constant v) = i.Constant v
stay (i.Held x) = i.Held x

-- ## Expressions

-- an operand with its code, and then an instruction that reads it
abbrev pub one_operand : Site → Expression → (code : List Placed) → (Operand → Instruction) → List Placed
one_operand t a code make = unless_leaf (leaf a) code ++ place (after t a) (make (operand t a)) ∷ []

-- an expression: its last instruction leaves its value at a target
abbrev pub expression_code : Site → To → Expression → List Placed
expression_code t to (Constant v) = place t (i.Move (i.Constant v) to) ∷ []
expression_code t to (Fetch x) = place t (i.Move (i.Held x) to) ∷ []
expression_code t to (Attribute class field e) = one_operand t e (expression_code t (next t) e) (λ x. i.Attribute class field x to)
expression_code t to (OfSystemSet query set) = place t (i.OfSet query set None to) ∷ []
expression_code t to (OfSet query set e) = one_operand t e (expression_code t (next t) e) (λ x. i.OfSet query set (Some x) to)
expression_code t to (OfMember query set e) = one_operand t e (expression_code t (next t) e) (λ x. i.OfMember query set x to)
expression_code t to Clock = place t (i.Clock to) ∷ []
expression_code t to (TimeOf e) = one_operand t e (expression_code t (next t) e) (λ x. i.TimeOf x to)
expression_code t to (Figure fold j) = place t (i.Figure fold j None to) ∷ []
expression_code t to (FigureOf fold j e) = one_operand t e (expression_code t (next t) e) (λ x. i.Figure fold j (Some x) to)
expression_code t to (Signed sign e) =
    one_operand t e (expression_code t (next t) e) (λ x. i.Calculate (operator_of sign) (i.Constant (Whole (pos 0))) x to)
expression_code t to (Unary op e) = one_operand t e (expression_code t (next t) e) (λ x. i.Unary op x to)
expression_code t to (Calculate op a b) =
    unless_leaf (leaf a) (expression_code t (next t) a)
    ++ one_operand (after t a) b (expression_code (after t a) (next (after t a)) b) (λ y. i.Calculate op (operand t a) y to)

-- the code of an operand
abbrev pub operand_code : Site → Expression → List Placed
operand_code t e = unless_leaf (leaf e) (expression_code t (next t) e)

-- an operand, and the instruction that reads it
abbrev pub with_operand : Site → Expression → (Operand → Instruction) → List Placed
with_operand t e make = one_operand t e (expression_code t (next t) e) make

-- several values in new cells, one above the other
abbrev pub values_code : Site → List Expression → List Placed
values_code t [] = []
values_code t (e ∷ es) = expression_code t (next t) e ++ values_code (above t (expression_mode t.scope e)) es

abbrev pub values_cells : TypedScope → List Expression → List Mode → List Mode
values_cells s [] ms = ms
values_cells s (e ∷ es) ms = values_cells s es (expression_mode s e ∷ ms)

abbrev pub after_values : Site → List Expression → Site
after_values t es = with_cells t (values_cells t.scope es t.cells)

-- ## References

-- a reference that is looked at, where something may fault before it is used
abbrev pub looked_code : Site → (looked : Bool) → Expression → (Operand → Instruction) → List Placed
looked_code t false e look = operand_code t e
looked_code t true e look = with_operand t e (λ x. look (stay x))

abbrev pub entity_code : Site → (looked : Bool) → (class : ℕ) → Expression → List Placed
entity_code t looked class e = looked_code t looked e (i.LookEntity class)

abbrev pub member_code : Site → (looked : Bool) → (set : ℕ) → Expression → List Placed
member_code t looked set e = looked_code t looked e (i.LookMember set)

-- the owner of a set, or the entity of a statistic, of which there is none where it is the system
abbrev pub bearer : Site → Option Expression → Bearer
bearer t None = None
bearer t (Some e) = Some (operand t e)

abbrev pub bearer_code : Site → Option Expression → List Placed
bearer_code t None = []
bearer_code t (Some e) = operand_code t e

abbrev pub bearer_cells : Site → Option Expression → List Mode
bearer_cells t None = t.cells
bearer_cells t (Some e) = operand_cells t e

abbrev pub after_bearer : Site → Option Expression → Site
after_bearer t o = with_cells t (bearer_cells t o)

-- an owner, and the instruction that reads it
abbrev pub with_owner : Site → SetOwner → (Bearer → Instruction) → List Placed
with_owner t o make = bearer_code t (expression_of o) ++ place (after_bearer t (expression_of o)) (make (bearer t (expression_of o))) ∷ []

-- ## Conditions: on where it holds, and past so many instructions where it does not

abbrev pub test_code : Site → (skip : ℕ) → Test → List Placed
test_code t skip (Compare relation a b) = operand_code t a ++ with_operand (after t a) b (λ y. i.Unless relation (operand t a) y skip)
test_code t skip (DataEnded negated) = place t (i.UnlessEnded negated skip) ∷ []
test_code t skip (Empty negated set o) = with_owner t o (λ o. i.UnlessEmpty negated set o skip)
test_code t skip (Member negated set e o) =
    member_code t (may_fault (expression_of o)) set e ++ with_owner (after t e) o (λ o. i.UnlessMember negated set (operand t e) o skip)

-- tests that all must hold
abbrev pub tests_code : Site → (skip : ℕ) → List Test → List Placed
tests_code t skip [] = []
tests_code t skip (x ∷ xs) = test_code t (length (tests_code t skip xs) + skip) x ++ tests_code t skip xs

-- one alternative and the further ones, of which one must hold
abbrev pub alternatives_code : Site → (skip : ℕ) → List Test → List (List Test) → List Placed
alternatives_code t skip xs [] = tests_code t skip xs
alternatives_code t skip xs (ys ∷ others) =
    tests_code t 1 xs ++ place t (i.Jump (length (alternatives_code t skip ys others))) ∷ alternatives_code t skip ys others

abbrev pub condition_code : Site → (skip : ℕ) → Condition → List Placed
condition_code t skip [] = place t (i.Jump skip) ∷ []
condition_code t skip (xs ∷ others) = alternatives_code t skip xs others

-- a condition that must not hold
abbrev pub negated_code : Site → (skip : ℕ) → Condition → List Placed
negated_code t skip c = condition_code t 1 c ++ place t (i.Jump skip) ∷ []

abbrev pub guard_code : Site → (skip : ℕ) → GuardKind → Condition → List Placed
guard_code t skip guards.While c = condition_code t skip c
guard_code t skip guards.Until c = negated_code t skip c

abbrev pub guards_code : Site → (skip : ℕ) → List Guard → List Placed
guards_code t skip [] = []
guards_code t skip (g ∷ gs) = guard_code t (length (guards_code t skip gs) + skip) g.kind g.condition ++ guards_code t skip gs

-- a condition, and two sides; before the second comes a jump past it, and nothing where it is empty
abbrev pub if_code : Site → Condition → List Placed → List Placed → List Placed
if_code t c a [] = condition_code t (length a) c ++ a
if_code t c a (x ∷ b) = condition_code t (length a + 1) c ++ (a ++ (place t (i.Jump (length (x ∷ b))) ∷ (x ∷ b)))

-- the guards; the tick of a turn; the body; the guards again; and a jump back to the tick
abbrev pub loop_code : Site → List Guard → (body : List Placed) → List Placed
loop_code t gs body =
    guards_code t (length body + length (guards_code t 1 gs) + 2) gs
    ++ (place t i.Turn ∷ (body ++ (guards_code t 1 gs ++ (place t (i.Repeat (length body + length (guards_code t 1 gs) + 1)) ∷ []))))

-- ## Assignments: a plain variable is a target; one that a statistic watches takes its value by a Keep

-- a variable takes the value that some code leaves at a target
abbrev pub variable_code : Site → Variable → (source : To → List Placed) → List Placed
variable_code t x source =
    if is_kept t x then source (next t) ++ place (above t Integer) (i.Keep (i.Taken (height t)) x) ∷ [] else source (i.Into x)

-- a variable takes an operand
abbrev pub assignment : Site → Variable → Operand → Instruction
assignment t x from = if is_kept t x then i.Keep from x else i.Move from (i.Into x)

-- N. of a permanent class takes an operand
abbrev pub count_code : Site → CountedClass → Operand → List Placed
count_code t c from = place t (i.LookCount c.class) ∷ (place t (assignment t (Global c.variable) from) ∷ [])

-- LET: a variable that a statistic watches takes an operand; a reference is looked at where the value may fault, but where that begins with the same look
abbrev pub let_code : Site → Place → Expression → List Placed
let_code t (ToVariable x) e = if is_kept t x then with_operand t e (λ y. i.Keep y x) else expression_code t (i.Into x) e
let_code t (ToAttribute class field r) e =
    entity_code t (must_look class r e) class r ++ with_operand (after t r) e (i.SetAttribute class field (operand t r))
let_code t (ToCount c) e = operand_code t e ++ count_code (after t e) c (operand t e)

-- ADD and SUBTRACT: the value comes first
abbrev pub change_code : Site → Sign → Place → Expression → List Placed
change_code t sign (ToVariable x) e =
    variable_code t x (λ to. with_operand t e (λ y. i.Calculate (operator_of sign) (i.Held x) y to))
change_code t sign (ToAttribute class field r) e =
    operand_code t e ++ with_operand (after t e) r (λ x. i.ChangeAttribute sign class field x (operand t e))
change_code t sign (ToCount c) e =
    with_operand t e (λ y. i.Calculate (operator_of sign) (i.Held (Global c.variable)) y (next t))
    ++ count_code (above t Integer) c (i.Taken (height t))

-- a place takes the value that some code leaves at a target; its reference is looked at before
abbrev pub to_place_code : Site → Place → Mode → (source : Site → To → List Placed) → List Placed
to_place_code t (ToVariable x) m source = variable_code t x (source t)
to_place_code t (ToAttribute class field r) m source =
    entity_code t true class r ++ (source (after t r) (next (after t r))
    ++ place (above (after t r) m) (i.SetAttribute class field (operand t r) (i.Taken (height (after t r)))) ∷ [])
to_place_code t (ToCount c) m source = source t (next t) ++ count_code (above t m) c (i.Taken (height t))

abbrev pub reads_code : Site → List InputTarget → List Placed
reads_code t [] = []
reads_code t (x ∷ xs) = to_place_code t x.place x.mode (λ u to. place u (i.Read x.mode to) ∷ []) ++ reads_code t xs

-- what a routine yields lies in cells, the first on top
abbrev pub results_cells : Site → List Place → List Mode
results_cells t [] = t.cells
results_cells t (p ∷ ps) = place_mode t.scope p ∷ results_cells t ps

abbrev pub with_results : Site → List Place → Site
with_results t ps = with_cells t (results_cells t ps)

-- a place takes the value in the topmost cell
abbrev pub give_code : (t : Site) → Place → List Placed
give_code t (ToVariable x) = place (above t (place_mode t.scope (ToVariable x))) (assignment t x (i.Taken (height t))) ∷ []
give_code t (ToAttribute class field r) =
    with_operand (above t (place_mode t.scope (ToAttribute class field r))) r (λ x. i.SetAttribute class field x (i.Taken (height t)))
give_code t (ToCount c) = count_code (above t Integer) c (i.Taken (height t))

abbrev pub gives_code : Site → List Place → List Placed
gives_code t [] = []
gives_code t (p ∷ ps) = give_code (with_results t ps) p ++ gives_code t ps

-- ## Loops

-- a phrase before the rest of a turn: it goes on with the rest, or jumps past it, or past it and one instruction more
abbrev pub phrase_code : Site → (rest : ℕ) → PhraseKind → Condition → List Placed
phrase_code t rest kinds.With c = condition_code t rest c
phrase_code t rest kinds.Unless c = negated_code t rest c
phrase_code t rest kinds.While c = condition_code t (rest + 1) c
phrase_code t rest kinds.Until c = negated_code t (rest + 1) c

abbrev pub phrases_code : Site → List Phrase → (turn : List Placed) → List Placed
phrases_code t [] turn = turn
phrases_code t (p ∷ ps) turn = phrase_code t (length (phrases_code t ps turn)) p.kind p.condition ++ phrases_code t ps turn

-- a loop over numbers keeps the item, the limit and the step
abbrev pub number_loop : Site → Site
number_loop t = above (above (above t Integer) Integer) Integer

-- a walk keeps its owner, if that is not the system, the member and the next one
abbrev pub owner_cells : Site → SetOwner → List Mode
owner_cells t TheSystem = t.cells
owner_cells t (Entity e) = Integer ∷ t.cells

abbrev pub owner_cell : Site → SetOwner → Site
owner_cell t o = with_cells t (owner_cells t o)

abbrev pub owner_kept : Site → SetOwner → Bearer
owner_kept t TheSystem = None
owner_kept t (Entity e) = Some (i.Stays (height t))

abbrev pub walk_loop : Site → SetOwner → Site
walk_loop t o = above (above (owner_cell t o) Integer) Integer

-- where the turns of a FOR are
abbrev pub loop_cells : Site → Head → List Mode
loop_cells t (Numbers x a b c) = (number_loop t).cells
loop_cells t (Each x class) = (number_loop t).cells
loop_cells t (Members x set o start reverse) = (walk_loop t o).cells

abbrev pub in_loop : Site → Head → Site
in_loop t head = with_cells t (loop_cells t head)

-- the tick of an item or a member, which a variable is assigned
abbrev pub take_code : Site → (cell : ℕ) → Variable → List Placed
take_code u h x = if is_kept u x then place u i.Turn ∷ (place u (i.Keep (i.Stays h) x) ∷ []) else place u (i.Take h x) ∷ []

-- that; the turn; and on to the next one
abbrev pub turns_code : Site → (cell : ℕ) → Variable → (turn : List Placed) → (again : ℕ → Instruction) → List Placed
turns_code u h x turn again =
    take_code u h x ++ (turn ++ (place u (again (length (take_code u h x) + length turn)) ∷ []))

-- the first number, the limit and the step
abbrev pub step_code : Site → Option Expression → List Placed
step_code t None = place t (i.Move (i.Constant (Whole (pos 1))) (next t)) ∷ []
step_code t (Some e) = expression_code t (next t) e

abbrev pub range_code : Site → (first limit : Expression) → (step : Option Expression) → List Placed
range_code t a b c =
    expression_code t (next t) a ++ (expression_code (above t Integer) (next (above t Integer)) b ++ step_code (above (above t Integer) Integer) c)

-- the owner of a walk
abbrev pub owner_code : Site → SetOwner → List Placed
owner_code t TheSystem = []
owner_code t (Entity e) = expression_code t (next t) e

-- the member with which a walk begins, or after which
abbrev pub start_code : Site → (set : ℕ) → Bearer → Start → List Placed
start_code t set o AtEnd = []
start_code t set o (From e) = place t (i.LookOwner set o) ∷ expression_code t (next t) e
start_code t set o (After e) = place t (i.LookOwner set o) ∷ expression_code t (next t) e

abbrev pub begin_code : Site → (reverse : Bool) → (set : ℕ) → Bearer → Start → (skip : ℕ) → Placed
begin_code t reverse set o AtEnd skip = place t (i.BeginSet reverse set o (height t) skip)
begin_code t reverse set o (From e) skip = place (above t Integer) (i.BeginAt reverse false set o (height t) skip)
begin_code t reverse set o (After e) skip = place (above t Integer) (i.BeginAt reverse true set o (height t) skip)

-- the head of a loop; its turns; and the end, where what it keeps is forgotten
abbrev pub for_code : Site → Head → (turn : List Placed) → List Placed
for_code t (Numbers x a b c) turn =
    let turns : List Placed = turns_code (number_loop t) (height t) x turn (i.Next (height t)) in
    range_code t a b c ++ (place (number_loop t) (i.Begin (height t) (length turns)) ∷ (turns ++ forget_to t (number_loop t)))
for_code t (Each x class) turn =
    let turns : List Placed = turns_code (number_loop t) (height t) x turn (i.Next (height t)) in
    place t (i.BeginClass class (height t) (length turns)) ∷ (turns ++ forget_to t (number_loop t))
for_code t (Members x set o start reverse) turn =
    let u : Site = owner_cell t o in
    let turns : List Placed = turns_code (walk_loop t o) (height u) x turn (i.NextMember reverse set (owner_kept t o) (height u)) in
    owner_code t o ++ (start_code u set (owner_kept t o) start
    ++ (begin_code u reverse set (owner_kept t o) start (length turns) ∷ (turns ++ forget_to t (walk_loop t o))))

-- the sides of a FIND: the end of the loop at which no case was found comes before its side, the other after a jump past both sides
abbrev pub find_code : Site → Head → List Phrase → (found none : List Placed) → List Placed
find_code t head ps found none =
    for_code t head (phrases_code (in_loop t head) ps (place (in_loop t head) (i.Jump (length none + 3)) ∷ []))
    ++ (none ++ (place t (i.Jump (length found + 1)) ∷ (forget_to t (in_loop t head) ++ found)))

-- ## Sets

-- the member beside which another one is filed is looked at
abbrev pub beside_code : Site → (set : ℕ) → Option Expression → List Placed
beside_code t set None = []
beside_code t set (Some e) = member_code t true set e

abbrev pub filing_place : Site → (set : ℕ) → Position → FilingPlace
filing_place t set ByDiscipline = filing_by (slice_get t.scope.program.disciplines set)
filing_place t set AsFirst = i.First
filing_place t set AsLast = i.Last
filing_place t set (BeforeMember e) = i.Before (operand t e)
filing_place t set (AfterMember e) = i.After (operand t e)

-- FILE: the member, the one beside it, the owner
abbrev pub file_code : Site → (set : ℕ) → Expression → Position → SetOwner → List Placed
file_code t set e position o =
    let y : Option Expression = neighbour_of position in
    let t1 : Site = after t e in
    member_code t (needs_look y (expression_of o)) set e
    ++ (beside_code t1 set y ++ with_owner (after_bearer t1 y) o (i.File (filing_place t1 set position) set (operand t e)))

-- REMOVE: the member, which is looked at where the evaluation of the owner may fault; the owner
abbrev pub remove_code : Site → (set : ℕ) → Expression → SetOwner → List Placed
remove_code t set e o = member_code t (may_fault (expression_of o)) set e ++ with_owner (after t e) o (i.Remove set (operand t e))

-- REMOVE FIRST and REMOVE LAST
abbrev pub remove_end_code : Site → End → (set : ℕ) → Place → SetOwner → List Placed
remove_end_code t end set p o = to_place_code t p Integer (λ t to. with_owner t o (λ o. i.RemoveEnd end set o to))

-- ## Entities

abbrev pub creates_code : Site → List CountedClass → List Placed
creates_code t [] = []
creates_code t (c ∷ cs) = place t (i.CreateAll c) ∷ creates_code t cs

-- ## Events

-- the time to schedule for, in a new cell
abbrev pub when_code : Site → When → List Placed
when_code t (At e) = with_operand t e (λ x. i.At x (next t))
when_code t (In e) = with_operand t e (λ x. i.In x (next t))
when_code t Now = place t (i.Clock (next t)) ∷ []

-- the place of a new notice is resolved, and its reference looked at
abbrev pub place_code : Site → Place → List Placed
place_code t (ToVariable x) = []
place_code t (ToAttribute class field r) = entity_code t true class r
place_code t (ToCount c) = []

abbrev pub place_cells : Site → Place → List Mode
place_cells t (ToVariable x) = t.cells
place_cells t (ToAttribute class field r) = operand_cells t r
place_cells t (ToCount c) = t.cells

abbrev pub after_place : Site → Place → Site
after_place t p = with_cells t (place_cells t p)

-- A notice is made, assigned to its place, and filed. Its time is in the topmost cell of u. A variable has its number at once; otherwise that stays
-- above the time until the notice is filed
abbrev pub notice_code : (t u : Site) → (class : ℕ) → Place → (make : To → Placed) → List Placed
notice_code t u class (ToVariable x) make =
    variable_code u x (λ to. make to ∷ []) ++ place u (i.FileNotice class (i.Held x) (i.Taken (height t))) ∷ []
notice_code t u class (ToAttribute c field r) make =
    let v : Site = above u Integer in
    let t1 : Site = after t r in
    make (next u) ∷ (place v (i.SetAttribute c field (stay (operand t r)) (i.Stays (height u)))
    ∷ (place v (i.FileNotice class (i.Taken (height u)) (i.Taken (height t1))) ∷ forget_to t t1))
notice_code t u class (ToCount c) make =
    let v : Site = above u Integer in
    make (next u) ∷ (count_code v c (i.Stays (height u)) ++ place v (i.FileNotice class (i.Taken (height u)) (i.Taken (height t))) ∷ [])

-- SCHEDULE A: the place, the values, the time; and the notice
abbrev pub schedule_new_code : Site → (class : ℕ) → Place → List Expression → When → List Placed
schedule_new_code t class p given when =
    let t1 : Site = after_place t p in
    let t2 : Site = after_values t1 given in
    place_code t p ++ (values_code t1 given ++ (when_code t2 when
    ++ notice_code t (above t1 Integer) class p (λ to. place (above t2 Integer) (i.MakeNotice class (height t1) (length given) to))))

-- SCHEDULE THE: the notice, the values, the time
abbrev pub schedule_code : Site → (class : ℕ) → Expression → List Expression → When → List Placed
schedule_code t class e given when =
    let t1 : Site = after t e in
    let t2 : Site = after_values t1 given in
    entity_code t true class e ++ (values_code t1 given ++ (when_code t2 when
    ++ place (above t2 Integer) (i.Reschedule class (operand t e) (height t1) (length given)) ∷ []))

-- ## Statistics

abbrev pub restarts_code : Site → List Restart → List Placed
restarts_code t [] = []
restarts_code t (r ∷ rs) =
    (bearer_code t r.of ++ place (after_bearer t r.of) (i.Reset r.statistic (bearer t r.of)) ∷ []) ++ restarts_code t rs

-- ## PRINT

-- an item: the value that it takes in a new cell; a mean is looked at in its place
abbrev pub item_code : Site → PrintItem → List Placed
item_code t (AValue e) = expression_code t (next t) e
item_code t (AMean j) = place t (i.LookMean j None) ∷ []
item_code t (AMeanOf j e) = expression_code t (next t) e ++ place (above t Integer) (i.LookMean j (Some (i.Stays (height t)))) ∷ []

abbrev pub item_cells : TypedScope → PrintItem → List Mode → List Mode
item_cells s (AValue e) ms = expression_mode s e ∷ ms
item_cells s (AMean j) ms = ms
item_cells s (AMeanOf j e) ms = Integer ∷ ms

abbrev pub items_code : Site → List PrintItem → List Placed
items_code t [] = []
items_code t (x ∷ xs) = item_code t x ++ items_code (with_cells t (item_cells t.scope x t.cells)) xs

abbrev pub items_cells : TypedScope → List PrintItem → List Mode → List Mode
items_cells s [] ms = ms
items_cells s (x ∷ xs) ms = items_cells s xs (item_cells s x ms)

abbrev pub after_items : Site → List PrintItem → Site
after_items t xs = with_cells t (items_cells t.scope xs t.cells)

-- what an item is
abbrev pub item_kind : PrintItem → ItemKind
item_kind (AValue e) = i.ShowsValue
item_kind (AMean j) = i.ShowsMean j
item_kind (AMeanOf j e) = i.ShowsMeanOf j

-- the lines of a PRINT of these items
abbrev pub lines_of_items : List PrintItem → (pictures : List (List ℕ)) → Lines
lines_of_items items pictures = record { pictures = pictures; items = map item_kind items }

-- ## Statements

abbrev mutual
  -- the lines of each PRINT of a statement
  pub statement_prints : Statement → List Lines
  statement_prints (If l c a b) = block_prints a ++ block_prints b
  statement_prints (Loop l gs a) = block_prints a
  statement_prints (For l head ps a) = block_prints a
  statement_prints (Find l head ps a b) = block_prints a ++ block_prints b
  statement_prints (Print l items pictures) = lines_of_items items pictures ∷ []
  statement_prints _ = []

  pub block_prints : Block → List Lines
  block_prints Done = []
  block_prints (Then s rest) = statement_prints s ++ block_prints rest

-- the line of what never faults
abbrev pub no_line : Line
no_line = record { 0 = 0 }

abbrev mutual
  -- a statement, before which there are so many PRINTs
  pub statement_code : Site → ℕ → Statement → List Placed
  statement_code t first (Let l p e) = let_code (site_at_line t l) p e
  statement_code t first (Change l sign p e) = change_code (site_at_line t l) sign p e
  statement_code t first (Call l routine given yielding) =
      values_code (site_at_line t l) given ++ (place (after_values (site_at_line t l) given) (i.Call routine (height t)) ∷ gives_code (site_at_line t l) yielding)
  statement_code t first Return = place (site_at_line t no_line) i.Leave ∷ []
  statement_code t first Stop = place (site_at_line t no_line) i.Halt ∷ []
  statement_code t first (Read l targets) = reads_code (site_at_line t l) targets
  statement_code t first Simulate =
      place (site_at_line t no_line) (i.Await 2) ∷ (place (site_at_line t no_line) (i.TakeEvent (height t)) ∷ (place (site_at_line t no_line) (i.NextEvent 1) ∷ []))
  statement_code t first (If l c a b) =
      if_code (site_at_line t l) c (block_code t first a) (block_code t (first + length (block_prints a)) b)
  statement_code t first (Loop l gs a) = loop_code (site_at_line t l) gs (block_code t first a)
  statement_code t first (For l head ps a) =
      for_code (site_at_line t l) head (phrases_code (in_loop (site_at_line t l) head) ps (block_code (in_loop t head) first a))
  statement_code t first (Find l head ps a b) =
      find_code (site_at_line t l) head ps (block_code t first a) (block_code t (first + length (block_prints a)) b)
  statement_code t first (Create l class p) = to_place_code (site_at_line t l) p Integer (λ t to. place t (i.Create class to) ∷ [])
  statement_code t first (CreateEvery l classes) = creates_code (site_at_line t l) classes
  statement_code t first (Destroy l class e) = with_operand (site_at_line t l) e (i.Destroy class)
  statement_code t first (File l set e position o) = file_code (site_at_line t l) set e position o
  statement_code t first (RemoveEnd l end set p o) = remove_end_code (site_at_line t l) end set p o
  statement_code t first (Remove l set e o) = remove_code (site_at_line t l) set e o
  statement_code t first (ScheduleNew l class p given when) = schedule_new_code (site_at_line t l) class p given when
  statement_code t first (Schedule l class e given when) = schedule_code (site_at_line t l) class e given when
  statement_code t first (Cancel l class e) = with_operand (site_at_line t l) e (i.Cancel class)
  statement_code t first (Reset l restarts) = restarts_code (site_at_line t l) restarts
  statement_code t first (Print l items pictures) =
      items_code (site_at_line t l) items ++ place (after_items (site_at_line t l) items) (i.Print first (height t)) ∷ []
  statement_code t first (Skip l e) = with_operand (site_at_line t l) e i.Skip

  pub block_code : Site → ℕ → Block → List Placed
  block_code t first Done = []
  block_code t first (Then s rest) = statement_code t first s ++ block_code t (first + length (statement_prints s)) rest

-- ## Programs: MAIN, the routines, and the events' routines

abbrev pub main_scope : Program → TypedScope
main_scope p = record { program = p; locals = p.locals; is_main = true }

abbrev pub routine_scope : Program → Routine → TypedScope
routine_scope p r = record { program = p; locals = r.given ++ (r.yielding ++ r.others); is_main = false }

abbrev pub event_scope : Program → Event → TypedScope
event_scope p e = record { program = p; locals = e.given ++ e.others; is_main = false }

-- where a section begins: there are no cells
abbrev pub first_site : TypedScope → Site
first_site s = record { scope = s; line = no_line; cells = [] }

-- each section ends with a return
abbrev pub section_code : TypedScope → ℕ → Block → List Placed
section_code s first body = block_code (first_site s) first body ++ place (first_site s) i.Leave ∷ []

abbrev pub routine_code : Program → ℕ → Routine → List Placed
routine_code p first r = section_code (routine_scope p r) first r.body

abbrev pub event_code : Program → ℕ → Event → List Placed
event_code p first e = section_code (event_scope p e) first e.body

-- the routines, and the events' routines, after so many PRINTs
abbrev pub routines_code : Program → ℕ → List Routine → List Placed
routines_code p first [] = []
routines_code p first (r ∷ rs) = routine_code p first r ++ routines_code p (first + length (block_prints r.body)) rs

abbrev pub events_code : Program → ℕ → List Event → List Placed
events_code p first [] = []
events_code p first (e ∷ es) = event_code p first e ++ events_code p (first + length (block_prints e.body)) es

abbrev pub routines_prints : List Routine → List Lines
routines_prints [] = []
routines_prints (r ∷ rs) = block_prints r.body ++ routines_prints rs

abbrev pub events_prints : List Event → List Lines
events_prints [] = []
events_prints (e ∷ es) = block_prints e.body ++ events_prints es

abbrev pub routine_entry : (place : ℕ) → Routine → EntryPoint
routine_entry at r = record { place = at; given = r.given; yielding = length r.yielding; others = r.yielding ++ r.others }

-- an event yields nothing
abbrev pub event_entry : (place : ℕ) → Event → EntryPoint
event_entry at e = record { place = at; given = e.given; yielding = 0; others = e.others }

-- where they begin, the first of them at this place
abbrev pub routine_entries : Program → (place first : ℕ) → List Routine → List EntryPoint
routine_entries p at first [] = []
routine_entries p at first (r ∷ rs) =
    routine_entry at r ∷ routine_entries p (at + length (routine_code p first r)) (first + length (block_prints r.body)) rs

abbrev pub event_entries : Program → (place first : ℕ) → List Event → List EntryPoint
event_entries p at first [] = []
event_entries p at first (e ∷ es) =
    event_entry at e ∷ event_entries p (at + length (event_code p first e)) (first + length (block_prints e.body)) es

-- how many PRINTs come before the routines, and before the events
abbrev pub main_prints : Program → ℕ
main_prints p = length (block_prints p.main)

abbrev pub prints_before_events : Program → ℕ
prints_before_events p = main_prints p + length (routines_prints p.routines)

abbrev pub main_code : Program → List Placed
main_code p = section_code (main_scope p) 0 p.main

abbrev pub all_routines : Program → List Placed
all_routines p = routines_code p (main_prints p) p.routines

abbrev pub all_events : Program → List Placed
all_events p = events_code p (prints_before_events p) p.events

-- the code of a program
abbrev pub code_of : Program → Code
code_of p = record {
  places = main_code p ++ (all_routines p ++ all_events p);
  prints = block_prints p.main ++ (routines_prints p.routines ++ events_prints p.events);
  routines = routine_entries p (length (main_code p)) (main_prints p) p.routines;
  events = event_entries p (length (main_code p) + length (all_routines p)) (prints_before_events p) p.events;
  layout = p.layout;
  setting = setting_of p;
  ties = map (tie_shapes p.layout) p.events;
  globals = p.globals;
  locals = p.locals;
}
