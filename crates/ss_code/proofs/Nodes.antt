-- How long the code of a program is: at most 64 instructions for each of its nodes.
use Rattle.std.proofs.Common.{ℕ, ◌+◌, ◌*◌, ◌≤◌, Bool, true, List, [], ◌∷◌, Option, arith}
use Rattle.ss_program.specs.declared.expression.Variable.{Variable}
use Rattle.ss_base.specs.declared.words.GuardKind.{GuardKind}
use Rattle.ss_base.specs.declared.words.PhraseKind.{PhraseKind}
use Rattle.ss_program.specs.Program.{Expression, Attribute, OfSet, OfMember, TimeOf, FigureOf, Signed, Unary, Calculate, SetOwner, Test, Condition, Head, Start, Phrase, Guard, Place, ToVariable, ToAttribute, ToCount, InputTarget, Position, BeforeMember, AfterMember, When, Restart, PrintItem, Statement, If, Loop, For, Find, Create, File, RemoveEnd, Remove, ScheduleNew, Schedule, Block, Done, Then, Routine, Event, Program}
use Rattle.ss_program.specs.Nodes.{total, option_nodes, expression_nodes, subscript_nodes, set_nodes, test_nodes, alternative_nodes, condition_nodes, guard_nodes, phrase_nodes, place_nodes, target_nodes, start_nodes, head_nodes, position_nodes, when_nodes, restart_nodes, item_nodes, statement_nodes, block_nodes, routine_nodes, event_nodes, nodes}
use Rattle.ss_code_instructions.specs.Facts.{is_watched, needs_look, expression_of, may_fault, neighbour_of}
use Rattle.ss_code_instructions.specs.Size.{one_if, one_if_some, expression_size, operand_size, operand_cell_count, values_size, looked_size, any_size, test_size, tests_size, alternatives_size, condition_size, guard_size, guards_size, phrase_size, phrases_size}
use Rattle.ss_code_instructions.specs.Size as z

one_small : (b : Bool) → one_if b ≤ 1
one_small b = grind arith

some_small : (n : ℕ) → one_if_some n ≤ 1
some_small n = grind arith

-- ## Expressions

-- an operand, where its expression is no longer than its nodes say
operand_under : (e : Expression) → expression_size e ≤ expression_nodes e → operand_size e ≤ subscript_nodes e
operand_under e h = grind arith

subscript_under : (e : Expression) → subscript_nodes e ≤ expression_nodes e
subscript_under e = grind arith

expression_small : (e : Expression) → expression_size e ≤ expression_nodes e
expression_small (Attribute class field e) = omega (arith, operand_under e (expression_small e))
expression_small (OfSet query set e) = omega (arith, operand_under e (expression_small e))
expression_small (OfMember query set e) = omega (arith, operand_under e (expression_small e))
expression_small (TimeOf e) = omega (arith, operand_under e (expression_small e), subscript_under e)
expression_small (FigureOf fold k e) = omega (arith, operand_under e (expression_small e))
expression_small (Signed sign e) = omega (arith, operand_under e (expression_small e), subscript_under e)
expression_small (Unary op e) = omega (arith, operand_under e (expression_small e), subscript_under e)
expression_small (Calculate op a b) = omega (arith, operand_under a (expression_small a), subscript_under a, operand_under b (expression_small b), subscript_under b)
expression_small _ = omega arith

operand_small : (e : Expression) → operand_size e ≤ subscript_nodes e
operand_small e = operand_under e (expression_small e)

operand_within : (e : Expression) → operand_size e ≤ expression_nodes e
operand_within e = omega (arith, operand_small e, subscript_under e)

-- an expression that takes a cell, as a subscript
meant_small : (e : Expression) → expression_size e ≤ 1 + subscript_nodes e
meant_small e = grind (arith, expression_small e)

values_small : (es : List Expression) → values_size es ≤ total expression_nodes es
values_small [] = omega arith
values_small (e ∷ es) = omega (arith, expression_small e, values_small es)

looked_small : (b : Bool) (e : Expression) → looked_size b e ≤ 1 + subscript_nodes e
looked_small b e = omega (arith, operand_small e, one_small b)

owner_under : (o : SetOwner) → any_size (expression_of o) + 1 ≤ set_nodes o
owner_under o = grind (arith, operand_small)

-- ## Conditions

test_small : (x : Test) → test_size x ≤ test_nodes x
test_small x = grind (arith, operand_within, owner_under, looked_small, subscript_under)

tests_small : (xs : List Test) → tests_size xs ≤ total test_nodes xs
tests_small [] = omega arith
tests_small (x ∷ xs) = omega (arith, test_small x, tests_small xs)

test_there : (x : Test) → 1 ≤ test_nodes x
test_there x = grind arith

alternative_there : (xs : List Test) → 1 ≤ alternative_nodes xs
alternative_there xs = grind (arith, test_there)

alternative_small : (xs : List Test) → tests_size xs ≤ alternative_nodes xs
alternative_small xs = grind (arith, test_small, tests_small)

alternatives_small : (xs : List Test) (others : List (List Test)) → alternatives_size xs others ≤ 2 * (alternative_nodes xs + total alternative_nodes others)
alternatives_small xs [] = omega (arith, alternative_small xs)
alternatives_small xs (ys ∷ others) = omega (arith, alternative_small xs, alternative_there xs, alternatives_small ys others)

condition_small : (c : Condition) → condition_size c ≤ 2 * condition_nodes c
condition_small c = grind (arith, alternatives_small)

condition_there : (c : Condition) → 1 ≤ condition_nodes c
condition_there c = grind (arith, alternative_there)

guard_small : (k : GuardKind) (c : Condition) → guard_size k c ≤ 3 * condition_nodes c
guard_small k c = grind (arith, condition_small c, condition_there c)

guards_small : (gs : List Guard) → guards_size gs ≤ 3 * total guard_nodes gs
guards_small [] = omega arith
guards_small (g ∷ gs) = omega (arith, guard_small g.kind g.condition, guards_small gs)

phrase_small : (k : PhraseKind) (c : Condition) → phrase_size k c ≤ 2 * (1 + condition_nodes c)
phrase_small k c = grind (arith, condition_small c)

phrases_small : (ps : List Phrase) (turn : ℕ) → phrases_size ps turn ≤ 2 * total phrase_nodes ps + turn
phrases_small [] turn = omega arith
phrases_small (x ∷ xs) turn = omega (arith, phrase_small x.kind x.condition, phrases_small xs turn)

-- ## Assignments

place_there : (x : Place) → 1 ≤ place_nodes x
place_there x = grind arith

cells_small : (e : Expression) → operand_cell_count e ≤ 1
cells_small e = grind arith

module _ (p : Program) where
  kept_small : (x : Variable) → z.kept_size p x ≤ 1
  kept_small x = one_small (is_watched p.statistics x)

  let_variable_small : (b : Bool) (e : Expression) → z.let_variable_size p b e ≤ 1 + expression_nodes e
  let_variable_small b e = grind (arith, operand_within e, expression_small e)

  let_small : (x : Place) (e : Expression) → z.let_size p x e ≤ 2 * (place_nodes x + expression_nodes e)
  let_small x e = grind (arith, let_variable_small, looked_small, operand_within)

  change_small : (x : Place) (e : Expression) → z.change_size p x e ≤ 3 * (place_nodes x + expression_nodes e)
  change_small x e = grind (arith, operand_within, operand_small, kept_small)

  to_place_small : (x : Place) (source : ℕ) → z.to_place_size p x source ≤ source + place_nodes x + 2
  to_place_small (ToVariable x) source = omega (arith, kept_small x)
  to_place_small (ToAttribute class field r) source = omega (arith, looked_small true r)
  to_place_small (ToCount c) source = omega arith

  reads_small : (xs : List InputTarget) → z.reads_size p xs ≤ 4 * total target_nodes xs
  reads_small [] = omega arith
  reads_small (x ∷ xs) = omega (arith, to_place_small x.place 1, place_there x.place, reads_small xs)

  give_small : (x : Place) → z.give_size p x ≤ 2 * place_nodes x
  give_small x = grind (arith, operand_small)

  gives_small : (xs : List Place) → z.gives_size p xs ≤ 2 * total place_nodes xs
  gives_small [] = omega arith
  gives_small (x ∷ xs) = omega (arith, give_small x, gives_small xs)

  -- ## Loops

  step_small : (c : Option Expression) → z.step_size p c ≤ 1 + option_nodes expression_nodes c
  step_small c = grind (arith, expression_small)

  owner_small : (o : SetOwner) → z.owner_size p o ≤ set_nodes o
  owner_small o = grind (arith, meant_small)

  start_small : (s : Start) → z.start_size p s ≤ 1 + start_nodes s
  start_small s = grind (arith, expression_small)

  head_small : (head : Head) → z.head_size p head ≤ head_nodes head
  head_small head = grind (arith, expression_small, step_small, owner_small, start_small)

  for_small : (head : Head) (turn : ℕ) → z.for_size p head turn ≤ head_nodes head + 5 + turn
  for_small head turn = omega (arith, head_small head, kept_small (z.head_variable p head))

  -- ## Sets and events

  beside_small : (x : Position) → z.beside_size p (neighbour_of x) ≤ 1 + position_nodes x
  beside_small (BeforeMember e) = omega (arith, looked_small true e, subscript_under e)
  beside_small (AfterMember e) = omega (arith, looked_small true e, subscript_under e)
  beside_small _ = omega arith

  file_small : (e : Expression) (x : Position) (o : SetOwner) → z.file_size p e (neighbour_of x) (expression_of o) ≤ 2 + expression_nodes e + position_nodes x + set_nodes o
  file_small e x o = omega (arith, looked_small (needs_look (neighbour_of x) (expression_of o)) e, subscript_under e, beside_small x, owner_under o)

  when_small : (w : When) → z.when_size p w ≤ 1 + when_nodes w
  when_small w = grind (arith, operand_within)

  place_small : (x : Place) → z.place_size p x ≤ place_nodes x
  place_small (ToAttribute class field r) = looked_small true r
  place_small _ = omega arith

  notice_small : (x : Place) → z.notice_size p x ≤ 4
  notice_small x = grind (arith, kept_small, cells_small)

  restart_small : (e : Option Expression) → any_size e + 1 ≤ 1 + option_nodes subscript_nodes e
  restart_small e = grind (arith, operand_small)

  restarts_small : (rs : List Restart) → z.restarts_size p rs ≤ total restart_nodes rs
  restarts_small [] = omega arith
  restarts_small (r ∷ rs) = omega (arith, restart_small r.of, restarts_small rs)

  item_small : (x : PrintItem) → z.item_size p x ≤ 2 * item_nodes x
  item_small x = grind (arith, expression_small, meant_small)

  items_small : (xs : List PrintItem) → z.items_size p xs ≤ 2 * total item_nodes xs
  items_small [] = omega arith
  items_small (x ∷ xs) = omega (arith, item_small x, items_small xs)

  -- ## Statements

  mutual
    statement_small : (s : Statement) → z.statement_size p s ≤ 64 * statement_nodes s
    statement_small (If l c a b) = omega (arith, condition_small c, block_small a, block_small b, some_small (z.block_size p b))
    statement_small (Loop l gs a) = omega (arith, guards_small gs, block_small a)
    statement_small (For l head ps a) = omega (arith, for_small head (phrases_size ps (z.block_size p a)), phrases_small ps (z.block_size p a), block_small a)
    statement_small (Find l head ps a b) = omega (arith, for_small head (phrases_size ps 1), phrases_small ps 1, block_small a, block_small b)
    statement_small (File l set e x o) = omega (arith, file_small e x o)
    statement_small (RemoveEnd l end set x o) = omega (arith, to_place_small x (any_size (expression_of o) + 1), owner_under o)
    statement_small (Remove l set e o) = omega (arith, looked_small (may_fault (expression_of o)) e, subscript_under e, owner_under o)
    statement_small (ScheduleNew l class x given w) = omega (arith, place_small x, values_small given, when_small w, notice_small x)
    statement_small (Schedule l class e given w) = omega (arith, looked_small true e, subscript_under e, values_small given, when_small w)
    statement_small (Create l class x) = omega (arith, to_place_small x 1)
    statement_small _ = omega (arith, let_small, change_small, values_small, gives_small, reads_small, restarts_small, items_small, operand_within)

    block_small : (b : Block) → z.block_size p b ≤ 64 * block_nodes b
    block_small Done = omega arith
    block_small (Then s rest) = omega (arith, statement_small s, block_small rest)

  routines_small : (rs : List Routine) → z.routines_size p rs ≤ 64 * total routine_nodes rs
  routines_small [] = omega arith
  routines_small (r ∷ rs) = omega (arith, block_small r.body, routines_small rs)

  events_small : (es : List Event) → z.events_size p es ≤ 64 * total event_nodes es
  events_small [] = omega arith
  events_small (e ∷ es) = omega (arith, block_small e.body, events_small es)

  pub code_small : z.code_size p ≤ 64 * nodes p
  code_small = omega (arith, block_small p.main, routines_small p.routines, events_small p.events)
