-- The tree that a program's value is, without where it lies in memory.
use Rattle.std.specs.Prelude.{ℕ, List, map, Option, Some, None}
use Rattle.ss_tree.specs.declared.expression.Expression.{Expression, Number, Text, Named', Call', Parenthesised', Product', Signed', Sum', Row_of-Expression, end_of-Expression, more_of-Expression, Row_of-Term, end_of-Term, more_of-Term}
use Rattle.ss_base.specs.declared.words.Sign.{Sign}
use Rattle.ss_tree.specs.declared.expression.Term.{Term}
use Rattle.ss_tree.specs.declared.expression.Named.{Named}
use Rattle.ss_tree.specs.declared.condition.Test.{Test}
use Rattle.ss_tree.specs.declared.condition.Test.TheVariants as tests
use Rattle.ss_tree.specs.declared.condition.Conjunction.{Conjunction}
use Rattle.ss_tree.specs.declared.condition.Condition.{Condition}
use Rattle.ss_tree.specs.declared.head.Phrase.{Phrase}
use Rattle.ss_tree.specs.declared.head.Guard.{Guard}
use Rattle.ss_tree.specs.declared.head.MemberStart.{MemberStart}
use Rattle.ss_tree.specs.declared.head.MemberStart.TheVariants as starts
use Rattle.ss_tree.specs.declared.head.Head.{Head}
use Rattle.ss_tree.specs.declared.head.Head.TheVariants as heads
use Rattle.ss_tree.specs.declared.head.LoopHead.{LoopHead}
use Rattle.ss_tree.specs.declared.head.LoopHead.TheVariants as loops
use Rattle.ss_tree.specs.declared.statement.Position.{Position}
use Rattle.ss_tree.specs.declared.statement.Position.TheVariants as positions
use Rattle.ss_tree.specs.declared.statement.When.{When}
use Rattle.ss_tree.specs.declared.statement.When.TheVariants as whens
use Rattle.ss_tree.specs.declared.statement.Statement.{Statement, Let, Add, Subtract, Call, Return, Stop, Read, StartSimulation, If', Loop', Find, FindIf', Create, CreateEvery, Destroy, File, RemoveEnd, Remove, ScheduleNew, Schedule, Cancel, Reset, Print, Skip, Row_of-Statement, end_of-Statement, more_of-Statement}
use Rattle.ss_tree.specs.declared.preamble.Clause.{Clause}
use Rattle.ss_tree.specs.declared.preamble.Clause.TheVariants as clauses
use Rattle.ss_tree.specs.declared.preamble.SetOrder.{SetOrder}
use Rattle.ss_tree.specs.declared.preamble.SetOrder.TheVariants as orders
use Rattle.ss_tree.specs.declared.preamble.PreambleStatement.{PreambleStatement}
use Rattle.ss_tree.specs.declared.preamble.PreambleStatement.TheVariants as preambles
use Rattle.ss_tree.specs.declared.program.LocalDefinition.{LocalDefinition}
use Rattle.ss_tree.specs.declared.program.SectionKind.{SectionKind}
use Rattle.ss_tree.specs.declared.program.SectionKind.TheVariants as kinds
use Rattle.ss_tree.specs.declared.program.Section.{Section}
use Rattle.ss_tree.specs.declared.program.Program.{Program}
use Rattle.ss_tree.specs.Tree.{ExpressionTree, number, text, named, call, parenthesised, product, signed, sum, ExpressionRow, no_expression, and_expression, expression_row, TermRow, no_term, and_term, NamedTree, TestTree, compare, empty, member, data_ended, ConditionTree, PhraseTree, GuardTree, StartTree, from_end, from_member, after_member, HeadTree, over_range, over_members, over_class, LoopHeadTree, for_head, guarded, PositionTree, by_discipline, at_first, at_last, before, after, WhenTree, at_time, in_units, now, StatementTree, let_statement, add_statement, subtract_statement, call_statement, return_statement, stop_statement, read_statement, start_simulation, if_statement, loop_statement, find_statement, find_if_statement, create_statement, create_every, destroy_statement, file_statement, remove_end, remove_statement, schedule_new, schedule_statement, cancel_statement, reset_statement, print_statement, skip_statement, StatementRow, no_statement, and_statement, ClauseTree, has, owns, belongs_to, OrderTree, fifo, lifo, ranked, PreambleTree, permanent_entities, temporary_entities, event_notices, every, normally, system_owns, define_variables, define_sets, priority_order, break_ties, statistics, DefinitionTree, SectionKindTree, main, routine, event, SectionTree, ProgramTree}
use Rattle.std.specs.Option.{option_map}

unfoldable mutual
  pub view_expression_tree : Expression → ExpressionTree
  view_expression_tree (Number n) = number n
  view_expression_tree (Text t) = text t
  view_expression_tree (Named' designator shape subscripts) = named designator (view_expressions subscripts)
  view_expression_tree (Call' function shape arguments) = call function (view_expressions arguments)
  view_expression_tree (Parenthesised' p inner) = parenthesised (view_expression_tree inner)
  view_expression_tree (Product' p first shape further) = product (view_expression_tree first) (view_expressions further)
  view_expression_tree (Signed' sign p term) = signed sign (view_expression_tree term)
  view_expression_tree (Sum' p first shape further) = sum (view_expression_tree first) (view_terms further)

  pub view_expressions : {n : _} → Row_of-Expression n → ExpressionRow
  view_expressions end_of-Expression = no_expression
  view_expressions (more_of-Expression e es) = and_expression (view_expression_tree e) (view_expressions es)

  pub view_terms : {n : _} → Row_of-Term n → TermRow
  view_terms end_of-Term = no_term
  view_terms (more_of-Term sign value rest) = and_term sign (view_expression_tree value) (view_terms rest)

abbrev pub view_term : Term → Sign × ExpressionTree
view_term t = (t.sign, view_expression_tree t.value)

abbrev pub view_named : Named → NamedTree
view_named n = record { designator = n.designator; subscripts = expression_row (map view_expression_tree n.subscripts.items) }

abbrev pub view_test_tree : Test → TestTree
view_test_tree (tests.Compare left relation right) = compare (view_expression_tree left) relation (view_expression_tree right)
view_test_tree (tests.Empty set negated) = empty (view_named set) negated
view_test_tree (tests.Member x set negated) = member (view_expression_tree x) (view_named set) negated
view_test_tree (tests.DataEnded negated) = data_ended negated

abbrev pub view_conjunction_tree : Conjunction → List TestTree
view_conjunction_tree c = map view_test_tree c.tests.items

abbrev pub view_condition_tree : Condition → ConditionTree
view_condition_tree c = map view_conjunction_tree c.alternatives.items

abbrev pub view_phrase_tree : Phrase → PhraseTree
view_phrase_tree p = record { kind = p.kind; condition = view_condition_tree p.condition }

abbrev pub view_guard_tree : Guard → GuardTree
view_guard_tree g = record { kind = g.kind; condition = view_condition_tree g.condition }

abbrev pub view_start_tree : MemberStart → StartTree
view_start_tree starts.End = from_end
view_start_tree (starts.From e) = from_member (view_expression_tree e)
view_start_tree (starts.After e) = after_member (view_expression_tree e)

abbrev pub view_head_tree : Head → HeadTree
view_head_tree (heads.Range variable from to step phrases) = over_range variable (view_expression_tree from) (view_expression_tree to) (option_map view_expression_tree step) (map view_phrase_tree phrases.items)
view_head_tree (heads.Members variable set start reverse phrases) = over_members variable (view_named set) (view_start_tree start) reverse (map view_phrase_tree phrases.items)
view_head_tree (heads.Class class called phrases) = over_class class called (map view_phrase_tree phrases.items)

abbrev pub view_loop_head : LoopHead → LoopHeadTree
view_loop_head (loops.For head) = for_head (view_head_tree head)
view_loop_head (loops.Guards guards) = guarded (map view_guard_tree guards.items)

abbrev pub view_position_tree : Position → PositionTree
view_position_tree positions.Discipline = by_discipline
view_position_tree positions.First = at_first
view_position_tree positions.Last = at_last
view_position_tree (positions.Before e) = before (view_expression_tree e)
view_position_tree (positions.After e) = after (view_expression_tree e)

abbrev pub view_when_tree : When → WhenTree
view_when_tree (whens.At e) = at_time (view_expression_tree e)
view_when_tree (whens.In e) = in_units (view_expression_tree e)
view_when_tree whens.Now = now

unfoldable mutual
  pub view_statement_tree : Statement → StatementTree
  view_statement_tree (Let line target value) = let_statement line (view_named target) (view_expression_tree value)
  view_statement_tree (Add line amount target) = add_statement line (view_expression_tree amount) (view_named target)
  view_statement_tree (Subtract line amount target) = subtract_statement line (view_expression_tree amount) (view_named target)
  view_statement_tree (Call line called given yielding) = call_statement line called (map view_expression_tree given.items) (map view_named yielding.items)
  view_statement_tree (Return line) = return_statement line
  view_statement_tree (Stop line) = stop_statement line
  view_statement_tree (Read line targets) = read_statement line (map view_named targets.items)
  view_statement_tree (StartSimulation line) = start_simulation line
  view_statement_tree (If' line condition shape then shape' otherwise) = if_statement line (view_condition_tree condition) (view_statements then) (view_statements otherwise)
  view_statement_tree (Loop' line head shape body) = loop_statement line (view_loop_head head) (view_statements body)
  view_statement_tree (Find line head) = find_statement line (view_head_tree head)
  view_statement_tree (FindIf' line head outcome shape then shape' otherwise) = find_if_statement line (view_head_tree head) outcome (view_statements then) (view_statements otherwise)
  view_statement_tree (Create line class called) = create_statement line class (option_map view_named called)
  view_statement_tree (CreateEvery line classes) = create_every line classes.items
  view_statement_tree (Destroy line class called) = destroy_statement line class (option_map view_expression_tree called)
  view_statement_tree (File line x position set) = file_statement line (view_expression_tree x) (view_position_tree position) (view_named set)
  view_statement_tree (RemoveEnd line end target set) = remove_end line end (view_named target) (view_named set)
  view_statement_tree (Remove line x set) = remove_statement line (view_expression_tree x) (view_named set)
  view_statement_tree (ScheduleNew line class called given when) = schedule_new line class (option_map view_named called) (map view_expression_tree given.items) (view_when_tree when)
  view_statement_tree (Schedule line class called given when) = schedule_statement line class (option_map view_expression_tree called) (map view_expression_tree given.items) (view_when_tree when)
  view_statement_tree (Cancel line class called) = cancel_statement line class (option_map view_expression_tree called)
  view_statement_tree (Reset line targets) = reset_statement line (map view_named targets.items)
  view_statement_tree (Print line items pictures) = print_statement line (map view_expression_tree items.items) pictures.items
  view_statement_tree (Skip line count) = skip_statement line (view_expression_tree count)

  pub view_statements : {n : _} → Row_of-Statement n → StatementRow
  view_statements end_of-Statement = no_statement
  view_statements (more_of-Statement s ss) = and_statement (view_statement_tree s) (view_statements ss)

abbrev pub view_clause : Clause → ClauseTree
view_clause (clauses.Has names) = has names.items
view_clause (clauses.Owns names) = owns names.items
view_clause (clauses.BelongsTo names) = belongs_to names.items

abbrev pub view_order : SetOrder → OrderTree
view_order orders.Fifo = fifo
view_order orders.Lifo = lifo
view_order (orders.Ranked keys) = ranked keys.items

abbrev pub view_preamble : PreambleStatement → PreambleTree
view_preamble (preambles.PermanentEntities line) = permanent_entities line
view_preamble (preambles.TemporaryEntities line) = temporary_entities line
view_preamble (preambles.EventNotices line included) = event_notices line included.items
view_preamble (preambles.Every line kind class clauses) = every line kind class (map view_clause clauses.items)
view_preamble (preambles.Normally line mode) = normally line mode
view_preamble (preambles.SystemOwns line sets) = system_owns line sets.items
view_preamble (preambles.DefineVariables line names mode) = define_variables line names.items mode
view_preamble (preambles.DefineSets line names order) = define_sets line names.items (view_order order)
view_preamble (preambles.PriorityOrder line classes) = priority_order line classes.items
view_preamble (preambles.BreakTies line class keys) = break_ties line class keys.items
view_preamble (preambles.Statistics line weighting found subject) = statistics line weighting found.items subject

abbrev pub view_definition : LocalDefinition → DefinitionTree
view_definition d = record { line = d.line; names = d.names.items; mode = d.mode }

abbrev pub view_kind : SectionKind → SectionKindTree
view_kind kinds.Main = main
view_kind (kinds.Routine name given yielding) = routine name given.items yielding.items
view_kind (kinds.Event name given saving) = event name given.items saving

abbrev pub view_section : Section → SectionTree
view_section s = record { line = s.line; kind = view_kind s.kind; definitions = map view_definition s.definitions.items; body = map view_statement_tree s.body.items }

-- the tree of a program
abbrev pub view_program_tree : Program → ProgramTree
view_program_tree p = record { preamble = map view_preamble p.preamble.items; sections = map view_section p.sections.items }
