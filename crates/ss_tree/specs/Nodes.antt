-- How many nodes a tree has: one for each section, statement of a preamble, statement, phrase, test, operator, sign,
-- function, name, number, text and picture in it. In four places that are empty in no text's tree an empty one counts as
-- one, so that the nodes bound the code of every tree: the further factors of a product, the further terms of a sum, the
-- tests of an alternative, and the alternatives of a condition.
use Rattle.std.specs.Prelude.{ℕ, ◌+◌, List, [], ◌∷◌, length, sum_by}
use Rattle.std.specs.Option.{option_map_or}
use Rattle.ss_tree.specs.Tree.{ExpressionTree, number, text, named, call, parenthesised, product, signed, sum, ExpressionRow, no_expression, and_expression, TermRow, no_term, and_term, NamedTree, TestTree, compare, empty, member, data_ended, ConditionTree, PhraseTree, GuardTree, StartTree, from_end, from_member, after_member, HeadTree, over_range, over_members, over_class, LoopHeadTree, for_head, guarded, PositionTree, by_discipline, at_first, at_last, before, after, WhenTree, at_time, in_units, now, StatementTree, let_statement, add_statement, subtract_statement, call_statement, return_statement, stop_statement, read_statement, start_simulation, if_statement, loop_statement, find_statement, find_if_statement, create_statement, create_every, destroy_statement, file_statement, remove_end, remove_statement, schedule_new, schedule_statement, cancel_statement, reset_statement, print_statement, skip_statement, StatementRow, no_statement, and_statement, ClauseTree, has, owns, belongs_to, OrderTree, fifo, lifo, ranked, PreambleTree, permanent_entities, temporary_entities, event_notices, every, normally, system_owns, define_variables, define_sets, priority_order, break_ties, statistics, DefinitionTree, SectionKindTree, main, routine, event, SectionTree, ProgramTree}

-- a function and an operator are a node each; parentheses are none
abbrev mutual
  pub expression_tree_nodes : ExpressionTree → ℕ
  expression_tree_nodes (number n) = 1
  expression_tree_nodes (text t) = 1
  expression_tree_nodes (named designator subscripts) = 1 + row_nodes subscripts
  expression_tree_nodes (call function arguments) = 1 + row_nodes arguments
  expression_tree_nodes (parenthesised inner) = expression_tree_nodes inner
  expression_tree_nodes (product first further) = expression_tree_nodes first + product_nodes further
  expression_tree_nodes (signed sign term) = 1 + expression_tree_nodes term
  expression_tree_nodes (sum first further) = expression_tree_nodes first + sum_nodes further

  pub row_nodes : ExpressionRow → ℕ
  row_nodes no_expression = 0
  row_nodes (and_expression e es) = expression_tree_nodes e + row_nodes es

  -- the further factors of a product; the tree of a text has one at least
  pub product_nodes : ExpressionRow → ℕ
  product_nodes no_expression = 1
  product_nodes (and_expression e es) = 1 + expression_tree_nodes e + factor_nodes es

  -- an operator and its factor, for each further factor
  pub factor_nodes : ExpressionRow → ℕ
  factor_nodes no_expression = 0
  factor_nodes (and_expression e es) = 1 + expression_tree_nodes e + factor_nodes es

  -- the further terms of a sum; the tree of a text has one at least
  pub sum_nodes : TermRow → ℕ
  sum_nodes no_term = 1
  sum_nodes (and_term sign e es) = 1 + expression_tree_nodes e + term_nodes es

  -- an operator and its term, for each further term
  pub term_nodes : TermRow → ℕ
  term_nodes no_term = 0
  term_nodes (and_term sign e es) = 1 + expression_tree_nodes e + term_nodes es

abbrev pub named_nodes : NamedTree → ℕ
named_nodes n = 1 + row_nodes n.subscripts

-- one test is one node and what it speaks of
abbrev pub test_tree_nodes : TestTree → ℕ
test_tree_nodes (compare left relation right) = 1 + expression_tree_nodes left + expression_tree_nodes right
test_tree_nodes (empty set negated) = 1 + named_nodes set
test_tree_nodes (member x set negated) = 1 + expression_tree_nodes x + named_nodes set
test_tree_nodes (data_ended negated) = 1

-- AND is none; in the tree of a text there is a test at least
abbrev pub alternative_tree_nodes : List TestTree → ℕ
alternative_tree_nodes [] = 1
alternative_tree_nodes (t ∷ ts) = sum_by test_tree_nodes (t ∷ ts)

-- OR is none; in the tree of a text there is an alternative at least
abbrev pub condition_tree_nodes : ConditionTree → ℕ
condition_tree_nodes [] = 1
condition_tree_nodes (c ∷ cs) = sum_by alternative_tree_nodes (c ∷ cs)

abbrev pub phrase_tree_nodes : PhraseTree → ℕ
phrase_tree_nodes p = 1 + condition_tree_nodes p.condition

-- the conditions of a loop that begins with WHILE or UNTIL are no phrases
abbrev pub guard_tree_nodes : GuardTree → ℕ
guard_tree_nodes g = condition_tree_nodes g.condition

abbrev pub start_tree_nodes : StartTree → ℕ
start_tree_nodes from_end = 0
start_tree_nodes (from_member e) = expression_tree_nodes e
start_tree_nodes (after_member e) = expression_tree_nodes e

abbrev pub head_tree_nodes : HeadTree → ℕ
head_tree_nodes (over_range variable from to step phrases) = 1 + expression_tree_nodes from + expression_tree_nodes to + option_map_or expression_tree_nodes step 0 + sum_by phrase_tree_nodes phrases
head_tree_nodes (over_members variable set start reverse phrases) = 1 + named_nodes set + start_tree_nodes start + sum_by phrase_tree_nodes phrases
head_tree_nodes (over_class class called phrases) = 1 + option_map_or (λ name. 1) called 0 + sum_by phrase_tree_nodes phrases

abbrev pub loop_head_nodes : LoopHeadTree → ℕ
loop_head_nodes (for_head head) = head_tree_nodes head
loop_head_nodes (guarded guards) = sum_by guard_tree_nodes guards

abbrev pub position_tree_nodes : PositionTree → ℕ
position_tree_nodes by_discipline = 0
position_tree_nodes at_first = 0
position_tree_nodes at_last = 0
position_tree_nodes (before e) = expression_tree_nodes e
position_tree_nodes (after e) = expression_tree_nodes e

abbrev pub when_tree_nodes : WhenTree → ℕ
when_tree_nodes (at_time e) = expression_tree_nodes e
when_tree_nodes (in_units e) = expression_tree_nodes e
when_tree_nodes now = 0

-- a loop is one statement, and the IF of a FIND is none
abbrev mutual
  pub statement_tree_nodes : StatementTree → ℕ
  statement_tree_nodes (let_statement line target value) = 1 + named_nodes target + expression_tree_nodes value
  statement_tree_nodes (add_statement line amount target) = 1 + expression_tree_nodes amount + named_nodes target
  statement_tree_nodes (subtract_statement line amount target) = 1 + expression_tree_nodes amount + named_nodes target
  statement_tree_nodes (call_statement line name given yielding) = 1 + 1 + sum_by expression_tree_nodes given + sum_by named_nodes yielding
  statement_tree_nodes (return_statement line) = 1
  statement_tree_nodes (stop_statement line) = 1
  statement_tree_nodes (read_statement line targets) = 1 + sum_by named_nodes targets
  statement_tree_nodes (start_simulation line) = 1
  statement_tree_nodes (if_statement line condition then otherwise) = 1 + condition_tree_nodes condition + statements_nodes then + statements_nodes otherwise
  statement_tree_nodes (loop_statement line head body) = 1 + loop_head_nodes head + statements_nodes body
  statement_tree_nodes (find_statement line head) = 1 + head_tree_nodes head
  statement_tree_nodes (find_if_statement line head outcome then otherwise) = 1 + head_tree_nodes head + statements_nodes then + statements_nodes otherwise
  statement_tree_nodes (create_statement line class called) = 1 + 1 + option_map_or named_nodes called 0
  statement_tree_nodes (create_every line classes) = 1 + length classes
  statement_tree_nodes (destroy_statement line class called) = 1 + 1 + option_map_or expression_tree_nodes called 0
  statement_tree_nodes (file_statement line x position set) = 1 + expression_tree_nodes x + position_tree_nodes position + named_nodes set
  statement_tree_nodes (remove_end line end target set) = 1 + named_nodes target + named_nodes set
  statement_tree_nodes (remove_statement line x set) = 1 + expression_tree_nodes x + named_nodes set
  statement_tree_nodes (schedule_new line class called given when) = 1 + 1 + option_map_or named_nodes called 0 + sum_by expression_tree_nodes given + when_tree_nodes when
  statement_tree_nodes (schedule_statement line class called given when) = 1 + 1 + option_map_or expression_tree_nodes called 0 + sum_by expression_tree_nodes given + when_tree_nodes when
  statement_tree_nodes (cancel_statement line class called) = 1 + 1 + option_map_or expression_tree_nodes called 0
  statement_tree_nodes (reset_statement line targets) = 1 + sum_by named_nodes targets
  statement_tree_nodes (print_statement line items pictures) = 1 + sum_by expression_tree_nodes items + length pictures
  statement_tree_nodes (skip_statement line count) = 1 + expression_tree_nodes count

  pub statements_nodes : StatementRow → ℕ
  statements_nodes no_statement = 0
  statements_nodes (and_statement s ss) = statement_tree_nodes s + statements_nodes ss

abbrev pub clause_nodes : ClauseTree → ℕ
clause_nodes (has names) = length names
clause_nodes (owns names) = length names
clause_nodes (belongs_to names) = length names

abbrev pub order_nodes : OrderTree → ℕ
order_nodes fifo = 0
order_nodes lifo = 0
order_nodes (ranked keys) = length keys

-- the head of a group is a statement of the preamble
abbrev pub preamble_nodes : PreambleTree → ℕ
preamble_nodes (permanent_entities line) = 1
preamble_nodes (temporary_entities line) = 1
preamble_nodes (event_notices line included) = 1 + length included
preamble_nodes (every line kind class clauses) = 1 + 1 + sum_by clause_nodes clauses
preamble_nodes (normally line mode) = 1
preamble_nodes (system_owns line sets) = 1 + length sets
preamble_nodes (define_variables line names mode) = 1 + length names
preamble_nodes (define_sets line names order) = 1 + length names + order_nodes order
preamble_nodes (priority_order line classes) = 1 + length classes
preamble_nodes (break_ties line class keys) = 1 + 1 + length keys
preamble_nodes (statistics line weighting found subject) = 1 + length found + 1

-- a DEFINE in a section is none, but its names are
abbrev pub definition_nodes : DefinitionTree → ℕ
definition_nodes d = length d.names

abbrev pub kind_nodes : SectionKindTree → ℕ
kind_nodes main = 0
kind_nodes (routine name given yielding) = 1 + length given + length yielding
kind_nodes (event name given saving) = 1 + length given

abbrev pub section_nodes : SectionTree → ℕ
section_nodes s = 1 + kind_nodes s.kind + sum_by definition_nodes s.definitions + sum_by statement_tree_nodes s.body

-- how many nodes a program has
abbrev pub tree_nodes : ProgramTree → ℕ
tree_nodes p = sum_by preamble_nodes p.preamble + sum_by section_nodes p.sections
