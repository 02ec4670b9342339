-- How many nodes small trees have, counted by hand.
use Rattle.std.specs.Prelude.{◌≡◌, pos, true, false, [], ◌∷◌, Some, codes, refl}
use Rattle.ss_base.specs.declared.line.Line.{Line}
use Rattle.ss_base.specs.declared.words.Sign.TheVariants.{Plus, Minus}
use Rattle.ss_tree.specs.declared.expression.Designator.TheVariants.{Name}
use Rattle.ss_tree.specs.declared.expression.Function.TheVariants.{Two}
use Rattle.ss_base.specs.declared.words.Operator.TheVariants.{Remainder}
use Rattle.ss_base.specs.declared.words.Relation.TheVariants.{Equal, Greater}
use Rattle.ss_base.specs.declared.words.PhraseKind.TheVariants.{With}
use Rattle.ss_base.specs.declared.words.GuardKind.TheVariants.{Until}
use Rattle.ss_tree.specs.declared.preamble.ModeWord.TheVariants.{Integer}
use Rattle.ss_tree.specs.Tree.{ExpressionTree, number, text, named, call, parenthesised, product, signed, sum, no_expression, and_expression, no_term, and_term, NamedTree, compare, data_ended, over_range, for_head, guarded, let_statement, call_statement, stop_statement, if_statement, loop_statement, print_statement, no_statement, and_statement, define_variables, main}
use Rattle.ss_tree.specs.Nodes.{expression_tree_nodes, condition_tree_nodes, statement_tree_nodes, tree_nodes}

-- X
abbrev x : ExpressionTree
x = named (Name (codes "X")) no_expression

abbrev at_x : NamedTree
at_x = record { designator = Name (codes "X"); subscripts = no_expression }

-- X + 2 * (3 - X): two names, two numbers and three operators; the parentheses are none
pub a_sum : expression_tree_nodes (sum x (and_term Plus (product (number (pos 2)) (and_expression (parenthesised (sum (number (pos 3)) (and_term Minus x no_term))) no_expression)) no_term)) ≡ 7
a_sum = refl

-- 1 + 2 + 3 * 4 * 5: five numbers and four operators
pub many_terms : expression_tree_nodes (sum (number (pos 1)) (and_term Plus (number (pos 2)) (and_term Plus (product (number (pos 3)) (and_expression (number (pos 4)) (and_expression (number (pos 5)) no_expression))) no_term))) ≡ 9
many_terms = refl

-- -MOD.F(X, 3): a sign, a function, a name and a number
pub a_function : expression_tree_nodes (signed Minus (call (Two Remainder) (and_expression x (and_expression (number (pos 3)) no_expression)))) ≡ 4
a_function = refl

-- X > 0 AND DATA IS NOT ENDED OR X = "A": three tests, two names, a number and a text
pub a_condition : condition_tree_nodes ((compare x Greater (number (pos 0)) ∷ data_ended true ∷ []) ∷ (compare x Equal (text (codes "A")) ∷ []) ∷ []) ≡ 7
a_condition = refl

-- IF X > 0 STOP ELSE LET X = -1 ALWAYS: three statements, a test, two names, two numbers and a sign
pub an_if : (l : Line) → statement_tree_nodes (if_statement l ((compare x Greater (number (pos 0)) ∷ []) ∷ []) (and_statement (stop_statement l) no_statement) (and_statement (let_statement l at_x (signed Minus (number (pos 1)))) no_statement)) ≡ 9
an_if l = refl

-- FOR X = 1 TO 10 BY 2 WITH X > 3, CALL R GIVING X: two statements, a phrase, a test, four names and four numbers
pub a_loop_with_a_phrase : (l : Line) → statement_tree_nodes (loop_statement l (for_head (over_range (codes "X") (number (pos 1)) (number (pos 10)) (Some (number (pos 2))) (record { kind = With; condition = (compare x Greater (number (pos 3)) ∷ []) ∷ [] } ∷ []))) (and_statement (call_statement l (codes "R") (x ∷ []) []) no_statement)) ≡ 12
a_loop_with_a_phrase l = refl

-- UNTIL DATA IS ENDED DO LOOP: a statement and a test
pub a_loop_with_a_guard : (l : Line) → statement_tree_nodes (loop_statement l (guarded (record { kind = Until; condition = (data_ended false ∷ []) ∷ [] } ∷ [])) no_statement) ≡ 2
a_loop_with_a_guard l = refl

-- PRINT 2 LINES WITH X THUS: a statement, a name and two pictures
pub a_print : (l : Line) → statement_tree_nodes (print_statement l (x ∷ []) (codes "X = **" ∷ codes "" ∷ [])) ≡ 4
a_print l = refl

-- PREAMBLE DEFINE X AS AN INTEGER VARIABLE END MAIN LET X = 1 END: a statement of the preamble, a section, a statement,
-- two names and a number
pub a_program : (l : Line) → tree_nodes (record { preamble = define_variables l (codes "X" ∷ []) Integer ∷ []; sections = record { line = l; kind = main; definitions = []; body = let_statement l at_x (number (pos 1)) ∷ [] } ∷ [] }) ≡ 6
a_program l = refl
