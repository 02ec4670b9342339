-- Each variant's view, by the lists of its parts.
use Rattle.std.specs.Prelude.{◌≡◌, ℕ, ℤ, List, [], ◌∷◌, map, refl}
use Rattle.std.proofs.Common.{sym, ap, ◌∙◌}
use Rattle.std.specs.Global.{Vec, Box}
use Rattle.ss_base.specs.declared.words.Sign.{Sign}
use Rattle.ss_tree.specs.declared.expression.Function.{Function}
use Rattle.ss_tree.specs.declared.expression.Named.{Named}
use Rattle.ss_tree.specs.declared.expression.Term.{Term}
use Rattle.ss_tree.specs.declared.expression.Expression.TheVariants as variants
use Rattle.ss_tree.specs.declared.expression.Expression.{Expression, Row_of-Expression, end_of-Expression, more_of-Expression, items-the_row-Expression, items_hidden-the_row-Expression-0, Row_of-Term, end_of-Term, more_of-Term, items-the_row-Term, items_hidden-the_row-Term-1}
use Rattle.ss_tree.specs.declared.expression.Expression.TheBlock.{hidden-the_row-Expression-0, hidden-the_row-Term-1}
use Rattle.ss_tree.specs.Tree.{ExpressionTree, number, text, named, call, parenthesised, product, signed, sum, expression_row, and_expression, and_term, term_row, and_statement, statement_row, if_statement, loop_statement, find_if_statement}
use Rattle.ss_base.specs.declared.line.Line.{Line}
use Rattle.ss_tree.specs.declared.condition.Condition.{Condition}
use Rattle.ss_tree.specs.declared.head.Head.{Head}
use Rattle.ss_tree.specs.declared.head.LoopHead.{LoopHead}
use Rattle.ss_tree.specs.declared.statement.FindOutcome.{FindOutcome}
use Rattle.ss_tree.specs.declared.statement.Statement.TheVariants as statements
use Rattle.ss_tree.specs.declared.statement.Statement.{Statement, Row_of-Statement, end_of-Statement, more_of-Statement, items-the_row-Statement, items_hidden-the_row-Statement-0}
use Rattle.ss_tree.specs.declared.statement.Statement.TheBlock.{hidden-the_row-Statement-0}
use Rattle.ss_tree.specs.View.{view_expression_tree, view_expressions, view_terms, view_term, view_condition_tree, view_head_tree, view_loop_head, view_statement_tree, view_statements}

pub view_expressions_listed : (n : _) (k : Row_of-Expression n) → view_expressions k ≡ expression_row (map view_expression_tree (items-the_row-Expression n k))
unfolding view_expression_tree view_expressions view_terms
view_expressions_listed n end_of-Expression = refl
view_expressions_listed n (more_of-Expression e es) = ap (and_expression (view_expression_tree e)) (view_expressions_listed _ es)

pub view_terms_listed : (n : _) (k : Row_of-Term n) → view_terms k ≡ term_row (map view_term (items-the_row-Term n k))
unfolding view_expression_tree view_expressions view_terms
view_terms_listed n end_of-Term = refl
view_terms_listed n (more_of-Term sign value rest) = ap (and_term sign (view_expression_tree value)) (view_terms_listed _ rest)

-- the row in a vector
hidden_listed : (v : Vec Expression) → view_expressions (hidden-the_row-Expression-0 v) ≡ expression_row (map view_expression_tree v.items)
hidden_listed v = view_expressions_listed _ (hidden-the_row-Expression-0 v) ∙ ap (λ (l : List Expression). expression_row (map view_expression_tree l)) (items_hidden-the_row-Expression-0 v)

pub view_number : (n : ℤ) → view_expression_tree (variants.Number n) ≡ number n
unfolding view_expression_tree
view_number n = refl

pub view_text : (t : List ℕ) → view_expression_tree (variants.Text t) ≡ text t
unfolding view_expression_tree
view_text t = refl

pub view_named_made : (p : Named) → view_expression_tree (variants.Named p) ≡ named p.designator (expression_row (map view_expression_tree p.subscripts.items))
unfolding view_expression_tree
view_named_made p = ap (named p.designator) (hidden_listed p.subscripts)

pub view_call_made : (f : Function) (v : Vec Expression) → view_expression_tree (variants.Call f v) ≡ call f (expression_row (map view_expression_tree v.items))
unfolding view_expression_tree
view_call_made f v = ap (call f) (hidden_listed v)

pub view_parenthesised_made : (b : Box Expression) → view_expression_tree (variants.Parenthesised b) ≡ parenthesised (view_expression_tree b.value)
unfolding view_expression_tree
view_parenthesised_made b = refl

pub view_product_made : (b : Box Expression) (v : Vec Expression) → view_expression_tree (variants.Product b v) ≡ product (view_expression_tree b.value) (expression_row (map view_expression_tree v.items))
unfolding view_expression_tree
view_product_made b v = ap (product (view_expression_tree b.value)) (hidden_listed v)

pub view_signed_made : (s : Sign) (b : Box Expression) → view_expression_tree (variants.Signed s b) ≡ signed s (view_expression_tree b.value)
unfolding view_expression_tree
view_signed_made s b = refl

pub view_sum_made : (b : Box Expression) (v : Vec Term) → view_expression_tree (variants.Sum b v) ≡ sum (view_expression_tree b.value) (term_row (map view_term v.items))
unfolding view_expression_tree
view_sum_made b v = ap (sum (view_expression_tree b.value)) (view_terms_listed _ (hidden-the_row-Term-1 v) ∙ ap (λ (l : List Term). term_row (map view_term l)) (items_hidden-the_row-Term-1 v))

-- ---- statements that have statements in them

pub view_statements_listed : (n : _) (k : Row_of-Statement n) → view_statements k ≡ statement_row (map view_statement_tree (items-the_row-Statement n k))
unfolding view_statement_tree view_statements
view_statements_listed n end_of-Statement = refl
view_statements_listed n (more_of-Statement s ss) = ap (and_statement (view_statement_tree s)) (view_statements_listed _ ss)

statements_hidden : (v : Vec Statement) → view_statements (hidden-the_row-Statement-0 v) ≡ statement_row (map view_statement_tree v.items)
statements_hidden v = view_statements_listed _ (hidden-the_row-Statement-0 v) ∙ ap (λ (l : List Statement). statement_row (map view_statement_tree l)) (items_hidden-the_row-Statement-0 v)

pub view_if_tree_made : (line : Line) (c : Condition) (t e : Vec Statement) → view_statement_tree (statements.If line c t e) ≡ if_statement line (view_condition_tree c) (statement_row (map view_statement_tree t.items)) (statement_row (map view_statement_tree e.items))
unfolding view_statement_tree
view_if_tree_made line c t e = ap (λ ss. if_statement line (view_condition_tree c) ss (view_statements (hidden-the_row-Statement-0 e))) (statements_hidden t) ∙ ap (if_statement line (view_condition_tree c) (statement_row (map view_statement_tree t.items))) (statements_hidden e)

pub view_loop_tree_made : (line : Line) (h : LoopHead) (body : Vec Statement) → view_statement_tree (statements.Loop line h body) ≡ loop_statement line (view_loop_head h) (statement_row (map view_statement_tree body.items))
unfolding view_statement_tree
view_loop_tree_made line h body = ap (loop_statement line (view_loop_head h)) (statements_hidden body)

pub view_find_if_made : (line : Line) (h : Head) (outcome : FindOutcome) (t e : Vec Statement) → view_statement_tree (statements.FindIf line h outcome t e) ≡ find_if_statement line (view_head_tree h) outcome (statement_row (map view_statement_tree t.items)) (statement_row (map view_statement_tree e.items))
unfolding view_statement_tree
view_find_if_made line h outcome t e = ap (λ ss. find_if_statement line (view_head_tree h) outcome ss (view_statements (hidden-the_row-Statement-0 e))) (statements_hidden t) ∙ ap (find_if_statement line (view_head_tree h) outcome (statement_row (map view_statement_tree t.items))) (statements_hidden e)
