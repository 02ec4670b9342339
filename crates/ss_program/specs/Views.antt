-- The view of each form that holds a vector of its own kind, by the list that it is.
use Rattle.std.specs.Prelude.{◌≡◌, List, map, refl}
use Rattle.std.specs.List.{fold}
use Rattle.std.proofs.Common.{ap, ◌∙◌}
use Rattle.std.specs.Global.{Vec, Box}
use Rattle.ss_base.specs.declared.line.Line.{Line}
use Rattle.ss_program.specs.declared.expression.Operation.{Operation}
use Rattle.ss_program.specs.declared.expression.Expression.TheVariants as variants
use Rattle.ss_program.specs.declared.expression.Expression as expressions
use Rattle.ss_program.specs.declared.expression.Expression.{Row_of-Operation, end_of-Operation, more_of-Operation, items-the_row-Operation, items_hidden-the_row-Operation-0}
use Rattle.ss_program.specs.declared.expression.Expression.TheBlock.{hidden-the_row-Operation-0}
use Rattle.ss_program.specs.declared.condition.Condition.{Condition}
use Rattle.ss_program.specs.declared.head.Guard.{Guard}
use Rattle.ss_program.specs.declared.head.Phrase.{Phrase}
use Rattle.ss_program.specs.declared.head.Head.{Head}
use Rattle.ss_program.specs.declared.statement.Statement.TheVariants as forms
use Rattle.ss_program.specs.declared.statement.Statement as statements
use Rattle.ss_program.specs.declared.statement.Statement.{Row_of-Statement, end_of-Statement, more_of-Statement, items-the_row-Statement, items_hidden-the_row-Statement-0}
use Rattle.ss_program.specs.declared.statement.Statement.TheBlock.{hidden-the_row-Statement-0}
use Rattle.ss_program.specs.Program.{Expression, Calculate, If, Loop, For, Find, Then}
use Rattle.ss_program.specs.View.{view_expression, view_operations, view_condition, view_guard, view_phrase, view_head, view_statement, view_block, view_body}

-- an operation, done on what is left of it
abbrev pub with_operation : Expression → Operation → Expression
with_operation left o = Calculate o.operator left (view_expression o.operand)

pub view_operations_listed : (n : _) (left : Expression) (k : Row_of-Operation n) → view_operations left k ≡ fold with_operation left (items-the_row-Operation n k)
unfolding view_expression view_operations
view_operations_listed n left end_of-Operation = refl
view_operations_listed n left (more_of-Operation operator e rest) = view_operations_listed _ (Calculate operator left (view_expression e)) rest

pub view_calculate_made : (b : Box expressions.Expression) (v : Vec Operation) → view_expression (variants.Calculate b v) ≡ fold with_operation (view_expression b.value) v.items
unfolding view_expression view_operations
view_calculate_made b v = view_operations_listed _ (view_expression b.value) (hidden-the_row-Operation-0 v) ∙ ap (fold with_operation (view_expression b.value)) (items_hidden-the_row-Operation-0 v)

-- ---- statements that have statements in them

pub view_block_listed : (n : _) (k : Row_of-Statement n) → view_block k ≡ view_body (items-the_row-Statement n k)
unfolding view_statement view_block
view_block_listed n end_of-Statement = refl
view_block_listed n (more_of-Statement s ss) = ap (Then (view_statement s)) (view_block_listed _ ss)

block_hidden : (v : Vec statements.Statement) → view_block (hidden-the_row-Statement-0 v) ≡ view_body v.items
block_hidden v = view_block_listed _ (hidden-the_row-Statement-0 v) ∙ ap (λ (l : List statements.Statement). view_body l) (items_hidden-the_row-Statement-0 v)

pub view_if_made : (line : Line) (c : Condition) (a b : Vec statements.Statement) → view_statement (forms.If line c a b) ≡ If line (view_condition c) (view_body a.items) (view_body b.items)
unfolding view_statement
view_if_made line c a b = ap (λ k. If line (view_condition c) k (view_block (hidden-the_row-Statement-0 b))) (block_hidden a) ∙ ap (If line (view_condition c) (view_body a.items)) (block_hidden b)

pub view_loop_made : (line : Line) (gs : Vec Guard) (body : Vec statements.Statement) → view_statement (forms.Loop line gs body) ≡ Loop line (map view_guard gs.items) (view_body body.items)
unfolding view_statement
view_loop_made line gs body = ap (Loop line (map view_guard gs.items)) (block_hidden body)

pub view_for_made : (line : Line) (h : Head) (ps : Vec Phrase) (body : Vec statements.Statement) → view_statement (forms.For line h ps body) ≡ For line (view_head h) (map view_phrase ps.items) (view_body body.items)
unfolding view_statement
view_for_made line h ps body = ap (For line (view_head h) (map view_phrase ps.items)) (block_hidden body)

pub view_find_made : (line : Line) (h : Head) (ps : Vec Phrase) (a b : Vec statements.Statement) → view_statement (forms.Find line h ps a b) ≡ Find line (view_head h) (map view_phrase ps.items) (view_body a.items) (view_body b.items)
unfolding view_statement
view_find_made line h ps a b = ap (λ k. Find line (view_head h) (map view_phrase ps.items) k (view_block (hidden-the_row-Statement-0 b))) (block_hidden a) ∙ ap (Find line (view_head h) (map view_phrase ps.items) (view_body a.items)) (block_hidden b)
