-- Statements that have statements in them, by lists.
use Rattle.std.proofs.Common.{◌≡◌, ℕ, ◌<◌, ◌≤◌, List, [], ◌∷◌, length, get_or, take, map, Option, Some, None, refl, sym, ap, subst, ◌∙◌}
use Rattle.ss_check_bodies.proofs.Common.{each_fails, fails_then, item, Line, ResolveError, Scope, Vec}
use Rattle.std.proofs.lemmas.List.{take_all}
use Rattle.ss_tree.specs.declared.condition.Condition.{Condition as ConditionParsed}
use Rattle.ss_tree.specs.declared.expression.Expression.{Expression as ExpressionParsed}
use Rattle.ss_tree.specs.declared.head.Head.{Head as HeadParsed}
use Rattle.ss_tree.specs.declared.head.LoopHead.{LoopHead}
use Rattle.ss_tree.specs.declared.statement.FindOutcome.{FindOutcome}
use Rattle.ss_tree.specs.declared.statement.Statement.{Statement as Parsed}
use Rattle.ss_tree.specs.declared.statement.Statement.TheVariants as parsed
use Rattle.ss_tree.specs.Tree.{StatementTree, statement_row}
use Rattle.ss_tree.specs.View.{view_condition_tree, view_expression_tree, view_head_tree, view_loop_head, view_statement_tree}
use Rattle.ss_tree.specs.Views.{view_if_tree_made, view_loop_tree_made, view_find_if_made}
use Rattle.ss_program.specs.declared.statement.PrintItem.{PrintItem as ItemMade}
use Rattle.ss_program.specs.declared.statement.Statement.{Statement as Made}
use Rattle.ss_program.specs.declared.statement.Statement.TheVariants as made
use Rattle.ss_program.specs.Program.{Statement, Then}
use Rattle.ss_program.specs.View.{block_of, view_body, view_item, view_statement as view_made}
use Rattle.ss_names_meaning.specs.Answers.{◌>>=◌, each, HasFailed, of_two}
use Rattle.ss_names_meaning.specs.Statements.{find_by, if_over, resolved_loop, simple_statement, statement, statements}

-- ---- statements that have statements in them

abbrev pub lines_of : Vec (Vec ℕ) → List (List ℕ)
lines_of ls = map (λ p. p.items) ls.items

-- a PRINT, by the items of its vectors
pub print_made : (c : Scope) (t : Parsed) (line : Line) (v : Vec ExpressionParsed) (ps : Vec (List ℕ)) (es : List ExpressionParsed) (qs : List (List ℕ)) (xs : Vec ItemMade) (ls : Vec (Vec ℕ)) →
    t ≡ parsed.Print line v ps → es ≡ v.items → qs ≡ ps.items → each (item c) (map view_expression_tree es) ≡ Some (map view_item xs.items) → lines_of ls ≡ qs →
    simple_statement c (view_statement_tree t) ≡ Some (view_made (made.Print line xs ls))
unfolding simple_statement view_statement_tree view_made
print_made c t line v ps es qs xs ls is e f h g =
    let shown : each (item c) (map view_expression_tree v.items) ≡ Some (map view_item xs.items) = subst (λ l. each (item c) (map view_expression_tree l) ≡ Some (map view_item xs.items)) e h in
    let lines : lines_of ls ≡ ps.items = g ∙ f in
    rw (is, shown, lines) refl

pub print_fails : (c : Scope) (t : Parsed) (line : Line) (v : Vec ExpressionParsed) (ps : Vec (List ℕ)) (es : List ExpressionParsed) (e : ResolveError) →
    t ≡ parsed.Print line v ps → es ≡ v.items → HasFailed e (each (item c) (map view_expression_tree es)) → HasFailed e (simple_statement c (view_statement_tree t))
unfolding simple_statement view_statement_tree
print_fails c t line v ps es e is f h =
    let shown : HasFailed e (each (item c) (map view_expression_tree v.items)) = subst (λ l. HasFailed e (each (item c) (map view_expression_tree l))) f h in
    rw is (fails_then (each (item c) (map view_expression_tree v.items)) _ e shown)

-- ---- the bodies in a statement

pub if_is : (c : Scope) (t : Parsed) (line : Line) (x : ConditionParsed) (a b : Vec Parsed) (ts us : List Parsed) →
    t ≡ parsed.If line x a b → ts ≡ a.items → us ≡ b.items →
    statement c (view_statement_tree t) ≡ (statements c (statement_row (map view_statement_tree ts)) >>= λ p. statements c (statement_row (map view_statement_tree us)) >>= λ q. if_over line c (view_condition_tree x) p q)
unfolding statement
if_is c t line x a b ts us is e f = rw (is, e, f) (ap (statement c) (view_if_tree_made line x a b))

pub loop_is : (c : Scope) (t : Parsed) (line : Line) (x : LoopHead) (a : Vec Parsed) (ts : List Parsed) →
    t ≡ parsed.Loop line x a → ts ≡ a.items →
    statement c (view_statement_tree t) ≡ (statements c (statement_row (map view_statement_tree ts)) >>= λ p. resolved_loop line c (view_loop_head x) p)
unfolding statement
loop_is c t line x a ts is e = rw (is, e) (ap (statement c) (view_loop_tree_made line x a))

pub find_if_is : (c : Scope) (t : Parsed) (line : Line) (x : HeadParsed) (o : FindOutcome) (a b : Vec Parsed) (ts us : List Parsed) →
    t ≡ parsed.FindIf line x o a b → ts ≡ a.items → us ≡ b.items →
    statement c (view_statement_tree t) ≡ (statements c (statement_row (map view_statement_tree ts)) >>= λ p. statements c (statement_row (map view_statement_tree us)) >>= λ q. find_by o line c (view_head_tree x) p q)
unfolding statement
find_if_is c t line x o a b ts us is e f = rw (is, e, f) (ap (statement c) (view_find_if_made line x o a b))

-- ---- statements one after the other

then_each : (r : Option Statement) (q : Option (List Statement)) → (r >>= λ x. (q >>= λ ss. Some (block_of ss)) >>= λ rest. Some (Then x rest)) ≡ (of_two r q (λ y ys. y ∷ ys) >>= λ ss. Some (block_of ss))
then_each None q = refl
then_each (Some x) None = refl
then_each (Some x) (Some ss) = refl

statements_are : (c : Scope) (ts : List StatementTree) → statements c (statement_row ts) ≡ (each (statement c) ts >>= λ ss. Some (block_of ss))
unfolding statement statements each
statements_are c [] = refl
statements_are c (t ∷ ts) = (λ i. statement c t >>= λ x. statements_are c ts i >>= λ rest. Some (Then x rest)) ∙ then_each (statement c t) (each (statement c) ts)

pub statements_fail : (c : Scope) (xs : List Parsed) (i : ℕ) (x : Parsed) (e : ResolveError) → i < length xs → x ≡ get_or xs i x →
    HasFailed e (statement c (view_statement_tree x)) → HasFailed e (statements c (statement_row (map view_statement_tree xs)))
statements_fail c xs i x e lt is h =
    rw (statements_are c (map view_statement_tree xs)) (fails_then (each (statement c) (map view_statement_tree xs)) (λ ss. Some (block_of ss)) e (each_fails (statement c) view_statement_tree xs i x e lt is h))

pub statements_made : (c : Scope) (xs : List Parsed) (i : ℕ) (ys : List Made) → length xs ≤ i →
    each (statement c) (map view_statement_tree (take i xs)) ≡ Some (map view_made ys) → statements c (statement_row (map view_statement_tree xs)) ≡ Some (view_body ys)
statements_made c xs i ys le h =
    statements_are c (map view_statement_tree xs)
    ∙ ap (λ (z : Option (List Statement)). z >>= λ ss. Some (block_of ss)) (ap (λ l. each (statement c) (map view_statement_tree l)) (sym (take_all i xs le)) ∙ h)
