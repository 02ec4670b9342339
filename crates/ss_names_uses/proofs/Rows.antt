-- The uses of rows of the tree, by rows as lists, and lists that a loop builds.
use Rattle.std.proofs.Common.{◌≡◌, append_assoc, Bool, true, false, ℕ, suc, ◌+◌, List, [], ◌∷◌, ◌++◌, length, map, refl, sym, ap, ◌∙◌, arith}
use Rattle.ss_names_uses.proofs.Common.{count, expression_row, ExpressionTree, flat_map, in_body, in_expression, in_inner, in_item, in_named, in_numbers, in_places, in_row, in_statement, in_terms, place_use, row_length, Sign, statement_row, StatementTree, term_row, view_expression_tree, view_named, view_statement_tree, view_term}
use Rattle.std.proofs.lemmas.List.{append-nil}
use Rattle.std.specs.Global.{Vec, Box}
use Rattle.ss_base.specs.declared.line.Line.{Line}
use Rattle.ss_tree.specs.declared.expression.Function.{Function}
use Rattle.ss_tree.specs.declared.expression.Named.{Named}
use Rattle.ss_tree.specs.declared.expression.Term.{Term}
use Rattle.ss_tree.specs.declared.expression.Expression.{Expression}
use Rattle.ss_tree.specs.declared.expression.Expression.TheVariants as variants
use Rattle.ss_tree.specs.declared.condition.Condition.{Condition}
use Rattle.ss_tree.specs.declared.head.Head.{Head}
use Rattle.ss_tree.specs.declared.head.LoopHead.{LoopHead}
use Rattle.ss_tree.specs.declared.statement.FindOutcome.{FindOutcome}
use Rattle.ss_tree.specs.declared.statement.Statement.{Statement}
use Rattle.ss_tree.specs.declared.statement.Statement.TheVariants as statements
use Rattle.ss_tree.specs.Views.{view_named_made, view_call_made, view_product_made, view_sum_made, view_if_tree_made, view_loop_tree_made, view_find_if_made}
use Rattle.ss_names_uses.specs.declared.used.Role.{Role}
use Rattle.ss_names_uses.specs.declared.used.Role.TheVariants as roles
use Rattle.ss_names_uses.specs.declared.used.CountNeed.TheVariants as counts
use Rattle.ss_names_uses.specs.declared.used.Use.{Use}

-- ---- rows

abbrev pub in_all_numbers : Line → List ExpressionTree → List Use
in_all_numbers line es = flat_map (in_expression line true) es

in_number_row : (line : Line) (es : List ExpressionTree) → in_numbers line (expression_row es) ≡ in_all_numbers line es
in_number_row line [] = refl
in_number_row line (e ∷ es) = ap (λ us. in_expression line true e ++ us) (in_number_row line es)

-- the terms after their signs
abbrev pub in_each_term : Line → List (Sign × ExpressionTree) → List Use
in_each_term line ts = flat_map (λ (t : Sign × ExpressionTree). in_expression line true t.1) ts

in_term_row : (line : Line) (ts : List (Sign × ExpressionTree)) → in_terms line (term_row ts) ≡ in_each_term line ts
in_term_row line [] = refl
in_term_row line (t ∷ ts) = ap (λ us. in_expression line true t.1 ++ us) (in_term_row line ts)

row_counted : (es : List Expression) → row_length (expression_row (map view_expression_tree es)) ≡ length es
row_counted [] = refl
row_counted (e ∷ es) = ap suc (row_counted es)

-- a named place, by the list of its subscripts
pub in_named_listed : (line : Line) (role : Role) (b : Bool) (n : Named) → in_named line role b (view_named n) ≡ place_use line role b n.designator (length n.subscripts.items) ∷ in_all_numbers line (map view_expression_tree n.subscripts.items)
in_named_listed line role b n =
    ap (λ (k : ℕ). place_use line role b n.designator k ∷ in_numbers line (expression_row (map view_expression_tree n.subscripts.items))) (row_counted n.subscripts.items) ∙
    ap (λ us. place_use line role b n.designator (length n.subscripts.items) ∷ us) (in_number_row line (map view_expression_tree n.subscripts.items))

pub in_named_made : (line : Line) (b : Bool) (n : Named) → in_expression line b (view_expression_tree (variants.Named n)) ≡ place_use line roles.Value b n.designator (length n.subscripts.items) ∷ in_all_numbers line (map view_expression_tree n.subscripts.items)
in_named_made line b n = ap (in_expression line b) (view_named_made n) ∙ in_named_listed line roles.Value b n

pub in_call_made : (line : Line) (b : Bool) (f : Function) (v : Vec Expression) → in_expression line b (view_expression_tree (variants.Call f v)) ≡ count line (length v.items) (counts.Arguments f) ∷ in_all_numbers line (map view_expression_tree v.items)
in_call_made line b f v =
    ap (in_expression line b) (view_call_made f v) ∙
    ap (λ (k : ℕ). count line k (counts.Arguments f) ∷ in_numbers line (expression_row (map view_expression_tree v.items))) (row_counted v.items) ∙
    ap (λ us. count line (length v.items) (counts.Arguments f) ∷ us) (in_number_row line (map view_expression_tree v.items))

pub in_product_made : (line : Line) (b : Bool) (e : Box Expression) (v : Vec Expression) → in_expression line b (view_expression_tree (variants.Product e v)) ≡ in_expression line true (view_expression_tree e.value) ++ in_all_numbers line (map view_expression_tree v.items)
in_product_made line b e v =
    ap (in_expression line b) (view_product_made e v) ∙
    ap (λ us. in_expression line true (view_expression_tree e.value) ++ us) (in_number_row line (map view_expression_tree v.items))

pub in_sum_made : (line : Line) (b : Bool) (e : Box Expression) (v : Vec Term) → in_expression line b (view_expression_tree (variants.Sum e v)) ≡ in_expression line true (view_expression_tree e.value) ++ in_each_term line (map view_term v.items)
in_sum_made line b e v =
    ap (in_expression line b) (view_sum_made e v) ∙
    ap (λ us. in_expression line true (view_expression_tree e.value) ++ us) (in_term_row line (map view_term v.items))

-- an item that is a named place
pub item_named : (line : Line) (n : Named) → in_item line (view_expression_tree (variants.Named n)) ≡ in_named line roles.Item false (view_named n)
item_named line n = ap (in_item line) (view_named_made n)

-- ---- places

pub places_more : {Y : Type 0} (f : ℕ → Y → List Use) (k : ℕ) (ys : List Y) (y : Y) → in_places f k (ys ++ y ∷ []) ≡ in_places f k ys ++ f (k + length ys) y
places_more f k [] y =
    let here : k + 0 ≡ k = omega arith in
    append-nil (f k y) ∙ ap (λ (n : ℕ). f n y) (sym here)
places_more f k (x ∷ ys) y =
    let there : (k + 1) + length ys ≡ k + suc (length ys) = omega arith in
    ap (λ l. f k x ++ l) (places_more f (k + 1) ys y ∙ ap (λ (n : ℕ). in_places f (k + 1) ys ++ f n y) there) ∙ sym (append_assoc (f k x) (in_places f (k + 1) ys) (f (k + suc (length ys)) y))

-- ---- the statements in a statement

in_statement_row : (ts : List StatementTree) → in_row (statement_row ts) ≡ in_body ts
in_statement_row [] = refl
in_statement_row (t ∷ ts) = ap (λ us. in_statement t ++ us) (in_statement_row ts)

in_two_rows : (ts es : List StatementTree) → in_row (statement_row ts) ++ in_row (statement_row es) ≡ in_body ts ++ in_body es
in_two_rows ts es = λ i. in_statement_row ts i ++ in_statement_row es i

pub inner_if : (l : Line) (c : Condition) (t e : Vec Statement) → in_inner (view_statement_tree (statements.If l c t e)) ≡ in_body (map view_statement_tree t.items) ++ in_body (map view_statement_tree e.items)
inner_if l c t e =
    ap in_inner (view_if_tree_made l c t e) ∙ in_two_rows (map view_statement_tree t.items) (map view_statement_tree e.items)

pub inner_find_if : (l : Line) (h : Head) (o : FindOutcome) (t e : Vec Statement) → in_inner (view_statement_tree (statements.FindIf l h o t e)) ≡ in_body (map view_statement_tree t.items) ++ in_body (map view_statement_tree e.items)
inner_find_if l h o t e =
    ap in_inner (view_find_if_made l h o t e) ∙ in_two_rows (map view_statement_tree t.items) (map view_statement_tree e.items)

pub inner_loop : (l : Line) (h : LoopHead) (b : Vec Statement) → in_inner (view_statement_tree (statements.Loop l h b)) ≡ in_body (map view_statement_tree b.items)
inner_loop l h b = ap in_inner (view_loop_tree_made l h b) ∙ in_statement_row (map view_statement_tree b.items)
