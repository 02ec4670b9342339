-- Expressions whose parts lie in rows, by lists.
use Rattle.std.proofs.Common.{◌≡◌, ◌<◌, ◌≤◌, List, [], ◌∷◌, length, get_or, map, Option, Some, None, refl, sym, ap, ◌∙◌, arith}
use Rattle.ss_check_bodies.proofs.Common.{fails_then, fold, ResolveError, Scope, view_expression_tree, view_term}
use Rattle.std.proofs.lemmas.List.Folds.{fold-map}
use Rattle.std.specs.Global.{Vec, Box}
use Rattle.ss_base.specs.declared.words.Sign.{Sign as SignWord}
use Rattle.ss_tree.specs.declared.expression.Function.{Function}
use Rattle.ss_tree.specs.declared.expression.Expression.{Expression as Parsed}
use Rattle.ss_tree.specs.declared.expression.Expression.TheVariants as variants
use Rattle.ss_tree.specs.declared.expression.Term.{Term}
use Rattle.ss_tree.specs.Tree.{ExpressionTree, call, expression_row, term_row}
use Rattle.ss_tree.specs.Views.{view_call_made, view_product_made, view_sum_made}
use Rattle.ss_program.specs.declared.expression.Operation.{Operation}
use Rattle.ss_base.specs.declared.words.Operator.{Operator}
use Rattle.ss_base.specs.declared.words.Operator.TheVariants.{Multiply}
use Rattle.ss_program.specs.declared.expression.Expression.{Expression as Made}
use Rattle.ss_program.specs.declared.expression.Expression.TheVariants as made
use Rattle.ss_program.specs.Program.{Expression, Calculate}
use Rattle.ss_program.specs.View.{view_expression as view_made}
use Rattle.ss_program.specs.Views.{view_calculate_made}
use Rattle.ss_names_meaning.specs.Answers.{◌>>=◌, each, HasFailed, of_one, of_two}
use Rattle.ss_names_meaning.specs.Expressions.{resolved_operator, expression, subscript, one, two, factors, terms}
use Rattle.ss_check_bodies.specs.Results.{factor, further_term, operation_seen}

pub call_is : (t : Parsed) (f : Function) (v : Vec Parsed) (es : List Parsed) → t ≡ variants.Call f v → es ≡ v.items →
    call f (expression_row (map view_expression_tree es)) ≡ view_expression_tree t
call_is t f v es e h = rw (e, h) (sym (view_call_made f v))

-- ---- subscripts and arguments

pub subscript_is : (c : Scope) (es : List Parsed) (e : Parsed) → 1 ≤ length es → length es < 2 → e ≡ get_or es 0 e →
    subscript c (expression_row (map view_expression_tree es)) ≡ (expression c (view_expression_tree e) >>= λ x. Some (Some x))
unfolding expression subscript
subscript_is c [] e a b is = absurd (omega (arith, a))
subscript_is c (f ∷ []) e a b is = rw is refl
subscript_is c (f ∷ g ∷ es) e a b is = absurd (omega (arith, b))

pub subscripts_none : (c : Scope) (es : List Parsed) → 2 ≤ length es → subscript c (expression_row (map view_expression_tree es)) ≡ None
unfolding expression subscript
subscripts_none c [] a = absurd (omega (arith, a))
subscripts_none c (f ∷ []) a = absurd (omega (arith, a))
subscripts_none c (f ∷ g ∷ es) a = refl

pub one_is : (c : Scope) (es : List Parsed) (e : Parsed) → 1 ≤ length es → length es < 2 → e ≡ get_or es 0 e →
    expression c (view_expression_tree e) ≡ one c (expression_row (map view_expression_tree es))
unfolding expression one
one_is c [] e a b is = absurd (omega (arith, a))
one_is c (f ∷ []) e a b is = rw is refl
one_is c (f ∷ g ∷ es) e a b is = absurd (omega (arith, b))

pub not_one : (c : Scope) (es : List Parsed) → 2 ≤ length es → one c (expression_row (map view_expression_tree es)) ≡ None
unfolding expression one
not_one c [] a = absurd (omega (arith, a))
not_one c (f ∷ []) a = absurd (omega (arith, a))
not_one c (f ∷ g ∷ es) a = refl

pub two_is : (c : Scope) (es : List Parsed) (e f : Parsed) → 2 ≤ length es → length es < 3 → e ≡ get_or es 0 e → f ≡ get_or es 1 f →
    two c (expression_row (map view_expression_tree es)) ≡ (expression c (view_expression_tree e) >>= λ x. expression c (view_expression_tree f) >>= λ y. Some (x, y))
unfolding expression two
two_is c [] e f a b p q = absurd (omega (arith, a))
two_is c (u ∷ []) e f a b p q = absurd (omega (arith, a))
two_is c (u ∷ v ∷ []) e f a b p q = rw (p, q) refl
two_is c (u ∷ v ∷ w ∷ es) e f a b p q = absurd (omega (arith, b))

pub less_than_two : (c : Scope) (es : List Parsed) → length es < 2 → two c (expression_row (map view_expression_tree es)) ≡ None
unfolding expression two
less_than_two c [] a = refl
less_than_two c (u ∷ []) a = refl
less_than_two c (u ∷ v ∷ es) a = absurd (omega (arith, a))

pub more_than_two : (c : Scope) (es : List Parsed) → 3 ≤ length es → two c (expression_row (map view_expression_tree es)) ≡ None
unfolding expression two
more_than_two c [] a = absurd (omega (arith, a))
more_than_two c (u ∷ []) a = absurd (omega (arith, a))
more_than_two c (u ∷ v ∷ []) a = absurd (omega (arith, a))
more_than_two c (u ∷ v ∷ w ∷ es) a = refl

-- ---- further factors and terms

-- the operations on what is on the left, one after the other
abbrev joined : Expression → List (Operator × Expression) → Expression
joined left ops = fold (λ (l : Expression) (p : Operator × Expression). Calculate p.0 l p.1) left ops

unfoldable pub further_of : Option Expression → Option (List (Operator × Expression)) → Option Expression
further_of r q = r >>= λ left. q >>= λ ops. Some (joined left ops)

joined_more : (r : Option Expression) (op : Operator) (q : Option (List (Operator × Expression))) (rest : Expression → Option Expression) (left : Expression) →
    ((l : Expression) → rest l ≡ (q >>= λ ops. Some (joined l ops))) →
    (r >>= λ x. rest (Calculate op left x)) ≡ (of_two (of_one {B = Operator × Expression} r (λ x. (op, x))) q (λ y ys. y ∷ ys) >>= λ ops. Some (joined left ops))
joined_more None op q rest left h = refl
joined_more (Some x) op None rest left h = h (Calculate op left x)
joined_more (Some x) op (Some ops) rest left h = h (Calculate op left x)

factors_are : (c : Scope) (es : List ExpressionTree) (left : Expression) → factors c left (expression_row es) ≡ (each (factor c) es >>= λ ops. Some (joined left ops))
unfolding expression factors each
factors_are c [] left = refl
factors_are c (e ∷ es) left = joined_more (expression c e) Multiply (each (factor c) es) (λ l. factors c l (expression_row es)) left (λ l. factors_are c es l)

terms_are : (c : Scope) (ts : List (SignWord × ExpressionTree)) (left : Expression) → terms c left (term_row ts) ≡ (each (further_term c) ts >>= λ ops. Some (joined left ops))
unfolding expression terms each
terms_are c [] left = refl
terms_are c (t ∷ ts) left = joined_more (expression c t.1) (resolved_operator t.0) (each (further_term c) ts) (λ l. terms c l (term_row ts)) left (λ l. terms_are c ts l)

pub product_is : (c : Scope) (t : Parsed) (b : Box Parsed) (v : Vec Parsed) (es : List Parsed) → t ≡ variants.Product b v → es ≡ v.items →
    expression c (view_expression_tree t) ≡ further_of (expression c (view_expression_tree b.value)) (each (factor c) (map view_expression_tree es))
unfolding expression further_of
product_is c t b v es is listed =
    rw (is, listed) (ap (expression c) (view_product_made b v) ∙ (λ i. expression c (view_expression_tree b.value) >>= λ left. factors_are c (map view_expression_tree v.items) left i))

pub sum_is : (c : Scope) (t : Parsed) (b : Box Parsed) (v : Vec Term) (es : List Term) → t ≡ variants.Sum b v → es ≡ v.items →
    expression c (view_expression_tree t) ≡ further_of (expression c (view_expression_tree b.value)) (each (further_term c) (map view_term es))
unfolding expression further_of
sum_is c t b v es is listed =
    rw (is, listed) (ap (expression c) (view_sum_made b v) ∙ (λ i. expression c (view_expression_tree b.value) >>= λ left. terms_are c (map view_term v.items) left i))

pub further_fails : (r : Option Expression) (q : Option (List (Operator × Expression))) (x : Expression) (e : ResolveError) → r ≡ Some x → HasFailed e q → HasFailed e (further_of r q)
unfolding further_of
further_fails r q x e is h = rw is (fails_then q (λ ops. Some (joined x ops)) e h)

pub further_made : (r : Option Expression) (q : Option (List (Operator × Expression))) (x : Box Made) (xs : Vec Operation) →
    r ≡ Some (view_made x.value) → q ≡ Some (map operation_seen xs.items) → further_of r q ≡ Some (view_made (made.Calculate x xs))
unfolding further_of
further_made r q x xs is h =
    rw (is, h) (ap (λ z. Some z) (fold-map (λ (l : Expression) (p : Operator × Expression). Calculate p.0 l p.1) operation_seen (view_made x.value) xs.items ∙ sym (view_calculate_made x xs)))
