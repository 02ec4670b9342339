-- Expressions that take no code.
use Rattle.std.proofs.Common.{◌≡◌, ℕ, Bool, true, false, List, [], ◌∷◌, length, get_or, vec_len, None, refl, sym, ap, ◌∙◌, arith, if◌then◌else◌}
use Rattle.std.proofs.lemmas.Bool.{eqb-true, eqb-false}
use Rattle.std.specs.Prelude.{◌==◌}
use Rattle.std.specs.Global.{Vec, Box}
use Rattle.std.specs.List.{fold}
use Rattle.ss_program.specs.declared.expression.Operation.{Operation}
use Rattle.ss_base.specs.declared.words.Operator.{Operator}
use Rattle.ss_program.specs.declared.expression.Expression as expressions
use Rattle.ss_program.specs.declared.expression.Expression.TheVariants as variants
use Rattle.ss_program.specs.Program.{Expression, Calculate}
use Rattle.ss_program.specs.View.{view_expression}
use Rattle.ss_program.specs.Views.{with_operation, view_calculate_made}
use Rattle.ss_program.specs.declared.expression.Variable.{Variable}
use Rattle.ss_code_instructions.specs.Facts.{is_constant, looks_first}
use Rattle.ss_code_instructions.specs.Translation.{leaf}

-- an operation makes code
calculated_none : (op : Operator) (a b : Expression) (os : List Operation) → leaf (fold with_operation (Calculate op a b) os) ≡ None
calculated_none op a b [] = refl
calculated_none op a b (o ∷ os) = calculated_none o.operator (Calculate op a b) (view_expression o.operand) os

folded_none : (a : Expression) (os : List Operation) → (os ≡ [] → ⊥) → leaf (fold with_operation a os) ≡ None
folded_none a [] some = absurd (some refl)
folded_none a (o ∷ os) some = calculated_none o.operator a (view_expression o.operand) os

-- a number without operations is that number
pub alone_is : (e : expressions.Expression) (b : Box expressions.Expression) (v : Vec Operation) → e ≡ variants.Calculate b v → v.items ≡ [] → view_expression e ≡ view_expression b.value
alone_is e b v is none = ap view_expression is ∙ view_calculate_made b v ∙ ap (fold with_operation (view_expression b.value)) none

pub several_none : (e : expressions.Expression) (b : Box expressions.Expression) (v : Vec Operation) → e ≡ variants.Calculate b v → (v.items ≡ [] → ⊥) → leaf (view_expression e) ≡ None
several_none e b v is some = ap (λ k. leaf (view_expression k)) is ∙ ap leaf (view_calculate_made b v) ∙ folded_none (view_expression b.value) v.items some

-- whether there are operations
no_items : {A : Type 0} (xs : List A) → length xs ≡ 0 → xs ≡ []
no_items [] e = refl
no_items (x ∷ xs) e = absurd (omega (arith, e))

pub empty_is : (v : Vec Operation) (b : Bool) → b ≡ (vec_len v == 0) → b ≡ true → v.items ≡ []
empty_is v b e h = no_items v.items (sym v.ok.0 ∙ eqb-true (vec_len v) 0 (sym e ∙ h))

pub filled_is : (v : Vec Operation) (b : Bool) → b ≡ (vec_len v == 0) → b ≡ false → v.items ≡ [] → ⊥
filled_is v b e h none = eqb-false (vec_len v) 0 (sym e ∙ h) (v.ok.0 ∙ ap length none)

pub none_counted : (v : Vec Operation) (n : ℕ) → n ≡ vec_len v → n ≡ 0 → v.items ≡ []
none_counted v n e h = no_items v.items (sym v.ok.0 ∙ sym e ∙ h)

-- ## The look with which operations begin

-- they begin with the number on the left, unless that is a constant
operation_first : (class : ℕ) (x : Variable) (op : Operator) (a b : Expression) (os : List Operation) → looks_first class x (fold with_operation (Calculate op a b) os) ≡ looks_first class x (Calculate op a b)
operation_first class x op a b [] = refl
operation_first class x op a b (o ∷ os) = operation_first class x o.operator (Calculate op a b) (view_expression o.operand) os

left_first : (class : ℕ) (x : Variable) (a : Expression) (os : List Operation) → is_constant a ≡ false → looks_first class x (fold with_operation a os) ≡ looks_first class x a
left_first class x a [] other = refl
left_first class x a (o ∷ os) other = operation_first class x o.operator a (view_expression o.operand) os ∙ ap (λ (b : Bool). if b then looks_first class x (view_expression o.operand) else looks_first class x a) other

right_first : (class : ℕ) (x : Variable) (a : Expression) (os : List Operation) (o : Operation) → (os ≡ [] → ⊥) → is_constant a ≡ true → o ≡ get_or os 0 o → looks_first class x (fold with_operation a os) ≡ looks_first class x (view_expression o.operand)
right_first class x a [] o some same is = absurd (some refl)
right_first class x a (p ∷ os) o some same is =
    operation_first class x p.operator a (view_expression p.operand) os ∙ ap (λ (b : Bool). if b then looks_first class x (view_expression p.operand) else looks_first class x a) same ∙ ap (λ (k : Operation). looks_first class x (view_expression k.operand)) (sym is)

pub begins_left : (class : ℕ) (x : Variable) (e : expressions.Expression) (b : Box expressions.Expression) (v : Vec Operation) → e ≡ variants.Calculate b v → is_constant (view_expression b.value) ≡ false → looks_first class x (view_expression e) ≡ looks_first class x (view_expression b.value)
begins_left class x e b v is other = ap (λ k. looks_first class x (view_expression k)) is ∙ ap (looks_first class x) (view_calculate_made b v) ∙ left_first class x (view_expression b.value) v.items other

pub begins_right : (class : ℕ) (x : Variable) (e : expressions.Expression) (b : Box expressions.Expression) (v : Vec Operation) (o : Operation) → e ≡ variants.Calculate b v → (v.items ≡ [] → ⊥) → is_constant (view_expression b.value) ≡ true → o ≡ get_or v.items 0 o → looks_first class x (view_expression e) ≡ looks_first class x (view_expression o.operand)
begins_right class x e b v o is some same at = ap (λ k. looks_first class x (view_expression k)) is ∙ ap (looks_first class x) (view_calculate_made b v) ∙ right_first class x (view_expression b.value) v.items o some same at
