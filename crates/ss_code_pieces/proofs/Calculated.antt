-- Modes of calculations: with an operation they are numbers.
use Rattle.std.proofs.Common.{◌≡◌, ℕ, true, false, List, [], ◌∷◌, length, refl, sym, ap, ◌∙◌, arith}
use Rattle.std.proofs.lemmas.Bool.{eqb-true, eq-eqb, true≢false}
use Rattle.std.specs.Prelude.{◌==◌, vec_len}
use Rattle.std.specs.List.{fold}
use Rattle.std.specs.Global.{Vec, Box}
use Rattle.ss_base.specs.declared.layout.Mode.TheVariants.{Integer}
use Rattle.ss_program.specs.declared.expression.Expression.{Expression as ExpressionValue}
use Rattle.ss_program.specs.declared.expression.Expression.TheVariants as variants
use Rattle.ss_program.specs.declared.expression.Operation.{Operation}
use Rattle.ss_program.specs.Program.{Expression}
use Rattle.ss_program.specs.View.{view_expression}
use Rattle.ss_program.specs.Views.{with_operation, view_calculate_made}
use Rattle.ss_program.specs.WellTyped.{TypedScope}
use Rattle.ss_code_instructions.specs.Translation.{expression_mode}

module _ (s : TypedScope) where
  mode_more : (e : Expression) (os : List Operation) → expression_mode s e ≡ Integer → expression_mode s (fold with_operation e os) ≡ Integer
  mode_more e [] h = h
  mode_more e (o ∷ os) h = mode_more (with_operation e o) os refl

  mode_folded_none : (e : Expression) (os : List Operation) (n : ℕ) → n ≡ length os → (n == 0) ≡ true → expression_mode s (fold with_operation e os) ≡ expression_mode s e
  mode_folded_none e [] n l h = refl
  mode_folded_none e (o ∷ os) n l h = let z : n ≡ 0 = eqb-true n 0 h in absurd (omega (arith, z, l))

  mode_folded_some : (e : Expression) (os : List Operation) (n : ℕ) → n ≡ length os → (n == 0) ≡ false → expression_mode s (fold with_operation e os) ≡ Integer
  mode_folded_some e [] n l h = absurd (true≢false (sym (eq-eqb n 0 l) ∙ h))
  mode_folded_some e (o ∷ os) n l h = mode_more (with_operation e o) os refl

  pub mode_calculated_none : (b : Box ExpressionValue) (v : Vec Operation) → (vec_len v == 0) ≡ true → expression_mode s (view_expression (variants.Calculate b v)) ≡ expression_mode s (view_expression b.value)
  mode_calculated_none b v h =
      let long : vec_len v ≡ length v.items = omega (arith, v.ok.0) in
      ap (expression_mode s) (view_calculate_made b v) ∙ mode_folded_none (view_expression b.value) v.items (vec_len v) long h

  pub mode_calculated_some : (b : Box ExpressionValue) (v : Vec Operation) → (vec_len v == 0) ≡ false → expression_mode s (view_expression (variants.Calculate b v)) ≡ Integer
  mode_calculated_some b v h =
      let long : vec_len v ≡ length v.items = omega (arith, v.ok.0) in
      ap (expression_mode s) (view_calculate_made b v) ∙ mode_folded_some (view_expression b.value) v.items (vec_len v) long h
