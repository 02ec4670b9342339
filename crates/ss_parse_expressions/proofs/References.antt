-- Expressions that name a set.
use Rattle.std.proofs.Common.{◌≡◌, Bool, cond, Some, None, refl, ap, ◌∙◌}
use Rattle.ss_tree.specs.declared.expression.Named.{Named}
use Rattle.ss_tree.specs.declared.expression.Expression.TheVariants as variants
use Rattle.ss_parse_expressions.proofs.Common.{view_expression_tree, view_named, view_named_made}
use Rattle.ss_parse_expressions.specs.ReadConditions.{is_reference, reference_of}

pub named_is : (p : Named) (b : Bool) → is_reference (view_named p) ≡ b → reference_of (view_expression_tree (variants.Named p)) ≡ cond b (Some (view_named p)) None
named_is p b e = ap reference_of (view_named_made p) ∙ rw e refl
