use Rattle.std.proofs.Common.{sym, ap, ◌∙◌}
use Rattle.ss_parse_expressions.proofs.Common.{reference_of, view_expression_tree}
use Rattle.ss_parse_expressions.proofs.References.{named_is}
use Rattle.ss_parse_expressions.proofs.conditions.reference_of.Goals as goal

pub returns-then-is_reference : goal.returns-then-is_reference
returns-then-is_reference c = sym (ap (λ e. reference_of (view_expression_tree e)) c.in-Named.is ∙ named_is c.in-Named.named _ (sym c.is_reference.ensures ∙ c.if-is_reference.true))

pub returns-in-Named : goal.returns-in-Named
returns-in-Named c = sym (ap (λ e. reference_of (view_expression_tree e)) c.in-Named.is ∙ named_is c.in-Named.named _ (sym c.is_reference.ensures ∙ c.if-is_reference.false))
