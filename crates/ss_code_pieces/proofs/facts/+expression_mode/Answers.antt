use Rattle.std.proofs.Common.{ap, sym, ◌∙◌}
use Rattle.ss_program.specs.View.{view_expression}
use Rattle.ss_code_instructions.specs.Translation.{expression_mode as mode_of_expression}
use Rattle.ss_code_pieces.specs.Preamble.{scope_for_modes}
use Rattle.ss_code_pieces.proofs.Calculated.{mode_calculated_none, mode_calculated_some}
use Rattle.ss_code_pieces.proofs.facts.+expression_mode.Goals as goal

pub returns-then-is_empty : goal.returns-then-is_empty
returns-then-is_empty t c =
    let s = scope_for_modes c.args.program.now c.args.locals.now in
    c.expression_mode.ensures ∙ ap (λ e. mode_of_expression s (view_expression e)) c.deref.ensures
    ∙ sym (ap (λ e. mode_of_expression s (view_expression e)) c.in-Calculate.is ∙ mode_calculated_none s c.in-Calculate.first c.in-Calculate.further (sym c.is_empty.ensures ∙ c.if-is_empty.true))

pub returns-else-is_empty : goal.returns-else-is_empty
returns-else-is_empty t c =
    let s = scope_for_modes c.args.program.now c.args.locals.now in
    sym (ap (λ e. mode_of_expression s (view_expression e)) c.in-Calculate.is ∙ mode_calculated_some s c.in-Calculate.first c.in-Calculate.further (sym c.is_empty.ensures ∙ c.if-is_empty.false))
