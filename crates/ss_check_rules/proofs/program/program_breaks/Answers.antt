use Rattle.std.proofs.Common.{◌≡◌, true, false, cond, [], ◌∷◌, map, sym, ap, ◌∙◌}
use Rattle.ss_check_rules.proofs.Common.{check_error_order, earlier, fold, is_main_section, list_any, view_section}
use Rattle.ss_check_rules.specs.declared.error.CheckError.TheVariants as e
use Rattle.ss_check_rules.proofs.SectionBreaks.{any_viewed}
use Rattle.ss_check_rules.proofs.program.program_breaks.Goals as goal

pub returns-then-has_main : goal.returns-then-has_main
returns-then-has_main c =
    let is : list_any is_main_section (map view_section c.args.sections.now) ≡ true =
    sym (any_viewed is_main_section view_section c.args.sections.now) ∙ sym c.has_main.ensures ∙ c.if-has_main.true in
    ap (λ b. fold (earlier check_error_order) c.args.found (cond b [] (e.NoMain (record { 0 = 0 }) ∷ []))) (sym is)

pub returns-else-has_main : goal.returns-else-has_main
returns-else-has_main c =
    let is : list_any is_main_section (map view_section c.args.sections.now) ≡ false =
    sym (any_viewed is_main_section view_section c.args.sections.now) ∙ sym c.has_main.ensures ∙ c.if-has_main.false in
    c.earlier.ensures ∙ ap (λ b. fold (earlier check_error_order) c.args.found (cond b [] (e.NoMain (record { 0 = 0 }) ∷ []))) (sym is)
