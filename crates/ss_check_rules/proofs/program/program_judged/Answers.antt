use Rattle.std.proofs.Common.{◌++◌, Option, None, map, sym, ap, ◌∙◌}
use Rattle.ss_check_rules.proofs.Common.{check_error_order, CheckError, earlier, flat_map, fold, view_preamble, view_section}
use Rattle.std.proofs.lemmas.List.Sums.{fold-append}
use Rattle.ss_check_rules.specs.Refusal.{in_preamble, in_program, breaches_in_section}
use Rattle.ss_check_rules.proofs.program.program_judged.Goals as goal

pub sections_break-requires : goal.sections_break-requires
sections_break-requires c = record { each = c.requires.each; every = c.requires.every; uses = c.requires.uses; locals = c.requires.locals }

pub returns : goal.returns
returns c =
    let t = c.args.names.now in
    let vs = map view_section c.args.sections.now in
    let step : Option CheckError → CheckError → Option CheckError = earlier check_error_order in
    let first = flat_map (in_preamble t) (map view_preamble c.args.preamble.now) in
    let second = in_program vs in
    let third = flat_map (breaches_in_section t vs) vs in
    c.sections_break.ensures
    ∙ ap (λ (f : Option CheckError). fold step f third) (c.program_breaks-by_program.ensures ∙ ap (λ (f : Option CheckError). fold step f second) c.preamble_breaks-by_preamble.ensures)
    ∙ sym (fold-append step None first (second ++ third) ∙ fold-append step (fold step None first) second third)
