use Rattle.std.proofs.Common.{◌<◌, List, length, map, ap, ◌∙◌, arith}
use Rattle.ss_check_rules.proofs.Common.{breaches_in_section, breaks, check_error_order, CheckError, earlier, flat_map, fold, Scope, Use, view_section, viewed_after}
use Rattle.ss_check_rules.proofs.SectionBreaks.{section_more}
use Rattle.ss_check_rules.proofs.program.sections_break.Goals as goal

pub loop-number-preserved : goal.loop-number-preserved
loop-number-preserved c =
    let t = c.args.names.now in
    let sections = c.args.sections.now in
    let every = c.args.locals.now in
    let x = c.index-sections-number.result in
    let ls = c.index-locals-number.result in
    let us = c.index-all-number.result in
    let i = c.loop-number.number in
    let scope : Scope = record { table = t; locals = ls; sections = every } in
    let within : i < length c.args.all.now = omega (arith, c.loop-number-test.true, c.requires.each) in
    let more = section_more t sections c.args.all.now every i x us ls c.is_main.result c.loop-number-test.true within c.index-sections-number.is c.index-all-number.is c.index-locals-number.is c.is_main.ensures c.requires.uses c.requires.locals in
    viewed_after view_section (earlier check_error_order) (breaches_in_section t (map view_section sections)) c.args.found c.loop-number.found _ sections i x
    c.loop-number-test.true c.index-sections-number.is c.loop-number.invariant
    (c.section_breaks-found.ensures
    ∙ ap (λ (used : List Use). fold (earlier check_error_order) c.loop-number.found (flat_map (breaks scope c.is_main.result) used)) c.deref.ensures.value
    ∙ ap (λ (found : List CheckError). fold (earlier check_error_order) c.loop-number.found found) more)
