use Rattle.std.proofs.Common.{sym, ◌∙◌}
use Rattle.ss_parse.proofs.Common.{breaks, err_from_is_err_and, grows, is_done, next_fails, next_read, view_section}
use Rattle.ss_parse.proofs.ProgramLaws.{sections_loop}
use Rattle.ss_parse.proofs.reading.programs.sections.Goals as goal

pub more-preserved : goal.more-preserved
more-preserved c = grows view_section (sections_loop c.args.room) _ _ c.in_ok-longer.ensures.0 _ _ _ c.in_ok-longer.ensures.2 (sym c.begins_section.ensures ∙ c.more-test.true) (next_read _ _ _ _ c.section.ensures c.in_ok-longer.ensures.1) c.more.invariant

pub more-smaller : goal.more-smaller
more-smaller c = ((sections_loop c.args.room)).shrinks _ _ _ (sym c.begins_section.ensures ∙ c.more-test.true) (next_read _ _ _ _ c.section.ensures c.in_ok-longer.ensures.1)

pub returns : goal.returns
returns c = is_done view_section (sections_loop c.args.room) _ _ _ (sym c.begins_section.ensures ∙ c.more-test.false) c.more.invariant

pub returns-in_err-longer : goal.returns-in_err-longer
returns-in_err-longer c =
    let p = err_from_is_err_and c.from_residual.result c.from_residual.ensures.1 in
    rw (p.1, p.2) (breaks view_section (sections_loop c.args.room) _ _ _ _ (sym c.begins_section.ensures ∙ c.more-test.true) (next_fails _ c.more.all _ _ c.in_err-longer.field-0.0 c.section.ensures c.in_err-longer.ensures) c.more.invariant)
