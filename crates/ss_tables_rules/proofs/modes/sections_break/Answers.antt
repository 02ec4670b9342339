use Rattle.ss_tables_rules.proofs.Common.{earlier, table_error_order, unmoded_in, view_section, viewed_after}
use Rattle.ss_tables_rules.proofs.modes.sections_break.Goals as goal

pub loop-section-preserved : goal.loop-section-preserved
loop-section-preserved c =
    viewed_after view_section (earlier table_error_order) (unmoded_in c.args.names.now) c.args.found c.loop-section.found _ c.args.sections.now c.loop-section.section-index c.section-item.result
    c.loop-section-test.true c.section-item.is c.loop-section.invariant c.in_ok-found.ensures
