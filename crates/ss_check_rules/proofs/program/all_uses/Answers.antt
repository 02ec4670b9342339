use Rattle.std.proofs.Common.{map, ap, ◌∙◌}
use Rattle.std.proofs.lemmas.List.{map_push}
use Rattle.ss_check_rules.proofs.Common.{uses, uses_seen, view_section}
use Rattle.ss_names_scopes.proofs.Finding.{mapped_after}
use Rattle.ss_check_rules.proofs.program.all_uses.Goals as goal

pub loop-section-preserved : goal.loop-section-preserved
loop-section-preserved c =
    mapped_after view_section uses c.args.sections.now c.loop-section.section-index c.section-item.result c.in_ok-one.one.items (map uses_seen c.loop-section.all.items) _
    c.loop-section-test.true c.section-item.is c.loop-section.invariant c.in_ok-one.ensures
    (ap (map uses_seen) c.in_ok-push.ensures.items ∙ map_push uses_seen c.loop-section.all.items c.in_ok-one.one)
