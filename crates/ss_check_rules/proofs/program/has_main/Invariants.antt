use Rattle.std.proofs.Common.{◌≡◌, take}
use Rattle.ss_check_rules.proofs.Common.{is_main_section, list_any, Section, view_section}
use Rattle.ss_check_rules.proofs.program.has_main.Given as goal

abbrev pub invariant-loop-section : goal.invariant-loop-section
invariant-loop-section l = l.any ≡ list_any (λ (section : Section). is_main_section (view_section section)) (take l.section-index l.sections)
