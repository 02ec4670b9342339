use Rattle.std.proofs.Common.{◌≡◌, map, take}
use Rattle.ss_check_rules.proofs.Common.{uses, uses_seen, view_section}
use Rattle.ss_check_rules.proofs.program.all_uses.Given as goal

abbrev pub invariant-loop-section : goal.invariant-loop-section
invariant-loop-section l = map uses_seen l.all.items ≡ map uses (map view_section (take l.section-index l.sections))
