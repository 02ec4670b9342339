use Rattle.std.proofs.Common.{◌≡◌, map, take}
use Rattle.ss_check_rules.proofs.Common.{breaches_in_section, check_error_order, earlier, flat_map, fold, view_section}
use Rattle.ss_check_rules.proofs.program.sections_break.Given as goal

abbrev pub invariant-loop-number : goal.invariant-loop-number
invariant-loop-number l =
    l.found ≡ fold (earlier check_error_order) l.fn.found (flat_map (breaches_in_section l.names (map view_section l.sections)) (map view_section (take l.number l.sections)))
