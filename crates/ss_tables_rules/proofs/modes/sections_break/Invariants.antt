use Rattle.std.proofs.Common.{◌≡◌, map, take}
use Rattle.ss_tables_rules.proofs.Common.{earlier, flat_map, fold, table_error_order, unmoded_in, view_section}
use Rattle.ss_tables_rules.proofs.modes.sections_break.Given as goal

abbrev pub invariant-loop-section : goal.invariant-loop-section
invariant-loop-section l = l.found ≡ fold (earlier table_error_order) l.fn.found (flat_map (unmoded_in l.names) (map view_section (take l.section-index l.sections)))
