use Rattle.std.proofs.Common.{◌≡◌, take}
use Rattle.ss_check_rules.proofs.Common.{breaks, check_error_order, earlier, flat_map, fold, view_scope}
use Rattle.ss_check_rules.proofs.sections.section_breaks.Given as goal

abbrev pub invariant-loop-one : goal.invariant-loop-one
invariant-loop-one l = l.found ≡ fold (earlier check_error_order) l.fn.found (flat_map (breaks (view_scope l.scope) l.in_main) (take l.one-index l.uses))
