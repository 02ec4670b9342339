use Rattle.std.proofs.Common.{◌≡◌, take}
use Rattle.ss_tables_rules.proofs.Common.{earlier, flat_map, fold, table_error_order, unmoded_use}
use Rattle.ss_tables_rules.proofs.modes.uses_break.Given as goal

abbrev pub invariant-loop-one : goal.invariant-loop-one
invariant-loop-one l = l.found ≡ fold (earlier table_error_order) l.fn.found (flat_map (unmoded_use l.names l.locals) (take l.one-index l.uses))
