use Rattle.std.proofs.Common.{◌≡◌, map, take}
use Rattle.ss_check_rules.proofs.Common.{check_error_order, earlier, flat_map, fold, in_preamble, view_preamble}
use Rattle.ss_check_rules.proofs.preamble.preamble_breaks.Given as goal

abbrev pub invariant-loop-statement : goal.invariant-loop-statement
invariant-loop-statement l = l.found ≡ fold (earlier check_error_order) l.fn.found (flat_map (in_preamble l.names) (map view_preamble (take l.statement-index l.preamble)))
