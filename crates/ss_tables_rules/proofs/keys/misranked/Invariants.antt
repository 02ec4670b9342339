use Rattle.std.proofs.Common.{◌≡◌, map, take}
use Rattle.ss_tables_rules.proofs.Common.{earlier, fold, misranked, table_error_order, view_preamble}
use Rattle.ss_tables_rules.proofs.keys.misranked.Given as goal

abbrev pub invariant-loop-statement : goal.invariant-loop-statement
invariant-loop-statement l = l.found ≡ fold (earlier table_error_order) l.fn.found (misranked l.names (map view_preamble (take l.statement-index l.preamble)))
