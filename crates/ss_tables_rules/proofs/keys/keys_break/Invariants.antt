use Rattle.std.proofs.Common.{◌≡◌, take}
use Rattle.ss_tables_rules.proofs.Common.{earlier, flat_map, fold, misranked_key, table_error_order}
use Rattle.ss_tables_rules.proofs.keys.keys_break.Given as goal

abbrev pub invariant-loop-key : goal.invariant-loop-key
invariant-loop-key l = l.found ≡ fold (earlier table_error_order) l.fn.found (flat_map (misranked_key l.names l.line l.sets) (take l.key-index l.keys))
