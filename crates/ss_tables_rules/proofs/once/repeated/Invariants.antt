use Rattle.std.proofs.Common.{◌≡◌, drop}
use Rattle.ss_tables_rules.proofs.Common.{earlier, fold, repeats, repeats_after, table_error_order}
use Rattle.ss_tables_rules.proofs.once.repeated.Given as goal

abbrev pub invariant-loop-declaration : goal.invariant-loop-declaration
invariant-loop-declaration l =
    fold (earlier table_error_order) l.found (repeats_after l.names l.said (drop l.declaration-index l.declarations)) ≡ fold (earlier table_error_order) l.fn.found (repeats l.names l.declarations)
