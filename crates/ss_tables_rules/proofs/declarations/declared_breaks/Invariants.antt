use Rattle.std.proofs.Common.{◌≡◌, take}
use Rattle.ss_tables_rules.proofs.Common.{declaration_breaches, earlier, flat_map, fold, table_error_order}
use Rattle.ss_tables_rules.proofs.declarations.declared_breaks.Given as goal

abbrev pub invariant-loop-declaration : goal.invariant-loop-declaration
invariant-loop-declaration l = l.found ≡ fold (earlier table_error_order) l.fn.found (flat_map (declaration_breaches l.names) (take l.declaration-index l.declarations))
