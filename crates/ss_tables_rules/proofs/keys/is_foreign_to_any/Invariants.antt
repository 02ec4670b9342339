use Rattle.std.proofs.Common.{◌≡◌, take}
use Rattle.ss_tables_rules.specs.Keys.{is_foreign_to_any}
use Rattle.ss_tables_rules.proofs.keys.is_foreign_to_any.Given as goal

abbrev pub invariant-loop-set : goal.invariant-loop-set
invariant-loop-set l = l.any ≡ is_foreign_to_any l.names (take l.set-index l.sets) l.key
