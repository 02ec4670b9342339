use Rattle.std.proofs.Common.{◌≡◌, ◌++◌, map, take}
use Rattle.ss_names_uses.proofs.Common.{flat_map, in_guard, view_guard_tree}
use Rattle.ss_names_uses.proofs.heads.add_guards.Given as goal

abbrev pub invariant-loop-guard : goal.invariant-loop-guard
invariant-loop-guard l = l.into.items ≡ l.initial.into.items ++ flat_map (in_guard l.line) (map view_guard_tree (take l.guard-index l.guards))
