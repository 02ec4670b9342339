use Rattle.std.proofs.Common.{◌≡◌, ◌++◌, map, take}
use Rattle.ss_names_uses.proofs.Common.{flat_map, in_test, view_conjunction_tree}
use Rattle.ss_names_uses.proofs.conditions.add_condition.Given as goal

abbrev pub invariant-loop-conjunction : goal.invariant-loop-conjunction
invariant-loop-conjunction l = l.into.items ≡ l.initial.into.items ++ flat_map (flat_map (in_test l.line)) (map view_conjunction_tree (take l.conjunction-index l.condition.alternatives.items))
