use Rattle.std.proofs.Common.{◌≡◌, ◌++◌, map, take}
use Rattle.ss_names_uses.proofs.Common.{flat_map, in_test, view_test_tree}
use Rattle.ss_names_uses.proofs.conditions.add_tests.Given as goal

abbrev pub invariant-loop-test : goal.invariant-loop-test
invariant-loop-test l = l.into.items ≡ l.initial.into.items ++ flat_map (in_test l.line) (map view_test_tree (take l.test-index l.tests))
