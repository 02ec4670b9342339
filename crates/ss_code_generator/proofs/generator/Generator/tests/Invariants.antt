use Rattle.std.proofs.Common.{drop, map}
use Rattle.std.specs.List.{AllByRecursion as Every}
use Rattle.ss_code_generator.proofs.Common.{HasEmitted, IsTypedTest, no_code, tests_code, view_test}
use Rattle.ss_code_generator.proofs.generator.Generator.tests.Given as goal

abbrev pub invariant-loop-i : goal.invariant-loop-i
invariant-loop-i l =
    HasEmitted l.initial.self l.self no_code l.rest l.site (λ s. Every (IsTypedTest s) (map view_test (drop l.i l.tests))) (λ t. tests_code t l.skip (map view_test (drop l.i l.tests)))
