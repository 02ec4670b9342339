use Rattle.std.proofs.Common.{drop, map}
use Rattle.ss_code_generator.proofs.Common.{condition_code, HasEmitted, IsTypedCondition, no_code, view_conjunction}
use Rattle.ss_code_generator.proofs.generator.Generator.alternatives.Given as goal

abbrev pub invariant-loop-i : goal.invariant-loop-i
invariant-loop-i l =
    HasEmitted l.fn.self l.self no_code l.rest l.site (λ s. IsTypedCondition s (map view_conjunction (drop l.i l.alternatives))) (λ t. condition_code t l.skip (map view_conjunction (drop l.i l.alternatives)))
