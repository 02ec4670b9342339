use Rattle.std.proofs.Common.{map, take}
use Rattle.std.specs.List.{AllByRecursion as Every}
use Rattle.ss_code_generator.proofs.Common.{HasEmitted, IsTypedRestart, restarts_code, view_restart}
use Rattle.ss_code_generator.proofs.generator.Generator.resets.Given as goal

abbrev pub invariant-loop-restart : goal.invariant-loop-restart
invariant-loop-restart l =
    HasEmitted l.initial.self l.self l.initial.code l.code l.site (λ s. Every (λ r. IsTypedRestart s r.statistic r.of) (map view_restart (take l.restart-index l.restarts))) (λ t. restarts_code t (map view_restart (take l.restart-index l.restarts)))
