use Rattle.std.proofs.Common.{take}
use Rattle.ss_code_generator.proofs.Common.{creates_code, HasEmitted}
use Rattle.ss_code_generator.proofs.generator.Generator.creates.Given as goal

abbrev pub invariant-loop-counted : goal.invariant-loop-counted
invariant-loop-counted l =
    HasEmitted l.initial.self l.self l.initial.code l.code l.site (λ s. Unit {0}) (λ t. creates_code t (take l.counted-index l.classes))
