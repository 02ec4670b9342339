use Rattle.std.proofs.Common.{map, take}
use Rattle.std.specs.List.{AllByRecursion as Every}
use Rattle.ss_code_generator.proofs.Common.{CanTakeMode, HasEmitted, reads_code, view_target}
use Rattle.ss_code_generator.proofs.generator.Generator.reads.Given as goal

abbrev pub invariant-loop-target : goal.invariant-loop-target
invariant-loop-target l =
    HasEmitted l.initial.self l.self l.initial.code l.code l.site (λ s. Every (λ x. CanTakeMode s x.place x.mode) (map view_target (take l.target-index l.targets))) (λ t. reads_code t (map view_target (take l.target-index l.targets)))
