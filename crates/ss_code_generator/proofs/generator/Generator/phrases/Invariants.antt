use Rattle.std.proofs.Common.{drop, map}
use Rattle.std.specs.List.{AllByRecursion as Every}
use Rattle.ss_code_generator.proofs.Common.{HasEmittedAround, IsTypedPhrase, no_code, phrases_code, view_phrase}
use Rattle.ss_code_generator.proofs.generator.Generator.phrases.Given as goal

abbrev pub invariant-loop-i : goal.invariant-loop-i
invariant-loop-i l =
    HasEmittedAround l.initial.self l.self no_code l.rest l.site l.fn.turn (λ s. Every (IsTypedPhrase s) (map view_phrase (drop l.i l.phrases))) (λ t b. phrases_code t (map view_phrase (drop l.i l.phrases)) b)
