use Rattle.std.proofs.Common.{◌+◌, ◌++◌, drop, length, map}
use Rattle.std.specs.List.{AllByRecursion as Every}
use Rattle.ss_code_generator.proofs.Common.{guards_code, HasEmittedAround, IsTypedCondition, no_code, view_guard}
use Rattle.ss_code_generator.proofs.generator.Generator.guards.Given as goal

abbrev pub invariant-loop-i : goal.invariant-loop-i
invariant-loop-i l =
    HasEmittedAround l.initial.self l.self no_code l.rest l.site l.fn.following (λ s. Every (λ g. IsTypedCondition s g.condition) (map view_guard (drop l.i l.guards))) (λ t b. guards_code t (length b + l.more) (map view_guard (drop l.i l.guards)) ++ b)
