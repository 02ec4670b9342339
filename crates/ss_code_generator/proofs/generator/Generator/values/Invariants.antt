use Rattle.std.proofs.Common.{◌+◌, ◌≤◌, map, take}
use Rattle.std.specs.List.{AllByRecursion as Every}
use Rattle.ss_code_generator.proofs.Common.{HasEmitted, IsTyped, values_code, view_expression}
use Rattle.ss_code_generator.proofs.generator.Generator.values.Given as goal

abbrev pub invariant-loop-i : goal.invariant-loop-i
invariant-loop-i l = record {
  code : HasEmitted l.initial.self l.self l.initial.code l.code l.site (λ s. Every (λ e. IsTyped e s) (map view_expression (take l.i l.values))) (λ t. values_code t (map view_expression (take l.i l.values)));
  room : l.site.height + l.i ≤ l.self.deepest;
}
