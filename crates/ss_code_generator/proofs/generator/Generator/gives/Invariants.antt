use Rattle.std.proofs.Common.{◌+◌, ◌≤◌, length, map}
use Rattle.ss_code_generator.proofs.Common.{Final, HasEmitted, IsAround, view_place}
use Rattle.ss_code_generator.proofs.Called.{GoodPlaces, gives_front}
use Rattle.ss_code_generator.proofs.generator.Generator.gives.Given as goal

abbrev pub invariant-loop-i : goal.invariant-loop-i
invariant-loop-i l = record {
  code : HasEmitted l.fn.self l.self l.initial.code l.code l.site (GoodPlaces (map view_place l.places)) (λ t. gives_front t l.i (map view_place l.places));
  room : (f : Final) → IsAround f l.self → l.site.height + length l.places ≤ f.depth;
}
