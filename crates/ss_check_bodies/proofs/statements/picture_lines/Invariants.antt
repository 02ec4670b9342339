use Rattle.std.proofs.Common.{◌≡◌, map, take}
use Rattle.ss_check_bodies.proofs.statements.picture_lines.Given as goal

abbrev pub invariant-loop-picture : goal.invariant-loop-picture
invariant-loop-picture l = map (λ p. p.items) l.lines.items ≡ take l.picture-index l.pictures
