use Rattle.std.proofs.Common.{◌≡◌, ◌++◌, drop, map}
use Rattle.ss_code_pieces.proofs.lines.pictures_of.Given as goal

abbrev pub invariant-loop-line : goal.invariant-loop-line
invariant-loop-line l = l.pictures.items ++ map (λ line. line.items) (drop l.line-index l.lines) ≡ map (λ line. line.items) l.lines
