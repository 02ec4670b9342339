use Rattle.std.proofs.Common.{◌≡◌, ◌-◌}
use Rattle.ss_parse_statements.specs.ReadSimple.{pictures_at}
use Rattle.ss_parse_expressions.proofs.Rows.{with_front}
use Rattle.ss_parse_statements.proofs.parts.pictures.Given as goal

abbrev pub invariant-more : goal.invariant-more
invariant-more l = with_front l.all.items (pictures_at (l.count - l.counter) l.rest) ≡ pictures_at l.count l.tokens
