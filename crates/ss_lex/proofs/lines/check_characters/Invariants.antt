use Rattle.std.proofs.Common.{◌≡◌, ◌≤◌, ◌+◌, drop}
use Rattle.ss_lex.specs.Lines.{first_foreign}
use Rattle.ss_lex.proofs.lines.check_characters.Given as goal

abbrev pub invariant-bytes : goal.invariant-bytes
invariant-bytes l = record { low : l.line ≤ l.b-index + 1; same : first_foreign l.line (drop l.b-index l.text) ≡ first_foreign 1 l.text }
