use Rattle.std.proofs.Common.{◌≡◌, ◌≤◌, ◌+◌, drop, length}
use Rattle.ss_lex.proofs.Common.{count_with, lines_of}
use Rattle.ss_lex.proofs.lines.line_count.Given as goal

abbrev pub invariant-bytes : goal.invariant-bytes
invariant-bytes l = record { low : l.ended ≤ l.b-index; same : l.ended + count_with l.is_open (drop l.b-index l.text) ≡ length (lines_of l.text) }
