use Rattle.std.proofs.Common.{◌≡◌, replicate, None}
use Rattle.ss_records_blocks.proofs.row.not_made.Given as goal

abbrev pub invariant-loop : goal.invariant-loop
invariant-loop l = record { rows : l.rows.items ≡ replicate l.counter None }
