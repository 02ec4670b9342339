use Rattle.std.proofs.Common.{◌≡◌, ◌≤◌, length}
use Rattle.ss_machine_notices.proofs.Receiving.{Receiving}
use Rattle.ss_machine_notices.proofs.events.read_given.Given as goal

-- so many attributes lie at their places, and there are as many places as before
abbrev pub invariant-loop-field : goal.invariant-loop-field
invariant-loop-field l = record {
  long : length l.rows.numbers ≡ length l.fn.rows.numbers;
  most : l.field ≤ length l.modes;
  received : length l.fn.rows.texts ≡ length l.fn.rows.numbers → Receiving l.world.heap l.what.class l.what.notice l.modes l.what.from l.fn.rows l.field l.rows;
}
